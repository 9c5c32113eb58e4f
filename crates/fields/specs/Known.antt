-- What is known of a field, and of one that was refused.
use Rattle.std.specs.Prelude.{◌≡◌, Bool, true, List, Result, Ok, Err, ℕ, ◌+◌, ◌^◌, ◌≤◌, ◌<◌, length}
use Rattle.definitions.specs.Reply.{Reply, answer}
use Rattle.definitions.specs.Bytes.{bytes_for}
use Rattle.definitions.specs.DataType.{Kind}
use Rattle.definitions.specs.Channel.{Channel, Value, decoded, is_number, is_floating, span_in, value_by}
use Rattle.refusals.specs.Meaning.{refused}
use Rattle.refusals.specs.declared.Refusal.{Refusal}
use Rattle.fields.specs.Form.{number_kind}
use Rattle.fields.specs.declared.form.Number.{Number}
use Rattle.fields.specs.declared.field.FieldSpan.{FieldSpan}

-- the value of the field of a kind that starts at `at`
abbrev pub value_at : Kind → Bool → List ℕ → ℕ → Channel → Reply Value
value_at k payload s at c = value_by k at (span_in payload k (length s) c) s c

-- the bits of a number can be read at `at`
pub record FieldBounds (s : List ℕ) (at offset count : ℕ) : Type 0 where
  pub low : offset < 8
  pub some : 1 ≤ count
  pub few : count ≤ 64
  pub inside : at + bytes_for offset count ≤ length s

-- n bytes at `at` are the channel's field, of kind k
pub record Sound (k : Kind) (s : List ℕ) (at n : ℕ) (c : Channel) : Type 0 where
  pub inside : at + n ≤ length s
  pub number : is_number k ≡ true → FieldBounds s at c.bit_offset c.bit_count
  pub width : is_floating k ≡ true → (c.bit_count ≡ 64 → ⊥) → c.bit_count ≡ 32

pub record Valued (k : Kind) (reply : Reply Value) (s : List ℕ) (at n : ℕ) (c : Channel) : Type 0 where
  pub value : reply ≡ answer (decoded c.data_type s at n c)
  pub sound : Sound k s at n c

abbrev pub FieldCase : Kind → Reply Value → List ℕ → Channel → Result FieldSpan Refusal → Type 0
FieldCase k reply s c (Ok f) = Valued k reply s f.at f.length c
FieldCase k reply s c (Err r) = reply ≡ refused r

pub record FieldTold (k : Kind) (reply : Reply Value) (s : List ℕ) (c : Channel) (found : Result FieldSpan Refusal) : Type 0 where
  pub told : FieldCase k reply s c found

-- a field is n bytes at `at`
abbrev pub FieldPlaced : ℕ → ℕ → Result FieldSpan Refusal → Type 0
FieldPlaced at n (Ok f) = (f.at ≡ at) × (f.length ≡ n)
FieldPlaced at n (Err r) = Unit {0}

-- x is a field of count bits, and a float that is no pattern of 64 bits has 32
pub record Fitting (number : Number) (count x : ℕ) : Type 0 where
  pub some : 1 ≤ count
  pub few : count ≤ 64
  pub below : x < 2 ^ count
  pub width : is_floating (number_kind number) ≡ true → (count ≡ 64 → ⊥) → count ≡ 32
