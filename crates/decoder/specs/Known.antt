-- What is known of a field that a word holds.
use Rattle.std.specs.Prelude.{◌≡◌, Bool, true, false, not, ◌&&◌, ◌||◌, List, Option, Some, None, ℕ, ◌+◌, ◌/◌, ◌%◌, ◌≤◌, ◌<◌, length, eqb}
use Rattle.definitions.specs.Bytes.{le, span, bytes_for}
use Rattle.definitions.specs.Channel.{Channel, variable_length, is_floating}
use Rattle.fields.specs.Form.{number_kind}
use Rattle.fields.specs.declared.form.Number.{Number}
use Rattle.fields.specs.declared.form.Form.{Form}
use Rattle.fields.specs.declared.form.Form.TheVariants.{Number as numbered}
use Rattle.decoder.specs.declared.near.FieldWord.{FieldWord}
use Rattle.decoder.specs.declared.near.NumberForm.{NumberForm}

-- the bytes of a word, the lowest first, have those of a field of count bits: bit `from` of them is bit `offset` of s at `at`
pub record Held (s : List ℕ) (at offset count word from : ℕ) : Type 0 where
  pub bytes : span (le 8 word) (from / 8) (bytes_for offset count) ≡ span s at (bytes_for offset count)
  pub low : from % 8 ≡ offset
  pub ends : from + count ≤ 64
  pub inside : at + bytes_for offset count ≤ length s

-- such a word is found for each field of at most eight bytes
abbrev pub WordTold : List ℕ → ℕ → ℕ → ℕ → Option FieldWord → Type 0
WordTold s at offset count (Some f) = Held s at offset count f.word f.from
WordTold s at offset count None = bytes_for offset count ≤ 8 → at + bytes_for offset count ≤ length s → ⊥

-- it holds a channel's field, which begins in its first byte
pub record HeldOf (s : List ℕ) (id_size : ℕ) (c : Channel) (word from : ℕ) : Type 0 where
  pub low : c.bit_offset < 8
  pub some : 1 ≤ c.bit_count
  pub held : Held s (id_size + c.byte_offset) c.bit_offset c.bit_count word from

-- and that of a fixed channel, whose bits are those of a number
pub record Near (s : List ℕ) (id_size : ℕ) (c : Channel) (word from : ℕ) : Type 0 where
  pub fixed : variable_length c ≡ false
  pub held_of : HeldOf s id_size c word from

-- a number of count bits, which can have a value
pub record Sized (f : Form) (number : Number) (big : Bool) (count : ℕ) : Type 0 where
  pub form : f ≡ numbered number big
  pub some : 1 ≤ count
  pub width : is_floating (number_kind number) && not (eqb count 32 || eqb count 64) ≡ false

abbrev pub NumberTold : Form → ℕ → Option NumberForm → Type 0
NumberTold f count (Some n) = Sized f n.number n.big_endian count
NumberTold f count None = (number : Number) (big : Bool) → Sized f number big count → ⊥

-- count bits from bit `from` on of a word, as a number of that class has them
pub record InWord (number : Number) (from count : ℕ) : Type 0 where
  pub some : 1 ≤ count
  pub ends : from + count ≤ 64
  pub width : is_floating (number_kind number) ≡ true → (count ≡ 64 → ⊥) → count ≡ 32
