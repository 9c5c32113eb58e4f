-- The meanings are one-to-one: from a reply the code's own answer comes back.
use mathlib.Core.Path.{◌≡◌, refl, sym, ap, ap₂, ◌∙◌}
use mathlib.Core.Bool.{Bool}
use mathlib.Core.List.{List}
use Prim.Native.Nat.{ℕ}
use Rattle.std.specs.Prelude.{Result, Ok, Err}
use Rattle.definitions.specs.Reply.{Reply, answer, refusal}
use Rattle.definitions.specs.Channel.{Value, ValidValue, unsigned, signed, double, text, bytes, sample, stream, unknown_value}
use Rattle.definitions.specs.DataType.{Kind}
use Rattle.definitions.specs.Channel as channels
use Rattle.definitions.proofs.Replies.{one_by, not_answered}
use Rattle.refusals.proofs.Back.{refusal_of, back, replied_one}
use Rattle.refusals.specs.Meaning.{refused}
use Rattle.refusals.specs.declared.Refusal.{Refusal}
use Rattle.refusals.specs.declared.Refusal.TheVariants.{NoBits}
use Rattle.data_types.proofs.Back.{type_back, type_back_law}
use Rattle.data_types.specs.declared.data_type.DataType.{DataType}
use Rattle.fields.specs.declared.channel.Channel.{Channel}
use Rattle.fields.specs.Meaning.{channel_meant, value_meant, value_reply, valid_value_meant, valid_value_reply, area_reply, validity_reply}
use Rattle.fields.specs.Known.{FieldTold, FieldPlaced}
use Rattle.fields.specs.declared.field.FieldSpan.{FieldSpan}
use Rattle.fields.specs.declared.value.DecodedValue.{DecodedValue}
use Rattle.fields.specs.declared.value.DecodedChannelValue.{DecodedChannelValue}
use Rattle.fields.specs.declared.value.DecodedValue.TheVariants.{UnsignedInteger, SignedInteger, Float, String, ByteArray, MimeSample, MimeStream, Unknown}

-- from what it means the description comes back, its type too
abbrev description_back : DataType → channels.Channel → Channel
description_back t c = record {
  data_type = t;
  channel_type = c.channel_type;
  bit_offset = c.bit_offset;
  byte_offset = c.byte_offset;
  bit_count = c.bit_count;
  «data» = c.data_link;
  flags = c.flags;
  pos_invalidation_bit = c.invalidation_bit;
}

pub description_one : (a b : Channel) → channel_meant a ≡ channel_meant b → a ≡ b
description_one = one_by channel_meant (λ c. description_back (type_back c.data_type) c) (λ c. ap (λ (t : DataType). description_back t (channel_meant c)) (type_back_law c.data_type))

abbrev pub value_decoded : Value → DecodedValue
value_decoded (unsigned n) = UnsignedInteger n
value_decoded (signed z) = SignedInteger z
value_decoded (double x pattern) = Float x pattern
value_decoded (text at n) = String at n
value_decoded (bytes at n) = ByteArray at n
value_decoded (sample at n) = MimeSample at n
value_decoded (stream at n) = MimeStream at n
value_decoded unknown_value = Unknown

pub value_back : (v : DecodedValue) → value_decoded (value_meant v) ≡ v
value_back (UnsignedInteger n) = refl
value_back (SignedInteger z) = refl
value_back (Float x pattern) = refl
value_back (String at n) = refl
value_back (ByteArray at n) = refl
value_back (MimeSample at n) = refl
value_back (MimeStream at n) = refl
value_back Unknown = refl

pub value_one : (a b : Result DecodedValue Refusal) → value_reply a ≡ value_reply b → a ≡ b
value_one = replied_one value_meant value_decoded value_back

abbrev pub valid_value_decoded : ValidValue → DecodedChannelValue
valid_value_decoded v = record { value = value_decoded v.value; is_valid = v.valid }

pub valid_value_one : (a b : Result DecodedChannelValue Refusal) → valid_value_reply a ≡ valid_value_reply b → a ≡ b
valid_value_one = replied_one valid_value_meant valid_value_decoded
    (λ v. ap (λ (x : DecodedValue). record { value = x; is_valid = v.is_valid }) (value_back v.value))

pub area_one : (a b : Result (Unit {0}) Refusal) → area_reply a ≡ area_reply b → a ≡ b
area_one = replied_one (λ (u : Unit {0}). u) (λ u. u) (λ u. refl)

pub validity_one : (a b : Result Bool Refusal) → validity_reply a ≡ validity_reply b → a ≡ b
validity_one = replied_one (λ (b : Bool). b) (λ b. b) (λ b. refl)

-- a field is found in one place, or refused for one cause
abbrev why_refused : Reply Value → Refusal
why_refused (answer v) = NoBits
why_refused (refusal n t) = refusal_of n t

pub field_one : (k : Kind) (reply : Reply Value) (s : List ℕ) (c : channels.Channel) (at n : ℕ) (a b : Result FieldSpan Refusal)
    → FieldTold k reply s c a × FieldPlaced at n a → FieldTold k reply s c b × FieldPlaced at n b → a ≡ b
field_one k reply s c at n (Ok f) (Ok g) (_, (ep, em)) (_, (eq, el)) =
    ap₂ (λ (p m : ℕ). Ok (record { at = p; length = m })) (ep ∙ sym eq) (em ∙ sym el)
field_one k reply s c at n (Ok f) (Err r) (t, x) (u, y) = not_answered _ _ _ (sym u.told ∙ t.told.value)
field_one k reply s c at n (Err r) (Ok f) (t, x) (u, y) = not_answered _ _ _ (sym t.told ∙ u.told.value)
field_one k reply s c at n (Err r) (Err q) (t, x) (u, y) = ap Err (one_by refused why_refused back r q (sym t.told ∙ u.told))
