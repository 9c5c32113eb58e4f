-- The double of a fixed integer field, of whatever width: no double is nearer to the value, up to 2^53 and down to -2^53 the two are
-- equal, and of two fields the greater value has no smaller double. Of the value and the double that the calls give of one field,
-- about their own clauses.
use mathlib.Core.Path.{◌≡◌, sym, ap, ◌∙◌, subst}
use mathlib.Core.Bool.{true, false}
use mathlib.Core.List.{List}
use Prim.Native.Nat.{ℕ, suc, ◌^◌, ◌≤◌}
use contract.Lifetimes.{Lfts}
use lib.IntN.{ℤ, pos, negsuc, nat_abs}
use lib.Signed.{◌≤ℤ◌}
use lib.Ieee.{binary64, le, of_bits}
use lib.Ieee.Exact.{HasValue}
use Rattle.std.specs.Prelude.{Result}
use Rattle.definitions.specs.Reply.{answer}
use Rattle.definitions.specs.Ieee754.{double_of, Nearest}
use Rattle.definitions.specs.DataType.{kind_of}
use Rattle.definitions.specs.Channel.{Channel, Value, variable_length, is_integer, value_of, record_double}
use Rattle.refusals.specs.declared.Refusal.{Refusal}
use Rattle.doubles.proofs.Whole.{of_positive, of_negative}
use Rattle.doubles.proofs.Exact.{exact}
use Rattle.doubles.proofs.Monotone.{monotone}
use Rattle.decoder.proofs.Nearest.{integer_in, is_negative, integer_double, nearest_double}
use Rattle.fields.specs.Meaning.{channel_meant, value_reply}
use Rattle.fields.specs.declared.channel.Channel.{Channel as Description}
use Rattle.fields.specs.declared.value.DecodedValue.{DecodedValue}
use Rattle.block_replies.specs.Channels.{channel_given}
use Rattle.block_replies.specs.declared.channel.Mf4Channel.{Mf4Channel}
use Rattle.replies.specs.declared.values.Mf4ValueReply.{Mf4ValueReply}
use Rattle.replies.proofs.ToldToC.{value_reply_again}
use Rattle.mf4.specs.Clauses.{Slice}
use Rattle.theorems.specs.Clauses.{ReadsValue, ReadsDouble}
use Rattle.theorems.specs.ClausesToC.{ReadsValueC, ReadsDoubleC}
use Rattle.theorems.proofs.Calls.ToldToC.{mf4_decode_value_told}

-- a fixed integer
pub record FixedInteger (c : Channel) : Type 0 where
  pub fixed : variable_length c ≡ false
  pub integer : is_integer (kind_of c.data_type) ≡ true

-- ---- of the definitions: a field of a record has the integer z, and the double r

pub record IntegerRead (z : ℤ) (r : ℕ) : Type 0 where
  pub record_bytes : List ℕ
  pub id_size : ℕ
  pub channel : Channel
  pub kind : FixedInteger channel
  pub value : Value
  pub has_value : value_of record_bytes id_size channel ≡ answer value
  pub integer : integer_in value ≡ z
  pub double : record_double record_bytes id_size channel ≡ r

exact_double : (z : ℤ) → nat_abs z ≤ 2 ^ 53 → HasValue (of_bits binary64 (double_of z)) (is_negative z) (nat_abs z) 1
exact_double (pos n) h = subst (λ (r : ℕ). HasValue (of_bits binary64 r) false n 1) (sym (of_positive n)) (exact false n h)
exact_double (negsuc n) h = subst (λ (r : ℕ). HasValue (of_bits binary64 r) true (suc n) 1) (sym (of_negative n)) (exact true (suc n) h)

module _ (z : ℤ) (r : ℕ) (h : IntegerRead z r) where
  is_double_of : double_of z ≡ r
  is_double_of =
      ap double_of (sym h.integer)
      ∙ integer_double h.record_bytes h.id_size h.channel h.value h.kind.fixed h.kind.integer h.has_value ∙ h.double

  pub double_nearest : Nearest (is_negative z) (nat_abs z) r
  double_nearest =
      subst (λ (x : ℤ). Nearest (is_negative x) (nat_abs x) r) h.integer
      (subst (Nearest (is_negative (integer_in h.value)) (nat_abs (integer_in h.value))) h.double
      (nearest_double h.record_bytes h.id_size h.channel h.value h.kind.fixed h.kind.integer h.has_value))

  pub double_exact : nat_abs z ≤ 2 ^ 53 → HasValue (of_bits binary64 r) (is_negative z) (nat_abs z) 1
  double_exact small = subst (λ (x : ℕ). HasValue (of_bits binary64 x) (is_negative z) (nat_abs z) 1) is_double_of (exact_double z small)

-- two fields, of the same width or of two
pub double_ordered : (y z : ℤ) (q r : ℕ) → IntegerRead y q → IntegerRead z r → y ≤ℤ z → le (of_bits binary64 q) (of_bits binary64 r) ≡ true
double_ordered y z q r g h l =
    ap (λ (x : ℕ). le (of_bits binary64 x) (of_bits binary64 r)) (sym (is_double_of y q g))
    ∙ ap (λ (x : ℕ). le (of_bits binary64 (double_of y)) (of_bits binary64 x)) (sym (is_double_of z r h)) ∙ monotone y z l

-- ---- of the library's calls

pub record IntegerDecoded (z : ℤ) (r : ℕ) : Type 1 where
  pub lent : Lfts 1
  pub record_bytes : Slice
  pub id_size : ℕ
  pub channel : Description
  pub kind : FixedInteger (channel_meant channel)
  -- decode_channel_value gives y, which has the value, and decode_f64_from_record gives r
  pub y : Result DecodedValue Refusal
  pub reads : ReadsValue lent record_bytes id_size channel y
  pub value : Value
  pub answers : value_reply y ≡ answer value
  pub integer : integer_in value ≡ z
  pub doubles : ReadsDouble lent record_bytes id_size channel r

decoded_read : (z : ℤ) (r : ℕ) → IntegerDecoded z r → IntegerRead z r
decoded_read z r h = record {
  record_bytes = h.record_bytes.now;
  id_size = h.id_size;
  channel = channel_meant h.channel;
  kind = h.kind;
  value = h.value;
  has_value = sym h.reads ∙ h.answers;
  integer = h.integer;
  double = sym h.doubles;
}

module _ (z : ℤ) (r : ℕ) (h : IntegerDecoded z r) where
  pub double_read_nearest : Nearest (is_negative z) (nat_abs z) r
  double_read_nearest = double_nearest z r (decoded_read z r h)

  pub double_read_exact : nat_abs z ≤ 2 ^ 53 → HasValue (of_bits binary64 r) (is_negative z) (nat_abs z) 1
  double_read_exact = double_exact z r (decoded_read z r h)

pub double_read_ordered : (y z : ℤ) (q r : ℕ) → IntegerDecoded y q → IntegerDecoded z r → y ≤ℤ z → le (of_bits binary64 q) (of_bits binary64 r) ≡ true
double_read_ordered y z q r g h = double_ordered y z q r (decoded_read y q g) (decoded_read z r h)

-- ---- of the calls for C

pub record IntegerDecodedC (z : ℤ) (r : ℕ) : Type 1 where
  pub lent : Lfts 1
  pub record_bytes : Slice
  pub id_size : ℕ
  pub channel : Mf4Channel
  pub kind : FixedInteger (channel_given channel)
  -- mf4_decode_value gives y, which tells the value, and mf4_decode_double_bits gives r
  pub y : Mf4ValueReply
  pub reads : ReadsValueC lent record_bytes id_size channel y
  pub value : Value
  pub tells : value_reply_again y ≡ answer value
  pub integer : integer_in value ≡ z
  pub doubles : ReadsDoubleC lent record_bytes id_size channel r

told_read : (z : ℤ) (r : ℕ) → IntegerDecodedC z r → IntegerRead z r
told_read z r h = record {
  record_bytes = h.record_bytes.now;
  id_size = h.id_size;
  channel = channel_given h.channel;
  kind = h.kind;
  value = h.value;
  has_value = sym (mf4_decode_value_told h.lent h.record_bytes h.id_size h.channel h.y h.reads) ∙ h.tells;
  integer = h.integer;
  double = sym h.doubles;
}

module _ (z : ℤ) (r : ℕ) (h : IntegerDecodedC z r) where
  pub mf4_double_bits_nearest : Nearest (is_negative z) (nat_abs z) r
  mf4_double_bits_nearest = double_nearest z r (told_read z r h)

  pub mf4_double_bits_exact : nat_abs z ≤ 2 ^ 53 → HasValue (of_bits binary64 r) (is_negative z) (nat_abs z) 1
  mf4_double_bits_exact = double_exact z r (told_read z r h)

pub mf4_double_bits_ordered : (y z : ℤ) (q r : ℕ) → IntegerDecodedC y q → IntegerDecodedC z r → y ≤ℤ z → le (of_bits binary64 q) (of_bits binary64 r) ≡ true
mf4_double_bits_ordered y z q r g h = double_ordered y z q r (told_read y q g) (told_read z r h)
