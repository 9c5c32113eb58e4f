-- A fixed field's value is determined by its own bits: a number's by the bits from the bit offset on, any other's by its bytes. A
-- refusal is determined by no bit.
use mathlib.Core.Path.{◌≡◌, refl, sym, ap, ap₂, ◌∙◌}
use mathlib.Core.Bool.{Bool, true, false, not, ◌&&◌, ◌||◌, true≢false}
use mathlib.Core.List.{List}
use Prim.Native.Nat.{ℕ, ◌+◌, ◌≤◌, ◌<◌}
use native.Mathlib.Omega.{arith}
use lib.ListN.{length, get_or}
use lib.Seq.{ext_get_or}
use lib.Dec.{ltb, eqb}
use borrow.Author.Tests.{ltb-false}
use Rattle.definitions.specs.Reply.{refusal}
use Rattle.definitions.specs.Bytes.{span, bytes_for}
use Rattle.definitions.specs.Unicode.{stopped}
use Rattle.definitions.specs.DataType.{DataType, unsigned_integer, signed_integer, float, complex, string, byte_array, mime_sample, mime_stream, can_open_date, can_open_time, unknown, Kind, integer, floating, whole, undecoded, kind_of, order_of}
use Rattle.definitions.specs.Channel.{Channel, Value, unsigned, signed, text, variable_length, start_of, bit_span, span_in, span_of, double_value, float_bits, number_in, decoded, is_integer, is_floating, is_number, value_by, value_of}
use Rattle.definitions.specs.Bytes.{twos_complement}
use Rattle.definitions.proofs.Replies.{not_answered}
use Rattle.words.proofs.Numbers.{Bytes}
use Rattle.bit_fields.proofs.Locality as words
use Rattle.words.proofs.Spans.{length_span, get_d_span}
use Rattle.fields.proofs.Fields.{in_turn, tested, value_tested}
use Rattle.fields.proofs.Types.{number_types}

-- a number is its field
by_field : (type : DataType) (s t : List ℕ) (at n : ℕ) (c : Channel) → is_number (kind_of type) ≡ true
    → number_in (order_of type) s at c ≡ number_in (order_of type) t at c → decoded type s at n c ≡ decoded type t at n c
unfolding decoded
by_field type s t at n c h =
    number_types (λ d. number_in (order_of d) s at c ≡ number_in (order_of d) t at c → decoded d s at n c ≡ decoded d t at n c)
    (λ o e. ap unsigned e) (λ o e. ap (λ (x : ℕ). signed (twos_complement c.bit_count x)) e)
    (λ o e. ap (λ (x : ℕ). double_value (float_bits c.bit_count x)) e) type h

pub number_span : (k : Kind) (payload : Bool) (n : ℕ) (c : Channel) → is_number k ≡ true → span_in payload k n c ≡ bit_span c
number_span integer payload n c h = refl
number_span floating payload n c h = refl
number_span whole payload n c h = absurd (true≢false (sym h))
number_span undecoded payload n c h = absurd (true≢false (sym h))

module _ (k : Kind) (at n : ℕ) (c : Channel) where
  -- a value by the length of the slice and what its bytes stand for
  by_parts : (s t : List ℕ) → length s ≡ length t → decoded c.data_type s at n c ≡ decoded c.data_type t at n c → value_by k at n s c ≡ value_by k at n t c
  by_parts s t el ev = value_tested k at n s c ∙ ap₂ (λ (l : ℕ) (v : Value). tested k at n l c v) el ev ∙ sym (value_tested k at n t c)

  -- so what the bytes stand for matters only where the field is inside
  by_end : (s t : List ℕ) → length s ≡ length t → (at + n ≤ length s → decoded c.data_type s at n c ≡ decoded c.data_type t at n c)
      → value_by k at n s c ≡ value_by k at n t c
  unfolding value_by
  by_end s t el inside = go (ltb (length s) (at + n)) refl
    where
      go : (b : Bool) → ltb (length s) (at + n) ≡ b → value_by k at n s c ≡ value_by k at n t c
      go true e = let f : ltb (length t) (at + n) ≡ true = sym (ap (λ (l : ℕ). ltb l (at + n)) el) ∙ e in rw (e, f)
      go false e = by_parts s t el (inside (ltb-false _ _ e))

module _ (s t : List ℕ) (id_size : ℕ) (c : Channel) (fixed : variable_length c ≡ false) (number : is_number (kind_of c.data_type) ≡ true) where
  abbrev at : ℕ
  at = id_size + c.byte_offset

  value_is : (u : List ℕ) → value_of u id_size c ≡ value_by (kind_of c.data_type) at (bit_span c) u c
  unfolding value_of
  value_is u = rw (fixed, number_span (kind_of c.data_type) false (length u) c number)

  pub locality : Bytes s → Bytes t → length s ≡ length t
      → ((k : ℕ) → c.bit_offset ≤ k → k < c.bit_offset + c.bit_count
      → words.record_bit (order_of c.data_type) s at (bytes_for c.bit_offset c.bit_count) k
      ≡ words.record_bit (order_of c.data_type) t at (bytes_for c.bit_offset c.bit_count) k)
      → value_of s id_size c ≡ value_of t id_size c
  locality bs bt el same = value_is s ∙ by_end (kind_of c.data_type) at (bit_span c) c s t el alike ∙ sym (value_is t)
    where
      alike : at + bit_span c ≤ length s → decoded c.data_type s at (bit_span c) c ≡ decoded c.data_type t at (bit_span c) c
      alike h =
          by_field c.data_type s t at (bit_span c) c number
          (words.locality (order_of c.data_type) s t at c.bit_offset c.bit_count bs bt (omega arith) (omega arith) same)

-- ---- texts, bytes and samples

by_span : (type : DataType) (s t : List ℕ) (at n : ℕ) (c : Channel) → is_number (kind_of type) ≡ false → span s at n ≡ span t at n
    → decoded type s at n c ≡ decoded type t at n c
unfolding decoded
by_span (unsigned_integer o) s t at n c h e = absurd (true≢false h)
by_span (signed_integer o) s t at n c h e = absurd (true≢false h)
by_span (float o) s t at n c h e = absurd (true≢false h)
by_span (string w) s t at n c h e = ap (λ (bs : List ℕ). text at (length (stopped w bs))) e
by_span byte_array s t at n c h e = refl
by_span mime_sample s t at n c h e = refl
by_span mime_stream s t at n c h e = refl
by_span can_open_date s t at n c h e = refl
by_span can_open_time s t at n c h e = refl
by_span (complex o) s t at n c h e = refl
by_span (unknown code) s t at n c h e = refl

-- outside a payload the slice's length does not matter
fixed_span : (k : Kind) (m n : ℕ) (c : Channel) → span_in false k m c ≡ span_in false k n c
fixed_span integer m n c = refl
fixed_span floating m n c = refl
fixed_span whole m n c = refl
fixed_span undecoded m n c = refl

module _ (s t : List ℕ) (id_size : ℕ) (c : Channel) (fixed : variable_length c ≡ false) (other : is_number (kind_of c.data_type) ≡ false) where
  abbrev from : ℕ
  from = id_size + c.byte_offset

  abbrev count : ℕ
  count = span_in false (kind_of c.data_type) 0 c

  content_is : (u : List ℕ) → value_of u id_size c ≡ value_by (kind_of c.data_type) from count u c
  unfolding value_of
  content_is u = rw (fixed, fixed_span (kind_of c.data_type) (length u) 0 c)

  pub content_locality : length s ≡ length t → ((i : ℕ) → i < count → get_or s (from + i) 0 ≡ get_or t (from + i) 0)
      → value_of s id_size c ≡ value_of t id_size c
  content_locality el same = content_is s ∙ by_end (kind_of c.data_type) from count c s t el alike ∙ sym (content_is t)
    where
      alike : from + count ≤ length s → decoded c.data_type s from count c ≡ decoded c.data_type t from count c
      alike h =
          let g : from + count ≤ length t = omega arith in
          let ls : length (span s from count) ≡ count = length_span s from count h in
          let lt : length (span t from count) ≡ count = length_span t from count g in
          by_span c.data_type s t from count c other
          (ext_get_or 0 (span s from count) (span t from count) (ls ∙ sym lt)
          (λ i l. let w : i < count = omega arith in get_d_span s from count i w ∙ same i w ∙ sym (get_d_span t from count i w)))

-- ---- refusals

-- a refusal says nothing of the bytes
whatever_stands : (k : Kind) (at n l : ℕ) (c : Channel) (v w : Value) (number size : ℕ) → tested k at n l c v ≡ refusal number size → tested k at n l c w ≡ refusal number size
whatever_stands k at n l c v w number size h =
    go (is_number k && eqb c.bit_count 0) (is_number k && ltb 7 c.bit_offset) (is_integer k && ltb 64 c.bit_count)
    (ltb l (at + n)) (is_floating k && not (eqb c.bit_count 32 || eqb c.bit_count 64)) h
  where
    go : (a b d e f : Bool) → in_turn a b d e f (at + n) v ≡ refusal number size → in_turn a b d e f (at + n) w ≡ refusal number size
    go true b d e f h = h
    go false true d e f h = h
    go false false true e f h = h
    go false false false true f h = h
    go false false false false true h = h
    go false false false false false h = not_answered v number size (sym h)

-- it depends on the description, and on how many bytes there are
pub refusal_locality : (s t : List ℕ) (id_size : ℕ) (c : Channel) (number size : ℕ) → length s ≡ length t
    → value_of s id_size c ≡ refusal number size → value_of t id_size c ≡ refusal number size
unfolding value_of
refusal_locality s t id_size c number size el e =
    let k : Kind = kind_of c.data_type in
    let at : ℕ = start_of id_size c in
    let v : Value = decoded c.data_type s at (span_of s c) c in
    value_tested k at (span_of t c) t c
    ∙ whatever_stands k at (span_of t c) (length t) c v _ number size
    (ap (λ (l : ℕ). tested k at (span_in (variable_length c) k l c) l c v) (sym el) ∙ sym (value_tested k at (span_of s c) s c) ∙ e)
