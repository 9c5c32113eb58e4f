-- What C is told is all that the definition gives: from each struct the definition's reply comes back.
use Rattle.std.specs.Prelude.{if◌then◌else◌}
use mathlib.Core.Path.{◌≡◌, refl, sym, ap, ap₂, subst, ◌∙◌}
use mathlib.Core.Bool.{Bool, true, false}
use mathlib.Core.List.{[], ◌∷◌}
use Prim.Native.Nat.{ℕ, suc, ◌-◌, ◌^◌, ◌≤◌, ◌<◌}
use native.Mathlib.Omega.{arith}
use lib.IntN.{pos, negsuc}
use lib.ListN.{get_or}
use lib.Dec.{eqb, ltb}
use lib.Ieee.{binary64, of_bits}
use borrow.Author.Tests.{lt-ltb, le-ltb}
use Rattle.definitions.specs.Reply.{Reply, answer, refusal}
use Rattle.definitions.specs.Bytes.{twos_complement}
use Rattle.definitions.specs.Unicode.{TextWritten}
use Rattle.definitions.specs.Payload.{PayloadValue}
use Rattle.definitions.specs.Overlap.{Overlap, pair, none}
use Rattle.definitions.specs.Report.{Point, Report}
use Rattle.definitions.specs.Channel.{Value, ValidValue, unsigned, signed, double, text, bytes, sample, stream, unknown_value, double_value}
use Rattle.replies.specs.Replies.{flag_c, text_c, done_c}
use Rattle.replies.specs.Values.{word_of, decoded_c, value_c, valid_value_c, validity_c, length_c, payload_c}
use Rattle.replies.specs.Overlaps.{overlap_c}
use Rattle.replies.specs.Reports.{report_c}
use Rattle.replies.specs.declared.texts.Mf4TextReply.{Mf4TextReply}
use Rattle.replies.specs.declared.values.Mf4ValueReply.{Mf4ValueReply}
use Rattle.replies.specs.declared.valid_values.Mf4ValidValueReply.{Mf4ValidValueReply}
use Rattle.replies.specs.declared.validity.Mf4ValidityReply.{Mf4ValidityReply}
use Rattle.replies.specs.declared.payload.Mf4PayloadReply.{Mf4PayloadReply}
use Rattle.replies.specs.declared.fetches.Mf4LengthReply.{Mf4LengthReply}
use Rattle.replies.specs.declared.done.Mf4DoneReply.{Mf4DoneReply}
use Rattle.replies.specs.declared.overlap.Mf4OverlapReply.{Mf4OverlapReply}
use Rattle.replies.specs.declared.reports.Mf4Point.{Mf4Point}
use Rattle.replies.specs.declared.reports.Mf4ReportReply.{Mf4ReportReply}
use Rattle.replies.proofs.Lines.{of_words, sum_back}
use Rattle.block_replies.proofs.ToldToC.{Tellable, Any, again, again_refused, told_by}

-- ---- lengths, and calls that answer nothing else

abbrev pub length_again : Mf4LengthReply → Reply ℕ
length_again s = again s.reply s.told (answer s.length)

pub length_told : (r : Reply ℕ) → Tellable Any r → length_again (length_c r) ≡ r
length_told = told_by Any length_c length_again (λ a h. refl) (again_refused _)

abbrev pub done_again : Mf4DoneReply → Reply (Unit {0})
done_again s = again s.reply s.told (answer tt)

pub done_told : (r : Reply (Unit {0})) → Tellable Any r → done_again (done_c r) ≡ r
done_told = told_by Any done_c done_again (λ a h. refl) (again_refused _)

-- ---- flags, validity and texts

flag_back : (b : Bool) → eqb (flag_c b) 1 ≡ b
flag_back true = refl
flag_back false = refl

abbrev pub validity_again : Mf4ValidityReply → Reply Bool
validity_again s = again s.reply s.told (answer (eqb s.is_valid 1))

pub validity_told : (r : Reply Bool) → Tellable Any r → validity_again (validity_c r) ≡ r
validity_told = told_by Any validity_c validity_again (λ b h. ap answer (flag_back b)) (again_refused _)

abbrev pub text_again : Mf4TextReply → Reply TextWritten
text_again s = again s.reply s.told (answer (record { count = s.count; damaged = eqb s.damaged 1 }))

pub text_told : (r : Reply TextWritten) → Tellable Any r → text_again (text_c r) ≡ r
text_told =
    told_by Any text_c text_again (λ a h. ap (λ (b : Bool). answer (record { count = a.count; damaged = b })) (flag_back a.damaged)) (again_refused _)

-- ---- values

-- a signed integer has 64 bits, and a double is that of its pattern
abbrev pub Reversible : Value → Type 0
Reversible (unsigned n) = Unit {0}
Reversible (signed (pos n)) = n < 2 ^ 63
Reversible (signed (negsuc n)) = n < 2 ^ 63
Reversible (double x pattern) = x ≡ of_bits binary64 pattern
Reversible (text at n) = Unit {0}
Reversible (bytes at n) = Unit {0}
Reversible (sample at n) = Unit {0}
Reversible (stream at n) = Unit {0}
Reversible unknown_value = Unit {0}

-- the value of a struct's fields, by its kind
abbrev pub value_again : ℕ → ℕ → ℕ → ℕ → Value
value_again kind number at n =
    get_or (unknown_value ∷ unsigned number ∷ signed (twos_complement 64 number) ∷ double_value number ∷ text at n
    ∷ bytes at n ∷ sample at n ∷ stream at n ∷ []) kind unknown_value

-- where the kind is one of them, 1 to 8; else nothing comes back, since no call refuses with the number 0
abbrev pub of_kind : {A : Type 0} → ℕ → A → Reply A
of_kind kind a = if ltb 0 kind then (if ltb kind 9 then answer a else refusal 0 0) else refusal 0 0

word_back_pos : (n : ℕ) → n < 2 ^ 63 → twos_complement 64 (word_of (pos n)) ≡ pos n
word_back_pos n h = rw (lt-ltb n (2 ^ 63) h)

word_back_neg : (k : ℕ) → k < 2 ^ 63 → twos_complement 64 (word_of (negsuc k)) ≡ negsuc k
word_back_neg k h =
    let high : 2 ^ 63 ≤ 18446744073709551615 - k = omega arith in
    let same : 2 ^ 64 - suc (18446744073709551615 - k) ≡ k = omega arith in
    rw (le-ltb (18446744073709551615 - k) (2 ^ 63) high, same)

pub value_back : (v : Value) → Reversible v
    → value_again (decoded_c v).kind (decoded_c v).number (decoded_c v).at (decoded_c v).length ≡ v
value_back (unsigned n) h = refl
value_back (signed (pos n)) h = ap signed (word_back_pos n h)
value_back (signed (negsuc n)) h = ap signed (word_back_neg n h)
value_back (double x pattern) h = ap (λ y. double y pattern) (sym h)
value_back (text at n) h = refl
value_back (bytes at n) h = refl
value_back (sample at n) h = refl
value_back (stream at n) h = refl
value_back unknown_value h = refl

kind_told : {A : Type 0} (v : Value) (a : A) → of_kind (decoded_c v).kind a ≡ answer a
kind_told (unsigned n) a = refl
kind_told (signed z) a = refl
kind_told (double x pattern) a = refl
kind_told (text at n) a = refl
kind_told (bytes at n) a = refl
kind_told (sample at n) a = refl
kind_told (stream at n) a = refl
kind_told unknown_value a = refl

-- what a call replied is of a kind
pub of_kind_told : {A : Type 0} (P : A → Type 0) (n t kind : ℕ) (a : A) (r : Reply A) → Tellable P r
    → again n t (of_kind kind a) ≡ r → again n t (answer a) ≡ r
of_kind_told P n t kind a r h q = go (eqb n 0) (ltb 0 kind) (ltb kind 9) q
  where
    nothing : refusal 0 0 ≡ r → answer a ≡ r
    nothing e = let no : 0 < 0 = subst (Tellable P) (sym e) h in let none : ⊥ = omega (arith, no) in absurd none

    go : (zero some few : Bool) → (if zero then (if some then (if few then answer a else refusal 0 0) else refusal 0 0) else refusal n t) ≡ r
        → (if zero then answer a else refusal n t) ≡ r
    go true true true e = e
    go true true false e = nothing e
    go true false few e = nothing e
    go false some few e = e

abbrev pub value_reply_again : Mf4ValueReply → Reply Value
value_reply_again s = again s.reply s.told (of_kind s.kind (value_again s.kind s.number s.at s.length))

pub value_told : (r : Reply Value) → Tellable Reversible r → value_reply_again (value_c r) ≡ r
value_told = told_by Reversible value_c value_reply_again (λ v h. kind_told v _ ∙ ap answer (value_back v h)) (again_refused _)

abbrev pub valid_value_again : Mf4ValidValueReply → Reply ValidValue
valid_value_again s =
    again s.reply s.told
    (of_kind s.kind (record { value = value_again s.kind s.number s.at s.length; valid = eqb s.is_valid 1 }))

pub valid_value_told : (r : Reply ValidValue) → Tellable (λ v. Reversible v.value) r → valid_value_again (valid_value_c r) ≡ r
valid_value_told =
    told_by (λ v. Reversible v.value) valid_value_c valid_value_again
    (λ v h. kind_told v.value _ ∙ ap₂ (λ (x : Value) (b : Bool). answer (record { value = x; valid = b })) (value_back v.value h) (flag_back v.valid))
    (again_refused _)

-- ---- payloads

abbrev pub payload_again : Mf4PayloadReply → Reply PayloadValue
payload_again s =
    again s.reply s.told
    (of_kind s.kind
    (record { value = value_again s.kind s.number s.at s.length; valid = eqb s.is_valid 1; size = s.payload_length }))

pub payload_told_law : (r : Reply PayloadValue) → Tellable (λ v. Reversible v.value) r → payload_again (payload_c r) ≡ r
payload_told_law =
    told_by (λ v. Reversible v.value) payload_c payload_again
    (λ v h. kind_told v.value _
    ∙ ap₂ (λ (x : Value) (b : Bool). answer (record { value = x; valid = b; size = v.size })) (value_back v.value h) (flag_back v.valid))
    (again_refused _)

-- ---- overlaps

abbrev pub overlap_again : Mf4OverlapReply → Reply Overlap
overlap_again s = again s.reply s.told (answer (if eqb s.found 1 then pair s.first s.second else none))

overlap_back : (o : Overlap) → Any o → overlap_again (overlap_c (answer o)) ≡ answer o
overlap_back (pair i j) h = refl
overlap_back none h = refl

pub overlap_told : (r : Reply Overlap) → Tellable Any r → overlap_again (overlap_c r) ≡ r
overlap_told = told_by Any overlap_c overlap_again overlap_back (again_refused _)

-- ---- reports

abbrev point_again : Mf4Point → Point
point_again p = record { number = p.number; value = p.value }

abbrev pub report_again : Mf4ReportReply → Reply Report
report_again s =
    again s.reply s.told
    (answer (record {
      records = s.records;
      valid = s.valid;
      invalid = s.invalid;
      without_value = s.without_value;
      nan = s.nan;
      doubles = record {
        any = eqb s.has_doubles 1;
        first = point_again s.first;
        last = point_again s.last;
        smallest = point_again s.smallest;
        largest = point_again s.largest;
      };
      sum = of_words s.sum_high s.sum_low;
    }))

report_back : (a : Report) → Any a → report_again (report_c (answer a)) ≡ answer a
report_back a h = λ i. answer (record {
  records = a.records;
  valid = a.valid;
  invalid = a.invalid;
  without_value = a.without_value;
  nan = a.nan;
  doubles = record {
    any = flag_back a.doubles.any i;
    first = a.doubles.first;
    last = a.doubles.last;
    smallest = a.doubles.smallest;
    largest = a.doubles.largest;
  };
  sum = sum_back a.sum i;
})

pub report_told : (r : Reply Report) → Tellable Any r → report_again (report_c r) ≡ r
report_told = told_by Any report_c report_again report_back (again_refused _)
