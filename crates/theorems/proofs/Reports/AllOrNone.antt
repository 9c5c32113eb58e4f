-- Whether a record of the group has a value of a channel depends on its length alone: of one size all have one, or none has.
use Rattle.std.specs.Prelude.{if◌then◌else◌}
use mathlib.Core.Path.{◌≡◌, refl, sym, ap, ap₂, subst, ◌∙◌}
use mathlib.Core.Logic.{◌⊎◌, inl, inr}
use mathlib.Core.Bool.{Bool, true, false, not, ◌&&◌, ◌||◌}
use mathlib.Core.List.{List, [], ◌∷◌}
use Prim.Native.Nat.{ℕ, zero, suc, ◌+◌, ◌*◌, ◌≤◌}
use native.Mathlib.Nat.{div-mul-le_self}
use native.Mathlib.Omega.{arith}
use lib.Dec.{eqb, ltb}
use lib.ListN.{length, drop, length-drop}
use Rattle.definitions.specs.Reply.{Reply, answer, refusal, and_then, told}
use Rattle.definitions.specs.Channel.{Channel, Group, Value, is_number, is_integer, is_floating, start_of, span_in, span_of, variable_length, decoded, value_by, value_of, valid_of, area_of, bounded_valid_of, bounded_value_of}
use Rattle.definitions.specs.DataType.{kind_of}
use Rattle.definitions.specs.Report.{first_records, record_count, readings, count, has_no_value, report_of}
use Rattle.words.proofs.Spans.{length_span}
use Rattle.theorems.specs.Reports.{All}
use Rattle.theorems.proofs.Reports.RecordsRead.{readings_length}

-- refused or not
abbrev refuses : {A : Type 0} → Reply A → Bool
refuses (answer a) = false
refuses (refusal n t) = true

-- by the tests alone
abbrev refuses_by : Bool → Bool → Bool → Bool → Bool → Bool
refuses_by empty behind wide outside width = empty || (behind || (wide || (outside || width)))

refused_by : (empty behind wide outside width : Bool) (t : ℕ) (v : Value)
    → refuses (if empty then refusal 18 0 else if behind then refusal 19 0 else if wide then refusal 20 0
    else if outside then refusal 21 t else if width then refusal 22 0 else answer v) ≡ refuses_by empty behind wide outside width
refused_by true behind wide outside width t v = refl
refused_by false true wide outside width t v = refl
refused_by false false true outside width t v = refl
refused_by false false false true width t v = refl
refused_by false false false false true t v = refl
refused_by false false false false false t v = refl

-- whether a slice of n bytes has no value
abbrev NoneIn : ℕ → ℕ → Channel → Bool
NoneIn n id_size c =
    let k = kind_of c.data_type in
    refuses_by (is_number k && eqb c.bit_count 0) (is_number k && ltb 7 c.bit_offset) (is_integer k && ltb 64 c.bit_count)
    (ltb n (start_of id_size c + span_in (variable_length c) k n c)) (is_floating k && not (eqb c.bit_count 32 || eqb c.bit_count 64))

value_refused : (s : List ℕ) (id_size : ℕ) (c : Channel) → refuses (value_of s id_size c) ≡ NoneIn (length s) id_size c
unfolding value_of value_by
value_refused s id_size c =
    let k = kind_of c.data_type in
    refused_by (is_number k && eqb c.bit_count 0) (is_number k && ltb 7 c.bit_offset) (is_integer k && ltb 64 c.bit_count)
    (ltb (length s) (start_of id_size c + span_of s c)) (is_floating k && not (eqb c.bit_count 32 || eqb c.bit_count 64))
    (told (start_of id_size c + span_of s c)) (decoded c.data_type s (start_of id_size c) (span_of s c) c)

-- a record of the group's own length, in whose area the invalidation bit lies
bounded_refused_law : (s : List ℕ) (g : Group) (c : Channel) → area_of (length s) g c ≡ answer tt
    → has_no_value (bounded_value_of s g c) ≡ NoneIn (length s) g.id_size c
unfolding bounded_value_of bounded_valid_of
bounded_refused_law s g c e = ap (λ (a : Reply (Unit {0})). of (value_of s g.id_size c) a) e ∙ inside (value_of s g.id_size c) ∙ value_refused s g.id_size c
  where
    of : Reply Value → Reply (Unit {0}) → Bool
    of r a = has_no_value (and_then r (λ v. and_then (and_then a (λ u. answer (valid_of s g c))) (λ b. answer (record { value = v; valid = b }))))

    inside : (r : Reply Value) → of r (answer tt) ≡ refuses r
    inside (answer v) = refl
    inside (refusal n t) = refl

pub all_or_none : (s t : List ℕ) (g : Group) (c : Channel) → length s ≡ length t → area_of (length s) g c ≡ answer tt
    → has_no_value (bounded_value_of s g c) ≡ has_no_value (bounded_value_of t g c)
all_or_none s t g c e h =
    bounded_refused_law s g c h ∙ ap (λ (n : ℕ). NoneIn n g.id_size c) e
    ∙ sym (bounded_refused_law t g c (subst (λ (n : ℕ). area_of n g c ≡ answer tt) e h))

-- ---- in a report

module _ (size : ℕ) (g : Group) (c : Channel) (h : area_of size g c ≡ answer tt) where
  abbrev Sized : List ℕ → Type 0
  Sized r = length r ≡ size

  none_of : (rs : List (List ℕ)) → All Sized rs → count has_no_value (readings g c rs) ≡ (if NoneIn size g.id_size c then length rs else 0)
  unfolding readings count
  none_of [] a = empty (NoneIn size g.id_size c)
    where
      empty : (b : Bool) → ◌≡◌ {A = ℕ} 0 (if b then 0 else 0)
      empty true = refl
      empty false = refl
  none_of (r ∷ rs) a =
      ap₂ (λ (b : Bool) (n : ℕ). (if b then 1 else 0) + n)
      (bounded_refused_law r g c (subst (λ (n : ℕ). area_of n g c ≡ answer tt) (sym a.0) h) ∙ ap (λ (n : ℕ). NoneIn n g.id_size c) a.0)
      (none_of rs a.1)
      ∙ one_more (NoneIn size g.id_size c)
    where
      one_more : (b : Bool) → (if b then 1 else 0) + (if b then length rs else 0) ≡ (if b then suc (length rs) else 0)
      one_more true = omega arith
      one_more false = omega arith

  sized : (n : ℕ) (j : List ℕ) → n * size ≤ length j → All Sized (first_records n size j)
  unfolding first_records
  sized zero j l = tt
  sized (suc n) j l = (length_span j 0 size (omega arith), sized n (drop size j) (omega (arith, length-drop size j)))

  -- every record has a value, or none has one
  pub report_all_or_none : (j : List ℕ) → let line = report_of (readings g c (first_records (record_count size j) size j)) in
      (line.without_value ≡ 0) ⊎ (line.without_value ≡ line.records)
  unfolding report_of
  report_all_or_none j = by (NoneIn size g.id_size c) (none_of (first_records (record_count size j) size j) (sized (record_count size j) j (div-mul-le_self (length j) size)))
    where
      by : (b : Bool) → count has_no_value (readings g c (first_records (record_count size j) size j)) ≡ (if b then length (first_records (record_count size j) size j) else 0)
          → (count has_no_value (readings g c (first_records (record_count size j) size j)) ≡ 0)
          ⊎ (count has_no_value (readings g c (first_records (record_count size j) size j)) ≡ length (readings g c (first_records (record_count size j) size j)))
      by true e = inr (e ∙ sym (readings_length g c (first_records (record_count size j) size j)))
      by false e = inl e
