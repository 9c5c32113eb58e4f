-- The records of a chain: their readings, what the tally of these records says of them, and the last record.
use Rattle.std.specs.Prelude.{if◌then◌else◌}
use mathlib.Core.Path.{◌≡◌, refl, sym, ap, subst, ◌∙◌}
use mathlib.Core.Bool.{Bool, true, false}
use mathlib.Core.List.{List, [], ◌∷◌, ◌++◌, append-nil}
use Prim.Native.Nat.{ℕ, zero, suc, ◌+◌, ◌-◌, ◌*◌, ◌/◌, ◌^◌, ◌≤◌, ◌<◌}
use native.Mathlib.Omega.{arith}
use native.Mathlib.Nat.{suc-mul, zero-mul, div-mul-le_self}
use lib.ListN.{length, take, drop, get_or, length-drop, take-append-drop, drop_of_length-le}
use lib.Seq.{length-take-le, drop-drop}
use Rattle.definitions.specs.Reply.{Reply, answer}
use Rattle.definitions.specs.Bytes.{span}
use Rattle.definitions.specs.Channel.{Channel, Group, Value, ValidValue, bounded_value_of}
use Rattle.definitions.specs.Report.{first_records, readings, count, is_invalid, has_no_value, last_record_in}
use Rattle.words.proofs.Spans.{bytes_span, length_span}
use Rattle.tally.specs.Words.{Words}
use Rattle.tally.specs.Tallies.{empty_tally, skipped_tally, counted_tally, Tallied}
use Rattle.tally.specs.declared.tally.Tally.{Tally}
use Rattle.slots.specs.Slots.{slot_word, slot_valid, SlotOf, SlotTold}
use Rattle.slots.specs.declared.slot.Slot.{Slot}
use Rattle.slots.specs.declared.slot.SlotFound.TheVariants.{AllInvalid, NoValue}
use Rattle.slots.proofs.Small.{slot_word_small}
use Rattle.report.specs.Visits.{seen, visited}
use Rattle.slots.proofs.Rows.{inside}
use Rattle.tally.proofs.Tallying.{tallied_none, tallied_skip, tallied_count}

-- ---- the records, and their readings

-- the last of them stands behind the others
pub first_records_more : (k size : ℕ) (l : List ℕ) → first_records (suc k) size l ≡ first_records k size l ++ span l (k * size) size ∷ []
unfolding first_records
first_records_more zero size l = ap (λ (i : ℕ). span l i size ∷ []) (sym (zero-mul size))
first_records_more (suc k) size l =
    let e : size + k * size ≡ suc k * size = omega (arith, suc-mul k size) in
    ap (λ (rs : List (List ℕ)). take size l ∷ rs)
    (first_records_more k size (drop size l)
    ∙ ap (λ (r : List ℕ). first_records k size (drop size l) ++ take size r ∷ []) (drop-drop (k * size) size l ∙ ap (λ (i : ℕ). drop i l) e))

module _ (g : Group) (c : Channel) where
  pub readings_append : (rs qs : List (List ℕ)) → readings g c (rs ++ qs) ≡ readings g c rs ++ readings g c qs
  unfolding readings
  readings_append [] qs = refl
  readings_append (r ∷ rs) qs = ap (λ (xs : List (Reply ValidValue)). bounded_value_of r g c ∷ xs) (readings_append rs qs)

  pub readings_length : (k size : ℕ) (l : List ℕ) → length (readings g c (first_records k size l)) ≡ k
  unfolding readings first_records
  readings_length zero size l = refl
  readings_length (suc k) size l = ap suc (readings_length k size (drop size l))

  -- of no record
  pub readings_none : (k size : ℕ) (l : List ℕ) → k ≡ 0 → (length (readings g c (first_records k size l)) ≡ 0) × (count has_no_value (readings g c (first_records k size l)) ≡ 0)
  unfolding readings first_records count
  readings_none k size l z = rw z (refl, refl)

  readings_more : (k size : ℕ) (l : List ℕ)
      → readings g c (first_records (suc k) size l) ≡ readings g c (first_records k size l) ++ bounded_value_of (span l (k * size) size) g c ∷ []
  unfolding readings
  readings_more k size l = ap (readings g c) (first_records_more k size l) ∙ readings_append (first_records k size l) (span l (k * size) size ∷ [])

-- n of them lie in the data
pub n_inside : (j : List ℕ) (size n : ℕ) → n ≡ length j / size → n * size ≤ length j
n_inside j size n e = rw e (div-mul-le_self (length j) size)

-- ---- records that have a value

-- one record more, valid or not
record_more : (w : Slot) (xs : List (Reply ValidValue)) (t : Tally) (v : Value) (word : ℕ) → Tallied w.number xs t → Words w.number word v → word < 2 ^ 64
    → (b : Bool) → Tallied w.number (xs ++ answer (record { value = v; valid = b }) ∷ []) (if b then counted_tally w.number t word else skipped_tally t)
record_more w xs t v word h e small true = tallied_count h v word e small
record_more w xs t v word h e small false = tallied_skip h v

-- the tally of the first k records is that of their readings
pub found_line : (w : Slot) (size : ℕ) (g : Group) (c : Channel) → SlotOf size g c w → (l : List ℕ) → ((i : ℕ) → get_or l i 0 < 256)
    → (k : ℕ) → k * size ≤ length l → Tallied w.number (readings g c (first_records k size l)) (seen (visited w) size empty_tally l k)
unfolding seen readings first_records
found_line w size g c h l bytes zero room = tallied_none w.number
found_line w size g c h l bytes (suc k) room =
    let ends : k * size + size ≤ length l = inside k (suc k) size (length l) (omega arith) room in
    let r : List ℕ = span l (k * size) size in
    let xs : List (Reply ValidValue) = readings g c (first_records k size l) in
    let t : Tally = seen (visited w) size empty_tally l k in
    let told = h.tells r (bytes_span l (k * size) size bytes) (length_span l (k * size) size ends) in
    subst (λ (ys : List (Reply ValidValue)). Tallied w.number ys (visited w t r))
    (ap (λ (y : Reply ValidValue). xs ++ y ∷ []) (sym told.1) ∙ sym (readings_more g c k size l))
    (record_more w xs t told.0 (slot_word w r) (found_line w size g c h l bytes k (omega arith)) told.2 (slot_word_small h.within r) (slot_valid w r))

-- the tally of all of them, by whichever name
pub all_line : (w : Slot) (size : ℕ) (g : Group) (c : Channel) → SlotOf size g c w → (l : List ℕ) → ((i : ℕ) → get_or l i 0 < 256) → (n : ℕ) → n ≡ length l / size
    → (t : Tally) → t ≡ seen (visited w) size empty_tally l (length l / size) → Tallied w.number (readings g c (first_records n size l)) t
all_line w size g c h l bytes n en t et =
    subst (Tallied w.number (readings g c (first_records n size l))) (sym (et ∙ ap (seen (visited w) size empty_tally l) (sym en)))
    (found_line w size g c h l bytes n (n_inside l size n en))

-- ---- records that are all alike

-- a test that every reading passes counts them all
module _ (size : ℕ) (g : Group) (c : Channel) (p : Reply ValidValue → Bool) (all : (s : List ℕ) → length s ≡ size → p (bounded_value_of s g c) ≡ true) where
  every_line : (l : List ℕ) (k : ℕ) → k * size ≤ length l → count p (readings g c (first_records k size l)) ≡ k
  unfolding count readings first_records
  every_line l zero room = refl
  every_line l (suc k) room =
      let ends : k * size + size ≤ length l = inside k (suc k) size (length l) (omega arith) room in
      let rest : k * size ≤ length (drop size l) = omega (arith, length-drop size l) in
      rw (all (take size l) (length-take-le size l (omega arith)), every_line (drop size l) k rest) (omega arith)

module _ (size : ℕ) (g : Group) (c : Channel) where
  pub invalid_line : SlotTold size g c AllInvalid → (l : List ℕ) (k : ℕ) → k * size ≤ length l → count is_invalid (readings g c (first_records k size l)) ≡ k
  invalid_line h = every_line size g c is_invalid (λ s e. ap is_invalid (h s e).1)

  pub valueless_line : SlotTold size g c NoValue → (l : List ℕ) (k : ℕ) → k * size ≤ length l → count has_no_value (readings g c (first_records k size l)) ≡ k
  valueless_line h = every_line size g c has_no_value h

-- ---- the last of n records

module _ (j : List ℕ) (size : ℕ) where
  -- where there is none
  pub no_last_record : (n : ℕ) (out : List ℕ) → n ≡ 0 → out ≡ last_record_in n size j out
  unfolding last_record_in
  no_last_record n out z = rw z

  pub last_record : (n from : ℕ) (out : List ℕ) → (n ≡ 0 → ⊥) → from ≡ (n - 1) * size → span j from size ++ drop size out ≡ last_record_in n size j out
  unfolding last_record_in
  last_record n from out some ef = let e : n ≡ suc (n - 1) = omega arith in rw (e, ef)

  pub last_inside : (n from : ℕ) → n ≡ length j / size → (n ≡ 0 → ⊥) → from ≡ (n - 1) * size → from + size ≤ length j
  last_inside n from en some ef = rw ef (inside (n - 1) n size (length j) (omega arith) (n_inside j size n en))

  -- in the front of a buffer that is longer
  pub last_in_front : (n : ℕ) (out : List ℕ) → size ≤ length out → last_record_in n size j (take size out) ++ drop size out ≡ last_record_in n size j out
  unfolding last_record_in
  last_in_front zero out h = take-append-drop size out
  last_in_front (suc n) out h =
      let r : List ℕ = span j (n * size) size in
      let none : drop size (take size out) ≡ [] = drop_of_length-le (take size out) {i = size} (omega (arith, length-take-le size out h)) in
      ap (λ (l : List ℕ). (r ++ l) ++ drop size out) none ∙ ap (λ (l : List ℕ). l ++ drop size out) (append-nil r)

  -- and where it is as long as the record
  pub last_alone : (n from : ℕ) (out r : List ℕ) → length out ≡ size → (n ≡ 0 → ⊥) → from ≡ (n - 1) * size → r ≡ span j from size → r ≡ last_record_in n size j out
  last_alone n from out r e some ef er =
      er ∙ sym (append-nil (span j from size)) ∙ ap (λ (l : List ℕ). span j from size ++ l) (sym (drop_of_length-le out {i = size} (omega arith)))
      ∙ last_record n from out some ef
