-- Which records a report is about: the k-th is the k-th piece of the joined data, each has the record size, and each is read.
use mathlib.Core.Path.{◌≡◌, refl, ap, ◌∙◌}
use mathlib.Core.List.{List, [], ◌∷◌}
use Prim.Native.Nat.{ℕ, zero, suc, ◌+◌, ◌*◌, ◌/◌, ◌≤◌, ◌<◌}
use native.Mathlib.Nat.{le_trans, mul-le-mul_right, div-mul-le_self, le_of_suc-le-suc}
use native.Mathlib.Omega.{arith}
use lib.ListN.{length, take, drop, get_or}
use lib.Seq.{drop-drop}
use Rattle.definitions.specs.Bytes.{span}
use Rattle.definitions.specs.Channel.{Group, Channel, bounded_value_of}
use Rattle.definitions.specs.Report.{first_records, record_count, readings, report_of}
use Rattle.words.proofs.Spans.{length_span}

pub records_length : (n size : ℕ) (j : List ℕ) → length (first_records n size j) ≡ n
unfolding first_records
records_length zero size j = refl
records_length (suc n) size j = ap suc (records_length n size (drop size j))

pub readings_length : (g : Group) (c : Channel) (rs : List (List ℕ)) → length (readings g c rs) ≡ length rs
unfolding readings
readings_length g c [] = refl
readings_length g c (r ∷ rs) = ap suc (readings_length g c rs)

pub all_read : (g : Group) (c : Channel) (n size : ℕ) (j : List ℕ) → length (readings g c (first_records n size j)) ≡ n
all_read g c n size j = readings_length g c (first_records n size j) ∙ records_length n size j

pub report_records : (g : Group) (c : Channel) (size : ℕ) (j : List ℕ)
    → (report_of (readings g c (first_records (record_count size j) size j))).records ≡ length j / size
unfolding report_of
report_records g c size j = all_read g c (record_count size j) size j

-- ---- record k

pub record_at : (n size : ℕ) (j : List ℕ) (k : ℕ) → k < n → get_or (first_records n size j) k [] ≡ span j (k * size) size
unfolding first_records
record_at zero size j k h = absurd (omega arith)
record_at (suc n) size j zero h = let none : 0 ≡ 0 * size = omega arith in ap (λ (at : ℕ). span j at size) none
record_at (suc n) size j (suc k) h =
    let turn : size + k * size ≡ suc k * size = omega arith in
    record_at n size (drop size j) k (le_of_suc-le-suc h) ∙ ap (take size) (drop-drop (k * size) size j ∙ ap (λ (at : ℕ). drop at j) turn)

pub inside : (size : ℕ) (j : List ℕ) (k : ℕ) → k < record_count size j → k * size + size ≤ length j
inside size j k h =
    let turn : suc k * size ≡ k * size + size = omega arith in
    omega (arith, turn, le_trans (mul-le-mul_right size h) (div-mul-le_self (length j) size))

pub record_whole : (size : ℕ) (j : List ℕ) (k : ℕ) → k < record_count size j → length (get_or (first_records (record_count size j) size j) k []) ≡ size
record_whole size j k h = ap length (record_at (record_count size j) size j k h) ∙ length_span j (k * size) size (inside size j k h)

-- the k-th reading is that of the k-th record
reading_of : (g : Group) (c : Channel) (rs : List (List ℕ)) (k : ℕ) (d : List ℕ) → k < length rs
    → get_or (readings g c rs) k (bounded_value_of d g c) ≡ bounded_value_of (get_or rs k d) g c
unfolding readings
reading_of g c [] k d h = refl
reading_of g c (r ∷ rs) zero d h = refl
reading_of g c (r ∷ rs) (suc k) d h = reading_of g c rs k d (le_of_suc-le-suc h)

pub reading_at : (g : Group) (c : Channel) (n size : ℕ) (j : List ℕ) (k : ℕ) → k < n
    → get_or (readings g c (first_records n size j)) k (bounded_value_of [] g c) ≡ bounded_value_of (span j (k * size) size) g c
reading_at g c n size j k h =
    reading_of g c (first_records n size j) k [] (omega (arith, records_length n size j)) ∙ ap (λ (r : List ℕ). bounded_value_of r g c) (record_at n size j k h)
