-- Which doubles the outermost ones are taken from: exactly those of the valid values that are no NaN, in the order of the records,
-- each with the number of its record, where every record counts.
use Rattle.std.specs.Prelude.{if◌then◌else◌}
use mathlib.Core.Path.{◌≡◌, refl, ap}
use mathlib.Core.Bool.{Bool, true, false, not, ◌&&◌, true≢false, false≢true}
use mathlib.Core.List.{List, [], ◌∷◌}
use Prim.Native.Nat.{ℕ, zero, suc, ◌+◌, ◌≤◌, ◌<◌, zero-le, suc-le-suc}
use native.Mathlib.Nat.{le_of_suc-le-suc}
use native.Mathlib.Omega.{arith}
use lib.ListN.{length, get_or}
use lib.Ieee.{Float, is_nan}
use Rattle.definitions.specs.Reply.{Reply, refusal}
use Rattle.definitions.specs.Channel.{ValidValue}
use Rattle.definitions.specs.Report.{Point, is_valid, double_read, points}
use Rattle.theorems.specs.Reports.{All, Gives, Among, Ascending}

abbrev point_of : ℕ → Float → Point
point_of k x = record { number = k; value = x }

-- ---- each is of a record

gives_later : (k : ℕ) (x : Reply ValidValue) (xs : List (Reply ValidValue)) (p : Point) → Gives (k + 1) xs p → Gives k (x ∷ xs) p
gives_later k x xs p g = record {
  place = suc g.place;
  one = suc-le-suc g.one;
  number = omega (arith, g.number);
  valid = g.valid;
  value = g.value;
}

all_later : (k : ℕ) (x : Reply ValidValue) (xs : List (Reply ValidValue)) (ps : List Point) → All (Gives (k + 1) xs) ps → All (Gives k (x ∷ xs)) ps
all_later k x xs [] a = tt
all_later k x xs (p ∷ ps) a = (gives_later k x xs p a.0, all_later k x xs ps a.1)

module _ (k : ℕ) (x : Reply ValidValue) (xs : List (Reply ValidValue)) (ps : List Point) where
  gives_with : (valid nan : Bool) → is_valid x ≡ valid → All (Gives k (x ∷ xs)) ps
      → All (Gives k (x ∷ xs)) (if valid && not nan then point_of k (double_read x) ∷ ps else ps)
  gives_with true false e a = (record { place = 0; one = suc-le-suc zero-le; number = omega arith; valid = e; value = refl }, a)
  gives_with true true e a = a
  gives_with false nan e a = a

pub points_read : (k : ℕ) (xs : List (Reply ValidValue)) → All (Gives k xs) (points k xs)
unfolding points
points_read k [] = tt
points_read k (x ∷ xs) =
    gives_with k x xs (points (k + 1) xs) (is_valid x) (is_nan (double_read x)) refl (all_later k x xs (points (k + 1) xs) (points_read (k + 1) xs))

-- ---- in the order of the records

ascending_from : (k l : ℕ) (ps : List Point) → k ≤ l → Ascending l ps → Ascending k ps
ascending_from k l [] h a = tt
ascending_from k l (p ∷ ps) h a = (omega (arith, a.0), a.1)

ascending_with : (k : ℕ) (x : Float) (ps : List Point) (b : Bool) → Ascending (k + 1) ps → Ascending k (if b then point_of k x ∷ ps else ps)
ascending_with k x ps true a = (omega arith, a)
ascending_with k x ps false a = ascending_from k (k + 1) ps (omega arith) a

pub points_ascend : (k : ℕ) (xs : List (Reply ValidValue)) → Ascending k (points k xs)
unfolding points
points_ascend k [] = tt
points_ascend k (x ∷ xs) =
    ascending_with k (double_read x) (points (k + 1) xs) (is_valid x && not (is_nan (double_read x))) (points_ascend (k + 1) xs)

-- ---- and none is left out

module _ (p : Point) where
  among_with : (q : Point) (b : Bool) (ps : List Point) → Among ps p → Among (if b then q ∷ ps else ps) p
  among_with q true ps a = record { earlier = q ∷ a.earlier; later = a.later; one = ap (λ (l : List Point). q ∷ l) a.one }
  among_with q false ps a = a

  among_first : (valid nan : Bool) (ps : List Point) → valid ≡ true → nan ≡ false → Among (if valid && not nan then p ∷ ps else ps) p
  among_first true false ps e f = record { earlier = []; later = ps; one = refl }
  among_first true true ps e f = absurd (true≢false f)
  among_first false nan ps e f = absurd (false≢true e)

pub points_all : (k : ℕ) (xs : List (Reply ValidValue)) (i : ℕ) → i < length xs → is_valid (get_or xs i (refusal 0 0)) ≡ true
    → is_nan (double_read (get_or xs i (refusal 0 0))) ≡ false → Among (points k xs) (point_of (k + i) (double_read (get_or xs i (refusal 0 0))))
unfolding points
points_all k [] i h v n = absurd (omega arith)
points_all k (x ∷ xs) zero h v n =
    let e : k + 0 ≡ k = omega arith in
    rw e (among_first (point_of k (double_read x)) (is_valid x) (is_nan (double_read x)) (points (k + 1) xs) v n)
points_all k (x ∷ xs) (suc i) h v n =
    let e : k + suc i ≡ k + 1 + i = omega arith in
    rw e (among_with (point_of (k + 1 + i) (double_read (get_or xs i (refusal 0 0)))) (point_of k (double_read x)) (is_valid x && not (is_nan (double_read x))) (points (k + 1) xs)
    (points_all (k + 1) xs i (le_of_suc-le-suc h) v n))
