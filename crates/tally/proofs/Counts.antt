-- One reading more behind the others, in the counts, the points and the sum; and what there is where none is valid.
use Rattle.std.specs.Prelude.{if◌then◌else◌}
use Rattle.std.proofs.Common.{◌≡◌, ℕ, suc, ◌+◌, Bool, true, false, not, ◌&&◌, List, [], ◌∷◌, ◌++◌, length, ℤ, pos, ◌+ℤ◌, sym, refl, ap, ◌∙◌, zero-add, arith}
use lib.IntN.{+ℤ_assoc, +ℤ_idl, +ℤ_idr}
use lib.Ieee.{is_nan}
use Rattle.definitions.specs.Reply.{Reply, answer, refusal}
use Rattle.definitions.specs.Channel.{ValidValue}
use Rattle.definitions.specs.Report.{Point, count, is_valid, is_invalid, has_no_value, double_read, is_valid_nan, points, summand, sum_of}
use Rattle.tally.proofs.Foremost.{Numerals}

-- ---- one more

pub count_more : {A : Type 0} (p : A → Bool) (xs : List A) (x : A) → count p (xs ++ x ∷ []) ≡ count p xs + (if p x then 1 else 0)
unfolding count
count_more p [] x = omega arith
count_more p (y ∷ xs) x = let e = count_more p xs x in omega arith

pub sum_more : (xs : List (Reply ValidValue)) (x : Reply ValidValue) → sum_of (xs ++ x ∷ []) ≡ sum_of xs +ℤ summand x
unfolding sum_of
sum_more [] x = +ℤ_idr (summand x) ∙ sym (+ℤ_idl (summand x))
sum_more (y ∷ xs) x = ap (λ (z : ℤ). summand y +ℤ z) (sum_more xs x) ∙ sym (+ℤ_assoc (summand y) (sum_of xs) (summand x))

abbrev is_point : Reply ValidValue → Bool
is_point x = is_valid x && not (is_nan (double_read x))

abbrev pub point_read : ℕ → Reply ValidValue → Point
point_read k x = record { number = k; value = double_read x }

abbrev pub point_of : ℕ → Reply ValidValue → List Point
point_of k x = if is_point x then point_read k x ∷ [] else []

next : (k n : ℕ) → k + 1 + n ≡ k + suc n
next k n = omega arith

points_from : (k : ℕ) (xs : List (Reply ValidValue)) (x : Reply ValidValue) → points k (xs ++ x ∷ []) ≡ points k xs ++ point_of (k + length xs) x
unfolding points
points_from k [] x = go (is_point x)
  where
    go : (t : Bool) → (if t then point_read k x ∷ [] else []) ≡ (if t then point_read (k + 0) x ∷ [] else [])
    go true = ap (λ (n : ℕ). point_read n x ∷ []) (omega arith)
    go false = refl
points_from k (y ∷ xs) x = go (is_point y) (points_from (k + 1) xs x ∙ ap (λ (n : ℕ). points (k + 1) xs ++ point_of n x) (next k (length xs)))
  where
    go : (t : Bool) → points (k + 1) (xs ++ x ∷ []) ≡ points (k + 1) xs ++ point_of (k + suc (length xs)) x
        → (if t then point_read k y ∷ points (k + 1) (xs ++ x ∷ []) else points (k + 1) (xs ++ x ∷ []))
        ≡ (if t then point_read k y ∷ points (k + 1) xs else points (k + 1) xs) ++ point_of (k + suc (length xs)) x
    go true e = ap (λ (ps : List Point). point_read k y ∷ ps) e
    go false e = e

pub points_more : (xs : List (Reply ValidValue)) (x : Reply ValidValue) → points 0 (xs ++ x ∷ []) ≡ points 0 xs ++ point_of (length xs) x
points_more xs x = points_from 0 xs x ∙ ap (λ (n : ℕ). points 0 xs ++ point_of n x) (omega arith)

-- ---- no point is a NaN

pub numerals : (k : ℕ) (xs : List (Reply ValidValue)) → Numerals (points k xs)
unfolding points Numerals
numerals k [] = tt
numerals k (x ∷ xs) = go (is_valid x) (is_nan (double_read x)) refl (numerals (k + 1) xs)
  where
    go : (t n : Bool) → is_nan (double_read x) ≡ n → Numerals (points (k + 1) xs)
        → Numerals (if t && not n then point_read k x ∷ points (k + 1) xs else points (k + 1) xs)
    go true false e h = (e, h)
    go true true e h = h
    go false n e h = h

-- ---- each reading is counted once

shared : (x : Reply ValidValue) → (if is_valid x then 1 else 0) + (if is_invalid x then 1 else 0) + (if has_no_value x then 1 else 0) ≡ 1
shared (answer v) = go v.valid
  where
    go : (t : Bool) → (if t then 1 else 0) + (if not t then 1 else 0) + 0 ≡ 1
    go true = refl
    go false = refl
shared (refusal n t) = refl

pub each_once : (xs : List (Reply ValidValue)) → count is_valid xs + count is_invalid xs + count has_no_value xs ≡ length xs
unfolding count
each_once [] = refl
each_once (x ∷ xs) = let e = each_once xs in let s = shared x in omega arith

-- ---- where none is valid

none_valid : (x : Reply ValidValue) (n : ℕ) → (if is_valid x then 1 else 0) + n ≡ 0 → (is_valid x ≡ false) × (n ≡ 0)
none_valid x n = go (is_valid x) refl
  where
    go : (t : Bool) → is_valid x ≡ t → (if t then 1 else 0) + n ≡ 0 → (is_valid x ≡ false) × (n ≡ 0)
    go true e h = absurd (omega arith)
    go false e h = (e, omega arith)

no_summand : (x : Reply ValidValue) → is_valid x ≡ false → summand x ≡ pos 0
no_summand (answer v) e = rw e
no_summand (refusal n t) e = refl

pub no_nan : (xs : List (Reply ValidValue)) → count is_valid xs ≡ 0 → count is_valid_nan xs ≡ 0
unfolding count
no_nan [] h = refl
no_nan (x ∷ xs) h = let n = none_valid x (count is_valid xs) h in rw n.0 (zero-add (count is_valid_nan xs) ∙ no_nan xs n.1)

pub no_points : (k : ℕ) (xs : List (Reply ValidValue)) → count is_valid xs ≡ 0 → points k xs ≡ []
unfolding count points
no_points k [] h = refl
no_points k (x ∷ xs) h = let n = none_valid x (count is_valid xs) h in rw n.0 (no_points (k + 1) xs n.1)

pub no_sum : (xs : List (Reply ValidValue)) → count is_valid xs ≡ 0 → sum_of xs ≡ pos 0
unfolding count sum_of
no_sum [] h = refl
no_sum (x ∷ xs) h = let n = none_valid x (count is_valid xs) h in rw (no_summand x n.0, no_sum xs n.1) refl
