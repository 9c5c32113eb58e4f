-- Every record is counted once: its value is valid, or invalid, or there is none. And each valid one is a NaN or has its place
-- among the doubles.
use Rattle.std.specs.Prelude.{if◌then◌else◌}
use mathlib.Core.Path.{◌≡◌, refl}
use mathlib.Core.Bool.{Bool, true, false, not, ◌&&◌}
use mathlib.Core.List.{List, [], ◌∷◌}
use Prim.Native.Nat.{ℕ, ◌+◌}
use native.Mathlib.Omega.{arith}
use lib.ListN.{length}
use lib.Ieee.{is_nan}
use Rattle.definitions.specs.Reply.{Reply, answer, refusal}
use Rattle.definitions.specs.Channel.{ValidValue}
use Rattle.definitions.specs.Report.{Point, count, is_valid, is_invalid, has_no_value, double_read, is_valid_nan, points, report_of}

abbrev one : Bool → ℕ
one b = if b then 1 else 0

-- ---- valid, invalid, none

of_two : (b : Bool) → one b + one (not b) + one false ≡ 1
of_two true = refl
of_two false = refl

of_three : (x : Reply ValidValue) → one (is_valid x) + one (is_invalid x) + one (has_no_value x) ≡ 1
of_three (answer v) = of_two v.valid
of_three (refusal n t) = refl

pub counted : (xs : List (Reply ValidValue)) → count is_valid xs + count is_invalid xs + count has_no_value xs ≡ length xs
unfolding count
counted [] = refl
counted (x ∷ xs) = omega (arith, of_three x, counted xs)

pub report_counted : (xs : List (Reply ValidValue)) → (report_of xs).records ≡ (report_of xs).valid + (report_of xs).invalid + (report_of xs).without_value
unfolding report_of
report_counted xs = omega (arith, counted xs)

-- ---- NaN, or one of the doubles

length_with : (b : Bool) (p : Point) (ps : List Point) → length (if b then p ∷ ps else ps) ≡ one b + length ps
length_with true p ps = omega arith
length_with false p ps = omega arith

of_valid : (valid nan : Bool) → one (valid && nan) + one (valid && not nan) ≡ one valid
of_valid true true = refl
of_valid true false = refl
of_valid false nan = refl

pub valid_counted : (k : ℕ) (xs : List (Reply ValidValue)) → count is_valid_nan xs + length (points k xs) ≡ count is_valid xs
unfolding count points
valid_counted k [] = refl
valid_counted k (x ∷ xs) =
    omega (
      arith,
      length_with (is_valid x && not (is_nan (double_read x))) (record { number = k; value = double_read x }) (points (k + 1) xs),
      of_valid (is_valid x) (is_nan (double_read x)),
      valid_counted (k + 1) xs,
    )

pub report_valid : (xs : List (Reply ValidValue)) → (report_of xs).nan + length (points 0 xs) ≡ (report_of xs).valid
unfolding report_of
report_valid xs = valid_counted 0 xs
