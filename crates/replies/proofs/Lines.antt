-- A report and its sum in two words, both ways.
use mathlib.Core.Path.{◌≡◌, ap, ◌∙◌}
use Prim.Native.Nat.{ℕ, suc, ◌+◌, ◌-◌, ◌*◌, ◌/◌, ◌%◌, ◌<◌}
use native.Mathlib.Omega.{arith}
use lib.IntN.{ℤ, pos, negsuc, neg_ℤ, ◌+ℤ◌, ◌*ℤ◌}
use borrow.Author.Tests.{lt-ltb}
use Rattle.replies.specs.Reports.{high_of, low_of}

-- ---- the sum

abbrev pub of_words : ℤ → ℕ → ℤ
of_words high low = high *ℤ pos 18446744073709551616 +ℤ pos low

-- a high word below 0
below_zero : (a low : ℕ) → low < 18446744073709551616
    → of_words (negsuc a) low ≡ negsuc (a * 18446744073709551616 + (18446744073709551615 - low))
below_zero a low h =
    let m : ℕ = a * 18446744073709551616 + 18446744073709551615 in
    let whole : suc a * 18446744073709551616 ≡ suc m = omega arith in
    let less : low < suc m = omega arith in
    let rest : suc m - suc low ≡ a * 18446744073709551616 + (18446744073709551615 - low) = omega arith in
    ap (λ (n : ℕ). neg_ℤ (pos n) +ℤ pos low) whole ∙ rw (lt-ltb low (suc m) less) (ap negsuc rest)

pub high_back : (high : ℤ) (low : ℕ) → low < 18446744073709551616 → high_of (of_words high low) ≡ high
high_back (pos n) low h = let e : (n * 18446744073709551616 + low) / 18446744073709551616 ≡ n = omega arith in ap pos e
high_back (negsuc a) low h =
    let e : (a * 18446744073709551616 + (18446744073709551615 - low)) / 18446744073709551616 ≡ a = omega arith in
    ap high_of (below_zero a low h) ∙ ap negsuc e

pub low_back : (high : ℤ) (low : ℕ) → low < 18446744073709551616 → low_of (of_words high low) ≡ low
low_back (pos n) low h = omega arith
low_back (negsuc a) low h =
    let e : 18446744073709551615 - (a * 18446744073709551616 + (18446744073709551615 - low)) % 18446744073709551616 ≡ low = omega arith in
    ap low_of (below_zero a low h) ∙ e

pub sum_back : (z : ℤ) → of_words (high_of z) (low_of z) ≡ z
sum_back (pos n) = let e : n / 18446744073709551616 * 18446744073709551616 + n % 18446744073709551616 ≡ n = omega arith in ap pos e
sum_back (negsuc k) =
    let low : ℕ = 18446744073709551615 - k % 18446744073709551616 in
    let fits : low < 18446744073709551616 = omega arith in
    let e : k / 18446744073709551616 * 18446744073709551616 + (18446744073709551615 - low) ≡ k = omega arith in
    below_zero (k / 18446744073709551616) low fits ∙ ap negsuc e
