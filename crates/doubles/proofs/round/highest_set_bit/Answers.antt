-- `round::highest_set_bit` meets its contract: `leading_top` has the place of the bit.
use mathlib.Core.Path.{◌≡◌, subst}
use Prim.Native.Nat.{ℕ, suc, ◌+◌, ◌-◌, ◌^◌, ◌≤◌, ◌<◌}
use native.Mathlib.Omega.{arith}
use lib.Count.{count_leading_zeros, leading_top}
use Rattle.doubles.proofs.round.highest_set_bit.Goals as goal

below : (n z j : ℕ) → z + suc j ≡ 64 → 2 ^ j ≤ n → n < 2 ^ suc j → (63 - z < 64) × (2 ^ (63 - z) ≤ n) × (n < 2 ^ (63 - z + 1))
below n z j e lo hi =
    let place : j ≡ 63 - z = omega arith in
    let next : suc j ≡ 63 - z + 1 = omega arith in
    (omega arith, subst (λ (x : ℕ). 2 ^ x ≤ n) place lo, subst (λ (x : ℕ). n < 2 ^ x) next hi)

pub overflow_sub-result : goal.overflow_sub-result
overflow_sub-result c =
    let t = leading_top 64 c.args.n c.requires c.ranges.n.fits in
    omega (arith, t.1)

pub returns : goal.returns
returns c =
    let n = c.args.n in
    let t = leading_top 64 n c.requires c.ranges.n.fits in
    below n (count_leading_zeros 64 n) t.0 t.1 t.2 t.3
