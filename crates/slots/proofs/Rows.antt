-- A record among others of its size.
use mathlib.Core.Path.{◌≡◌}
use Prim.Native.Nat.{ℕ, suc, ◌+◌, ◌*◌, ◌≤◌, ◌<◌}
use native.Mathlib.Omega.{arith}
use native.Mathlib.Nat.{suc-mul, mul-le-mul_right}

-- record i of n ends inside what holds all n
pub inside : (i n size room : ℕ) → i < n → n * size ≤ room → i * size + size ≤ room
inside i n size room h fits =
    let m : suc i * size ≤ n * size = mul-le-mul_right size h in
    let e : suc i * size ≡ i * size + size = suc-mul i size in
    omega arith
