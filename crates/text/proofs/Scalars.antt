-- Scalar values by their two ranges.
use mathlib.Core.Path.{◌≡◌, refl}
use mathlib.Core.Bool.{Bool, true, false, ◌&&◌, ◌||◌}
use Prim.Native.Nat.{ℕ, ◌≤◌, ◌<◌}
use native.Mathlib.Omega.{arith}
use borrow.Author.Tests.{ltb-true, leb-true, le-ltb, lt-ltb, le-leb}
use lib.Dec.{leb, ltb}
use Rattle.definitions.specs.Unicode.{is_scalar}

pub low_scalar : (c : ℕ) → c < 0xD800 → is_scalar c ≡ true
unfolding is_scalar
low_scalar c h = simp (lt-ltb c 0xD800 h)

pub high_scalar : (c : ℕ) → 0xE000 ≤ c → c < 0x110000 → is_scalar c ≡ true
unfolding is_scalar
high_scalar c g h = let k : 0xD800 ≤ c = omega arith in simp (le-ltb _ _ k, le-leb _ _ g, lt-ltb _ _ h)

scalar_by : (p q r : Bool) (c : ℕ) → (p ≡ true → c < 0xD800) → (q ≡ true → 0xE000 ≤ c) → (r ≡ true → c < 0x110000) → (p || (q && r)) ≡ true
    → (c < 0x110000) × (0xD800 ≤ c → 0xE000 ≤ c)
scalar_by true q r c f g k h = (omega (arith, f refl), λ l. absurd (omega (arith, f refl)))
scalar_by false true r c f g k h = (k h, λ l. g refl)
scalar_by false false r c f g k h = absurd (let z : ◌≡◌ {A = ℕ} 0 1 = cc in omega arith)

-- and back
pub scalar_range : (c : ℕ) → is_scalar c ≡ true → (c < 0x110000) × (0xD800 ≤ c → 0xE000 ≤ c)
unfolding is_scalar
scalar_range c h = scalar_by (ltb c 0xD800) (leb 0xE000 c) (ltb c 0x110000) c (ltb-true c 0xD800) (leb-true 0xE000 c) (ltb-true c 0x110000) h

pub scalar_below : (c : ℕ) → is_scalar c ≡ true → c < 0x110000
scalar_below c h = (scalar_range c h).0
