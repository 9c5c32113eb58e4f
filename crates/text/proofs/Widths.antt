-- The bytes of a scalar value as UTF-8, by its size.
use mathlib.Core.Path.{◌≡◌, refl, ap}
use mathlib.Core.List.{List, [], ◌∷◌}
use mathlib.Core.Bool.{Bool, true, false}
use Prim.Native.Nat.{ℕ, suc, ◌+◌, ◌/◌, ◌%◌, ◌≤◌, ◌<◌}
use native.Mathlib.Omega.{arith}
use native.Mathlib.Numerals.{add-one}
use borrow.Author.Tests.{ltb-true, ltb-false, le-ltb, lt-ltb}
use lib.Dec.{ltb}
use lib.ListN.{length, set}
use lib.Seq.{sets}
use Rattle.definitions.specs.Unicode.{utf8_of}

pub utf8_1 : (c : ℕ) → c < 0x80 → utf8_of c ≡ c ∷ []
unfolding utf8_of
utf8_1 c h = simp (lt-ltb c 0x80 h)

pub utf8_2 : (c : ℕ) → 0x80 ≤ c → c < 0x800 → utf8_of c ≡ (0xC0 + c / 64) ∷ (0x80 + c % 64) ∷ []
unfolding utf8_of
utf8_2 c g h = simp (le-ltb c 0x80 g, lt-ltb c 0x800 h)

pub utf8_3 : (c : ℕ) → 0x800 ≤ c → c < 0x10000 → utf8_of c ≡ (0xE0 + c / 4096) ∷ (0x80 + c / 64 % 64) ∷ (0x80 + c % 64) ∷ []
unfolding utf8_of
utf8_3 c g h = simp (le-ltb c 0x80 (omega arith), le-ltb c 0x800 g, lt-ltb c 0x10000 h)

pub utf8_4 : (c : ℕ) → 0x10000 ≤ c → utf8_of c ≡ (0xF0 + c / 262144) ∷ (0x80 + c / 4096 % 64) ∷ (0x80 + c / 64 % 64) ∷ (0x80 + c % 64) ∷ []
unfolding utf8_of
utf8_4 c g = simp (le-ltb c 0x80 (omega arith), le-ltb c 0x800 (omega arith), le-ltb c 0x10000 g)

pub width_1 : (c : ℕ) → c < 0x80 → length (utf8_of c) ≡ 1
width_1 c h = ap length (utf8_1 c h)

pub width_2 : (c : ℕ) → 0x80 ≤ c → c < 0x800 → length (utf8_of c) ≡ 2
width_2 c g h = ap length (utf8_2 c g h)

pub width_3 : (c : ℕ) → 0x800 ≤ c → c < 0x10000 → length (utf8_of c) ≡ 3
width_3 c g h = ap length (utf8_3 c g h)

pub width_4 : (c : ℕ) → 0x10000 ≤ c → length (utf8_of c) ≡ 4
width_4 c g = ap length (utf8_4 c g)

-- a property of every width is one of every number: its four cases by the three tests
by_width : (P : ℕ → Type 0) (c : ℕ) (p q r : Bool) → ltb c 0x80 ≡ p → ltb c 0x800 ≡ q → ltb c 0x10000 ≡ r
    → (c < 0x80 → P c) → (0x80 ≤ c → c < 0x800 → P c) → (0x800 ≤ c → c < 0x10000 → P c) → (0x10000 ≤ c → P c) → P c
by_width P c true q r hp hq hr f g h k = f (ltb-true _ _ hp)
by_width P c false true r hp hq hr f g h k = g (ltb-false _ _ hp) (ltb-true _ _ hq)
by_width P c false false true hp hq hr f g h k = h (ltb-false _ _ hq) (ltb-true _ _ hr)
by_width P c false false false hp hq hr f g h k = k (ltb-false _ _ hr)

pub of_width : (P : ℕ → Type 0) (c : ℕ)
    → (c < 0x80 → P c) → (0x80 ≤ c → c < 0x800 → P c) → (0x800 ≤ c → c < 0x10000 → P c) → (0x10000 ≤ c → P c) → P c
of_width P c f g h k = by_width P c _ _ _ refl refl refl f g h k

-- four bytes at most, and two below 800
pub width_most : (c : ℕ) → length (utf8_of c) ≤ 4
width_most c =
    of_width (λ c. length (utf8_of c) ≤ 4) c
    (λ h. omega (arith, width_1 c h))
    (λ g h. omega (arith, width_2 c g h))
    (λ g h. omega (arith, width_3 c g h))
    (λ g. omega (arith, width_4 c g))

pub width_low : (c : ℕ) → c < 0x800 → length (utf8_of c) ≤ 2
width_low c l =
    of_width (λ c. length (utf8_of c) ≤ 2) c
    (λ h. omega (arith, width_1 c h))
    (λ g h. omega (arith, width_2 c g h))
    (λ g h. absurd (omega arith))
    (λ g. absurd (omega arith))

pub width_some : (c : ℕ) → 1 ≤ length (utf8_of c)
width_some c =
    of_width (λ c. 1 ≤ length (utf8_of c)) c
    (λ h. omega (arith, width_1 c h))
    (λ g h. omega (arith, width_2 c g h))
    (λ g h. omega (arith, width_3 c g h))
    (λ g. omega (arith, width_4 c g))

-- only ASCII takes one byte, and it is that byte
pub width_one : (c : ℕ) → length (utf8_of c) ≡ 1 → utf8_of c ≡ c ∷ []
width_one c e =
    of_width (λ c. length (utf8_of c) ≡ 1 → utf8_of c ≡ c ∷ []) c
    (λ h e. utf8_1 c h)
    (λ g h e. absurd (omega (arith, width_2 c g h)))
    (λ g h e. absurd (omega (arith, width_3 c g h)))
    (λ g e. absurd (omega (arith, width_4 c g)))
    e

-- what was a byte takes one or two
pub width_byte : (c : ℕ) → c < 256 → 1 + c / 128 ≡ length (utf8_of c)
width_byte c l =
    of_width (λ c. c < 256 → 1 + c / 128 ≡ length (utf8_of c)) c
    (λ h l. omega (arith, width_1 c h))
    (λ g h l. omega (arith, width_2 c g h))
    (λ g h l. absurd (omega arith))
    (λ g l. absurd (omega arith))
    l

-- stores at a place and behind it are the run of stores of a scalar value's bytes
pub put_2 : (l : List ℕ) (i c : ℕ) → 0x80 ≤ c → c < 0x800 → set (set l i (0xC0 + c / 64)) (i + 1) (0x80 + c % 64) ≡ sets l i (utf8_of c)
put_2 l i c g h = rw (utf8_2 c g h, add-one)

pub put_3 : (l : List ℕ) (i c : ℕ) → 0x800 ≤ c → c < 0x10000
    → set (set (set l i (0xE0 + c / 4096)) (i + 1) (0x80 + c / 64 % 64)) (i + 2) (0x80 + c % 64) ≡ sets l i (utf8_of c)
put_3 l i c g h = let e : i + 2 ≡ suc (suc i) = omega arith in simp (utf8_3 c g h, add-one, e)

pub put_4 : (l : List ℕ) (i c : ℕ) → 0x10000 ≤ c
    → set (set (set (set l i (0xF0 + c / 262144)) (i + 1) (0x80 + c / 4096 % 64)) (i + 2) (0x80 + c / 64 % 64)) (i + 3) (0x80 + c % 64)
    ≡ sets l i (utf8_of c)
put_4 l i c g =
    let e : i + 2 ≡ suc (suc i) = omega arith in
    let f : i + 3 ≡ suc (suc (suc i)) = omega arith in
    simp (utf8_4 c g, add-one, e, f)
