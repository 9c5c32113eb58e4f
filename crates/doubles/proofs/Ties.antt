-- A number to the nearest, as a program decides it by the 11 bits that it drops: `by_half`.
use mathlib.Core.Path.{◌≡◌}
use mathlib.Core.Bool.{not}
use Prim.Native.Nat.{ℕ, ◌+◌, ◌*◌, ◌%◌, ◌^◌, ◌≤◌, ◌<◌, compare, Ordering}
use native.Mathlib.Omega.{arith}
use lib.Dec.{T, is_le, compare_is_eq, leb→le, nleb→lt, eqb→eq}
use lib.Arith.{lt_of_le-ne}
use lib.Ieee.{nearest}
use lib.Ieee.Fits.{eq→eqb}

-- ---- what `compare` found
abbrev pub Compared : Ordering → ℕ → ℕ → Type 0
Compared Ordering.lt a b = a < b
Compared Ordering.eq a b = a ≡ b
Compared Ordering.gt a b = b < a

pub compared : (a b : ℕ) → Compared (compare a b) a b
compared a b = go (compare a b) (leb→le a b) (nleb→lt a b) (eqb→eq a b) eq→eqb
  where
    go : (o : Ordering) → (T (is_le o) → a ≤ b) → (T (not (is_le o)) → b < a) → (T (compare_is_eq o) → a ≡ b) → (a ≡ b → T (compare_is_eq o))
        → Compared o a b
    go Ordering.lt h k e n = lt_of_le-ne (h tt) n
    go Ordering.eq h k e n = e tt
    go Ordering.gt h k e n = k tt

-- ---- the bits dropped, against their half
-- Over half goes up, under half stays, and half goes to the even one.
pub by_half : (k d r : ℕ) → (0x400 < d → r ≡ k + 1) → (d < 0x400 → r ≡ k) → (d ≡ 0x400 → r ≡ k + k % 2)
    → r ≡ nearest k (compare (d * 2) (2 ^ 11))
by_half k d r up stays even = go (compare (d * 2) (2 ^ 11)) (compared (d * 2) (2 ^ 11))
  where
    go : (o : Ordering) → Compared o (d * 2) (2 ^ 11) → r ≡ nearest k o
    go Ordering.lt h = stays (omega arith)
    go Ordering.eq h = even (omega arith)
    go Ordering.gt h = let more : r ≡ k + 1 = up (omega arith) in omega arith
