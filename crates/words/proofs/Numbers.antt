-- The number that bytes stand for, in either order, and the bytes of a number.
use mathlib.Core.Path.{◌≡◌, refl, sym, ap, ap₂, ◌∙◌}
use mathlib.Core.List.{List, [], ◌∷◌, ◌++◌, reverse, reverse-cons, reverse-append}
use Prim.Native.Nat.{ℕ, zero, suc, ◌+◌, ◌*◌, ◌/◌, ◌%◌, ◌^◌, ◌<◌}
use native.Mathlib.Nat.{mul-suc, mod-one, mod-lt}
use native.Mathlib.Omega.{arith}
use lib.ListN.{length, get_or, length-append, length-reverse}
use lib.Arith.{digits_lt}
use lib.Pow.{pow-add, mod-pow-add, high, low}
use Rattle.definitions.specs.Bytes.{Order, little, big, le_of, number_of, le, les, u64s_at}
use Rattle.words.specs.Sides.{lower, upper}

-- every element is a byte, as the logic says it of a slice of them
abbrev pub Bytes : List ℕ → Type 0
Bytes xs = (i : ℕ) → get_or xs i 0 < 256

-- one byte more of weight
pub up : (n : ℕ) → 2 ^ (8 * suc n) ≡ 2 ^ (8 * n) * 256
up n = ap (λ (k : ℕ). 2 ^ k) (mul-suc 8 n) ∙ pow-add 2 (8 * n) 8

le_append : (xs ys : List ℕ) → le_of (xs ++ ys) ≡ le_of ys * 2 ^ (8 * length xs) + le_of xs
unfolding le_of
le_append [] ys = omega arith
le_append (x ∷ xs) ys = omega (arith, le_append xs ys, ap (λ (p : ℕ). le_of ys * p) (up (length xs)))

-- the number of bytes and then others
pub append : (o : Order) (xs ys : List ℕ)
    → number_of o (xs ++ ys) ≡ number_of o (upper o xs ys) * 2 ^ (8 * length (lower o xs ys)) + number_of o (lower o xs ys)
append little xs ys = le_append xs ys
append big xs ys = rw (reverse-append, le_append, length-reverse)

pub bytes_append : (xs ys : List ℕ) → Bytes xs → Bytes ys → Bytes (xs ++ ys)
bytes_append [] ys a b i = b i
bytes_append (x ∷ xs) ys a b zero = a zero
bytes_append (x ∷ xs) ys a b (suc i) = bytes_append xs ys (λ j. a (suc j)) b i

pub bytes_cons : (x : ℕ) (xs : List ℕ) → x < 256 → Bytes xs → Bytes (x ∷ xs)
bytes_cons x xs h b zero = h
bytes_cons x xs h b (suc i) = b i

pub bytes_four : (x y z t : ℕ) → x < 256 → y < 256 → z < 256 → t < 256 → Bytes (x ∷ y ∷ z ∷ t ∷ [])
bytes_four x y z t hx hy hz ht zero = hx
bytes_four x y z t hx hy hz ht (suc zero) = hy
bytes_four x y z t hx hy hz ht (suc (suc zero)) = hz
bytes_four x y z t hx hy hz ht (suc (suc (suc zero))) = ht
bytes_four x y z t hx hy hz ht (suc (suc (suc (suc i)))) = omega arith

pub bytes_reverse : (xs : List ℕ) → Bytes xs → Bytes (reverse xs)
bytes_reverse [] h = h
bytes_reverse (x ∷ xs) h =
    rw reverse-cons
    (bytes_append (reverse xs) (x ∷ []) (bytes_reverse xs (λ i. h (suc i))) (bytes_cons x [] (h zero) (λ i. omega arith)))

le_below : (xs : List ℕ) → Bytes xs → le_of xs < 2 ^ (8 * length xs)
unfolding le_of
le_below [] h = omega arith
le_below (x ∷ xs) h = rw up (digits_lt (le_below xs (λ i. h (suc i))) (h zero))

-- n bytes stand for a number below 2 ^ (8 * n)
pub below : (o : Order) (xs : List ℕ) → Bytes xs → number_of o xs < 2 ^ (8 * length xs)
below little xs h = le_below xs h
below big xs h = rw length-reverse at (le_below (reverse xs) (bytes_reverse xs h))

pub length_le : (n x : ℕ) → length (le n x) ≡ n
unfolding le
length_le zero x = refl
length_le (suc n) x = ap suc (length_le n (x / 256))

pub length_les : (xs : List ℕ) → length (les xs) ≡ length xs * 8
unfolding les
length_les [] = refl
length_les (x ∷ xs) = omega (arith, length-append (le 8 x) (les xs), length_les xs, length_le 8 x)

pub length_u64s : (n : ℕ) (s : List ℕ) (at : ℕ) → length (u64s_at s at n) ≡ n
unfolding u64s_at
length_u64s zero s at = refl
length_u64s (suc n) s at = ap suc (length_u64s n s (at + 8))

pub bytes_le : (n x : ℕ) → Bytes (le n x)
unfolding le
bytes_le zero x i = omega arith
bytes_le (suc n) x i = bytes_cons (x % 256) (le n (x / 256)) (mod-lt x (omega arith)) (bytes_le n (x / 256)) i

-- the number of a number's n bytes is what fits into them
pub le_back : (n x : ℕ) → le_of (le n x) ≡ x % 2 ^ (8 * n)
unfolding le_of le
le_back zero x = sym (mod-one x)
le_back (suc n) x =
    rw (le_back n (x / 256)) (sym (ap (λ (k : ℕ). x % 2 ^ k) (mul-suc 8 n) ∙ mod-pow-add x (8 * n) 8))

-- the bytes of the number of some bytes are these
pub back_le : (bs : List ℕ) → Bytes bs → le (length bs) (le_of bs) ≡ bs
unfolding le_of le
back_le [] h = refl
back_le (b ∷ bs) h =
    ap₂ (λ (x : ℕ) (xs : List ℕ). x ∷ xs) (low (le_of bs) 8 (h zero))
    (ap (le (length bs)) (high (le_of bs) 8 (h zero)) ∙ back_le bs (λ i. h (suc i)))

-- as many bytes with the same number are the same bytes
pub one_number : (xs ys : List ℕ) → Bytes xs → Bytes ys → length xs ≡ length ys → le_of xs ≡ le_of ys → xs ≡ ys
one_number xs ys a b l e = sym (back_le xs a) ∙ ap₂ le l e ∙ back_le ys b
