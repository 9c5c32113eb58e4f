-- No double is nearer to an integer than the one that rounding makes, and where another is as near, the last digit of the
-- one made is 0: `nearest`, for both signs, among the doubles of both signs.
use mathlib.Core.Path.{◌≡◌, refl, sym, ap, ◌∙◌, subst}
use mathlib.Core.Logic.{◌⊎◌, inl, inr, ⊎_elim}
use mathlib.Core.Bool.{Bool, true, false, cond}
use Prim.Native.Nat.{ℕ, zero, suc, ◌+◌, ◌-◌, ◌*◌, ◌/◌, ◌%◌, ◌^◌, ◌≤◌, ◌<◌, zero-le}
use Prim.Native.Nat.{compare, Ordering}
use native.Mathlib.Nat.{le_trans, le_of_eq, lt_of_lt_of_le, lt_of_le_of_lt, eq-zero-or-pos}
use native.Mathlib.Nat.{mul-le-mul_right, mul_assoc, suc-mul, div-add-mod', mod-lt}
use native.Mathlib.Omega.{arith}
use lib.Dec.{eqb, leb, lit<}
use lib.Pow.{pow-add, pow_pos, pow_mono, shl_lt}
use lib.Ieee as ieee
use lib.Ieee.{Float, nan, inf, binary64, odd, round, of_fields, of_bits, to_bits}
use lib.Ieee.Exact.{HasValue, odd_sign}
use lib.Ieee.Nearest.{closest}
use Rattle.definitions.specs.Ieee754.{unit, signed_distance, double_of_sign, Nearest}
use Rattle.doubles.proofs.Pattern.{sign_bit, one_size}
use Rattle.definitions.proofs.Replies.{le_or_lt}
use Rattle.doubles.proofs.Ties.{Compared, compared}
use Rattle.doubles.proofs.Whole.{dropped, kept, reaches, value_kept, pattern_kept, read_back}

-- ---- among the multiples of u
abbrev distance : ℕ → ℕ → ℕ
distance a b = a - b + (b - a)

-- C, which is c times something, is as near to a as X is, and nearer unless X is C or c is even
abbrev Best : ℕ → ℕ → ℕ → ℕ → Type 0
Best a c C X = (distance a C ≤ distance a X) × (distance a C ≡ distance a X → (X ≡ C) ⊎ (c % 2 ≡ 0))

-- of two multiples one is no greater, or greater by u at least
steps : (t w u : ℕ) → (t * u ≤ w * u) ⊎ (w * u + u ≤ t * u)
steps t w u = elim (le_or_lt t w) [
  | inl h ↦ inl (mul-le-mul_right u h)
  | inr h ↦ inr (le_trans (le_of_eq (sym (suc-mul w u))) (mul-le-mul_right u h))
]

one_more : (w u P : ℕ) → w * u ≡ P → suc w * u ≡ P + u
one_more w u P p = suc-mul w u ∙ ap (λ (y : ℕ). y + u) p

-- a is P = w * u and r more, and X is another multiple
best_at : (o : Ordering) (a w r u P X : ℕ) → P + r ≡ a → r < u → w * u ≡ P → (X ≤ P) ⊎ (P + u ≤ X) → Compared o (r * 2) u
    → Best a (ieee.nearest w o) (ieee.nearest w o * u) X
best_at Ordering.lt a w r u P X e l p (inl x) c =
    subst (λ (C : ℕ). Best a w C X) (sym p) (omega arith, λ h. inl (omega arith))
best_at Ordering.lt a w r u P X e l p (inr x) c =
    subst (λ (C : ℕ). Best a w C X) (sym p) (omega arith, λ h. absurd (omega arith))
best_at Ordering.eq a w r u P X e l p x c = go (w % 2) refl (mod-lt w (lit< tt)) x
  where
    even : (w + w % 2) % 2 ≡ 0
    even = omega arith

    down : w % 2 ≡ 0 → (w + w % 2) * u ≡ P
    down f = let z : w + w % 2 ≡ w = omega arith in ap (λ (y : ℕ). y * u) z ∙ p

    up : w % 2 ≡ 1 → (w + w % 2) * u ≡ P + u
    up f = let z : w + w % 2 ≡ suc w = omega arith in ap (λ (y : ℕ). y * u) z ∙ one_more w u P p

    near : (C : ℕ) → (C ≡ P) ⊎ (C ≡ P + u) → (X ≤ P) ⊎ (P + u ≤ X) → distance a C ≤ distance a X
    near C (inl f) (inl z) = omega arith
    near C (inl f) (inr z) = omega arith
    near C (inr f) (inl z) = omega arith
    near C (inr f) (inr z) = omega arith

    go : (y : ℕ) → w % 2 ≡ y → y < 2 → (X ≤ P) ⊎ (P + u ≤ X) → Best a (w + w % 2) ((w + w % 2) * u) X
    go zero f k z = (near ((w + w % 2) * u) (inl (down f)) z, λ h. inr even)
    go (suc zero) f k z = (near ((w + w % 2) * u) (inr (up f)) z, λ h. inr even)
    go (suc (suc y)) f k z = absurd (omega arith)
best_at Ordering.gt a w r u P X e l p (inl x) c =
    subst (λ (C : ℕ). Best a (suc w) C X) (sym (one_more w u P p)) (omega arith, λ h. absurd (omega arith))
best_at Ordering.gt a w r u P X e l p (inr x) c =
    subst (λ (C : ℕ). Best a (suc w) C X) (sym (one_more w u P p)) (omega arith, λ h. inl (omega arith))

closest_best : (a u t : ℕ) → 0 < u → Best a (closest a u) (closest a u * u) (t * u)
closest_best a u t h =
    let w : ℕ = a / u in
    let r : ℕ = a % u in
    best_at (compare (r * 2) u) a w r u (w * u) (t * u) (div-add-mod' a u) (mod-lt a h) refl (steps t w u) (compared (r * 2) u)

-- ---- among the sizes of doubles, m * 2^e with an m of 53 digits, where N is a number of units
-- B is a multiple that is at most N, and X is below it
farther : (N c C B X : ℕ) → Best N c C B → B ≤ N → X < B → Best N c C X
farther N c C B X b l x = (omega arith, λ h. absurd (omega arith))

kept_best : (N m e : ℕ) → m < 2 ^ 53 → Best N (kept N) (kept N * 2 ^ dropped N) (m * 2 ^ e)
kept_best N m e h = elim (le_or_lt (dropped N) e) [
  | inl l ↦
      let k = dropped N in
      let is : m * 2 ^ (e - k) * 2 ^ k ≡ m * 2 ^ e =
      mul_assoc m (2 ^ (e - k)) (2 ^ k) ∙ ap (λ (y : ℕ). m * y) (sym (pow-add 2 (e - k) k) ∙ ap (λ (y : ℕ). 2 ^ y) (rejoin e k l)) in
      subst (λ (X : ℕ). Best N (kept N) (kept N * 2 ^ k) X) is (closest_best N (2 ^ k) (m * 2 ^ (e - k)) (pow_pos k))
  | inr l ↦
      let k = dropped N in
      farther N (kept N) (kept N * 2 ^ k) (2 ^ 52 * 2 ^ k) (m * 2 ^ e) (closest_best N (2 ^ k) (2 ^ 52) (pow_pos k))
      (le_trans (le_of_eq (sym (pow-add 2 52 k))) (reaches N (lt_of_le_of_lt zero-le l)))
      (lt_of_lt_of_le (shl_lt 53 e h) (le_trans (pow_mono (below e k l)) (le_of_eq (pow-add 2 52 k))))
]
  where
    rejoin : (e k : ℕ) → k ≤ e → e - k + k ≡ e
    rejoin e k l = omega arith

    below : (e k : ℕ) → e < k → 53 + e ≤ 52 + k
    below e k l = omega arith

-- ---- every pattern's size is such an m * 2^e
abbrev Size : ℕ → Type 0
Size a = (m : ℕ) × (e : ℕ) × (m < 2 ^ 53) × (a ≡ m * 2 ^ e)

odd_size : (s t : Bool) (q x a : ℕ) → q < 2 ^ 53 → HasValue (odd 53 s q x 1074) t a unit → Size a
odd_size s t q x a h v = (q, x, h, one_size (odd 53 s q x 1074) t s a (q * 2 ^ x) unit v (odd_sign 53 s q x 1074))

fields_size : (s t : Bool) (x d a : ℕ) → d < 2 ^ 52 → HasValue (of_fields binary64 s x d) t a unit → Size a
unfolding of_fields
fields_size s t zero d a h v = odd_size s t d 0 a (omega arith) v
fields_size s t (suc x) d a h v = go (eqb (suc x) 2047) (eqb d 0) v
  where
    go : (y z : Bool) → HasValue (cond y (cond z (inf s) nan) (odd 53 s (2 ^ 52 + d) x 1074)) t a unit → Size a
    go true true w = absurd w
    go true false w = absurd w
    go false z w = odd_size s t (2 ^ 52 + d) x a (omega arith) w

size_of : (b : ℕ) (t : Bool) (a : ℕ) → HasValue (of_bits binary64 b) t a unit → Size a
unfolding of_bits
size_of b t a v = fields_size (leb (2 ^ 63) b) t (b % 2 ^ 63 / 2 ^ 52) (b % 2 ^ 52) a (mod-lt b (pow_pos 52)) v

-- ---- and of both signs: a double of the other sign is no nearer than 0 is
abbrev BestSigned : Bool → ℕ → ℕ → ℕ → Bool → ℕ → Type 0
BestSigned s N c C t a = (signed_distance s N s C ≤ signed_distance s N t a) × (signed_distance s N s C ≡ signed_distance s N t a → (a ≡ C) ⊎ (c % 2 ≡ 0))

across : (N c C a : ℕ) → Best N c C 0 → (distance N C ≤ N + a) × (distance N C ≡ N + a → (a ≡ C) ⊎ (c % 2 ≡ 0))
across N c C a b = (omega arith, λ h. (let none : a ≡ 0 = omega arith in ⊎_elim (λ z. inl (none ∙ z)) inr (b.1 (omega arith))))

signed : (s t : Bool) (N c C a : ℕ) → Best N c C a → Best N c C 0 → BestSigned s N c C t a
signed true true N c C a b z = b
signed false false N c C a b z = b
signed true false N c C a b z = across N c C a z
signed false true N c C a b z = across N c C a z

best : (s : Bool) (N b : ℕ) (t : Bool) (a : ℕ) → HasValue (of_bits binary64 b) t a unit → BestSigned s N (kept N) (kept N * 2 ^ dropped N) t a
best s N b t a v =
    let f = size_of b t a v in
    signed s t N (kept N) (kept N * 2 ^ dropped N) a
    (subst (λ (X : ℕ). Best N (kept N) (kept N * 2 ^ dropped N) X) (sym f.3) (kept_best N f.0 f.1 f.2))
    (kept_best N 0 0 (lit< tt))

-- ---- the pattern is even where what was kept is
even_pattern : (s : Bool) (k q r : ℕ) → r ≡ sign_bit s + (k * 2 ^ 52 + q) → q % 2 ≡ 0 → r % 2 ≡ 0
even_pattern true k q r e h = omega arith
even_pattern false k q r e h = omega arith

even_zero : (s : Bool) → double_of_sign s 0 % 2 ≡ 0
unfolding to_bits round
even_zero true = refl
even_zero false = refl

even_kept : (s : Bool) (n : ℕ) → n < 2 ^ 64 → kept (n * unit) % 2 ≡ 0 → double_of_sign s n % 2 ≡ 0
even_kept s n h e = elim (eq-zero-or-pos n) [
  | inl z ↦ ap (λ (y : ℕ). double_of_sign s y % 2) z ∙ even_zero s
  | inr p ↦ even_pattern s (dropped (n * unit)) (kept (n * unit)) (double_of_sign s n) (pattern_kept s n p h) e
]

value : (s : Bool) (n : ℕ) → n < 2 ^ 64
    → HasValue (of_bits binary64 (double_of_sign s n)) s (kept (n * unit) * 2 ^ dropped (n * unit)) unit
value s n h =
    let size : ℕ = kept (n * unit) * 2 ^ dropped (n * unit) in
    subst (λ (v : Float). HasValue v s size unit) (sym (read_back s n)) (value_kept s n h)

pub nearest : (s : Bool) (n : ℕ) → n < 2 ^ 64 → Nearest s n (double_of_sign s n)
nearest s n h = record {
  size = kept (n * unit) * 2 ^ dropped (n * unit);
  value = value s n h;
  nearest = λ b t a v. (best s (n * unit) b t a v).0;
  even = λ b t a v e. ⊎_elim inl (λ z. inr (even_kept s n h z)) ((best s (n * unit) b t a v).1 e);
}
