-- Integers that doubles hold are in the order of their doubles, and so are those of which the first is not the smaller one.
use Rattle.std.proofs.Common.{◌≡◌, ℕ, ◌+◌, ◌-◌, ◌*◌, ◌^◌, ◌<◌, ◌≤◌, Bool, true, false, ltb, [], ◌∷◌, pos, sym, refl, ap, ◌∙◌, subst, ap₂, mul_assoc, add-mul, mul-lt-mul_of_pos_right, mul-pos, mul-one, mul_right_comm, arith, ltb-false, ltb-true, le-ltb, lt-ltb}
use types.Run.{OneOf, hit}
use denote.Enum.Declared.{tag_of}
use lib.Ieee.{Float, nan, inf, fin, up, down, below, lt, binary64, of_bits}
use lib.Ieee.Fits.{down_pos}
use lib.Ieee.Exact.{HasValue}
use Rattle.definitions.specs.Ieee754.{double_of}
use Rattle.doubles.proofs.Whole.{of_positive}
use Rattle.doubles.proofs.Exact.{exact}
use Rattle.fields.specs.declared.form.Number.TheVariants.{Unsigned, Signed}
use Rattle.fields.specs.contracts.form.Number.{the_type}
use Rattle.tally.specs.Words.{signed_zero, integer_kind, value_at, Exact}
use Rattle.tally.proofs.Patterns.{negative_pattern, positive_pattern, not_below_law}

-- ---- the order of two fractions is that of their numerators

scaled : (s t : Bool) (a b k : ℕ) → 0 < k → below s a t b ≡ true → below s (a * k) t (b * k) ≡ true
scaled false false a b k h e = lt-ltb (a * k) (b * k) (mul-lt-mul_of_pos_right (ltb-true a b e) h)
scaled false true a b k h e = e
scaled true false a b k h e =
    lt-ltb 0 (a * k + b * k) (subst (λ (x : ℕ). 0 < x) (add-mul a b k) (mul-pos (ltb-true 0 (a + b) e) h))
scaled true true a b k h e = lt-ltb (b * k) (a * k) (mul-lt-mul_of_pos_right (ltb-true b a e) h)

whole_below : (v w : Float) (s t : Bool) (a b : ℕ) → HasValue v s a 1 → HasValue w t b 1 → below s a t b ≡ true → lt v w ≡ true
unfolding lt
whole_below nan w s t a b p q h = absurd p
whole_below (inf u) w s t a b p q h = absurd p
whole_below (fin u m e) nan s t a b p q h = absurd q
whole_below (fin u m e) (inf r) s t a b p q h = absurd q
whole_below (fin u m e) (fin r n d) s t a b p q h =
    let x : m * up e * down d ≡ a * (down e * down d) = ap (λ (z : ℕ). z * down d) (sym (mul-one (m * up e)) ∙ p.1) ∙ mul_assoc a (down e) (down d) in
    let y : n * up d * down e ≡ b * (down e * down d) =
    ap (λ (z : ℕ). z * down e) (sym (mul-one (n * up d)) ∙ q.1) ∙ mul_right_comm b (down d) (down e) ∙ mul_assoc b (down e) (down d) in
    ap₂ (λ (g i : Bool). below g (m * up e * down d) i (n * up d * down e)) p.0 q.0
    ∙ ap₂ (λ (g i : ℕ). below s g t i) x y
    ∙ scaled s t a b (down e * down d) (mul-pos (down_pos e) (down_pos d)) h

-- ---- the double of a word is the integer

unsigned_held : (word : ℕ) → word ≤ 2 ^ 53 → HasValue (value_at Unsigned word) false word 1
unsigned_held word h = subst (λ (p : ℕ). HasValue (of_bits binary64 p) false word 1) (sym (of_positive word)) (exact false word h)

negative_held : (word : ℕ) → word < signed_zero → signed_zero - word ≤ 2 ^ 53 → HasValue (value_at Signed word) true (signed_zero - word) 1
negative_held word h k = subst (λ (p : ℕ). HasValue (of_bits binary64 p) true (signed_zero - word) 1) (negative_pattern word _ h refl) (exact true (signed_zero - word) k)

positive_held : (word : ℕ) → signed_zero ≤ word → word - signed_zero ≤ 2 ^ 53 → HasValue (value_at Signed word) false (word - signed_zero) 1
positive_held word h k =
    subst (λ (p : ℕ). HasValue (of_bits binary64 p) false (word - signed_zero) 1)
    (sym (of_positive (word - signed_zero)) ∙ positive_pattern word (double_of (pos (word - signed_zero))) h refl)
    (exact false (word - signed_zero) k)

-- ---- so of two the smaller has the smaller one

signed_below : (a b : ℕ) → a < b → signed_zero - 2 ^ 53 ≤ a → b ≤ signed_zero + 2 ^ 53 → (p q : Bool) → ltb a signed_zero ≡ p → ltb b signed_zero ≡ q
    → lt (value_at Signed a) (value_at Signed b) ≡ true
signed_below a b h low high true true e f =
    let x : a < signed_zero = ltb-true a signed_zero e in
    let y : b < signed_zero = ltb-true b signed_zero f in
    whole_below _ _ true true (signed_zero - a) (signed_zero - b) (negative_held a x (omega arith)) (negative_held b y (omega arith)) (lt-ltb (signed_zero - b) (signed_zero - a) (omega arith))
signed_below a b h low high true false e f =
    let x : a < signed_zero = ltb-true a signed_zero e in
    let y : signed_zero ≤ b = ltb-false b signed_zero f in
    whole_below _ _ true false (signed_zero - a) (b - signed_zero) (negative_held a x (omega arith)) (positive_held b y (omega arith)) (lt-ltb 0 (signed_zero - a + (b - signed_zero)) (omega arith))
signed_below a b h low high false true e f =
    let x : signed_zero ≤ a = ltb-false a signed_zero e in
    let y : b < signed_zero = ltb-true b signed_zero f in
    absurd (omega arith)
signed_below a b h low high false false e f =
    let x : signed_zero ≤ a = ltb-false a signed_zero e in
    let y : signed_zero ≤ b = ltb-false b signed_zero f in
    whole_below _ _ false false (a - signed_zero) (b - signed_zero) (positive_held a x (omega arith)) (positive_held b y (omega arith)) (lt-ltb (a - signed_zero) (b - signed_zero) (omega arith))

exact_below : (signed : Bool) (a b : ℕ) → a < b → Exact signed a b → lt (value_at (integer_kind signed) a) (value_at (integer_kind signed) b) ≡ true
exact_below true a b h e = signed_below a b h e.0 e.1 (ltb a signed_zero) (ltb b signed_zero) refl refl
exact_below false a b h e = whole_below _ _ false false a b (unsigned_held a (omega arith)) (unsigned_held b e) (lt-ltb a b h)

-- ---- where the words tell it

-- no kind of integer is a float
pub integer_tag : (signed : Bool) → OneOf (0 ∷ 1 ∷ []) (tag_of the_type (integer_kind signed))
integer_tag true = hit (0 ∷ 1 ∷ []) 1 tt
integer_tag false = hit (0 ∷ 1 ∷ []) 0 tt

module _ (signed : Bool) (a b : ℕ) where
  pub told_not_below : b ≤ a → lt (value_at (integer_kind signed) a) (value_at (integer_kind signed) b) ≡ ltb a b
  told_not_below h = sym (not_below_law (integer_kind signed) a b (integer_tag signed) h) ∙ sym (le-ltb a b h)

  pub told_exact : a < b → Exact signed a b → lt (value_at (integer_kind signed) a) (value_at (integer_kind signed) b) ≡ ltb a b
  told_exact h e = exact_below signed a b h e ∙ sym (lt-ltb a b h)
