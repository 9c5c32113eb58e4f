-- Rounding keeps the order: of two integers the greater has a double that is no smaller, whatever their signs.
use mathlib.Core.Path.{◌≡◌, sym, ap, ◌∙◌, subst}
use mathlib.Core.Bool.{Bool, true, false, ◌&&◌, ◌||◌, true≢false}
use Prim.Native.Nat.{ℕ, suc, ◌+◌, ◌*◌, ◌≤◌, suc-le-suc}
use native.Mathlib.Nat.{eq-zero-or-pos, mul-le-mul_right}
use native.Mathlib.Omega.{arith}
use mathlib.Core.Logic.{inl, inr}
use lib.Dec.{T, eqb, ltb, eqb→eq, lt→ltb, leb→le, lit<}
use lib.IntN.{ℤ, pos, negsuc}
use lib.Signed.{le_z, ◌≤ℤ◌}
use lib.Ieee.{Float, nan, inf, fin, binary64, up, down, round, neg, le, of_int, of_bits}
use lib.Ieee.Fits.{and_i, and_l, eq→eqb, of_int-fits}
use lib.Ieee.Bits.{is_true, of_bits-to_bits}
use lib.Ieee.Order.{round_mono}
use Rattle.definitions.specs.Ieee754.{double_of}
use Rattle.doubles.proofs.SignBit.{Plain, round_opposite}

-- ---- the order of the two signs
or_left : (p q : Bool) → T p → T (p || q)
or_left true q t = tt
or_left false q t = absurd t

or_right : (p q : Bool) → T q → T (p || q)
or_right true q t = tt
or_right false q t = t

flip_level : (a b : ℕ) → T (eqb a b && true) → T (eqb b a && true)
flip_level a b t = and_i (eqb b a) true (eq→eqb (sym (eqb→eq a b (and_l (eqb a b) true t)))) tt

flip : (a b : ℕ) → T (ltb a b || (eqb a b && true)) → T (ltb a b || (eqb b a && true))
flip a b = go (ltb a b)
  where
    go : (p : Bool) → T (p || (eqb a b && true)) → T (p || (eqb b a && true))
    go true t = tt
    go false t = flip_level a b t

reversed : (x y : Float) → Plain x → Plain y → T (le x y) → T (le (neg y) (neg x))
unfolding le neg
reversed nan y p q h = absurd p
reversed (inf true) y p q h = absurd (true≢false p)
reversed (fin true m e) y p q h = absurd (true≢false p)
reversed (inf false) nan p q h = absurd q
reversed (inf false) (inf true) p q h = absurd (true≢false q)
reversed (inf false) (inf false) p q h = tt
reversed (inf false) (fin t n d) p q h = absurd h
reversed (fin false m e) nan p q h = absurd q
reversed (fin false m e) (inf true) p q h = absurd (true≢false q)
reversed (fin false m e) (inf false) p q h = tt
reversed (fin false m e) (fin true n d) p q h = absurd (true≢false q)
reversed (fin false m e) (fin false n d) p q h = flip (m * up e * down d) (n * up d * down e) h

below_or_both_zero : (a b : ℕ) → T (ltb 0 (a + b) || (eqb a b && eqb a 0))
below_or_both_zero a b = elim (eq-zero-or-pos (a + b)) [
  | inl z ↦
      let same : a ≡ b = omega arith in
      let none : a ≡ 0 = omega arith in
      or_right (ltb 0 (a + b)) (eqb a b && eqb a 0) (and_i (eqb a b) (eqb a 0) (eq→eqb same) (eq→eqb none))
  | inr p ↦ or_left (ltb 0 (a + b)) (eqb a b && eqb a 0) (lt→ltb 0 (a + b) p)
]

opposite : (x y : Float) → Plain x → Plain y → T (le (neg x) y)
unfolding le neg
opposite nan y p q = absurd p
opposite (inf true) y p q = absurd (true≢false p)
opposite (fin true m e) y p q = absurd (true≢false p)
opposite (inf false) nan p q = absurd q
opposite (inf false) (inf true) p q = absurd (true≢false q)
opposite (inf false) (inf false) p q = tt
opposite (inf false) (fin t n d) p q = tt
opposite (fin false m e) nan p q = absurd q
opposite (fin false m e) (inf true) p q = absurd (true≢false q)
opposite (fin false m e) (inf false) p q = tt
opposite (fin false m e) (fin true n d) p q = absurd (true≢false q)
opposite (fin false m e) (fin false n d) p q = below_or_both_zero (m * up e * down d) (n * up d * down e)

-- ---- integers
magnitudes : (a b : ℕ) → a ≤ b → T (le (round binary64 false a 1) (round binary64 false b 1))
magnitudes a b h = round_mono binary64 a 1 b 1 (lit< tt) (lit< tt) (mul-le-mul_right 1 h)

values : (x y : ℤ) → T (le_z x y) → T (le (of_int binary64 x) (of_int binary64 y))
unfolding of_int
values (pos a) (pos b) h = magnitudes a b (leb→le a b h)
values (pos a) (negsuc b) h = absurd h
values (negsuc a) (pos b) h =
    let v = round_opposite (suc a) in
    subst (λ (w : Float). T (le w (round binary64 false b 1))) (sym v.1)
    (opposite (round binary64 false (suc a) 1) (round binary64 false b 1) v.0 (round_opposite b).0)
values (negsuc a) (negsuc b) h =
    let v = round_opposite (suc a) in
    let w = round_opposite (suc b) in
    subst (λ (z : Float). T (le z (round binary64 true (suc b) 1))) (sym v.1)
    (subst (λ (z : Float). T (le (neg (round binary64 false (suc a) 1)) z)) (sym w.1)
    (reversed (round binary64 false (suc b) 1) (round binary64 false (suc a) 1) w.0 v.0
    (magnitudes (suc b) (suc a) (suc-le-suc (leb→le b a h)))))

pub monotone : (x y : ℤ) → x ≤ℤ y → le (of_bits binary64 (double_of x)) (of_bits binary64 (double_of y)) ≡ true
monotone x y h =
    ap (λ (v : Float). le v (of_bits binary64 (double_of y))) (reads x)
    ∙ ap (λ (v : Float). le (of_int binary64 x) v) (reads y)
    ∙ is_true (le (of_int binary64 x) (of_int binary64 y)) (values x y h.le)
  where
    reads : (z : ℤ) → of_bits binary64 (double_of z) ≡ of_int binary64 z
    reads z = of_bits-to_bits binary64 (of_int binary64 z) (of_int-fits binary64 z)
