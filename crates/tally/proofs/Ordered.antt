-- The order of the doubles, of both signs: `Le x y` is `x <= y`. It is transitive, and where `x < y` is false of two that are no
-- NaN, it is `Le y x`.
use Rattle.std.proofs.Common.{◌≡◌, ℕ, ◌+◌, ◌*◌, ◌<◌, ◌≤◌, Bool, true, false, not, ◌&&◌, ◌||◌, T, eqb, ltb, ◌⊎◌, sym, refl, ap, ◌∙◌, subst, inl, inr, true≢false, zero-le, le_of_eq, le_of_lt, lt_irrefl, eq-zero-or-pos, mul-pos, zero-mul, arith, eqb→eq, ltb→lt, nltb→le}
use mathlib.Core.Bool.{false≢true}
use lib.Ieee.{Float, nan, inf, fin, up, down, below, level, lt, eq, le, is_nan}
use lib.Ieee.Fits.{down_pos, and_l, and_r}
use lib.Ieee.Positive.{through}

-- ±a ≤ ±b
abbrev LEs : Bool → ℕ → Bool → ℕ → Type 0
LEs false a false b = a ≤ b
LEs false a true b = (a ≡ 0) × (b ≡ 0)
LEs true a false b = Unit {0}
LEs true a true b = b ≤ a

abbrev pub Le : Float → Float → Type 0
Le nan y = ⊥
Le (inf s) nan = ⊥
Le (inf true) (inf t) = Unit {0}
Le (inf false) (inf t) = T (not t)
Le (inf s) (fin t n d) = T s
Le (fin s m e) nan = ⊥
Le (fin s m e) (inf t) = T (not t)
Le (fin s m e) (fin t n d) = LEs s (m * up e * down d) t (n * up d * down e)

-- ---- what `le` computes is that
or_e : (p q : Bool) → T (p || q) → T p ⊎ T q
or_e true q t = inl tt
or_e false q t = inr t

or_l : (p q : Bool) → T p → T (p || q)
or_l true q t = tt
or_l false q t = absurd t

says : (s : Bool) (a : ℕ) (t : Bool) (b : ℕ) → T (below s a t b || level s a t b) → LEs s a t b
says false a false b h = elim (or_e (ltb a b) (eqb a b && true) h) [ inl l ↦ le_of_lt (ltb→lt a b l) | inr e ↦ le_of_eq (eqb→eq a b (and_l (eqb a b) true e)) ]
says false a true b h =
    let z : a ≡ 0 = eqb→eq a 0 (and_r (eqb a b) (eqb a 0) h) in
    (z, sym (eqb→eq a b (and_l (eqb a b) (eqb a 0) h)) ∙ z)
says true a false b h = tt
says true a true b h = elim (or_e (ltb b a) (eqb a b && true) h) [ inl l ↦ le_of_lt (ltb→lt b a l) | inr e ↦ le_of_eq (sym (eqb→eq a b (and_l (eqb a b) true e))) ]

pub le_by_test : (x y : Float) → T (le x y) → Le x y
unfolding le
le_by_test nan y h = h
le_by_test (inf s) nan h = h
le_by_test (inf true) (inf t) h = tt
le_by_test (inf false) (inf false) h = tt
le_by_test (inf false) (inf true) h = h
le_by_test (inf true) (fin t n d) h = tt
le_by_test (inf false) (fin t n d) h = h
le_by_test (fin s m e) nan h = h
le_by_test (fin s m e) (inf true) h = h
le_by_test (fin s m e) (inf false) h = tt
le_by_test (fin s m e) (fin t n d) h = says s (m * up e * down d) t (n * up d * down e) h

-- ---- transitive
none : (a b : ℕ) → 0 < b → a * b ≡ 0 → a ≡ 0
none a b h e = elim (eq-zero-or-pos a) [ inl z ↦ z | inr p ↦ absurd (lt_irrefl 0 (subst (λ (x : ℕ). 0 < x) e (mul-pos p h))) ]

zeroed : (a b : ℕ) → a ≡ 0 → a * b ≡ 0
zeroed a b e = ap (λ (x : ℕ). x * b) e ∙ zero-mul b

below_none : (a : ℕ) → a ≤ 0 → a ≡ 0
below_none a h = omega arith

fins : (s t u : Bool) (x y z p q r : ℕ) → 0 < p → 0 < q → 0 < r → LEs s (x * q) t (y * p) → LEs t (y * r) u (z * q) → LEs s (x * r) u (z * p)
fins false false false x y z p q r P Q R a b = through x y z p q r Q a b
fins false false true x y z p q r P Q R a b =
    let y0 : y ≡ 0 = none y r R b.0 in
    (zeroed x r (none x q Q (below_none (x * q) (subst (λ (w : ℕ). x * q ≤ w) (zeroed y p y0) a))), zeroed z p (none z q Q b.1))
fins false true false x y z p q r P Q R a b = subst (λ (w : ℕ). w ≤ z * p) (sym (zeroed x r (none x q Q a.0))) zero-le
fins false true true x y z p q r P Q R a b =
    let y0 : y ≡ 0 = none y p P a.1 in
    (zeroed x r (none x q Q a.0), zeroed z p (none z q Q (below_none (z * q) (subst (λ (w : ℕ). z * q ≤ w) (zeroed y r y0) b))))
fins true t false x y z p q r P Q R a b = tt
fins true false true x y z p q r P Q R a b = subst (λ (w : ℕ). w ≤ x * r) (sym (zeroed z p (none z q Q b.1))) zero-le
fins true true true x y z p q r P Q R a b = through z y x r q p Q b a

le_transitive : (x y z : Float) → Le x y → Le y z → Le x z
le_transitive nan y z a b = absurd a
le_transitive (inf true) nan z a b = absurd a
le_transitive (inf true) (inf t) nan a b = absurd b
le_transitive (inf true) (inf t) (inf u) a b = tt
le_transitive (inf true) (inf t) (fin u k g) a b = tt
le_transitive (inf true) (fin t n d) nan a b = absurd b
le_transitive (inf true) (fin t n d) (inf u) a b = tt
le_transitive (inf true) (fin t n d) (fin u k g) a b = tt
le_transitive (inf false) nan z a b = absurd a
le_transitive (inf false) (inf true) z a b = absurd a
le_transitive (inf false) (inf false) nan a b = absurd b
le_transitive (inf false) (inf false) (inf u) a b = b
le_transitive (inf false) (inf false) (fin u k g) a b = b
le_transitive (inf false) (fin t n d) z a b = absurd a
le_transitive (fin s m e) nan z a b = absurd a
le_transitive (fin s m e) (inf true) z a b = absurd a
le_transitive (fin s m e) (inf false) nan a b = absurd b
le_transitive (fin s m e) (inf false) (inf u) a b = b
le_transitive (fin s m e) (inf false) (fin u k g) a b = absurd b
le_transitive (fin s m e) (fin t n d) nan a b = absurd b
le_transitive (fin s m e) (fin t n d) (inf u) a b = b
le_transitive (fin s m e) (fin t n d) (fin u k g) a b = fins s t u (m * up e) (n * up d) (k * up g) (down e) (down d) (down g) (down_pos e) (down_pos d) (down_pos g) a b

-- ---- one way or the other
lt_le : (x y : Float) → lt x y ≡ true → Le x y
lt_le x y h = le_by_test x y (by (unfold le in or_l (lt x y) (eq x y) (subst T (sym h) tt)))
  where
    by : T (le x y) → T (le x y)
    by t = t

not_lt : (a b : ℕ) → ltb a b ≡ false → b ≤ a
not_lt a b h = nltb→le a b (subst (λ (x : Bool). T (not x)) (sym h) tt)

falls : (s : Bool) (a : ℕ) (t : Bool) (b : ℕ) → below s a t b ≡ false → LEs t b s a
falls false a false b h = not_lt a b h
falls false a true b h = tt
falls true a false b h = let z : a + b ≤ 0 = not_lt 0 (a + b) h in (omega arith, omega arith)
falls true a true b h = not_lt b a h

pub not_lt_le : (x y : Float) → is_nan x ≡ false → is_nan y ≡ false → lt x y ≡ false → Le y x
unfolding is_nan lt
not_lt_le nan y p q h = absurd (true≢false p)
not_lt_le (inf s) nan p q h = absurd (true≢false q)
not_lt_le (fin s m e) nan p q h = absurd (true≢false q)
not_lt_le (inf true) (inf true) p q h = tt
not_lt_le (inf true) (inf false) p q h = absurd (true≢false h)
not_lt_le (inf false) (inf true) p q h = tt
not_lt_le (inf false) (inf false) p q h = tt
not_lt_le (inf true) (fin t n d) p q h = absurd (true≢false h)
not_lt_le (inf false) (fin t n d) p q h = tt
not_lt_le (fin s m e) (inf true) p q h = tt
not_lt_le (fin s m e) (inf false) p q h = absurd (true≢false h)
not_lt_le (fin s m e) (fin t n d) p q h = falls s (m * up e * down d) t (n * up d * down e) h

-- ---- and strictly: what is below is not above
strict : (s : Bool) (a : ℕ) (t : Bool) (b : ℕ) → below s a t b ≡ true → LEs t b s a → ⊥
strict false a false b h l = let n : a < b = ltb→lt a b (subst T (sym h) tt) in omega arith
strict false a true b h l = false≢true h
strict true a false b h l =
    let n : 0 < a + b = ltb→lt 0 (a + b) (subst T (sym h) tt) in
    let z : a ≡ 0 = l.1 in
    let y : b ≡ 0 = l.0 in
    omega arith
strict true a true b h l = let n : b < a = ltb→lt b a (subst T (sym h) tt) in omega arith

pub lt_not_le : (x y : Float) → lt x y ≡ true → Le y x → ⊥
unfolding lt
lt_not_le nan y h l = false≢true h
lt_not_le (inf s) nan h l = l
lt_not_le (inf true) (inf true) h l = false≢true h
lt_not_le (inf true) (inf false) h l = l
lt_not_le (inf false) (inf t) h l = false≢true h
lt_not_le (inf true) (fin t n d) h l = l
lt_not_le (inf false) (fin t n d) h l = false≢true h
lt_not_le (fin s m e) nan h l = l
lt_not_le (fin s m e) (inf true) h l = false≢true h
lt_not_le (fin s m e) (inf false) h l = l
lt_not_le (fin s m e) (fin t n d) h l = strict s (m * up e * down d) t (n * up d * down e) h l

-- y below s, and s not above x: y below x
pub below_through : (x y s : Float) → is_nan x ≡ false → is_nan y ≡ false → is_nan s ≡ false → lt y s ≡ true → lt x s ≡ false → lt y x ≡ true
below_through x y s nx ny ns h k = go (lt y x) refl
  where
    go : (b : Bool) → lt y x ≡ b → b ≡ true
    go true e = refl
    go false e = absurd (lt_not_le y s h (le_transitive s x y (not_lt_le x s nx ns k) (not_lt_le y x ny nx e)))

-- the same upwards
pub above_through : (x y s : Float) → is_nan x ≡ false → is_nan y ≡ false → is_nan s ≡ false → lt s y ≡ true → lt s x ≡ false → lt x y ≡ true
above_through x y s nx ny ns h k = go (lt x y) refl
  where
    go : (b : Bool) → lt x y ≡ b → b ≡ true
    go true e = refl
    go false e = absurd (lt_not_le s y h (le_transitive y x s (not_lt_le x y nx ny e) (not_lt_le s x ns nx k)))

-- asymmetric and irreflexive in one: what is below is not below again
pub lt_asym : (x y : Float) → lt x y ≡ true → lt y x ≡ false
lt_asym x y h = go (lt y x) refl
  where
    go : (b : Bool) → lt y x ≡ b → b ≡ false
    go false e = refl
    go true e = absurd (lt_not_le x y h (lt_le y x e))
