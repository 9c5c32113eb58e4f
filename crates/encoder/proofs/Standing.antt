-- The bits that are made of a number stand for it, and they are the only ones: made of what some bits stand for, they are these.
use Rattle.std.specs.Prelude.{if◌then◌else◌}
use mathlib.Core.Path.{◌≡◌, refl, sym, ap, ◌∙◌, subst}
use mathlib.Core.Bool.{Bool, true, false}
use Prim.Native.Nat.{ℕ, suc, ◌-◌, ◌^◌, ◌≤◌, ◌<◌}
use native.Mathlib.Omega.{arith}
use lib.IntN.{ℤ, pos, negsuc}
use lib.Dec.{ltb, eqb}
use borrow.Author.Tests.{ltb-true, ltb-false, lt-ltb, le-ltb, eqb-true, eqb-false}
use Rattle.definitions.specs.Reply.{answer}
use Rattle.definitions.specs.Bytes.{twos_complement}
use Rattle.definitions.specs.Ieee754.{widened, narrowed, narrows}
use Rattle.definitions.specs.Channel.{Value, unsigned, signed, double, text, bytes, sample, stream, unknown_value, double_value, float_bits, is_floating}
use Rattle.definitions.specs.WrittenValue.{Given, given_unsigned, given_signed, given_double, given_other, fitting, complement_of}
use Rattle.definitions.proofs.Replies.{answered, not_answered}
use Rattle.doubles.proofs.NarrowedPatterns.{narrowed_back, narrowed_lt, widened_narrows, ComesBack, comes_back}
use Rattle.fields.specs.Form.{number_kind, number_value}
use Rattle.fields.specs.declared.form.Number.{Number}
use Rattle.fields.specs.declared.form.Number.TheVariants.{Unsigned, Signed, Float}
use Rattle.encoder.specs.Meaning.{value_given, number_field}
use Rattle.encoder.proofs.Digits.{twice}

-- what fits was tested
fitted : (t : Bool) (x : ℕ) {y : ℕ} → fitting t x ≡ answer y → (t ≡ true) × (x ≡ y)
fitted true x e = (refl, answered e)
fitted false x {y} e = absurd (not_answered y 24 0 e)

-- ---- the bits stand for the number

-- two's complement
complement_stands : (count : ℕ) (z : ℤ) (x : ℕ) → 1 ≤ count → complement_of count z ≡ answer x → (x < 2 ^ count) × (twos_complement count x ≡ z)
complement_stands count (pos n) x h e =
    let t = fitted (ltb n (2 ^ (count - 1))) n e in
    let l : n < 2 ^ (count - 1) = ltb-true n (2 ^ (count - 1)) t.0 in
    let i : n ≡ x = t.1 in
    (omega (arith, twice count h), subst (λ (y : ℕ). twos_complement count y ≡ pos n) i (rw t.0))
complement_stands count (negsuc n) x h e =
    let t = fitted (ltb n (2 ^ (count - 1))) (2 ^ count - suc n) e in
    let l : n < 2 ^ (count - 1) = ltb-true n (2 ^ (count - 1)) t.0 in
    let i : 2 ^ count - suc n ≡ x = t.1 in
    let f : ltb x (2 ^ (count - 1)) ≡ false = le-ltb x (2 ^ (count - 1)) (omega (arith, twice count h)) in
    let v : 2 ^ count - suc x ≡ n = omega (arith, twice count h) in
    (omega (arith, twice count h), rw f (ap negsuc v))

-- a float is a pattern of 64 bits, or it has 32
module _ (count x : ℕ) (width : (count ≡ 64 → ⊥) → count ≡ 32) where
  float_stands : (b : ℕ) → x < 2 ^ 64 → (if eqb count 64 then answer b else fitting (narrows b) (narrowed b)) ≡ answer x
      → (x < 2 ^ count) × (float_bits count x ≡ b)
  float_stands b l e = go (eqb count 64) refl e
    where
      go : (t : Bool) → eqb count 64 ≡ t → (if t then answer b else fitting (narrows b) (narrowed b)) ≡ answer x → (x < 2 ^ count) × (float_bits count x ≡ b)
      go true et e =
          let n : count ≡ 64 = eqb-true count 64 et in
          (subst (λ (k : ℕ). x < 2 ^ k) (sym n) l, rw et (sym (answered e)))
      go false et e =
          let n : count ≡ 32 = width (eqb-false count 64 et) in
          let f = fitted (narrows b) (narrowed b) e in
          let small : x < 2 ^ 32 = subst (λ (y : ℕ). y < 2 ^ 32) f.1 (narrowed_lt b f.0) in
          let back : widened x ≡ b = subst (λ (y : ℕ). widened y ≡ b) f.1 (narrowed_back b f.0) in
          (subst (λ (k : ℕ). x < 2 ^ k) (sym n) small, rw et back)

  -- and the pattern of a float that comes back is made again
  float_made : x < 2 ^ count → (count ≡ 32 → ComesBack x)
      → (if eqb count 64 then answer (float_bits count x) else fitting (narrows (float_bits count x)) (narrowed (float_bits count x))) ≡ answer x
  float_made l comes = go (eqb count 64) refl
    where
      go : (t : Bool) → eqb count 64 ≡ t
          → (if t then answer (if t then x else widened x) else fitting (narrows (if t then x else widened x)) (narrowed (if t then x else widened x))) ≡ answer x
      go true et = refl
      go false et =
          let n : count ≡ 32 = width (eqb-false count 64 et) in
          let small : x < 2 ^ 32 = subst (λ (k : ℕ). x < 2 ^ k) n l in
          ap (λ (t : Bool). fitting t (narrowed (widened x))) (widened_narrows x) ∙ ap answer (comes_back x small (comes n))

pub record Stands (number : Number) (count : ℕ) (v : Given) (x : ℕ) : Type 0 where
  pub below : x < 2 ^ count
  pub value : number_value number count x ≡ value_given v

module _ (count x : ℕ) (some : 1 ≤ count) where
  pub stands : (number : Number) (v : Given) → (is_floating (number_kind number) ≡ true → x < 2 ^ 64) → (is_floating (number_kind number) ≡ true → (count ≡ 64 → ⊥) → count ≡ 32)
      → number_field number count v ≡ answer x → Stands number count v x
  stands Unsigned (given_unsigned n) l width e =
      let t = fitted (ltb n (2 ^ count)) n e in
      record { below = subst (λ (y : ℕ). y < 2 ^ count) t.1 (ltb-true n (2 ^ count) t.0); value = ap unsigned (sym t.1) }
  stands Signed (given_signed z) l width e =
      let t = complement_stands count z x some e in
      record { below = t.0; value = ap signed t.1 }
  stands Float (given_double b) l width e =
      let t = float_stands count x (width refl) b (l refl) e in
      record { below = t.0; value = ap double_value t.1 }
  stands Unsigned (given_signed z) l width e = absurd (not_answered x 25 0 e)
  stands Unsigned (given_double b) l width e = absurd (not_answered x 25 0 e)
  stands Unsigned given_other l width e = absurd (not_answered x 25 0 e)
  stands Signed (given_unsigned n) l width e = absurd (not_answered x 25 0 e)
  stands Signed (given_double b) l width e = absurd (not_answered x 25 0 e)
  stands Signed given_other l width e = absurd (not_answered x 25 0 e)
  stands Float (given_unsigned n) l width e = absurd (not_answered x 25 0 e)
  stands Float (given_signed z) l width e = absurd (not_answered x 25 0 e)
  stands Float given_other l width e = absurd (not_answered x 25 0 e)

-- ---- and they are the only ones

complement_made : (count x : ℕ) → 1 ≤ count → x < 2 ^ count → complement_of count (twos_complement count x) ≡ answer x
complement_made count x some l = go (ltb x (2 ^ (count - 1))) refl
  where
    go : (t : Bool) → ltb x (2 ^ (count - 1)) ≡ t → complement_of count (if t then pos x else negsuc (2 ^ count - suc x)) ≡ answer x
    go true e = rw e
    go false e =
        let high : 2 ^ (count - 1) ≤ x = ltb-false x (2 ^ (count - 1)) e in
        let low : 2 ^ count - suc x < 2 ^ (count - 1) = omega (arith, twice count some) in
        let back : 2 ^ count - suc (2 ^ count - suc x) ≡ x = omega arith in
        rw (lt-ltb (2 ^ count - suc x) (2 ^ (count - 1)) low, back)

-- which kind a value is, and what it is of
abbrev unsigned_in : Value → ℕ
unsigned_in (unsigned n) = n
unsigned_in (signed z) = 0
unsigned_in (double x pattern) = 0
unsigned_in (text at n) = 0
unsigned_in (bytes at n) = 0
unsigned_in (sample at n) = 0
unsigned_in (stream at n) = 0
unsigned_in unknown_value = 0

abbrev signed_in : Value → ℤ
signed_in (unsigned n) = pos 0
signed_in (signed z) = z
signed_in (double x pattern) = pos 0
signed_in (text at n) = pos 0
signed_in (bytes at n) = pos 0
signed_in (sample at n) = pos 0
signed_in (stream at n) = pos 0
signed_in unknown_value = pos 0

abbrev pattern_in : Value → ℕ
pattern_in (unsigned n) = 0
pattern_in (signed z) = 0
pattern_in (double x pattern) = pattern
pattern_in (text at n) = 0
pattern_in (bytes at n) = 0
pattern_in (sample at n) = 0
pattern_in (stream at n) = 0
pattern_in unknown_value = 0

abbrev pub kind_in : Value → ℕ
kind_in (unsigned n) = 1
kind_in (signed z) = 2
kind_in (double x pattern) = 3
kind_in (text at n) = 0
kind_in (bytes at n) = 0
kind_in (sample at n) = 0
kind_in (stream at n) = 0
kind_in unknown_value = 0

module _ (count x : ℕ) (some : 1 ≤ count) (l : x < 2 ^ count) where
  other_kind_law : {A : Type 0} {a b : Value} → a ≡ b → (kind_in a ≡ kind_in b → ⊥) → A
  other_kind_law e differ = absurd (differ (ap kind_in e))

  pub made_again : (number : Number) (v : Given) → (is_floating (number_kind number) ≡ true → (count ≡ 64 → ⊥) → count ≡ 32)
      → (is_floating (number_kind number) ≡ true → count ≡ 32 → ComesBack x) → number_value number count x ≡ value_given v → number_field number count v ≡ answer x
  made_again Unsigned (given_unsigned n) width comes e =
      let i : x ≡ n = ap unsigned_in e in
      ap (λ (y : ℕ). fitting (ltb y (2 ^ count)) y) (sym i) ∙ rw (lt-ltb x (2 ^ count) l)
  made_again Signed (given_signed z) width comes e = ap (complement_of count) (sym (ap signed_in e)) ∙ complement_made count x some l
  made_again Float (given_double b) width comes e =
      ap (λ (y : ℕ). if eqb count 64 then answer y else fitting (narrows y) (narrowed y)) (sym (ap pattern_in e)) ∙ float_made count x (width refl) l (comes refl)
  made_again Unsigned (given_signed z) width comes e = other_kind_law e (λ k. omega arith)
  made_again Unsigned (given_double b) width comes e = other_kind_law e (λ k. omega arith)
  made_again Unsigned given_other width comes e = other_kind_law e (λ k. omega arith)
  made_again Signed (given_unsigned n) width comes e = other_kind_law e (λ k. omega arith)
  made_again Signed (given_double b) width comes e = other_kind_law e (λ k. omega arith)
  made_again Signed given_other width comes e = other_kind_law e (λ k. omega arith)
  made_again Float (given_unsigned n) width comes e = other_kind_law e (λ k. omega arith)
  made_again Float (given_signed z) width comes e = other_kind_law e (λ k. omega arith)
  made_again Float given_other width comes e = other_kind_law e (λ k. omega arith)
