-- The doubles of words, and their order.
use Rattle.std.proofs.Common.{◌≡◌, ℕ, suc, ◌-◌, ◌<◌, ◌≤◌, Bool, true, false, cond, T, ltb, [], ◌∷◌, ℤ, pos, negsuc, ◌-ℤ◌, ◌≤ℤ◌, sym, refl, ap, ◌∙◌, subst, arith, le→leb, ltb-false, ltb-true, le-ltb, lt-ltb}
use types.Run.{OneOf, hit, miss}
use denote.Enum.Declared.{tag_of}
use lib.Signed.{le_z}
use lib.Ieee.{Float, binary64, of_bits, lt, is_nan}
use Rattle.definitions.specs.Ieee754.{double_of, double_of_sign}
use Rattle.doubles.proofs.Whole.{of_negative}
use Rattle.doubles.proofs.Nan.{integer_never_nan}
use Rattle.doubles.proofs.Monotone.{monotone}
use Rattle.fields.specs.declared.form.Number.{Number}
use Rattle.fields.specs.contracts.form.Number.{the_type}
use Rattle.fields.specs.declared.form.Number.TheVariants.{Unsigned, Signed, Float as float}
use Rattle.tally.specs.Words.{signed_zero, pattern_of, value_at}
use Rattle.tally.proofs.Ordered.{le_by_test, lt_not_le}

-- ---- a signed integer by its sign and its magnitude

signed_negative : (word : ℕ) → word < signed_zero → pos word -ℤ pos signed_zero ≡ negsuc (signed_zero - suc word)
signed_negative word h = rw (lt-ltb word signed_zero h) refl

signed_positive : (word : ℕ) → signed_zero ≤ word → pos word -ℤ pos signed_zero ≡ pos (word - signed_zero)
signed_positive word h = rw (le-ltb word signed_zero h) refl

pub negative_pattern : (word r : ℕ) → word < signed_zero → r ≡ double_of_sign true (signed_zero - word) → r ≡ pattern_of Signed word
negative_pattern word r h e =
    let m : signed_zero - word ≡ suc (signed_zero - suc word) = omega arith in
    e ∙ ap (double_of_sign true) m ∙ sym (of_negative (signed_zero - suc word)) ∙ ap double_of (sym (signed_negative word h))

pub positive_pattern : (word r : ℕ) → signed_zero ≤ word → r ≡ double_of (pos (word - signed_zero)) → r ≡ pattern_of Signed word
positive_pattern word r h e = e ∙ ap double_of (sym (signed_positive word h))

-- ---- in the order of their integers

module _ (a b : ℕ) (h : a ≤ b) where
  falling : a < signed_zero → b < signed_zero → signed_zero - suc b ≤ signed_zero - suc a
  falling x y = omega arith

  rising : signed_zero ≤ a → signed_zero ≤ b → a - signed_zero ≤ b - signed_zero
  rising x y = omega arith

  between : signed_zero ≤ a → b < signed_zero → ⊥
  between x y = omega arith

  signed_order : (p q : Bool) → ltb a signed_zero ≡ p → ltb b signed_zero ≡ q
      → T (le_z (cond p (negsuc (signed_zero - suc a)) (pos (a - signed_zero))) (cond q (negsuc (signed_zero - suc b)) (pos (b - signed_zero))))
  signed_order true true e f = le→leb _ _ (falling (ltb-true a signed_zero e) (ltb-true b signed_zero f))
  signed_order true false e f = tt
  signed_order false true e f = absurd (between (ltb-false a signed_zero e) (ltb-true b signed_zero f))
  signed_order false false e f = le→leb _ _ (rising (ltb-false a signed_zero e) (ltb-false b signed_zero f))

not_above_law : (x y : ℤ) → y ≤ℤ x → false ≡ lt (of_bits binary64 (double_of x)) (of_bits binary64 (double_of y))
not_above_law x y h = go (lt v w) refl
  where
    v : Float
    v = of_bits binary64 (double_of x)

    w : Float
    w = of_bits binary64 (double_of y)

    go : (t : Bool) → lt v w ≡ t → false ≡ t
    go false e = refl
    go true e = absurd (lt_not_le v w e (le_by_test w v (subst T (sym (monotone y x h)) tt)))

-- what is no float is an integer
pub tag_of_integer : (n : Number) → (n ≡ float → ⊥) → OneOf (0 ∷ 1 ∷ []) (tag_of the_type n)
tag_of_integer Unsigned h = hit (0 ∷ 1 ∷ []) 0 tt
tag_of_integer Signed h = hit (0 ∷ 1 ∷ []) 1 tt
tag_of_integer float h = absurd (h refl)

-- of two integers the larger has no smaller double
pub not_below_law : (n : Number) (a b : ℕ) → OneOf (0 ∷ 1 ∷ []) (tag_of the_type n) → b ≤ a → false ≡ lt (value_at n a) (value_at n b)
not_below_law Unsigned a b i h = not_above_law (pos a) (pos b) (record { le = le→leb b a h })
not_below_law Signed a b i h =
    not_above_law (pos a -ℤ pos signed_zero) (pos b -ℤ pos signed_zero)
    (record { le = signed_order b a h (ltb b signed_zero) (ltb a signed_zero) refl refl })
not_below_law float a b i h = absurd (miss (0 ∷ 1 ∷ []) 2 tt i)

pub same_order : {v w x y : Float} → v ≡ x → w ≡ y → lt v w ≡ lt x y
same_order {v} {w} {x} {y} e f = ap (λ (z : Float). lt z w) e ∙ ap (lt x) f

-- ---- no integer's double is a NaN

pub integer_no_nan : (n : Number) (word : ℕ) → OneOf (0 ∷ 1 ∷ []) (tag_of the_type n) → false ≡ is_nan (value_at n word)
integer_no_nan Unsigned word i = sym (integer_never_nan (pos word))
integer_no_nan Signed word i = sym (integer_never_nan (pos word -ℤ pos signed_zero))
integer_no_nan float word i = absurd (miss (0 ∷ 1 ∷ []) 2 tt i)

-- of two floats by their patterns
pub float_below : (n : Number) (a b : ℕ) (v w : Float) → n ≡ float → v ≡ of_bits binary64 a → w ≡ of_bits binary64 b → lt v w ≡ lt (value_at n a) (value_at n b)
float_below n a b v w e f g = same_order f g ∙ ap (λ (m : Number). lt (value_at m a) (value_at m b)) (sym e)

-- ---- the double of a word, by what kind of number it is

-- ---- a number between two others

pub integer_between : (n : Number) (smallest word largest : ℕ) → OneOf (0 ∷ 1 ∷ []) (tag_of the_type n) → smallest ≤ word → word ≤ largest
    → (is_nan (value_at n word) ≡ false) × (lt (value_at n word) (value_at n smallest) ≡ false) × (lt (value_at n largest) (value_at n word) ≡ false)
integer_between n smallest word largest i f g = (sym (integer_no_nan n word i), sym (not_below_law n word smallest i f), sym (not_below_law n largest word i g))
