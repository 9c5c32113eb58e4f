-- Two words that hold a sum.
use Rattle.std.proofs.Common.{◌≡◌, ℕ, ◌+◌, ◌*◌, true, ℤ, pos, ◌+ℤ◌, ◌-ℤ◌, sym, ap, ◌∙◌, true≢false, arith}
use lib.Ieee.{is_nan}
use lib.IntN.{+ℤ_assoc, +ℤ_comm, +ℤ_idr, +ℤ-neg_ℤ_cancel, -ℤ-+ℤ_cancel}
use Rattle.doubles.proofs.Nan.{integer_never_nan}
use Rattle.fields.specs.declared.form.Number.{Number}
use Rattle.fields.specs.declared.form.Number.TheVariants.{Unsigned, Signed, Float}
use Rattle.tally.specs.Words.{signed_zero, integer_of, value_at}
use Rattle.tally.specs.declared.sum.Total.{Total}
use Rattle.tally.specs.Tallies.{total_of, added_total, total_with, excess_of}

-- ---- one word more

added_total_law : (t : Total) (word : ℕ) → total_of (added_total t word) ≡ total_of t + word
added_total_law t word = omega arith

swap : (a b c : ℤ) → a +ℤ b +ℤ c ≡ a +ℤ c +ℤ b
swap a b c = +ℤ_assoc a b c ∙ ap (λ (z : ℤ). a +ℤ z) (+ℤ_comm b c) ∙ sym (+ℤ_assoc a c b)

one_zero_more : (valid : ℕ) → signed_zero + valid * signed_zero ≡ (valid + 1) * signed_zero
one_zero_more valid = omega arith

-- what is added is the integer, and what the word of one is above it
pub sum_with : (n : Number) (t : Total) (word valid : ℕ) (s : ℤ) → pos (total_of t) ≡ s +ℤ pos (excess_of n valid)
    → pos (total_of (total_with n t word)) ≡ s +ℤ integer_of n word +ℤ pos (excess_of n (valid + 1))
sum_with Unsigned t word valid s h = ap pos (added_total_law t word) ∙ ap (λ (z : ℤ). z +ℤ pos word) h ∙ swap s (pos 0) (pos word)
sum_with Signed t word valid s h =
    ap pos (added_total_law t word) ∙ ap (λ (z : ℤ). z +ℤ pos word) h ∙ swap s excess (pos word)
    ∙ ap (λ (z : ℤ). s +ℤ z +ℤ excess) (sym (-ℤ-+ℤ_cancel (pos word) (pos signed_zero)))
    ∙ ap (λ (z : ℤ). z +ℤ excess) (sym (+ℤ_assoc s (pos word -ℤ pos signed_zero) (pos signed_zero)))
    ∙ +ℤ_assoc (s +ℤ (pos word -ℤ pos signed_zero)) (pos signed_zero) excess
    ∙ ap (λ (x : ℕ). s +ℤ (pos word -ℤ pos signed_zero) +ℤ pos x) (one_zero_more valid)
  where
    excess : ℤ
    excess = pos (valid * signed_zero)
sum_with Float t word valid s h = h ∙ sym (+ℤ_idr (s +ℤ pos 0))

-- only a float is a NaN
pub sum_with_nan : (n : Number) (word valid total : ℕ) (s : ℤ) → is_nan (value_at n word) ≡ true → pos total ≡ s +ℤ pos (excess_of n valid)
    → pos total ≡ s +ℤ integer_of n word +ℤ pos (excess_of n (valid + 1))
sum_with_nan Unsigned word valid total s e h = absurd (true≢false (sym e ∙ integer_never_nan (pos word)))
sum_with_nan Signed word valid total s e h = absurd (true≢false (sym e ∙ integer_never_nan (pos word -ℤ pos signed_zero)))
sum_with_nan Float word valid total s e h = h ∙ sym (+ℤ_idr (s +ℤ pos 0))

-- ---- the integers' sum

pub same_more : (x y z : ℤ) → x +ℤ z ≡ y +ℤ z → x ≡ y
same_more x y z e = sym (+ℤ-neg_ℤ_cancel x z) ∙ ap (λ (w : ℤ). w -ℤ z) e ∙ +ℤ-neg_ℤ_cancel y z
