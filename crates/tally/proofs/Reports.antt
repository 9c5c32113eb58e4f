-- The line of a channel: of a tally, and of records none of which is valid.
use Rattle.std.proofs.Common.{◌≡◌, ℕ, ◌+◌, ◌-◌, List, [], length, pos, ◌+ℤ◌, sym, refl, ap, ◌∙◌, arith}
use Rattle.std.specs.Prelude.{Option, None}
use Rattle.definitions.specs.Reply.{Reply}
use Rattle.definitions.specs.Channel.{ValidValue}
use Rattle.definitions.specs.Report.{count, is_valid, is_invalid, has_no_value, is_valid_nan, points, outermost, sum_of, report_of}
use Rattle.fields.specs.declared.form.Number.{Number}
use Rattle.tally.specs.declared.report.Outermost.{Outermost}
use Rattle.tally.specs.declared.report.Report.{Report}
use Rattle.tally.specs.declared.sum.Sum.{Sum}
use Rattle.tally.specs.declared.tally.Tally.{Tally}
use Rattle.tally.specs.Tallies.{total_of, excess_of, no_outermost, outermost_in, Tallied}
use Rattle.tally.specs.Meaning.{outermost_meant, sum_meant, report_meant}
use Rattle.tally.proofs.Sums.{same_more}
use Rattle.tally.proofs.Counts.{each_once, no_nan, no_points, no_sum}

-- ---- the whole line

nothing : no_outermost ≡ outermost []
unfolding outermost
nothing = refl

module _ (xs : List (Reply ValidValue)) (o : Option Outermost) (s : Sum) where
  told : {records valid invalid without nan : ℕ} → records ≡ length xs → valid ≡ count is_valid xs → invalid ≡ count is_invalid xs
      → without ≡ count has_no_value xs → nan ≡ count is_valid_nan xs → outermost_meant o ≡ outermost (points 0 xs) → sum_meant s ≡ sum_of xs
      → report_meant (record { records = records; valid = valid; invalid = invalid; without_value = without; nan = nan; doubles = o; sum = s }) ≡ report_of xs
  unfolding report_of
  told e f g h i j k = rw (e, f, g, h, i, j, k) refl

-- ---- of a tally

rest_invalid : (valid invalid without records : ℕ) → valid + invalid + without ≡ records → without ≡ 0 → records - valid ≡ invalid
rest_invalid valid invalid without records e f = omega arith

pub tallied_report : (n : Number) (t : Tally) (o : Option Outermost) (s : Sum) → outermost_meant o ≡ outermost_in n t
    → sum_meant s +ℤ pos (excess_of n t.valid) ≡ pos (total_of t.total) → (xs : List (Reply ValidValue)) → Tallied n xs t
    → report_meant (record {
      records = t.records;
      valid = t.valid;
      invalid = t.records - t.valid;
      without_value = 0;
      nan = t.nan;
      doubles = o;
      sum = s;
    }) ≡ report_of xs
tallied_report n t o s d e xs h =
    told xs o s h.records h.valid
    (ap (λ (k : ℕ). k - t.valid) h.records ∙ ap (λ (k : ℕ). length xs - k) h.valid
    ∙ rest_invalid (count is_valid xs) (count is_invalid xs) (count has_no_value xs) (length xs) (each_once xs) h.valued)
    (sym h.valued) h.nan (d ∙ h.doubles) (same_more (sum_meant s) (sum_of xs) (pos (excess_of n t.valid)) (e ∙ h.sum))

-- ---- of records none of which is valid

none_left : (valid other invalid records : ℕ) → valid + invalid + other ≡ records → other ≡ records → (valid ≡ 0) × (invalid ≡ 0)
none_left valid other invalid records e f = (omega arith, omega arith)

regroup : (valid invalid without records : ℕ) → valid + invalid + without ≡ records → valid + without + invalid ≡ records
regroup valid invalid without records e = omega arith

-- as the default is
abbrev Nothing : Report → Type 0
Nothing r =
    (r.records ≡ 0) × ((r.valid ≡ 0) × ((r.invalid ≡ 0) × ((r.without_value ≡ 0) × ((r.nan ≡ 0) × ((r.doubles ≡ None) × ((r.sum.high ≡ pos 0) × (r.sum.low ≡ 0)))))))

module _ (none : Report) (all_none : Nothing none) (xs : List (Reply ValidValue)) where
  silent : count is_valid xs ≡ 0 → {records invalid without : ℕ} → records ≡ length xs → invalid ≡ count is_invalid xs → without ≡ count has_no_value xs
      → report_meant (record {
        records = records;
        valid = none.valid;
        invalid = invalid;
        without_value = without;
        nan = none.nan;
        doubles = none.doubles;
        sum = none.sum;
      }) ≡ report_of xs
  silent e f g h =
      rw (all_none.1.0, all_none.1.1.1.1.0, all_none.1.1.1.1.1.0, all_none.1.1.1.1.1.1.0, all_none.1.1.1.1.1.1.1)
      (told xs None (record { high = pos 0; low = 0 }) f (sym e) g h (sym (no_nan xs e)) (nothing ∙ ap outermost (sym (no_points 0 xs e))) (sym (no_sum xs e)))

  pub valueless : {k : ℕ} → length xs ≡ k → count has_no_value xs ≡ k
      → report_meant (record {
        records = k;
        valid = none.valid;
        invalid = none.invalid;
        without_value = k;
        nan = none.nan;
        doubles = none.doubles;
        sum = none.sum;
      }) ≡ report_of xs
  valueless e f =
      let left = none_left (count is_valid xs) (count has_no_value xs) (count is_invalid xs) (length xs) (each_once xs) (f ∙ sym e) in
      silent left.0 (sym e) (all_none.1.1.0 ∙ sym left.1) (sym f)

  pub invalid_only : {k : ℕ} → length xs ≡ k → count is_invalid xs ≡ k
      → report_meant (record {
        records = k;
        valid = none.valid;
        invalid = k;
        without_value = none.without_value;
        nan = none.nan;
        doubles = none.doubles;
        sum = none.sum;
      }) ≡ report_of xs
  invalid_only e f =
      let all = regroup (count is_valid xs) (count is_invalid xs) (count has_no_value xs) (length xs) (each_once xs) in
      let left = none_left (count is_valid xs) (count is_invalid xs) (count has_no_value xs) (length xs) all (f ∙ sym e) in
      silent left.0 (sym e) (sym f) (all_none.1.1.1.0 ∙ sym left.1)
