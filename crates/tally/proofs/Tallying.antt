-- One record more keeps a tally true to the readings, and sane.
use Rattle.std.specs.Prelude.{if◌then◌else◌}
use Rattle.std.proofs.Common.{◌≡◌, ℕ, ◌+◌, ◌/◌, ◌%◌, ◌^◌, ◌<◌, ◌≤◌, Bool, true, false, List, [], ◌∷◌, ◌++◌, length, ℤ, pos, ◌+ℤ◌, sym, refl, ap, ◌∙◌, append-nil, add-zero, arith, length-append}
use lib.IntN.{+ℤ_idr}
use lib.Ieee.{binary64, of_bits, is_nan}
use Rattle.definitions.specs.Reply.{Reply, answer}
use Rattle.definitions.specs.Channel.{Value, ValidValue}
use Rattle.definitions.specs.Report.{Point, count, is_valid, has_no_value, double_read, is_valid_nan, points, outermost, sum_of}
use Rattle.fields.specs.declared.form.Number.{Number}
use Rattle.fields.specs.declared.form.Number.TheVariants.{Unsigned, Signed, Float as float}
use Rattle.tally.specs.Words.{integer_of, value_at, Words}
use Rattle.tally.specs.declared.sum.Total.{Total}
use Rattle.tally.specs.declared.tally.Tally.{Tally}
use Rattle.tally.specs.Tallies.{total_with, total_of, excess_of, empty_tally, skipped_tally, nan_tally, marked_tally, counted_tally, Sane, HasMarks, outermost_in, Tallied}
use Rattle.tally.proofs.Sums.{sum_with, sum_with_nan}
use Rattle.tally.proofs.Outermosts.{outermost_more, marked_outermost, nan_outermost, with_point}
use Rattle.tally.proofs.Counts.{count_more, sum_more, points_more, point_of, numerals}

-- ---- sane

pub sane_none : Sane empty_tally
sane_none = record { valid = omega arith; nan = omega arith; high = omega arith; low = omega arith }

pub sane_skip : {t : Tally} → Sane t → Sane (skipped_tally t)
sane_skip {t} s = record { valid = omega (arith, s.valid); nan = s.nan; high = s.high; low = s.low }

sane_nan : {t : Tally} → Sane t → Sane (nan_tally t)
sane_nan {t} s = record { valid = omega (arith, s.valid); nan = omega (arith, s.nan); high = omega (arith, s.high); low = s.low }

one_carried : (low word : ℕ) → low < 2 ^ 64 → word < 2 ^ 64 → (low + word) / 2 ^ 64 ≤ 1
one_carried low word l w = omega arith

wraps : (low word : ℕ) → (low + word) % 2 ^ 64 < 2 ^ 64
wraps low word = omega arith

high_with : (n : Number) (t : Total) (word : ℕ) → t.low < 2 ^ 64 → word < 2 ^ 64 → (total_with n t word).high ≤ t.high + 1
high_with Unsigned t word l w = let c = one_carried t.low word l w in omega arith
high_with Signed t word l w = let c = one_carried t.low word l w in omega arith
high_with float t word l w = omega arith

low_with : (n : Number) (t : Total) (word : ℕ) → t.low < 2 ^ 64 → (total_with n t word).low < 2 ^ 64
low_with Unsigned t word l = wraps t.low word
low_with Signed t word l = wraps t.low word
low_with float t word l = l

module _ (n : Number) {t : Tally} (word : ℕ) (s : Sane t) (f : word < 2 ^ 64) where
  sane_marked : Sane (marked_tally n t word)
  sane_marked = record {
    valid = omega (arith, s.valid);
    nan = omega (arith, s.nan);
    high = omega (arith, s.high, high_with n t.total word s.low f);
    low = low_with n t.total word s.low;
  }

  pub sane_count : Sane (counted_tally n t word)
  sane_count = go (is_nan (value_at n word))
    where
      go : (b : Bool) → Sane (if b then nan_tally t else marked_tally n t word)
      go true = sane_nan s
      go false = sane_marked

-- a number behind another leaves marks
pub marks_count : (n : Number) {t : Tally} (word : ℕ) → Sane t → HasMarks t → HasMarks (counted_tally n t word)
marks_count n {t} word s marks = go (is_nan (value_at n word))
  where
    go : (b : Bool) → HasMarks (if b then nan_tally t else marked_tally n t word)
    go true e = marks (omega arith)
    go false e = omega (arith, s.nan)

-- ---- true to the readings

pub tallied_none : (n : Number) → Tallied n [] empty_tally
unfolding count points outermost sum_of
tallied_none Unsigned = record { records = refl; valued = refl; valid = refl; nan = refl; doubles = refl; sum = refl; sane = sane_none }
tallied_none Signed = record { records = refl; valued = refl; valid = refl; nan = refl; doubles = refl; sum = refl; sane = sane_none }
tallied_none float = record { records = refl; valued = refl; valid = refl; nan = refl; doubles = refl; sum = refl; sane = sane_none }

module _ {n : Number} {xs : List (Reply ValidValue)} {t : Tally} (h : Tallied n xs t) where
  one_longer : (x : Reply ValidValue) → t.records + 1 ≡ length (xs ++ x ∷ [])
  one_longer x = ap (λ (k : ℕ). k + 1) h.records ∙ sym (length-append xs (x ∷ []))

  counted_as : (p : Reply ValidValue → Bool) (x : Reply ValidValue) (k : ℕ) (b : Bool) → k ≡ count p xs → p x ≡ b → k + (if b then 1 else 0) ≡ count p (xs ++ x ∷ [])
  counted_as p x k b e f = ap (λ (m : ℕ). m + (if b then 1 else 0)) e ∙ ap (λ (c : Bool). count p xs + (if c then 1 else 0)) (sym f) ∙ sym (count_more p xs x)

  not_counted : (p : Reply ValidValue → Bool) (x : Reply ValidValue) (k : ℕ) → k ≡ count p xs → p x ≡ false → k ≡ count p (xs ++ x ∷ [])
  not_counted p x k e f = sym (add-zero k) ∙ counted_as p x k false e f

  no_point_law : (x : Reply ValidValue) → point_of (length xs) x ≡ [] → outermost_in n t ≡ outermost (points 0 (xs ++ x ∷ []))
  no_point_law x e = h.doubles ∙ ap outermost (sym (append-nil (points 0 xs)) ∙ ap (λ (ps : List Point). points 0 xs ++ ps) (sym e) ∙ sym (points_more xs x))

  pub tallied_skip : (v : Value) → Tallied n (xs ++ answer (record { value = v; valid = false }) ∷ []) (skipped_tally t)
  tallied_skip v = record {
    records = one_longer x;
    valued = sym (not_counted has_no_value x 0 (sym h.valued) refl);
    valid = not_counted is_valid x t.valid h.valid refl;
    nan = not_counted is_valid_nan x t.nan h.nan refl;
    doubles = no_point_law x refl;
    sum = h.sum ∙ ap (λ (z : ℤ). z +ℤ pos (excess_of n t.valid)) (sym (+ℤ_idr (sum_of xs)) ∙ sym (sum_more xs x));
    sane = sane_skip h.sane;
  }
    where
      x : Reply ValidValue
      x = answer (record { value = v; valid = false })

  module _ (v : Value) (word : ℕ) (w : Words n word v) (f : word < 2 ^ 64) where
    abbrev one : Reply ValidValue
    one = answer (record { value = v; valid = true })

    read : double_read one ≡ value_at n word
    read = ap (of_bits binary64) w.double

    summed : sum_of (xs ++ one ∷ []) ≡ sum_of xs +ℤ integer_of n word
    summed = sum_more xs one ∙ ap (λ (z : ℤ). sum_of xs +ℤ z) w.integer

    tallied_nan : is_nan (value_at n word) ≡ true → Tallied n (xs ++ one ∷ []) (nan_tally t)
    tallied_nan e = record {
      records = one_longer one;
      valued = sym (not_counted has_no_value one 0 (sym h.valued) refl);
      valid = counted_as is_valid one t.valid true h.valid refl;
      nan = counted_as is_valid_nan one t.nan true h.nan (ap is_nan read ∙ e);
      doubles = nan_outermost n t ∙ no_point_law one (rw (ap is_nan read ∙ e) refl);
      sum = sum_with_nan n word t.valid (total_of t.total) (sum_of xs) e h.sum ∙ ap (λ (z : ℤ). z +ℤ pos (excess_of n (t.valid + 1))) (sym summed);
      sane = sane_nan h.sane;
    }

    point : is_nan (value_at n word) ≡ false → points 0 (xs ++ one ∷ []) ≡ points 0 xs ++ record { number = t.records; value = value_at n word } ∷ []
    point e = points_more xs one ∙ rw (ap is_nan read ∙ e, read, ← h.records) refl

    tallied_marked : is_nan (value_at n word) ≡ false → Tallied n (xs ++ one ∷ []) (marked_tally n t word)
    tallied_marked e = record {
      records = one_longer one;
      valued = sym (not_counted has_no_value one 0 (sym h.valued) refl);
      valid = counted_as is_valid one t.valid true h.valid refl;
      nan = not_counted is_valid_nan one t.nan h.nan (ap is_nan read ∙ e);
      doubles = marked_outermost n t word h.sane.nan
          ∙ ap (λ o. with_point o (record { number = t.records; value = value_at n word })) h.doubles
          ∙ sym (outermost_more (points 0 xs) (record { number = t.records; value = value_at n word }) (numerals 0 xs) e)
          ∙ ap outermost (sym (point e));
      sum = sum_with n t.total word t.valid (sum_of xs) h.sum ∙ ap (λ (z : ℤ). z +ℤ pos (excess_of n (t.valid + 1))) (sym summed);
      sane = sane_marked n word h.sane f;
    }

    pub tallied_count : Tallied n (xs ++ answer (record { value = v; valid = true }) ∷ []) (counted_tally n t word)
    tallied_count = go (is_nan (value_at n word)) refl
      where
        go : (b : Bool) → is_nan (value_at n word) ≡ b → Tallied n (xs ++ one ∷ []) (if b then nan_tally t else marked_tally n t word)
        go true e = tallied_nan e
        go false e = tallied_marked e
