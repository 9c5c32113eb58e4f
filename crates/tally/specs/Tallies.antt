-- What one record more makes of a tally, and what a tally knows of the records so far.
use Rattle.std.specs.Prelude.{◌≡◌, ℕ, ◌+◌, ◌*◌, ◌/◌, ◌%◌, ◌^◌, ◌<◌, ◌≤◌, Bool, true, false, List, length, pos, ◌+ℤ◌, ◌==◌, is_nan, nat_lt, if◌then◌else◌}
use Rattle.std.specs.Float.Ieee.{lt}
use Rattle.definitions.specs.Reply.{Reply}
use Rattle.definitions.specs.Channel.{ValidValue}
use Rattle.definitions.specs.Report.{Point, Outermost, no_point, count, is_valid, has_no_value, is_valid_nan, points, outermost, sum_of}
use Rattle.fields.specs.declared.form.Number.{Number}
use Rattle.fields.specs.declared.form.Number.TheVariants.{Unsigned, Signed, Float}
use Rattle.tally.specs.Words.{signed_zero, value_at}
use Rattle.tally.specs.declared.sum.Total.{Total}
use Rattle.tally.specs.declared.tally.Mark.{Mark}
use Rattle.tally.specs.declared.tally.Tally.{Tally}

-- ---- marks

-- of two the later where its double is smaller (larger), else the earlier
abbrev pub smaller_mark : Number → Mark → Mark → Mark
smaller_mark n earlier later = if lt (value_at n later.word) (value_at n earlier.word) then later else earlier

abbrev pub larger_mark : Number → Mark → Mark → Mark
larger_mark n earlier later = if lt (value_at n earlier.word) (value_at n later.word) then later else earlier

-- ---- the words of integers, added up

abbrev pub total_of : Total → ℕ
total_of t = t.high * 2 ^ 64 + t.low

-- a word more: what the low word cannot hold is carried
abbrev pub added_total : Total → ℕ → Total
added_total t word = record { high = t.high + (t.low + word) / 2 ^ 64; low = (t.low + word) % 2 ^ 64 }

-- a float adds nothing
abbrev pub total_with : Number → Total → ℕ → Total
total_with Unsigned t word = added_total t word
total_with Signed t word = added_total t word
total_with Float t word = t

-- ---- tallies

abbrev pub no_mark : Mark
no_mark = record { number = 0; word = 0 }

abbrev pub empty_tally : Tally
empty_tally = record {
  records = 0;
  valid = 0;
  nan = 0;
  total = record { high = 0; low = 0 };
  first = no_mark;
  last = no_mark;
  smallest = no_mark;
  largest = no_mark;
}

-- one record more whose value is invalid
abbrev pub skipped_tally : Tally → Tally
skipped_tally t = record {
  records = t.records + 1;
  valid = t.valid;
  nan = t.nan;
  total = t.total;
  first = t.first;
  last = t.last;
  smallest = t.smallest;
  largest = t.largest;
}

-- one that is valid, and NaN
abbrev pub nan_tally : Tally → Tally
nan_tally t = record {
  records = t.records + 1;
  valid = t.valid + 1;
  nan = t.nan + 1;
  total = t.total;
  first = t.first;
  last = t.last;
  smallest = t.smallest;
  largest = t.largest;
}

-- one that is valid and no NaN, as far as nothing is compared
abbrev pub last_tally : Number → Tally → ℕ → Tally
last_tally n t word = record {
  records = t.records + 1;
  valid = t.valid + 1;
  nan = t.nan;
  total = total_with n t.total word;
  first = t.first;
  last = record { number = t.records; word = word };
  smallest = t.smallest;
  largest = t.largest;
}

-- a mark in the place of extremes
abbrev pub with_extremes : Tally → Mark → Bool → Bool → Tally
with_extremes t mark isSmallest isLargest = record {
  records = t.records;
  valid = t.valid;
  nan = t.nan;
  total = t.total;
  first = t.first;
  last = t.last;
  smallest = if isSmallest then mark else t.smallest;
  largest = if isLargest then mark else t.largest;
}

-- one that is valid, and none; before the first one all that are valid are NaN
abbrev pub marked_tally : Number → Tally → ℕ → Tally
marked_tally n t word = record {
  records = t.records + 1;
  valid = t.valid + 1;
  nan = t.nan;
  total = total_with n t.total word;
  first = if t.valid == t.nan then record { number = t.records; word = word } else t.first;
  last = record { number = t.records; word = word };
  smallest = if t.valid == t.nan then record { number = t.records; word = word }
      else smaller_mark n t.smallest (record { number = t.records; word = word });
  largest = if t.valid == t.nan then record { number = t.records; word = word }
      else larger_mark n t.largest (record { number = t.records; word = word });
}

abbrev pub counted_tally : Number → Tally → ℕ → Tally
counted_tally n t word = if is_nan (value_at n word) then nan_tally t else marked_tally n t word

-- ---- what is known of a tally

-- one valid record at least was no NaN
abbrev pub HasMarks : Tally → Type 0
HasMarks t = t.valid ≡ t.nan → ⊥

-- a word that is no NaN takes the place of none of the extremes
pub record Inner (n : Number) (t : Tally) (word : ℕ) : Type 0 where
  pub number : is_nan (value_at n word) ≡ false
  pub not_below : lt (value_at n word) (value_at n t.smallest.word) ≡ false
  pub not_above : lt (value_at n t.largest.word) (value_at n word) ≡ false

-- whether it does, the words tell as their doubles do
pub record Clear (n : Number) (t : Tally) (word : ℕ) : Type 0 where
  pub number : is_nan (value_at n word) ≡ false
  pub below : lt (value_at n word) (value_at n t.smallest.word) ≡ nat_lt word t.smallest.word
  pub above : lt (value_at n t.largest.word) (value_at n word) ≡ nat_lt t.largest.word word

-- so none of its sums wraps while there are few records
pub record Sane (t : Tally) : Type 0 where
  pub valid : t.valid ≤ t.records
  pub nan : t.nan ≤ t.valid
  pub high : t.total.high ≤ t.valid
  pub low : t.total.low < 2 ^ 64

abbrev pub point_at : Number → Mark → Point
point_at n m = record { number = m.number; value = value_at n m.word }

abbrev pub no_outermost : Outermost
no_outermost = record { any = false; first = no_point; last = no_point; smallest = no_point; largest = no_point }

-- with none, no mark is asked
abbrev pub outermost_in : Number → Tally → Outermost
outermost_in n t =
    if t.valid == t.nan
    then no_outermost
    else record {
      any = true;
      first = point_at n t.first;
      last = point_at n t.last;
      smallest = point_at n t.smallest;
      largest = point_at n t.largest;
    }

-- what the words of the valid ones are above their integers
abbrev pub excess_of : Number → ℕ → ℕ
excess_of Unsigned valid = 0
excess_of Signed valid = valid * signed_zero
excess_of Float valid = 0

-- the tally of records that gave the readings xs, each of which has a value
pub record Tallied (n : Number) (xs : List (Reply ValidValue)) (t : Tally) : Type 0 where
  pub records : t.records ≡ length xs
  pub valued : count has_no_value xs ≡ 0
  pub valid : t.valid ≡ count is_valid xs
  pub nan : t.nan ≡ count is_valid_nan xs
  pub doubles : outermost_in n t ≡ outermost (points 0 xs)
  pub sum : pos (total_of t.total) ≡ sum_of xs +ℤ pos (excess_of n t.valid)
  pub sane : Sane t
