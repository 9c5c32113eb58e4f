-- One channel over all records of a chain, in one line: how many of its values are valid, the outermost of their doubles, and
-- the sum of its integers. f is the file.
use Rattle.std.specs.Prelude.{ℕ, zero, suc, ◌+◌, ◌-◌, ◌*◌, ◌/◌, List, [], ◌∷◌, ◌++◌, Bool, true, false, not, ◌&&◌, ℤ, pos, ◌+ℤ◌, length, take, drop, ltb, eqb, Float, if◌then◌else◌}
use Rattle.std.specs.Float.{binary64}
use Rattle.std.specs.Float.Ieee.{of_bits, lt, is_nan}
use Rattle.definitions.specs.Reply.{Reply, Outcome, answer, refusal, and_then, on_answer}
use Rattle.definitions.specs.Bytes.{span}
use Rattle.definitions.specs.Channel.{Channel, Group, Value, unsigned, signed, double, text, bytes, sample, stream, unknown_value, ValidValue, is_fixed_number, double_in, area_of, bounded_value_of}
use Rattle.definitions.specs.Chain.{file_limit, id_dt, joined, chain_of, bad_size}

-- ---- the records, and what each gives of the channel

-- the first n records of `size` bytes, which stand end to end
unfoldable pub first_records : ℕ → ℕ → List ℕ → List (List ℕ)
first_records zero size j = []
first_records (suc n) size j = take size j ∷ first_records n size (drop size j)

-- a last one that is not whole is none
abbrev pub record_count : ℕ → List ℕ → ℕ
record_count size j = length j / size

-- a record's value with its validity, or the refusal that says why it has none: 18 to 22
unfoldable pub readings : Group → Channel → List (List ℕ) → List (Reply ValidValue)
readings g c [] = []
readings g c (r ∷ rs) = bounded_value_of r g c ∷ readings g c rs

-- ---- the counts

unfoldable pub count : {A : Type 0} → (A → Bool) → List A → ℕ
count p [] = 0
count p (x ∷ xs) = (if p x then 1 else 0) + count p xs

abbrev pub is_valid : Reply ValidValue → Bool
is_valid (answer v) = v.valid
is_valid (refusal n t) = false

abbrev pub is_invalid : Reply ValidValue → Bool
is_invalid (answer v) = not v.valid
is_invalid (refusal n t) = false

abbrev pub has_no_value : Reply ValidValue → Bool
has_no_value (answer v) = false
has_no_value (refusal n t) = true

-- the value as a double
abbrev pub double_read : Reply ValidValue → Float
double_read x = of_bits binary64 (double_in (and_then x (λ v. answer v.value)))

abbrev pub is_valid_nan : Reply ValidValue → Bool
is_valid_nan x = is_valid x && is_nan (double_read x)

-- ---- the outermost doubles

-- a double, and the number of its record
pub record Point : Type 0 where
  pub number : ℕ
  pub value : Float

-- the valid doubles that are no NaN; the first record has number k, and every record has one
unfoldable pub points : ℕ → List (Reply ValidValue) → List Point
points k [] = []
points k (x ∷ xs) =
    if is_valid x && not (is_nan (double_read x))
    then record { number = k; value = double_read x } ∷ points (k + 1) xs
    else points (k + 1) xs

-- the last of p and those behind it
unfoldable pub last_point : Point → List Point → Point
last_point p [] = p
last_point p (q ∷ qs) = last_point q qs

-- the one of p and those behind it that comes before all others in an order; of those that are level the earliest. So p is it,
-- unless the one of those behind it comes before p
unfoldable pub foremost : (Float → Float → Bool) → Point → List Point → Point
foremost before p [] = p
foremost before p (q ∷ qs) =
    if before (foremost before q qs).value p.value then foremost before q qs else p

abbrev pub smallest : Point → List Point → Point
smallest = foremost lt

abbrev pub largest : Point → List Point → Point
largest = foremost (λ a b. lt b a)

pub record Outermost : Type 0 where
  pub any : Bool
  pub first : Point
  pub last : Point
  pub smallest : Point
  pub largest : Point

abbrev pub no_point : Point
no_point = record { number = 0; value = of_bits binary64 0 }

-- with none, all is 0
unfoldable pub outermost : List Point → Outermost
outermost [] = record { any = false; first = no_point; last = no_point; smallest = no_point; largest = no_point }
outermost (p ∷ ps) = record { any = true; first = p; last = last_point p ps; smallest = smallest p ps; largest = largest p ps }

-- ---- the sum

-- a value that is no integer adds nothing
abbrev pub integer_in : Value → ℤ
integer_in (unsigned n) = pos n
integer_in (signed z) = z
integer_in (double x pattern) = pos 0
integer_in (text at n) = pos 0
integer_in (bytes at n) = pos 0
integer_in (sample at n) = pos 0
integer_in (stream at n) = pos 0
integer_in unknown_value = pos 0

-- nor does an invalid one
abbrev pub summand : Reply ValidValue → ℤ
summand (answer v) = if v.valid then integer_in v.value else pos 0
summand (refusal n t) = pos 0

unfoldable pub sum_of : List (Reply ValidValue) → ℤ
sum_of [] = pos 0
sum_of (x ∷ xs) = summand x +ℤ sum_of xs

-- ---- the line

pub record Report : Type 0 where
  pub records : ℕ
  pub valid : ℕ
  pub invalid : ℕ
  pub without_value : ℕ
  pub nan : ℕ
  pub doubles : Outermost
  pub sum : ℤ

unfoldable pub report_of : List (Reply ValidValue) → Report
report_of xs = record {
  records = length xs;
  valid = count is_valid xs;
  invalid = count is_invalid xs;
  without_value = count has_no_value xs;
  nan = count is_valid_nan xs;
  doubles = outermost (points 0 xs);
  sum = sum_of xs;
}

-- the last of n records in front of the buffer, where there is one
unfoldable pub last_record_in : ℕ → ℕ → List ℕ → List ℕ → List ℕ
last_record_in zero size j out = out
last_record_in (suc n) size j out = span j (n * size) size ++ drop size out

-- of the joined data j. 33: the channel is no fixed number; then 28 and 29, of the record size alone
unfoldable pub report_on : List ℕ → ℕ → Group → Channel → List ℕ → Outcome Report
report_on j size g c out =
    if not (is_fixed_number c) then record { reply = refusal 33 0; buffer = out }
    else on_answer (area_of size g c)
    (λ u. record {
      reply = answer (report_of (readings g c (first_records (record_count size j) size j)));
      buffer = last_record_in (record_count size j) size j out;
    })
    out

-- 15, 7, the chain's own, 33, 28, 29
unfoldable pub reported : List ℕ → ℕ → ℕ → Group → Channel → List ℕ → Outcome Report
reported f start size g c out =
    if bad_size size (length out) then record { reply = refusal 15 0; buffer = out }
    else if ltb file_limit (length f) then record { reply = refusal 7 0; buffer = out }
    else on_answer (chain_of id_dt f start) (λ bs. report_on (joined f bs) size g c out) out
