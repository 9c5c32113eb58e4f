-- Worked examples of reports: the definition computes to what the rows say. Each file has one block of data, behind the list at 8.
use Rattle.std.specs.Prelude.{if◌then◌else◌}
use mathlib.Core.Path.{◌≡◌, refl}
use mathlib.Core.Bool.{Bool}
use mathlib.Core.List.{List, [], ◌∷◌, ◌++◌, map}
use Prim.Native.Nat.{ℕ}
use lib.IntN.{ℤ, pos, negsuc}
use lib.ListN.{length}
use lib.Ieee.{binary64, to_bits, of_bits, of_int, lt, is_nan}
use Rattle.definitions.specs.Reply.{Reply, Outcome, answer, refusal}
use Rattle.definitions.specs.Bytes.{little, le_of, le, les}
use Rattle.definitions.specs.Unicode.{latin1}
use Rattle.definitions.specs.Header.{header_of, header_bytes}
use Rattle.definitions.specs.DataType.{unsigned_integer, signed_integer, float, string}
use Rattle.definitions.specs.DataList.{list_of, links_of, rest_of, list_bytes}
use Rattle.definitions.specs.Channel.{Channel, Group, decoded, value_by, value_of, valid_of, area_of, bounded_valid_of, bounded_value_of}
use Rattle.definitions.specs.Chain.{block_at, fragment_of, fragments, list_at, chained_at, lists, chain_of, total, joined}
use Rattle.definitions.specs.Report.{Point, Report, first_records, readings, count, points, last_point, foremost, outermost, sum_of, report_of, last_record_in, report_on, reported}
use Rattle.theorems.specs.Examples.{channel, fixed, data_block}

abbrev file_of : List ℕ → List ℕ
file_of content = le 8 0 ++ list_bytes 0 (64 ∷ []) 1 (length content ∷ []) ++ data_block content

-- records of so many data bytes, and of so many invalidation bytes behind them
abbrev grouped : ℕ → ℕ → Group
grouped n m = record { id_size = 0; data_bytes = n; invalidation_bytes = m }

-- ---- a row: what is shown of a report, and what the row says

abbrev flag : Bool → ℕ
flag b = if b then 1 else 0

abbrev point : Point → List ℕ
point p = p.number ∷ to_bits binary64 p.value ∷ []

-- 0; the records, those that are valid, invalid and without value, the NaNs; whether there is any double, and the first, the last,
-- the smallest and the largest, each as its record's number and its pattern
abbrev numbers : Reply Report → List ℕ
numbers (refusal n t) = n ∷ []
numbers (answer a) =
    (0 ∷ a.records ∷ a.valid ∷ a.invalid ∷ a.without_value ∷ a.nan ∷ flag a.doubles.any ∷ [])
    ++ point a.doubles.first ++ point a.doubles.last ++ point a.doubles.smallest ++ point a.doubles.largest

abbrev sum_in : Reply Report → ℤ
sum_in (refusal n t) = pos 0
sum_in (answer a) = a.sum

pub record Shown : Type 0 where
  pub line : List ℕ
  pub sum : ℤ
  pub left : List ℕ

abbrev shown : Outcome Report → Shown
shown o = record { line = numbers o.reply; sum = sum_in o.reply; left = o.buffer }

pub record Row : Type 0 where
  pub given : Shown
  pub stated : Shown

-- the data, the record's size, its group, the channel and the buffer; and what is said of it
abbrev row : List ℕ → ℕ → Group → Channel → List ℕ → List ℕ → ℤ → List ℕ → Row
row content size g c out line sum left = record {
  given = shown (reported (file_of content) 8 size g c out);
  stated = record { line = line; sum = sum; left = left };
}

-- ---- the channels: a number of eight bytes, unsigned or a float; the latter with the invalidation bit 0; a signed byte

abbrev word : Channel
word = channel (unsigned_integer little) 0 64

abbrev real : Channel
real = channel (float little) 0 64

abbrev judged : Channel
judged = fixed 0 2 0 (float little) 0 64

abbrev byte : Channel
byte = channel (signed_integer little) 0 8

abbrev eight : List ℕ
eight = 7 ∷ 7 ∷ 7 ∷ 7 ∷ 7 ∷ 7 ∷ 7 ∷ 7 ∷ []

abbrev nine : List ℕ
nine = 7 ∷ eight

abbrev one : ℕ
one = 0x3FF0000000000000

abbrev a_nan : ℕ
a_nan = 0xFFF8000000000000

abbrev minus : ℕ
minus = 0x8000000000000000

-- 2^53
abbrev big : ℕ
big = 0x4340000000000000

abbrev pub table : List Row
table =
    -- 2^53 + 1, then 2^53: as doubles they are level, so the first is the smallest; the sum is exact
    row (le 8 9007199254740993 ++ le 8 9007199254740992) 8 (grouped 8 0) word nine
    (0 ∷ 2 ∷ 2 ∷ 0 ∷ 0 ∷ 0 ∷ 1 ∷ 0 ∷ big ∷ 1 ∷ big ∷ 0 ∷ big ∷ 0 ∷ big ∷ []) (pos 18014398509481985) (le 8 9007199254740992 ++ (7 ∷ []))
    -- 0, then -0, and the other way round
    ∷ row (le 8 0 ++ le 8 minus) 8 (grouped 8 0) real eight
    (0 ∷ 2 ∷ 2 ∷ 0 ∷ 0 ∷ 0 ∷ 1 ∷ 0 ∷ 0 ∷ 1 ∷ minus ∷ 0 ∷ 0 ∷ 0 ∷ 0 ∷ []) (pos 0) (le 8 minus)
    ∷ row (le 8 minus ++ le 8 0) 8 (grouped 8 0) real eight
    (0 ∷ 2 ∷ 2 ∷ 0 ∷ 0 ∷ 0 ∷ 1 ∷ 0 ∷ minus ∷ 1 ∷ 0 ∷ 0 ∷ minus ∷ 0 ∷ minus ∷ []) (pos 0) (le 8 0)
    -- an invalid NaN is invalid and no NaN, a valid one is; the numbers count every record
    ∷ row (le 8 a_nan ++ (1 ∷ []) ++ le 8 a_nan ++ (0 ∷ []) ++ le 8 one ++ (0 ∷ [])) 9 (grouped 8 1) judged nine
    (0 ∷ 3 ∷ 2 ∷ 1 ∷ 0 ∷ 1 ∷ 1 ∷ 2 ∷ one ∷ 2 ∷ one ∷ 2 ∷ one ∷ 2 ∷ one ∷ []) (pos 0) (le 8 one ++ (0 ∷ []))
    -- none but NaNs: there is no double
    ∷ row (le 8 a_nan) 8 (grouped 8 0) real eight
    (0 ∷ 1 ∷ 1 ∷ 0 ∷ 0 ∷ 1 ∷ 0 ∷ 0 ∷ 0 ∷ 0 ∷ 0 ∷ 0 ∷ 0 ∷ 0 ∷ 0 ∷ []) (pos 0) (le 8 a_nan)
    -- -1 and -128
    ∷ row (0xFF ∷ 0x80 ∷ []) 1 (grouped 1 0) byte (7 ∷ 7 ∷ [])
    (0 ∷ 2 ∷ 2 ∷ 0 ∷ 0 ∷ 0 ∷ 1 ∷ 0 ∷ 0xBFF0000000000000 ∷ 1 ∷ 0xC060000000000000 ∷ 1 ∷ 0xC060000000000000 ∷ 0 ∷ 0xBFF0000000000000 ∷ [])
    (negsuc 128) (0x80 ∷ 7 ∷ [])
    -- a sum of 65 bits
    ∷ row (le 8 18446744073709551615 ++ le 8 18446744073709551615) 8 (grouped 8 0) word eight
    (0 ∷ 2 ∷ 2 ∷ 0 ∷ 0 ∷ 0 ∷ 1 ∷ 0 ∷ 0x43F0000000000000 ∷ 1 ∷ 0x43F0000000000000 ∷ 0 ∷ 0x43F0000000000000 ∷ 0 ∷ 0x43F0000000000000 ∷ [])
    (pos 36893488147419103230) (le 8 18446744073709551615)
    -- a field that no record holds; the third byte is no whole record
    ∷ row (1 ∷ 2 ∷ 3 ∷ []) 2 (grouped 2 0) word (7 ∷ 7 ∷ 7 ∷ [])
    (0 ∷ 1 ∷ 0 ∷ 0 ∷ 1 ∷ 0 ∷ 0 ∷ 0 ∷ 0 ∷ 0 ∷ 0 ∷ 0 ∷ 0 ∷ 0 ∷ 0 ∷ []) (pos 0) (1 ∷ 2 ∷ 7 ∷ [])
    -- no record
    ∷ row (1 ∷ []) 2 (grouped 2 0) byte (7 ∷ 7 ∷ [])
    (0 ∷ 0 ∷ 0 ∷ 0 ∷ 0 ∷ 0 ∷ 0 ∷ 0 ∷ 0 ∷ 0 ∷ 0 ∷ 0 ∷ 0 ∷ 0 ∷ 0 ∷ []) (pos 0) (7 ∷ 7 ∷ [])
    -- refused: a size over the buffer, a text, another length, a bit behind the last; the first of them in this order
    ∷ row (1 ∷ []) 3 (grouped 2 0) (channel (string latin1) 0 8) (7 ∷ 7 ∷ []) (15 ∷ []) (pos 0) (7 ∷ 7 ∷ [])
    ∷ row (1 ∷ 2 ∷ []) 2 (grouped 3 0) (channel (string latin1) 0 8) (7 ∷ 7 ∷ []) (33 ∷ []) (pos 0) (7 ∷ 7 ∷ [])
    ∷ row (1 ∷ 2 ∷ []) 2 (grouped 2 1) (fixed 0 2 8 (unsigned_integer little) 0 8) (7 ∷ 7 ∷ []) (28 ∷ []) (pos 0) (7 ∷ 7 ∷ [])
    ∷ row (1 ∷ 2 ∷ []) 2 (grouped 1 1) (fixed 0 2 8 (unsigned_integer little) 0 8) (7 ∷ 7 ∷ []) (29 ∷ []) (pos 0) (7 ∷ 7 ∷ [])
    ∷ []

pub claim : map (λ (r : Row). r.given) table ≡ map (λ (r : Row). r.stated) table
unfolding le_of le les to_bits of_bits of_int header_of header_bytes list_of links_of rest_of list_bytes decoded value_by value_of valid_of area_of bounded_valid_of bounded_value_of block_at fragment_of fragments list_at chained_at lists chain_of total joined first_records readings count points last_point foremost outermost sum_of report_of last_record_in report_on reported is_nan lt
claim = refl
