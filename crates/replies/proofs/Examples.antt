-- Worked examples of what C is told and of what it gives: each struct with another number in each field, by place, so that no
-- two of them can change places in both directions at once; each kind of value; and each refusal.
use mathlib.Core.Path.{◌≡◌, refl}
use Prim.Native.Nat.{ℕ}
use mathlib.Core.Bool.{true, false}
use mathlib.Core.List.{List, [], ◌∷◌, map}
use lib.IntN.{ℤ, pos, negsuc}
use lib.Ieee.{binary64, of_bits, to_bits}
use Rattle.definitions.specs.Reply.{answer, refusal}
use Rattle.definitions.specs.Channel.{unsigned, signed, text, bytes, sample, stream, unknown_value, double_value}
use Rattle.definitions.specs.WrittenValue.{given_unsigned, given_signed, given_double, given_other}
use Rattle.definitions.specs.Overlap.{pair, none}
use Rattle.definitions.specs.Report.{Point, Report, no_point}
use Rattle.replies.proofs.InOrder.{Told, Answer, shown, Taken, Fields, Meaning, meant, done_reply, value_reply, valid_value_reply, validity_reply, text_reply, length_reply, payload_reply, overlap_reply, report_reply, group, number}
use Rattle.block_replies.proofs.InOrder.{Row, given, stated, tells, takes}

-- a point whose double has a pattern
abbrev point_with : ℕ → ℕ → Point
point_with n pattern = record { number = n; value = of_bits binary64 pattern }

-- with another number in each field, and a sum
abbrev some_report : ℤ → Report
some_report z = record {
  records = 9;
  valid = 10;
  invalid = 11;
  without_value = 12;
  nan = 13;
  doubles = record { any = true; first = point_with 14 15; last = point_with 16 17; smallest = point_with 18 19; largest = point_with 20 21 };
  sum = z;
}

-- what C is told of it, with the two words
abbrev some_numbers : ℕ → ℕ → List ℕ
some_numbers high low = 0 ∷ 0 ∷ 9 ∷ 10 ∷ 11 ∷ 12 ∷ 13 ∷ 1 ∷ 14 ∷ 15 ∷ 16 ∷ 17 ∷ 18 ∷ 19 ∷ 20 ∷ 21 ∷ high ∷ low ∷ []

abbrev empty_report : Report
empty_report = record {
  records = 9;
  valid = 0;
  invalid = 10;
  without_value = 0;
  nan = 0;
  doubles = record { any = false; first = no_point; last = no_point; smallest = no_point; largest = no_point };
  sum = pos 0;
}

abbrev pub table : List (Row Told Answer Taken Fields Meaning)
table =
    tells done_reply (answer tt) (0 ∷ 0 ∷ [])
    ∷ tells length_reply (answer 9) (0 ∷ 0 ∷ 9 ∷ [])
    -- each kind of value: a number has no place, and bytes have no number
    ∷ tells value_reply (answer (unsigned 9)) (0 ∷ 0 ∷ 1 ∷ 9 ∷ 0 ∷ 0 ∷ [])
    ∷ tells value_reply (answer (signed (pos 9))) (0 ∷ 0 ∷ 2 ∷ 9 ∷ 0 ∷ 0 ∷ [])
    ∷ tells value_reply (answer (signed (negsuc 0))) (0 ∷ 0 ∷ 2 ∷ 18446744073709551615 ∷ 0 ∷ 0 ∷ [])
    ∷ tells value_reply (answer (double_value 9)) (0 ∷ 0 ∷ 3 ∷ 9 ∷ 0 ∷ 0 ∷ [])
    ∷ tells value_reply (answer (text 9 10)) (0 ∷ 0 ∷ 4 ∷ 0 ∷ 9 ∷ 10 ∷ [])
    ∷ tells value_reply (answer (bytes 9 10)) (0 ∷ 0 ∷ 5 ∷ 0 ∷ 9 ∷ 10 ∷ [])
    ∷ tells value_reply (answer (sample 9 10)) (0 ∷ 0 ∷ 6 ∷ 0 ∷ 9 ∷ 10 ∷ [])
    ∷ tells value_reply (answer (stream 9 10)) (0 ∷ 0 ∷ 7 ∷ 0 ∷ 9 ∷ 10 ∷ [])
    ∷ tells value_reply (answer unknown_value) (0 ∷ 0 ∷ 8 ∷ 0 ∷ 0 ∷ 0 ∷ [])
    -- the flags, both ways
    ∷ tells valid_value_reply (answer (record { value = text 9 10; valid = true })) (0 ∷ 0 ∷ 4 ∷ 1 ∷ 0 ∷ 9 ∷ 10 ∷ [])
    ∷ tells valid_value_reply (answer (record { value = double_value 9; valid = false })) (0 ∷ 0 ∷ 3 ∷ 0 ∷ 9 ∷ 0 ∷ 0 ∷ [])
    ∷ tells validity_reply (answer true) (0 ∷ 0 ∷ 1 ∷ [])
    ∷ tells validity_reply (answer false) (0 ∷ 0 ∷ 0 ∷ [])
    ∷ tells payload_reply (answer (record { value = text 9 10; valid = true; size = 11 })) (0 ∷ 0 ∷ 4 ∷ 1 ∷ 0 ∷ 9 ∷ 10 ∷ 11 ∷ [])
    ∷ tells payload_reply (answer (record { value = double_value 9; valid = false; size = 11 })) (0 ∷ 0 ∷ 3 ∷ 0 ∷ 9 ∷ 0 ∷ 0 ∷ 11 ∷ [])
    ∷ tells text_reply (answer (record { count = 9; damaged = true })) (0 ∷ 0 ∷ 9 ∷ 1 ∷ [])
    ∷ tells text_reply (answer (record { count = 9; damaged = false })) (0 ∷ 0 ∷ 9 ∷ 0 ∷ [])
    -- a pair, and none
    ∷ tells overlap_reply (answer (pair 9 10)) (0 ∷ 0 ∷ 1 ∷ 9 ∷ 10 ∷ [])
    ∷ tells overlap_reply (answer none) (0 ∷ 0 ∷ 0 ∷ 0 ∷ 0 ∷ [])
    -- a sum of two words, also below 0, and no doubles
    ∷ tells report_reply (answer (some_report (pos 405828369621610135575))) (some_numbers 22 23)
    ∷ tells report_reply (answer (some_report (negsuc 405828369621610135528))) (some_numbers 18446744073709551594 23)
    ∷ tells report_reply (answer empty_report) (0 ∷ 0 ∷ 9 ∷ 0 ∷ 10 ∷ 0 ∷ 0 ∷ 0 ∷ 0 ∷ 0 ∷ 0 ∷ 0 ∷ 0 ∷ 0 ∷ 0 ∷ 0 ∷ 0 ∷ 0 ∷ [])
    -- refusals
    ∷ tells done_reply (refusal 21 9) (21 ∷ 9 ∷ [])
    ∷ tells length_reply (refusal 2 48) (2 ∷ 48 ∷ 0 ∷ [])
    ∷ tells value_reply (refusal 21 9) (21 ∷ 9 ∷ 0 ∷ 0 ∷ 0 ∷ 0 ∷ [])
    ∷ tells valid_value_reply (refusal 21 9) (21 ∷ 9 ∷ 0 ∷ 0 ∷ 0 ∷ 0 ∷ 0 ∷ [])
    ∷ tells validity_reply (refusal 28 9) (28 ∷ 9 ∷ 0 ∷ [])
    ∷ tells payload_reply (refusal 6 2) (6 ∷ 2 ∷ 0 ∷ 0 ∷ 0 ∷ 0 ∷ 0 ∷ 0 ∷ [])
    ∷ tells text_reply (refusal 6 4) (6 ∷ 4 ∷ 0 ∷ 0 ∷ [])
    ∷ tells overlap_reply (refusal 27 9) (27 ∷ 9 ∷ 0 ∷ 0 ∷ 0 ∷ [])
    ∷ tells report_reply (refusal 33 9) (33 ∷ 9 ∷ 0 ∷ 0 ∷ 0 ∷ 0 ∷ 0 ∷ 0 ∷ 0 ∷ 0 ∷ 0 ∷ 0 ∷ 0 ∷ 0 ∷ 0 ∷ 0 ∷ 0 ∷ 0 ∷ [])
    -- what C gives
    ∷ takes group (1, (2, (3, tt))) (record { id_size = 1; data_bytes = 2; invalidation_bytes = 3 })
    -- a number by its kind, and none of another
    ∷ takes number (1, (9, tt)) (given_unsigned 9)
    ∷ takes number (2, (9, tt)) (given_signed (pos 9))
    ∷ takes number (2, (18446744073709551615, tt)) (given_signed (negsuc 0))
    ∷ takes number (3, (9, tt)) (given_double 9)
    ∷ takes number (0, (9, tt)) given_other
    ∷ takes number (4, (9, tt)) given_other
    ∷ []

pub claim : map (given Told Answer Taken Fields Meaning shown meant) table ≡ map (stated Told Answer Taken Fields Meaning) table
unfolding of_bits to_bits
claim = refl
