-- What C is told of values, texts, records, overlaps and reports, and what it gives, by place, as `block_replies` has it of blocks.
use Prim.Native.Nat.{ℕ}
use mathlib.Core.Path.{◌≡◌, refl}
use mathlib.Core.Bool.{Bool}
use mathlib.Core.List.{List, [], ◌∷◌}
use lib.IntN.{ℤ}
use lib.Ieee.{binary64, of_bits, to_bits}
use Rattle.definitions.specs.Reply.{Reply, refusal}
use Rattle.definitions.specs.Channel.{Group, Value, ValidValue}
use Rattle.definitions.specs.Unicode.{TextWritten}
use Rattle.definitions.specs.WrittenValue.{Given}
use Rattle.definitions.specs.Payload.{PayloadValue}
use Rattle.definitions.specs.Overlap.{Overlap}
use Rattle.definitions.specs.Report.{Report}
use Rattle.replies.specs.Replies.{done_c, text_c}
use Rattle.replies.specs.Values.{group_given, word_of, value_c, valid_value_c, validity_c, length_c, payload_c}
use Rattle.replies.specs.Stored.{number_given}
use Rattle.replies.specs.Overlaps.{overlap_c}
use Rattle.replies.specs.Reports.{report_c}
use Rattle.replies.specs.declared.reports.Mf4Point.{Mf4Point}
use Rattle.replies.specs.contracts.done.Mf4DoneReply as mf4_done_reply
use Rattle.replies.specs.contracts.values.Mf4ValueReply as mf4_value_reply
use Rattle.replies.specs.contracts.valid_values.Mf4ValidValueReply as mf4_valid_value_reply
use Rattle.replies.specs.contracts.validity.Mf4ValidityReply as mf4_validity_reply
use Rattle.replies.specs.contracts.texts.Mf4TextReply as mf4_text_reply
use Rattle.replies.specs.contracts.fetches.Mf4LengthReply as mf4_length_reply
use Rattle.replies.specs.contracts.payload.Mf4PayloadReply as mf4_payload_reply
use Rattle.replies.specs.contracts.overlap.Mf4OverlapReply as mf4_overlap_reply
use Rattle.replies.specs.contracts.reports.Mf4Point as mf4_point
use Rattle.replies.specs.contracts.reports.Mf4ReportReply as mf4_report_reply
use Rattle.replies.specs.contracts.group.Mf4Group as mf4_group
use Rattle.replies.specs.contracts.stored.Mf4Number as mf4_number
use Rattle.block_replies.proofs.InOrder.{listed, nothing, within, zeros}

-- ---- what C is told

-- each struct that a call returns
pub data Told : Type 0 where
  done_reply value_reply valid_value_reply validity_reply text_reply length_reply payload_reply overlap_reply report_reply : Told

abbrev pub Answer : Told → Type 0
Answer done_reply = Unit {0}
Answer value_reply = Value
Answer valid_value_reply = ValidValue
Answer validity_reply = Bool
Answer text_reply = TextWritten
Answer length_reply = ℕ
Answer payload_reply = PayloadValue
Answer overlap_reply = Overlap
Answer report_reply = Report

-- a double by its pattern, and a signed number as its word
abbrev point_numbers : Mf4Point → List ℕ
point_numbers s = listed 1 (λ v. to_bits binary64 v.0 ∷ []) ((mf4_point.struct).as_values s)

abbrev sum_numbers : ℤ × (ℕ × Unit {0}) → List ℕ
sum_numbers v = word_of v.0 ∷ listed 1 nothing v.1

-- the struct that a reply becomes, as its numbers
abbrev pub shown : (k : Told) → Reply (Answer k) → List ℕ
shown done_reply r = listed 2 nothing ((mf4_done_reply.struct).as_values (done_c r))
shown value_reply r = listed 6 nothing ((mf4_value_reply.struct).as_values (value_c r))
shown valid_value_reply r = listed 7 nothing ((mf4_valid_value_reply.struct).as_values (valid_value_c r))
shown validity_reply r = listed 3 nothing ((mf4_validity_reply.struct).as_values (validity_c r))
shown text_reply r = listed 4 nothing ((mf4_text_reply.struct).as_values (text_c r))
shown length_reply r = listed 3 nothing ((mf4_length_reply.struct).as_values (length_c r))
shown payload_reply r = listed 8 nothing ((mf4_payload_reply.struct).as_values (payload_c r))
shown overlap_reply r = listed 5 nothing ((mf4_overlap_reply.struct).as_values (overlap_c r))
shown report_reply r =
    listed 8 (within point_numbers (within point_numbers (within point_numbers (within point_numbers sum_numbers))))
    ((mf4_report_reply.struct).as_values (report_c r))

-- how many numbers stand behind the reply's own and what it tells
abbrev pub others : Told → ℕ
others done_reply = 0
others value_reply = 4
others valid_value_reply = 5
others validity_reply = 1
others text_reply = 2
others length_reply = 1
others payload_reply = 6
others overlap_reply = 3
others report_reply = 16

pub refusal_shown : (k : Told) (n t : ℕ) → shown k (refusal n t) ≡ n ∷ t ∷ zeros (others k)
unfolding of_bits to_bits
refusal_shown done_reply n t = refl
refusal_shown value_reply n t = refl
refusal_shown valid_value_reply n t = refl
refusal_shown validity_reply n t = refl
refusal_shown text_reply n t = refl
refusal_shown length_reply n t = refl
refusal_shown payload_reply n t = refl
refusal_shown overlap_reply n t = refl
refusal_shown report_reply n t = refl

-- ---- what C gives

-- each struct that a call takes
pub data Taken : Type 0 where
  group number : Taken

-- its fields, and what it means
abbrev pub Fields : Taken → Type 0
Fields group = mf4_group.the_values
Fields number = mf4_number.the_values

abbrev pub Meaning : Taken → Type 0
Meaning group = Group
Meaning number = Given

abbrev pub meant : (k : Taken) → Fields k → Meaning k
meant group v = group_given ((mf4_group.struct).make v tt)
meant number v = number_given ((mf4_number.struct).make v tt)
