-- No conversion of `block_replies` and `replies` has a second result: what C is told of an answer, and what is taken for what C gives.
use mathlib.Core.Path.{◌≡◌, refl, sym, ap, ◌∙◌}
use Rattle.std.specs.Prelude.{Result, Ok}
use Rattle.definitions.specs.Reply.{answer}
use Rattle.definitions.specs.WrittenValue.{Given, given_unsigned, given_signed, given_double, given_other}
use Rattle.definitions.proofs.Replies.{one_by}
use Rattle.refusals.specs.declared.Refusal.{Refusal}
use Rattle.blocks.specs.Meaning.{header_meant}
use Rattle.blocks.specs.declared.header.BlockHeader.{BlockHeader}
use Rattle.blocks.proofs.Back.{header_back}
use Rattle.channels.specs.Meaning.{channel_block_meant}
use Rattle.channels.specs.declared.channel_block.ChannelBlock.{ChannelBlock}
use Rattle.channels.proofs.Back.{channel_one}
use Rattle.fields.specs.Meaning.{group_meant}
use Rattle.fields.specs.declared.group.Group.{Group}
use Rattle.fields.proofs.Back.{description_one}
use Rattle.encoder.specs.Meaning.{given_meant}
use Rattle.encoder.specs.declared.number.NumberGiven.{NumberGiven}
use Rattle.encoder.specs.declared.number.NumberGiven.TheVariants.{Unsigned, Signed, Double, Other}
use Rattle.block_replies.proofs.header.Mf4HeaderReplyFromResultBlockHeaderRefusal.from.Kinds as header_reply_kinds
use Rattle.block_replies.proofs.header.Mf4HeaderReplyFromResultBlockHeaderRefusal.from.Reads as header_reply
use Rattle.block_replies.proofs.list.Mf4ListReplyFromResultDataListBlockRefusal.from.Kinds as list_reply_kinds
use Rattle.block_replies.proofs.list.Mf4ListReplyFromResultDataListBlockRefusal.from.Reads as list_reply
use Rattle.block_replies.proofs.channel_block.Mf4ChannelReplyFromResultChannelBlockRefusal.from.Kinds as channel_reply_kinds
use Rattle.block_replies.proofs.channel_block.Mf4ChannelReplyFromResultChannelBlockRefusal.from.Reads as channel_reply
use Rattle.block_replies.proofs.written.Mf4WrittenReplyFromResultU64Refusal.from.Kinds as written_reply_kinds
use Rattle.block_replies.proofs.written.Mf4WrittenReplyFromResultU64Refusal.from.Reads as written_reply
use Rattle.block_replies.proofs.header.Mf4HeaderFromBlockHeader.from.Kinds as header_told_kinds
use Rattle.block_replies.proofs.header.Mf4HeaderFromBlockHeader.from.Reads as header_told
use Rattle.block_replies.proofs.channel.Mf4ChannelFromChannel.from.Kinds as description_told_kinds
use Rattle.block_replies.proofs.channel.Mf4ChannelFromChannel.from.Reads as description_told
use Rattle.block_replies.proofs.channel_block.Mf4ChannelBlockFromChannelBlock.from.Kinds as block_told_kinds
use Rattle.block_replies.proofs.channel_block.Mf4ChannelBlockFromChannelBlock.from.Reads as block_told
use Rattle.replies.proofs.values.Mf4ValueReplyFromResultDecodedValueRefusal.from.Kinds as value_reply_kinds
use Rattle.replies.proofs.values.Mf4ValueReplyFromResultDecodedValueRefusal.from.Reads as value_reply
use Rattle.replies.proofs.valid_values.Mf4ValidValueReplyFromResultDecodedChannelValueRefusal.from.Kinds as valid_value_reply_kinds
use Rattle.replies.proofs.valid_values.Mf4ValidValueReplyFromResultDecodedChannelValueRefusal.from.Reads as valid_value_reply
use Rattle.replies.proofs.validity.Mf4ValidityReplyFromResultBoolRefusal.from.Kinds as validity_reply_kinds
use Rattle.replies.proofs.validity.Mf4ValidityReplyFromResultBoolRefusal.from.Reads as validity_reply
use Rattle.replies.proofs.texts.Mf4TextReplyFromResultTextWrittenRefusal.from.Kinds as text_reply_kinds
use Rattle.replies.proofs.texts.Mf4TextReplyFromResultTextWrittenRefusal.from.Reads as text_reply
use Rattle.replies.proofs.flag.Kinds as flag_kinds
use Rattle.replies.proofs.flag.Reads as flag
use Rattle.replies.proofs.fetches.Mf4LengthReplyFromResultDataPositionRefusal.from.Kinds as length_reply_kinds
use Rattle.replies.proofs.fetches.Mf4LengthReplyFromResultDataPositionRefusal.from.Reads as length_reply
use Rattle.replies.proofs.done.Mf4DoneReplyFromResultUnitRefusal.from.Kinds as done_reply_kinds
use Rattle.replies.proofs.done.Mf4DoneReplyFromResultUnitRefusal.from.Reads as done_reply
use Rattle.replies.proofs.payload.Mf4PayloadReplyFromResultDecodedPayloadRefusal.from.Kinds as payload_reply_kinds
use Rattle.replies.proofs.payload.Mf4PayloadReplyFromResultDecodedPayloadRefusal.from.Reads as payload_reply
use Rattle.replies.proofs.overlap.Mf4OverlapReplyFromResultOptionPairRefusal.from.Kinds as overlap_reply_kinds
use Rattle.replies.proofs.overlap.Mf4OverlapReplyFromResultOptionPairRefusal.from.Reads as overlap_reply
use Rattle.replies.proofs.reports.Mf4ReportReplyFromResultReportRefusal.from.Kinds as report_reply_kinds
use Rattle.replies.proofs.reports.Mf4ReportReplyFromResultReportRefusal.from.Reads as report_reply
use Rattle.replies.proofs.reports.Mf4ReportReplyFromReport.from.Kinds as line_told_kinds
use Rattle.replies.proofs.reports.Mf4ReportReplyFromReport.from.Reads as line_told
use Rattle.replies.proofs.reports.Mf4PointFromPoint.from.Kinds as point_told_kinds
use Rattle.replies.proofs.reports.Mf4PointFromPoint.from.Reads as point_told
use Rattle.block_replies.proofs.header.BlockHeaderFromMf4Header.from.Kinds as header_of_kinds
use Rattle.block_replies.proofs.header.BlockHeaderFromMf4Header.from.Reads as header_of
use Rattle.block_replies.proofs.channel_block.ChannelBlockFromMf4ChannelBlock.from.Kinds as block_of_kinds
use Rattle.block_replies.proofs.channel_block.ChannelBlockFromMf4ChannelBlock.from.Reads as block_of
use Rattle.block_replies.proofs.channel.ChannelFromMf4Channel.from.Kinds as channel_of_kinds
use Rattle.block_replies.proofs.channel.ChannelFromMf4Channel.from.Reads as channel_of
use Rattle.replies.proofs.group.GroupFromMf4Group.from.Kinds as group_of_kinds
use Rattle.replies.proofs.group.GroupFromMf4Group.from.Reads as group_of
use Rattle.replies.proofs.stored.NumberGivenFromMf4Number.from.Kinds as number_of_kinds
use Rattle.replies.proofs.stored.NumberGivenFromMf4Number.from.Reads as number_of
use Rattle.theorems.specs.Sole.{Settled}
use Rattle.theorems.proofs.Calls.NoSecondReply.{settled}

-- ---- the library's own values, one for each meaning

header_given_one : (a b : BlockHeader) → header_meant a ≡ header_meant b → a ≡ b
header_given_one = one_by header_meant header_back (λ h. refl)

group_given_one : (a b : Group) → group_meant a ≡ group_meant b → a ≡ b
group_given_one =
    one_by group_meant (λ g. record { record_id_size = g.id_size; data_bytes = g.data_bytes; invalidation_bytes = g.invalidation_bytes }) (λ g. refl)

abbrev number_back : Given → NumberGiven
number_back (given_unsigned n) = Unsigned n
number_back (given_signed z) = Signed z
number_back (given_double pattern) = Double pattern
number_back given_other = Other

number_back_law : (v : NumberGiven) → number_back (given_meant v) ≡ v
number_back_law (Unsigned n) = refl
number_back_law (Signed z) = refl
number_back_law (Double pattern) = refl
number_back_law Other = refl

number_given_one : (a b : NumberGiven) → given_meant a ≡ given_meant b → a ≡ b
number_given_one = one_by given_meant number_back number_back_law

block_given_one : (a b : ChannelBlock) → channel_block_meant a ≡ channel_block_meant b → a ≡ b
block_given_one a b e =
    let read : ◌≡◌ {A = Result ChannelBlock Refusal} (Ok a) (Ok b) = channel_one (Ok a) (Ok b) (ap answer e) in cc

-- ---- what C is told

pub header_reply_settled : Settled 0 header_reply_kinds.ps header_reply_kinds.r header_reply.Asked header_reply.ensures header_reply.Learnt
header_reply_settled = settled (λ κs a y z b c p q. (p ∙ sym q, refl))

pub list_reply_settled : Settled 0 list_reply_kinds.ps list_reply_kinds.r list_reply.Asked list_reply.ensures list_reply.Learnt
list_reply_settled = settled (λ κs a y z b c p q. (p ∙ sym q, refl))

pub channel_reply_settled : Settled 0 channel_reply_kinds.ps channel_reply_kinds.r channel_reply.Asked channel_reply.ensures channel_reply.Learnt
channel_reply_settled = settled (λ κs a y z b c p q. (p ∙ sym q, refl))

pub written_reply_settled : Settled 0 written_reply_kinds.ps written_reply_kinds.r written_reply.Asked written_reply.ensures written_reply.Learnt
written_reply_settled = settled (λ κs a y z b c p q. (p ∙ sym q, refl))

pub header_told_settled : Settled 0 header_told_kinds.ps header_told_kinds.r header_told.Asked header_told.ensures header_told.Learnt
header_told_settled = settled (λ κs a y z b c p q. (p ∙ sym q, refl))

pub description_told_settled : Settled 0 description_told_kinds.ps description_told_kinds.r description_told.Asked description_told.ensures description_told.Learnt
description_told_settled = settled (λ κs a y z b c p q. (p ∙ sym q, refl))

pub block_told_settled : Settled 0 block_told_kinds.ps block_told_kinds.r block_told.Asked block_told.ensures block_told.Learnt
block_told_settled = settled (λ κs a y z b c p q. (p ∙ sym q, refl))

pub value_reply_settled : Settled 0 value_reply_kinds.ps value_reply_kinds.r value_reply.Asked value_reply.ensures value_reply.Learnt
value_reply_settled = settled (λ κs a y z b c p q. (p ∙ sym q, refl))

pub valid_value_reply_settled : Settled 0 valid_value_reply_kinds.ps valid_value_reply_kinds.r valid_value_reply.Asked valid_value_reply.ensures valid_value_reply.Learnt
valid_value_reply_settled = settled (λ κs a y z b c p q. (p ∙ sym q, refl))

pub validity_reply_settled : Settled 0 validity_reply_kinds.ps validity_reply_kinds.r validity_reply.Asked validity_reply.ensures validity_reply.Learnt
validity_reply_settled = settled (λ κs a y z b c p q. (p ∙ sym q, refl))

pub text_reply_settled : Settled 0 text_reply_kinds.ps text_reply_kinds.r text_reply.Asked text_reply.ensures text_reply.Learnt
text_reply_settled = settled (λ κs a y z b c p q. (p ∙ sym q, refl))

pub flag_settled : Settled 0 flag_kinds.ps flag_kinds.r flag.Asked flag.ensures flag.Learnt
flag_settled = settled (λ κs a y z b c p q. (p ∙ sym q, refl))

pub length_reply_settled : Settled 0 length_reply_kinds.ps length_reply_kinds.r length_reply.Asked length_reply.ensures length_reply.Learnt
length_reply_settled = settled (λ κs a y z b c p q. (p ∙ sym q, refl))

pub done_reply_settled : Settled 0 done_reply_kinds.ps done_reply_kinds.r done_reply.Asked done_reply.ensures done_reply.Learnt
done_reply_settled = settled (λ κs a y z b c p q. (p ∙ sym q, refl))

pub payload_reply_settled : Settled 0 payload_reply_kinds.ps payload_reply_kinds.r payload_reply.Asked payload_reply.ensures payload_reply.Learnt
payload_reply_settled = settled (λ κs a y z b c p q. (p ∙ sym q, refl))

pub overlap_reply_settled : Settled 0 overlap_reply_kinds.ps overlap_reply_kinds.r overlap_reply.Asked overlap_reply.ensures overlap_reply.Learnt
overlap_reply_settled = settled (λ κs a y z b c p q. (p ∙ sym q, refl))

pub report_reply_settled : Settled 0 report_reply_kinds.ps report_reply_kinds.r report_reply.Asked report_reply.ensures report_reply.Learnt
report_reply_settled = settled (λ κs a y z b c p q. (p ∙ sym q, refl))

pub line_told_settled : Settled 0 line_told_kinds.ps line_told_kinds.r line_told.Asked line_told.ensures line_told.Learnt
line_told_settled = settled (λ κs a y z b c p q. (p ∙ sym q, refl))

pub point_told_settled : Settled 0 point_told_kinds.ps point_told_kinds.r point_told.Asked point_told.ensures point_told.Learnt
point_told_settled = settled (λ κs a y z b c p q. (p ∙ sym q, refl))

-- ---- what C gives

pub header_of_settled : Settled 0 header_of_kinds.ps header_of_kinds.r header_of.Asked header_of.ensures header_of.Learnt
header_of_settled = settled (λ κs a y z b c p q. (header_given_one y z (p ∙ sym q), refl))

pub block_of_settled : Settled 0 block_of_kinds.ps block_of_kinds.r block_of.Asked block_of.ensures block_of.Learnt
block_of_settled = settled (λ κs a y z b c p q. (block_given_one y z (p ∙ sym q), refl))

pub channel_of_settled : Settled 0 channel_of_kinds.ps channel_of_kinds.r channel_of.Asked channel_of.ensures channel_of.Learnt
channel_of_settled = settled (λ κs a y z b c p q. (description_one y z (p ∙ sym q), refl))

pub group_of_settled : Settled 0 group_of_kinds.ps group_of_kinds.r group_of.Asked group_of.ensures group_of.Learnt
group_of_settled = settled (λ κs a y z b c p q. (group_given_one y z (p ∙ sym q), refl))

pub number_of_settled : Settled 0 number_of_kinds.ps number_of_kinds.r number_of.Asked number_of.ensures number_of.Learnt
number_of_settled = settled (λ κs a y z b c p q. (number_given_one y z (p ∙ sym q), refl))
