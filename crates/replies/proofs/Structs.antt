-- The fields of each struct in their order, by place and not by name alone. include/mf4.h has the same orders.
use mathlib.Core.Path.{◌≡◌, refl}
use Rattle.replies.specs.declared.texts.Mf4TextReply.{Mf4TextReply}
use Rattle.replies.specs.declared.group.Mf4Group.{Mf4Group}
use Rattle.replies.specs.declared.values.Mf4ValueReply.{Mf4ValueReply}
use Rattle.replies.specs.declared.valid_values.Mf4ValidValueReply.{Mf4ValidValueReply}
use Rattle.replies.specs.declared.validity.Mf4ValidityReply.{Mf4ValidityReply}
use Rattle.replies.specs.declared.fetches.Mf4LengthReply.{Mf4LengthReply}
use Rattle.replies.specs.declared.done.Mf4DoneReply.{Mf4DoneReply}
use Rattle.replies.specs.declared.payload.Mf4PayloadReply.{Mf4PayloadReply}
use Rattle.replies.specs.declared.stored.Mf4Number.{Mf4Number}
use Rattle.replies.specs.declared.overlap.Mf4OverlapReply.{Mf4OverlapReply}
use Rattle.replies.specs.declared.reports.Mf4Point.{Mf4Point}
use Rattle.replies.specs.declared.reports.Mf4ReportReply.{Mf4ReportReply}
use Rattle.replies.specs.contracts.texts.Mf4TextReply as mf4_text_reply
use Rattle.replies.specs.contracts.group.Mf4Group as mf4_group
use Rattle.replies.specs.contracts.values.Mf4ValueReply as mf4_value_reply
use Rattle.replies.specs.contracts.valid_values.Mf4ValidValueReply as mf4_valid_value_reply
use Rattle.replies.specs.contracts.validity.Mf4ValidityReply as mf4_validity_reply
use Rattle.replies.specs.contracts.fetches.Mf4LengthReply as mf4_length_reply
use Rattle.replies.specs.contracts.done.Mf4DoneReply as mf4_done_reply
use Rattle.replies.specs.contracts.payload.Mf4PayloadReply as mf4_payload_reply
use Rattle.replies.specs.contracts.stored.Mf4Number as mf4_number
use Rattle.replies.specs.contracts.overlap.Mf4OverlapReply as mf4_overlap_reply
use Rattle.replies.specs.contracts.reports.Mf4Point as mf4_point
use Rattle.replies.specs.contracts.reports.Mf4ReportReply as mf4_report_reply

pub mf4_text_reply_fields : (s : Mf4TextReply) → (mf4_text_reply.struct).as_values s ≡ (s.reply, (s.told, (s.count, (s.damaged, tt))))
mf4_text_reply_fields s = refl

pub mf4_group_fields : (s : Mf4Group) → (mf4_group.struct).as_values s ≡ (s.record_id_size, (s.data_bytes, (s.invalidation_bytes, tt)))
mf4_group_fields s = refl

pub mf4_value_reply_fields : (s : Mf4ValueReply) → (mf4_value_reply.struct).as_values s ≡ (s.reply, (s.told, (s.kind, (s.number, (s.at, (s.length, tt))))))
mf4_value_reply_fields s = refl

pub mf4_valid_value_reply_fields : (s : Mf4ValidValueReply) → (mf4_valid_value_reply.struct).as_values s ≡ (s.reply, (s.told, (s.kind, (s.is_valid, (s.number, (s.at, (s.length, tt)))))))
mf4_valid_value_reply_fields s = refl

pub mf4_validity_reply_fields : (s : Mf4ValidityReply) → (mf4_validity_reply.struct).as_values s ≡ (s.reply, (s.told, (s.is_valid, tt)))
mf4_validity_reply_fields s = refl

pub mf4_length_reply_fields : (s : Mf4LengthReply) → (mf4_length_reply.struct).as_values s ≡ (s.reply, (s.told, (s.length, tt)))
mf4_length_reply_fields s = refl

pub mf4_done_reply_fields : (s : Mf4DoneReply) → (mf4_done_reply.struct).as_values s ≡ (s.reply, (s.told, tt))
mf4_done_reply_fields s = refl

pub mf4_payload_reply_fields : (s : Mf4PayloadReply) → (mf4_payload_reply.struct).as_values s ≡ (s.reply, (s.told, (s.kind, (s.is_valid, (s.number, (s.at, (s.length, (s.payload_length, tt))))))))
mf4_payload_reply_fields s = refl

pub mf4_number_fields : (s : Mf4Number) → (mf4_number.struct).as_values s ≡ (s.kind, (s.number, tt))
mf4_number_fields s = refl

pub mf4_overlap_reply_fields : (s : Mf4OverlapReply) → (mf4_overlap_reply.struct).as_values s ≡ (s.reply, (s.told, (s.found, (s.first, (s.second, tt)))))
mf4_overlap_reply_fields s = refl

pub mf4_point_fields : (s : Mf4Point) → (mf4_point.struct).as_values s ≡ (s.number, (s.value, tt))
mf4_point_fields s = refl

pub mf4_report_reply_fields : (s : Mf4ReportReply) → (mf4_report_reply.struct).as_values s ≡ (s.reply, (s.told, (s.records, (s.valid, (s.invalid, (s.without_value, (s.nan, (s.has_doubles, (s.first, (s.last, (s.smallest, (s.largest, (s.sum_high, (s.sum_low, tt))))))))))))))
mf4_report_reply_fields s = refl
