-- A reply as C sees it: 0 and the answer's fields, or the refusal's number, what it tells, and zeros.
use Rattle.std.specs.Prelude.{ℕ, List}
use Rattle.definitions.specs.Reply.{Reply, Outcome, answer, refusal}
use Rattle.definitions.specs.Header.{Header}
use Rattle.definitions.specs.DataList.{DataList}
use Rattle.block_replies.specs.declared.written.Mf4WrittenReply.{Mf4WrittenReply}
use Rattle.block_replies.specs.declared.header.Mf4Header.{Mf4Header}
use Rattle.block_replies.specs.declared.header.Mf4HeaderReply.{Mf4HeaderReply}
use Rattle.block_replies.specs.declared.list.Mf4ListReply.{Mf4ListReply}
use Rattle.definitions.specs.Payload.{Outcomes}

-- what a call returns, and the buffer that was lent to it as it leaves it
pub record Returned (R : Type 0) : Type 0 where
  pub result : R
  pub buffer : List ℕ

abbrev pub returned : {R : Type 0} → R → List ℕ → Returned R
returned r out = record { result = r; buffer = out }

-- an outcome of the definitions, its reply as C sees it
abbrev pub returned_by : {A R : Type 0} → (Reply A → R) → Outcome A → Returned R
returned_by to_c o = returned (to_c o.reply) o.buffer

-- what a call returns, and the two buffers that were lent to it as it leaves them
pub record ReturnedBoth (R : Type 0) : Type 0 where
  pub result : R
  pub record_buffer : List ℕ
  pub payload_buffer : List ℕ

abbrev pub returned_both : {R : Type 0} → R → List ℕ → List ℕ → ReturnedBoth R
returned_both r a b = record { result = r; record_buffer = a; payload_buffer = b }

abbrev pub returned_both_by : {A R : Type 0} → (Reply A → R) → Outcomes A → ReturnedBoth R
returned_both_by to_c o = returned_both (to_c o.reply) o.record_buffer o.payload_buffer

-- ---- written

abbrev pub written_c : Reply ℕ → Mf4WrittenReply
written_c (answer n) = record { reply = 0; told = 0; count = n }
written_c (refusal n t) = record { reply = n; told = t; count = 0 }

-- ---- headers

abbrev pub header_fields : Header → Mf4Header
header_fields h = record { id = h.id; reserved0 = h.reserved; block_len = h.block_length; link_count = h.link_count }

abbrev pub no_header : Mf4Header
no_header = record { id = 0; reserved0 = 0; block_len = 0; link_count = 0 }

-- the header that C gives
abbrev pub header_given : Mf4Header → Header
header_given h = record { id = h.id; reserved = h.reserved0; block_length = h.block_len; link_count = h.link_count }

abbrev pub header_c : Reply Header → Mf4HeaderReply
header_c (answer h) = record { reply = 0; told = 0; header = header_fields h }
header_c (refusal n t) = record { reply = n; told = t; header = no_header }

-- ---- data lists

abbrev pub list_c : Reply DataList → Mf4ListReply
list_c (answer d) = record {
  reply = 0;
  told = 0;
  header = header_fields d.header;
  next_addr = d.next;
  data_links_at = d.links_at;
  data_link_count = d.links;
  flags = d.flags;
  reserved1 = d.reserved;
  data_block_count = d.count;
  rest_at = d.rest_at;
  rest_count = d.rest;
}
list_c (refusal n t) = record {
  reply = n;
  told = t;
  header = no_header;
  next_addr = 0;
  data_links_at = 0;
  data_link_count = 0;
  flags = 0;
  reserved1 = 0;
  data_block_count = 0;
  rest_at = 0;
  rest_count = 0;
}
