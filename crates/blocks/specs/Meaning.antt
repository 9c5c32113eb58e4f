-- What each struct and each answer means in the definitions.
use Rattle.std.specs.Prelude.{ℕ, List, Result}
use Rattle.definitions.specs.Reply.{Reply, Outcome}
use Rattle.definitions.specs.Header.{Header}
use Rattle.definitions.specs.DataList.{DataList}
use Rattle.refusals.specs.Meaning.{replied}
use Rattle.refusals.specs.declared.Refusal.{Refusal}
use Rattle.blocks.specs.declared.header.BlockHeader.{BlockHeader}
use Rattle.blocks.specs.declared.data_list.DataListBlock.{DataListBlock}

-- ---- written

abbrev pub written_reply : Result ℕ Refusal → Reply ℕ
written_reply = replied (λ n. n)

-- the reply and the buffer that a call leaves
abbrev pub wrote : Result ℕ Refusal → List ℕ → Outcome ℕ
wrote r out = record { reply = written_reply r; buffer = out }

-- ---- header

abbrev pub header_meant : BlockHeader → Header
header_meant h = record { id = h.id; reserved = h.reserved0; block_length = h.block_len; link_count = h.links_nr }

abbrev pub header_reply : Result BlockHeader Refusal → Reply Header
header_reply = replied header_meant

-- ---- data list

abbrev pub list_meant : DataListBlock → DataList
list_meant d = record {
  header = header_meant d.header;
  next = d.next;
  links_at = d.links_at;
  links = d.links;
  flags = d.flags;
  reserved = d.reserved1;
  count = d.data_block_nr;
  rest_at = d.rest_at;
  rest = d.rest;
}

abbrev pub list_reply : Result DataListBlock Refusal → Reply DataList
list_reply = replied list_meant
