-- The meanings are one-to-one: from what it means each answer comes back.
use mathlib.Core.Path.{◌≡◌, refl}
use Prim.Native.Nat.{ℕ}
use Rattle.std.specs.Prelude.{Result}
use Rattle.definitions.specs.Header.{Header}
use Rattle.definitions.specs.DataList.{DataList}
use Rattle.refusals.specs.declared.Refusal.{Refusal}
use Rattle.refusals.proofs.Back.{replied_one}
use Rattle.blocks.specs.Meaning.{written_reply, header_meant, header_reply, list_meant, list_reply}
use Rattle.blocks.specs.declared.header.BlockHeader.{BlockHeader}
use Rattle.blocks.specs.declared.data_list.DataListBlock.{DataListBlock}

pub written_one : (a b : Result ℕ Refusal) → written_reply a ≡ written_reply b → a ≡ b
written_one = replied_one (λ (n : ℕ). n) (λ n. n) (λ n. refl)

abbrev pub header_back : Header → BlockHeader
header_back h = record { id = h.id; reserved0 = h.reserved; block_len = h.block_length; links_nr = h.link_count }

pub header_one : (a b : Result BlockHeader Refusal) → header_reply a ≡ header_reply b → a ≡ b
header_one = replied_one header_meant header_back (λ h. refl)

abbrev list_back : DataList → DataListBlock
list_back d = record {
  header = header_back d.header;
  next = d.next;
  links_at = d.links_at;
  links = d.links;
  flags = d.flags;
  reserved1 = d.reserved;
  data_block_nr = d.count;
  rest_at = d.rest_at;
  rest = d.rest;
}

pub list_one : (a b : Result DataListBlock Refusal) → list_reply a ≡ list_reply b → a ≡ b
list_one = replied_one list_meant list_back (λ d. refl)
