-- What the theorems on two files and on round trips suppose is met: by two different files whose chains join to the same bytes, by
-- two chains of payloads at different links that do, and by a channel block that reading and writing brings back.
use mathlib.Core.Path.{◌≡◌, refl, ap}
use mathlib.Core.Bool.{Bool, true, ◌&&◌}
use mathlib.Core.List.{List, [], ◌∷◌}
use Prim.Native.Nat.{ℕ}
use native.Mathlib.Omega.{arith}
use lib.Dec.{ltb, leb}
use lib.ListN.{length, take}
use borrow.Author.Tests.{ltb-true, leb-true}
use Rattle.definitions.specs.Reply.{answer}
use Rattle.definitions.specs.Bytes.{le_of, le, les}
use Rattle.definitions.specs.Header.{header_of, header_bytes}
use Rattle.definitions.specs.DataList.{list_of, links_of, rest_of, list_bytes}
use Rattle.definitions.specs.ChannelBlock.{fields_of, channel_block_of, channel_bytes}
use Rattle.definitions.specs.Chain.{Block, id_dt, file_limit, joined, total, block_at, fragment_of, fragments, list_at, chained_at, lists, chain_of}
use Rattle.definitions.specs.Payload.{id_sd}
use Rattle.definitions.proofs.Replies.{both}
use Rattle.words.proofs.Numbers.{Bytes, bytes_cons}
use Rattle.theorems.specs.Examples.{three_blocks, one_block, remarks, remarks_uncut, plain_channel_block, channel_read_with}
use Rattle.theorems.proofs.Chains.AcceptedChains.{accepted}
use Rattle.theorems.proofs.Records.TwoFiles.{JoinsBy, Joins}
use Rattle.theorems.proofs.Blocks.ChannelReadWritten.{PlainBlock, channel_read_written}

abbrev block : ℕ → ℕ → Block
block address size = record { address = address; size = size }

-- from what the definitions compute
computed : (id f : List ℕ) (start : ℕ) (blocks : List Block) (j : List ℕ) → leb (length f) file_limit ≡ true → chain_of id f start ≡ answer blocks → joined f blocks ≡ j
    → JoinsBy id f start j
computed id f start blocks j short e same = record { short = leb-true _ _ short; blocks = blocks; accepted = accepted id f start blocks e; same = same }

-- ---- two files

abbrev six_bytes : List ℕ
six_bytes = 1 ∷ 2 ∷ 3 ∷ 4 ∷ 5 ∷ 6 ∷ []

pub three_join : Joins three_blocks 8 six_bytes
unfolding le_of le les header_of header_bytes list_of links_of rest_of list_bytes joined total block_at fragment_of fragments list_at chained_at lists chain_of
three_join = computed id_dt three_blocks 8 (block 96 3 ∷ block 123 0 ∷ block 147 3 ∷ []) six_bytes refl refl refl

pub one_joins : Joins one_block 8 six_bytes
unfolding le_of le les header_of header_bytes list_of links_of rest_of list_bytes joined total block_at fragment_of fragments list_at chained_at lists chain_of
one_joins = computed id_dt one_block 8 (block 64 6 ∷ []) six_bytes refl refl refl

pub files_differ : three_blocks ≡ one_block → ⊥
unfolding le_of le les header_bytes list_bytes
files_differ e = let lengths : ◌≡◌ {A = ℕ} 174 94 = ap length e in omega arith

-- ---- two chains of payloads, at 97 and at 105

abbrev seven_bytes : List ℕ
seven_bytes = 2 ∷ 0 ∷ 0 ∷ 0 ∷ 0x50 ∷ 0x58 ∷ 0 ∷ []

pub cut_join : JoinsBy id_sd (remarks 0 0) 97 seven_bytes
unfolding le_of le les header_of header_bytes list_of links_of rest_of list_bytes joined total block_at fragment_of fragments list_at chained_at lists chain_of
cut_join = computed id_sd (remarks 0 0) 97 (block 169 3 ∷ block 196 4 ∷ []) seven_bytes refl refl refl

pub uncut_joins : JoinsBy id_sd (remarks_uncut 0 0) 105 seven_bytes
unfolding le_of le les header_of header_bytes list_of links_of rest_of list_bytes joined total block_at fragment_of fragments list_at chained_at lists chain_of
uncut_joins = computed id_sd (remarks_uncut 0 0) 105 (block 161 7 ∷ []) seven_bytes refl refl refl

-- ---- a channel block

unfoldable all_bytes : List ℕ → Bool
all_bytes [] = true
all_bytes (x ∷ xs) = ltb x 256 && all_bytes xs

are_bytes : (xs : List ℕ) → all_bytes xs ≡ true → Bytes xs
unfolding all_bytes
are_bytes [] e = λ i. omega arith
are_bytes (x ∷ xs) e = let p = both (ltb x 256) (all_bytes xs) e in bytes_cons x xs (ltb-true x 256 p.0) (are_bytes xs p.1)

plain_bytes : Bytes plain_channel_block
unfolding all_bytes le les
plain_bytes = are_bytes plain_channel_block refl

pub plain_block : PlainBlock (channel_read_with 0 0 160 0)
plain_block = record { header_reserved = refl; block_length = refl; eight = refl; reserved = refl; attachments = refl }

pub block_comes_back : channel_bytes (channel_read_with 0 0 160 0) ≡ take 160 plain_channel_block
unfolding le_of le les header_of fields_of channel_block_of
block_comes_back = channel_read_written plain_channel_block (channel_read_with 0 0 160 0) plain_bytes refl plain_block
