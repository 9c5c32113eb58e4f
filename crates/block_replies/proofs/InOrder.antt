-- What C is told of blocks and what it gives, by place: each struct as its numbers in their order. A refusal is its number, what
-- it tells, and zeros.
use Prim.Native.Nat.{ℕ, zero, suc}
use mathlib.Core.Path.{◌≡◌, refl}
use mathlib.Core.List.{List, [], ◌∷◌, ◌++◌}
use Rattle.definitions.specs.Reply.{Reply, refusal}
use Rattle.definitions.specs.Header.{Header}
use Rattle.definitions.specs.DataList.{DataList}
use Rattle.definitions.specs.Channel.{Channel}
use Rattle.definitions.specs.ChannelBlock.{ChannelBlock}
use Rattle.block_replies.specs.Replies.{written_c, header_c, header_given, list_c}
use Rattle.block_replies.specs.Channels.{channel_c, block_given, channel_given}
use Rattle.block_replies.specs.declared.header.Mf4Header.{Mf4Header}
use Rattle.block_replies.specs.declared.channel.Mf4Channel.{Mf4Channel}
use Rattle.block_replies.specs.declared.channel_block.Mf4ChannelBlock.{Mf4ChannelBlock}
use Rattle.block_replies.specs.contracts.written.Mf4WrittenReply as mf4_written_reply
use Rattle.block_replies.specs.contracts.header.Mf4Header as mf4_header
use Rattle.block_replies.specs.contracts.header.Mf4HeaderReply as mf4_header_reply
use Rattle.block_replies.specs.contracts.list.Mf4ListReply as mf4_list_reply
use Rattle.block_replies.specs.contracts.channel.Mf4Channel as mf4_channel
use Rattle.block_replies.specs.contracts.channel_block.Mf4ChannelBlock as mf4_channel_block
use Rattle.block_replies.specs.contracts.channel_block.Mf4ChannelReply as mf4_channel_reply

-- ---- the numbers of a struct

-- n numbers, and what stands behind them
abbrev pub Leading : ℕ → Type 0 → Type 0
Leading zero R = R
Leading (suc n) R = ℕ × Leading n R

abbrev pub listed : {R : Type 0} (n : ℕ) → (R → List ℕ) → Leading n R → List ℕ
listed zero behind v = behind v
listed (suc n) behind v = v.0 ∷ listed n behind v.1

abbrev pub nothing : Unit {0} → List ℕ
nothing u = []

-- a struct within the other, and what stands behind it
abbrev pub within : {S R : Type 0} → (S → List ℕ) → (R → List ℕ) → S × R → List ℕ
within own behind v = own v.0 ++ behind v.1

abbrev header_numbers : Mf4Header → List ℕ
header_numbers s = listed 4 nothing ((mf4_header.struct).as_values s)

abbrev description_numbers : Mf4Channel → List ℕ
description_numbers s = listed 8 nothing ((mf4_channel.struct).as_values s)

abbrev block_numbers : Mf4ChannelBlock → List ℕ
block_numbers s =
    within header_numbers (listed 9 (within description_numbers (listed 10 nothing))) ((mf4_channel_block.struct).as_values s)

-- ---- what C is told

-- each struct that a call returns
pub data Told : Type 0 where
  written_reply header_reply list_reply channel_reply : Told

abbrev pub Answer : Told → Type 0
Answer written_reply = ℕ
Answer header_reply = Header
Answer list_reply = DataList
Answer channel_reply = ChannelBlock

-- the struct that a reply becomes, as its numbers
abbrev pub shown : (k : Told) → Reply (Answer k) → List ℕ
shown written_reply r = listed 3 nothing ((mf4_written_reply.struct).as_values (written_c r))
shown header_reply r = listed 2 (within header_numbers nothing) ((mf4_header_reply.struct).as_values (header_c r))
shown list_reply r = listed 2 (within header_numbers (listed 8 nothing)) ((mf4_list_reply.struct).as_values (list_c r))
shown channel_reply r = listed 2 (within block_numbers nothing) ((mf4_channel_reply.struct).as_values (channel_c r))

-- how many numbers stand behind the reply's own and what it tells
abbrev pub others : Told → ℕ
others written_reply = 1
others header_reply = 4
others list_reply = 12
others channel_reply = 31

abbrev pub zeros : ℕ → List ℕ
zeros zero = []
zeros (suc n) = 0 ∷ zeros n

pub refusal_shown : (k : Told) (n t : ℕ) → shown k (refusal n t) ≡ n ∷ t ∷ zeros (others k)
refusal_shown written_reply n t = refl
refusal_shown header_reply n t = refl
refusal_shown list_reply n t = refl
refusal_shown channel_reply n t = refl

-- ---- what C gives

-- each struct that a call takes
pub data Taken : Type 0 where
  header description block : Taken

-- its fields, and what it means
abbrev pub Fields : Taken → Type 0
Fields header = mf4_header.the_values
Fields description = mf4_channel.the_values
Fields block = mf4_channel_block.the_values

abbrev pub Meaning : Taken → Type 0
Meaning header = Header
Meaning description = Channel
Meaning block = ChannelBlock

abbrev pub meant : (k : Taken) → Fields k → Meaning k
meant header v = header_given ((mf4_header.struct).make v tt)
meant description v = channel_given ((mf4_channel.struct).make v tt)
meant block v = block_given ((mf4_channel_block.struct).make v tt)

-- ---- worked examples

-- over the structs that calls return and those that they take: a reply with the numbers that C is told, or the fields of a
-- struct that C gives with their meaning
module _ (Returns : Type 0) (Replied : Returns → Type 0) (Takes : Type 0) (Held Means : Takes → Type 0) where
  pub data Row : Type 0 where
    tells : (k : Returns) → Reply (Replied k) → List ℕ → Row
    takes : (k : Takes) → Held k → Means k → Row

  pub data Said : Type 0 where
    numbers : List ℕ → Said
    meaning : (k : Takes) → Means k → Said

  -- what C is told or what is meant, and what a row says of it
  abbrev pub given : ((k : Returns) → Reply (Replied k) → List ℕ) → ((k : Takes) → Held k → Means k) → Row → Said
  given told meant (tells k r n) = numbers (told k r)
  given told meant (takes k v m) = meaning k (meant k v)

  abbrev pub stated : Row → Said
  stated (tells k r n) = numbers n
  stated (takes k v m) = meaning k m

unfoldable pub count_from : ℕ → ℕ → List ℕ
count_from k zero = []
count_from k (suc n) = k ∷ count_from (suc k) n
