-- What was written into a buffer is read from it, and what was read is written again.
use Rattle.std.specs.Prelude.{if◌then◌else◌}
use mathlib.Core.Path.{◌≡◌, refl, sym, ap, ◌∙◌}
use mathlib.Core.Bool.{Bool, true, false}
use mathlib.Core.List.{List, [], ◌∷◌, ◌++◌}
use Prim.Native.Nat.{ℕ, zero, suc, ◌+◌, ◌*◌, ◌^◌, ◌≤◌, ◌<◌}
use native.Mathlib.Omega.{arith}
use lib.ListN.{length, take, drop}
use lib.Seq.{length-take-le}
use lib.Dec.{ltb}
use Rattle.definitions.specs.Reply.{Outcome, answer, refusal, told, writing}
use Rattle.definitions.specs.Bytes.{u64s_at}
use Rattle.definitions.specs.Header.{Header, header_of, header_bytes, header_written}
use Rattle.definitions.specs.DataList.{DataList, Lengths, equal, variable, list_of, list_bytes, flags_for, rest_for, unwritable, list_written}
use Rattle.definitions.specs.ChannelBlock.{ChannelBlock, channel_block_of, channel_bytes, channel_written}
use Rattle.definitions.proofs.Replies.{not_answered}
use Rattle.words.proofs.Numbers.{Bytes}
use Rattle.blocks.proofs.Headers.{length_header}
use Rattle.channels.proofs.Channels.{length_channel}
use Rattle.theorems.specs.Exactly.{ListFits}
use Rattle.theorems.proofs.Calls.Outcomes.{of_buffer}
use Rattle.theorems.proofs.Blocks.Rewritten.{Words, front_of}
use Rattle.theorems.proofs.Calls.Answers.{list_written_exactly}
use Rattle.theorems.proofs.Blocks.ListAnswers.{list_stands}
use Rattle.theorems.proofs.Blocks.HeaderRoundTrip.{Fits, header_written_read, header_read_written}
use Rattle.theorems.proofs.Blocks.ChannelWrittenRead.{BlockFits, block_written, channel_written_read}
use Rattle.theorems.proofs.Blocks.ChannelReadWritten.{PlainBlock, channel_read_written, channel_written_plain}
use Rattle.theorems.proofs.Blocks.ListWrittenRead.{Writable, list_from, list_written_read, links_written_read, rest_written_read}
use Rattle.theorems.proofs.Blocks.ListReadWritten.{Plain, lengths_in, list_read_written}

-- ---- what stands in the buffer behind an answer

-- a test that refuses was passed
passed : {A : Type 0} (b : Bool) (n t : ℕ) (out : List ℕ) (o : Outcome A) (a : A)
    → (if◌then◌else◌ {A = Outcome A} b (record { reply = refusal n t; buffer = out }) o).reply ≡ answer a
    → (if b then record { reply = refusal n t; buffer = out } else o) ≡ o
passed true n t out o a h = not_answered a n t h
passed false n t out o a h = refl

front_written : {A : Type 0} (out bytes : List ℕ) (a b : A) → (writing out bytes a).reply ≡ answer b → (writing out bytes a).buffer ≡ bytes ++ drop (length bytes) out
front_written {A} out bytes a b h = of_buffer (passed (ltb (length out) (length bytes)) 6 (told (length bytes)) out _ b h)

-- the buffer of an outcome that answers
pub record WrittenInto (after : List ℕ) (o : Outcome ℕ) : Type 0 where
  pub count : ℕ
  pub answers : o.reply ≡ answer count
  pub left : after ≡ o.buffer

-- ---- a header

module _ (out : List ℕ) (h : Header) (after : List ℕ) (w : WrittenInto after (header_written out h)) where
  header_front : after ≡ header_bytes h ++ drop (length (header_bytes h)) out
  unfolding header_written
  header_front = w.left ∙ front_written out (header_bytes h) 24 w.count w.answers

  -- every field, which has 32 or 64 bits
  pub header_back_law : Fits h → (s : List ℕ) → s ≡ after → header_of s ≡ answer h
  header_back_law fits s e = ap header_of (e ∙ header_front) ∙ header_written_read h fits (drop (length (header_bytes h)) out)

  -- the same 24 bytes
  pub header_again_law : (s : List ℕ) → Bytes s → header_of s ≡ answer h → take 24 after ≡ take 24 s
  header_again_law s b e =
      ap (take 24) header_front ∙ front_of (header_bytes h) (drop (length (header_bytes h)) out) 24 (length_header h) ∙ header_read_written s h b e

-- ---- a channel block

module _ (out : List ℕ) (b : ChannelBlock) (after : List ℕ) (w : WrittenInto after (channel_written out b)) where
  channel_front : after ≡ channel_bytes b ++ drop (length (channel_bytes b)) out
  unfolding channel_written
  channel_front = w.left ∙ front_written out (channel_bytes b) 160 w.count w.answers

  first_bytes : take 160 after ≡ channel_bytes b
  first_bytes = ap (take 160) channel_front ∙ front_of (channel_bytes b) (drop (length (channel_bytes b)) out) 160 (length_channel b)

  -- every field, which has its width, but for what the writer fixes and an unknown type made with the code of another
  pub channel_back_law : BlockFits b → (s : List ℕ) → s ≡ after → channel_block_of s ≡ answer (block_written b)
  channel_back_law fits s e = ap channel_block_of (e ∙ channel_front) ∙ channel_written_read b (drop (length (channel_bytes b)) out) fits

  module _ (s : List ℕ) (bytes : Bytes s) (read : channel_block_of s ≡ answer b) where
    -- the same 160 bytes, of a plain block and of no other
    pub channel_again_law : PlainBlock b → take 160 after ≡ take 160 s
    channel_again_law p = first_bytes ∙ channel_read_written s b bytes read p

    pub channel_again_plain : take 160 after ≡ take 160 s → PlainBlock b
    channel_again_plain e = channel_written_plain s b bytes read (sym first_bytes ∙ e)

-- ---- a list

-- what is written has as many numbers as its form says, of 64 bits
writable : (out : List ℕ) (next : ℕ) (links : List ℕ) (l : Lengths) → ListFits out links l → next < 2 ^ 64 → Words links → Words (rest_for l)
    → Writable next links (flags_for l) (rest_for l)
writable out next links (equal k) f a b c = record { next_fits = a; few = f.few; counted = refl; links_fit = b; rest_fits = c }
writable out next links (variable ns) f a b c = record { next_fits = a; few = f.few; counted = f.counted; links_fit = b; rest_fits = c }

pub one_word : (k : ℕ) → k < 2 ^ 64 → Words (k ∷ [])
one_word k h zero = h
one_word k h (suc i) = omega arith

-- the list that is read in s is the one that was written, and its links and its length or offsets stand where it tells
pub record ListBack (next : ℕ) (links : List ℕ) (l : Lengths) (s : List ℕ) : Type 0 where
  pub list : list_of s ≡ answer (list_from next links (flags_for l) (rest_for l))
  pub links_back : u64s_at s 32 (length links) ≡ links
  pub rest_back : u64s_at s (40 + length links * 8) (length (rest_for l)) ≡ rest_for l

-- a block whose length is what its fields take is whole
block_inside : (s : List ℕ) (d : DataList) → list_of s ≡ answer d → Plain d → d.header.block_length ≤ length s
block_inside s d e plain =
    let q = list_stands s d e in
    let whole : d.rest_at + d.rest * 8 ≤ length s = rw q.1 q.0.whole in
    omega (arith, plain.block_length)

-- the list d that was read in s is what was written
pub record WrittenFrom (s : List ℕ) (d : DataList) (next : ℕ) (links : List ℕ) (l : Lengths) : Type 0 where
  pub plain : Plain d
  pub next_is : next ≡ d.next
  pub links_are : links ≡ u64s_at s d.links_at d.links
  pub lengths_are : l ≡ lengths_in s d

module _ (out : List ℕ) (next : ℕ) (links : List ℕ) (l : Lengths) (after : List ℕ) (w : WrittenInto after (list_written out next links l)) where
  abbrev bytes : List ℕ
  bytes = list_bytes next links (flags_for l) (rest_for l)

  list_front : after ≡ bytes ++ drop (length bytes) out
  unfolding list_written
  list_front =
      let q = passed (unwritable (length links) l) 5 0 out (writing out bytes _) w.count w.answers in
      w.left ∙ ap (λ (o : Outcome ℕ). o.buffer) q
      ∙ front_written out bytes _ w.count (sym (ap (λ (o : Outcome ℕ). o.reply) q) ∙ w.answers)

  -- every field, link, length and offset, which have 64 bits
  pub list_back : next < 2 ^ 64 → Words links → Words (rest_for l) → (s : List ℕ) → s ≡ after → ListBack next links l s
  list_back a b c s e =
      let fits = writable out next links l ((list_written_exactly out next links l).only w.count w.answers) a b c in
      let rest : List ℕ = drop (length bytes) out in
      record {
        list = ap list_of (e ∙ list_front) ∙ list_written_read next links (flags_for l) (rest_for l) rest fits;
        links_back = ap (λ (s : List ℕ). u64s_at s 32 (length links)) (e ∙ list_front) ∙ links_written_read next links (flags_for l) (rest_for l) rest fits;
        rest_back = ap (λ (s : List ℕ). u64s_at s (40 + length links * 8) (length (rest_for l))) (e ∙ list_front) ∙ rest_written_read next links (flags_for l) (rest_for l) rest fits;
      }

  -- the bytes of the block
  pub list_again_law : (s : List ℕ) (d : DataList) → Bytes s → list_of s ≡ answer d → WrittenFrom s d next links l
      → take d.header.block_length after ≡ take d.header.block_length s
  list_again_law s d b found f =
      let written : bytes ≡ take d.header.block_length s = rw (f.next_is, f.links_are, f.lengths_are) (list_read_written s d b found f.plain).1 in
      let long : length bytes ≡ d.header.block_length =
      ap length written ∙ length-take-le d.header.block_length s (block_inside s d found f.plain) in
      ap (take d.header.block_length) list_front ∙ front_of bytes (drop (length bytes) out) d.header.block_length long ∙ written
