-- When a channel block is answered: exactly then, with the block that stands in the bytes.
use Rattle.std.specs.Prelude.{if◌then◌else◌}
use mathlib.Core.Path.{◌≡◌, refl}
use mathlib.Core.List.{List}
use mathlib.Core.Bool.{Bool, true, false, not}
use Prim.Native.Nat.{ℕ, ◌+◌, ◌≤◌}
use native.Mathlib.Omega.{arith}
use lib.ListN.{length, drop}
use lib.Dec.{ltb}
use borrow.Author.Tests.{ltb-false}
use Rattle.definitions.specs.Reply.{answer, refusal, needing}
use Rattle.definitions.specs.Bytes.{u64_at, id_at}
use Rattle.definitions.specs.Header.{Header, header_in}
use Rattle.definitions.specs.ChannelBlock.{ChannelBlock, id_cn, fields_at, block_in, fields_of, channel_block_of}
use Rattle.theorems.specs.Exactly.{ChannelStands}
use Rattle.theorems.proofs.Blocks.HeaderAnswers.{headed}
use Rattle.blocks.proofs.Headers.{needed, header_met}
use Rattle.channels.proofs.Channels.{channel_whole}
use Rattle.definitions.proofs.Replies.{not_answered}

module _ (s : List ℕ) where
  -- the block in the bytes, with the fields behind all of its links
  abbrev pub standing : Header → ChannelBlock
  standing h = block_in s h (drop (fields_at h.link_count) s)

  pub channel_answered : ChannelStands s → channel_block_of s ≡ answer (standing (header_in s))
  channel_answered h =
      let whole = h.whole in
      let l : 24 ≤ length s = omega arith in
      channel_whole s (header_in s) (header_met s l) h.named h.enough whole

  by_tests : (x : Header) (b : ChannelBlock) (i k : Bool) → id_at s 0 id_cn ≡ i → ltb x.link_count 8 ≡ k
      → (if not i then refusal 3 0 else if k then refusal 17 0 else needing s (fields_at x.link_count + 72) (answer (standing x))) ≡ answer b
      → (id_at s 0 id_cn ≡ true) × (8 ≤ x.link_count) × (fields_at x.link_count + 72 ≤ length s) × (answer (standing x) ≡ answer b)
  by_tests x b false k e f h = not_answered b _ _ h
  by_tests x b true true e f h = not_answered b _ _ h
  by_tests x b true false e f h = let n = needed s _ _ b h in (e, ltb-false _ _ f, n.0, n.1)

  pub channel_stands : (b : ChannelBlock) → channel_block_of s ≡ answer b → ChannelStands s × (b ≡ standing (header_in s))
  unfolding channel_block_of fields_of
  channel_stands b h =
      let p = by_tests (header_in s) b (id_at s 0 id_cn) (ltb (u64_at s 16) 8) refl refl (headed s (fields_of s) b h) in
      let same : answer (standing (header_in s)) ≡ answer b = p.3 in
      (record { named = p.0; enough = p.1; whole = p.2 }, cc)
