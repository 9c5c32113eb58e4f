-- A channel block that is read and then written gives its 160 bytes again, with whatever type it has, exactly where it is
-- `PlainBlock`: it has what the writer fixes.
use mathlib.Core.Path.{◌≡◌, refl, sym, ap, ap₂, ◌∙◌, subst}
use mathlib.Core.Bool.{true}
use mathlib.Core.List.{List, [], ◌∷◌, ◌++◌}
use Prim.Native.Nat.{ℕ, ◌+◌, ◌≤◌, ◌<◌}
use native.Mathlib.Omega.{arith}
use lib.ListN.{length, get_or, take, drop, length-drop, take-append-drop}
use lib.Seq.{get_or-drop, drop-drop}
use Rattle.definitions.specs.Reply.{answer}
use Rattle.definitions.specs.Bytes.{little, le, les, span, u16_at, u32_at, u64_at, u64s_at, id_at}
use Rattle.definitions.specs.Header.{Header, header_in}
use Rattle.definitions.specs.ChannelBlock.{ChannelBlock, id_cn, fields_at, block_in, channel_block_of, channel_header, six_limits, format_bytes, channel_bytes}
use Rattle.words.proofs.Numbers.{Bytes}
use Rattle.words.proofs.Spans.{span_one, span_split, span_below}
use Rattle.places.proofs.Answers.{answered}
use Rattle.theorems.proofs.Blocks.Rewritten.{glue, number_written, numbers_written}
use Rattle.theorems.proofs.Blocks.HeaderRoundTrip.{named_header}
use Rattle.theorems.proofs.Types.TypeCodes.{code_back}
use Rattle.theorems.proofs.Blocks.ChannelAnswers.{channel_stands}
use Rattle.theorems.proofs.Blocks.ChannelWrittenRead.{BlockFits, block_written, channel_written_read}

pub record PlainBlock (b : ChannelBlock) : Type 0 where
  pub header_reserved : b.header.reserved ≡ 0
  pub block_length : b.header.block_length ≡ 160
  pub eight : b.header.link_count ≡ 8
  pub reserved : b.reserved ≡ 0
  pub attachments : b.attachments ≡ 0

-- two pieces of l, from p on
two : (l : List ℕ) (p n m : ℕ) {x y : List ℕ} → x ≡ span l p n → y ≡ span l (p + n) m → x ++ y ≡ span l p (n + m)
two l p n m ex ey = ap₂ (λ (x y : List ℕ). x ++ y) ex ey ∙ sym (span_split l p n m)

one : (l : List ℕ) (p : ℕ) {x : ℕ} → p < length l → x ≡ get_or l p 0 → x ∷ [] ≡ span l p 1
one l p h e = ap (λ (x : ℕ). x ∷ []) e ∙ sym (span_one l p h)

bytes_behind : (n : ℕ) (s : List ℕ) → Bytes s → Bytes (drop n s)
bytes_behind n s bytes i = rw get_or-drop (bytes (n + i))

-- what is read of bytes has the widths of the fields
fits : (s f : List ℕ) (h : Header) → Bytes s → Bytes f → 88 ≤ length s → 72 ≤ length f → BlockFits (block_in s h f)
fits s f h bytes below long room = record {
  next_channel = span_below little s 24 8 bytes (omega arith);
  component = span_below little s 32 8 bytes (omega arith);
  name = span_below little s 40 8 bytes (omega arith);
  source = span_below little s 48 8 bytes (omega arith);
  conversion = span_below little s 56 8 bytes (omega arith);
  data_link = span_below little s 64 8 bytes (omega arith);
  unit = span_below little s 72 8 bytes (omega arith);
  comment = span_below little s 80 8 bytes (omega arith);
  byte_offset = span_below little f 4 4 below (omega arith);
  bit_count = span_below little f 8 4 below (omega arith);
  flags = span_below little f 12 4 below (omega arith);
  invalidation_bit = span_below little f 16 4 below (omega arith);
  min_raw = span_below little f 24 8 below (omega arith);
  max_raw = span_below little f 32 8 below (omega arith);
  lower_limit = span_below little f 40 8 below (omega arith);
  upper_limit = span_below little f 48 8 below (omega arith);
  lower_extended = span_below little f 56 8 below (omega arith);
  upper_extended = span_below little f 64 8 below (omega arith);
}

module _ (s : List ℕ) (bytes : Bytes s) (long : 160 ≤ length s) where
  -- the fields behind eight links
  abbrev f : List ℕ
  f = drop 88 s

  below : Bytes f
  below = bytes_behind 88 s bytes

  room : 72 ≤ length f
  room = omega (arith, length-drop 88 s)

  module _ (h : Header) (named : id_at s 0 id_cn ≡ true) (reserved : u32_at s 4 ≡ 0) (sized : u64_at s 8 ≡ 160) (eight : u64_at s 16 ≡ 8)
      (zero-byte : get_or f 21 0 ≡ 0) (none : u16_at f 22 ≡ 0) where
    format_piece : format_bytes (block_in s h f) ≡ span f 0 24
    unfolding le
    format_piece =
        let l : 72 ≤ length f = room in
        let zeros : 0 ∷ 0 ∷ [] ≡ span f 22 2 = ap (le 2) (sym none) ∙ number_written f 22 2 below (omega arith) in
        glue f 20 4 20 refl
        (glue f 16 4 16 refl
        (glue f 12 4 12 refl
        (glue f 8 4 8 refl
        (glue f 4 4 4 refl
        (two f 0 1 3 (one f 0 (omega arith) refl)
        (two f 1 1 2 (one f 1 (omega arith) refl)
        (two f 2 1 1 (one f 2 (omega arith) (code_back (get_or f 2 0))) (one f 3 (omega arith) refl))))
        (number_written f 4 4 below (omega arith)))
        (number_written f 8 4 below (omega arith)))
        (number_written f 12 4 below (omega arith)))
        (number_written f 16 4 below (omega arith)))
        (two f 20 1 3 (one f 20 (omega arith) refl) (two f 21 1 2 (one f 21 (omega arith) (sym zero-byte)) zeros))

    pieces : channel_bytes (block_in s h f) ≡ take 160 s
    unfolding channel_bytes u64s_at
    pieces =
        let l : 72 ≤ length f = room in
        let limits : les (six_limits (block_in s h f)) ≡ span s 112 48 =
        numbers_written 6 f 24 below (omega arith) ∙ ap (take 48) (drop-drop 24 88 s) in
        glue s 112 48 112 refl
        (glue s 88 24 88 refl
        (glue s 24 64 24 refl
        (named_header s channel_header 35 35 67 78 bytes (omega arith) (omega arith) (omega arith) (omega arith) (omega arith) named refl (sym reserved) (sym sized) (sym eight))
        (numbers_written 8 s 24 bytes (omega arith)))
        format_piece)
        limits

module _ (s : List ℕ) (b : ChannelBlock) (bytes : Bytes s) (read : channel_block_of s ≡ answer b) where
  -- with eight links the fields stand at byte 88
  at_eight : b.header.link_count ≡ 8 → b ≡ block_in s (header_in s) (drop 88 s)
  at_eight e =
      let is = (channel_stands s b read).1 in
      let links : u64_at s 16 ≡ 8 = sym (ap (λ (x : ChannelBlock). x.header.link_count) is) ∙ e in
      is ∙ ap (λ (k : ℕ). block_in s (header_in s) (drop (fields_at k) s)) links

  pub channel_read_written : PlainBlock b → channel_bytes b ≡ take 160 s
  channel_read_written p =
      let stands = (channel_stands s b read).0 in
      let is : b ≡ block_in s (header_in s) (drop 88 s) = at_eight p.eight in
      let plain : PlainBlock (block_in s (header_in s) (drop 88 s)) = subst PlainBlock is p in
      let whole : fields_at (u64_at s 16) + 72 ≤ length s = stands.whole in
      let links : u64_at s 16 ≡ 8 = plain.eight in
      ap channel_bytes is
      ∙ pieces s bytes (omega arith) (header_in s) stands.named plain.header_reserved plain.block_length links plain.reserved plain.attachments

  read_fits : BlockFits b
  read_fits =
      let q = channel_stands s b read in
      let whole : fields_at (u64_at s 16) + 72 ≤ length s = q.0.whole in
      let enough : 8 ≤ u64_at s 16 = q.0.enough in
      let at : ℕ = fields_at (u64_at s 16) in
      subst BlockFits (sym q.1)
      (fits s (drop at s) (header_in s) bytes (bytes_behind at s bytes) (omega arith) (omega (arith, length-drop at s)))

  pub channel_written_plain : channel_bytes b ≡ take 160 s → PlainBlock b
  channel_written_plain e =
      let again : channel_bytes b ++ drop 160 s ≡ s = ap (λ (l : List ℕ). l ++ drop 160 s) e ∙ take-append-drop 160 s in
      let same : b ≡ block_written b = answered (sym read ∙ ap channel_block_of (sym again) ∙ channel_written_read b (drop 160 s) read_fits) in
      record {
        header_reserved = ap (λ (x : ChannelBlock). x.header.reserved) same;
        block_length = ap (λ (x : ChannelBlock). x.header.block_length) same;
        eight = ap (λ (x : ChannelBlock). x.header.link_count) same;
        reserved = ap (λ (x : ChannelBlock). x.reserved) same;
        attachments = ap (λ (x : ChannelBlock). x.attachments) same;
      }
