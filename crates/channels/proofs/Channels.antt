-- The ways through a channel block, read and written.
use mathlib.Core.Path.{◌≡◌, refl, sym, ap, ◌∙◌}
use mathlib.Core.List.{List, [], ◌∷◌, ◌++◌}
use mathlib.Core.Bool.{true, false}
use Prim.Native.Nat.{ℕ, ◌+◌, ◌-◌, ◌*◌, ◌≤◌, ◌<◌}
use native.Mathlib.Omega.{arith}
use lib.ListN.{length, get_or, drop}
use lib.Seq.{sets}
use borrow.Author.Tests.{lt-ltb, le-ltb}
use Rattle.definitions.specs.Reply.{answer, refusal, told}
use Rattle.definitions.specs.Bytes.{le, les, u16_at, u32_at, u64s_at, id_at}
use Rattle.definitions.specs.Header.{Header, header_of, header_bytes}
use Rattle.definitions.specs.DataType.{DataType, type_of, code_of}
use Rattle.definitions.specs.ChannelBlock.{ChannelBlock, id_cn, fields_at, block_in, fields_of, channel_block_of, channel_header, eight_links, six_limits, format_bytes, channel_bytes, channel_written}
use Rattle.definitions.proofs.Replies.{needing_short, needing_met, writing_short, writing_met}
use Rattle.definitions.proofs.Stores.{stored_on, stored_then}
use Rattle.words.proofs.Numbers.{bytes_four, back_le}

-- ---- read

module _ (s : List ℕ) where
  -- a refused header is a refused block
  pub channel_unheaded : (n t : ℕ) → header_of s ≡ refusal n t → channel_block_of s ≡ refusal n t
  unfolding channel_block_of
  channel_unheaded n t h = rw h

  module _ (x : Header) (h : header_of s ≡ answer x) where
    pub channel_other : id_at s 0 id_cn ≡ false → channel_block_of s ≡ refusal 3 0
    unfolding channel_block_of fields_of
    channel_other i = rw (h, i)

    module _ (i : id_at s 0 id_cn ≡ true) where
      pub channel_few : x.link_count < 8 → channel_block_of s ≡ refusal 17 0
      unfolding channel_block_of fields_of
      channel_few l = rw (h, i, lt-ltb _ _ l)

      module _ (enough : 8 ≤ x.link_count) where
        pub channel_cut : length s < 96 + x.link_count * 8 → channel_block_of s ≡ refusal 2 (told (96 + x.link_count * 8))
        unfolding channel_block_of fields_of
        channel_cut l =
            let e : fields_at x.link_count + 72 ≡ 96 + x.link_count * 8 = omega arith in
            rw (h, i, le-ltb _ _ enough, e) (needing_short s _ _ l)

        pub channel_whole : fields_at x.link_count + 72 ≤ length s → channel_block_of s ≡ answer (block_in s x (drop (fields_at x.link_count) s))
        unfolding channel_block_of fields_of
        channel_whole l = rw (h, i, le-ltb _ _ enough) (needing_met s _ _ l)

-- the block as it is read: the links and the limits as lists of numbers, the other fields one by one
pub block_read : (s f : List ℕ) (h : Header) {links limits : List ℕ} {type : DataType} {byte count flags position attached : ℕ}
    → links ≡ u64s_at s 24 8 → limits ≡ u64s_at f 24 6 → type ≡ type_of (get_or f 2 0) → byte ≡ u32_at f 4 → count ≡ u32_at f 8
    → flags ≡ u32_at f 12 → position ≡ u32_at f 16 → attached ≡ u16_at f 22
    → record {
      header = h;
      next_channel = get_or links 0 0;
      component = get_or links 1 0;
      name = get_or links 2 0;
      source = get_or links 3 0;
      conversion = get_or links 4 0;
      data_link = get_or links 5 0;
      unit = get_or links 6 0;
      comment = get_or links 7 0;
      more_at = 88;
      more = h.link_count - 8;
      channel_type = get_or f 0 0;
      sync_type = get_or f 1 0;
      data_type = type;
      bit_offset = get_or f 3 0;
      byte_offset = byte;
      bit_count = count;
      flags = flags;
      invalidation_bit = position;
      precision = get_or f 20 0;
      reserved = get_or f 21 0;
      attachments = attached;
      min_raw = get_or limits 0 0;
      max_raw = get_or limits 1 0;
      lower_limit = get_or limits 2 0;
      upper_limit = get_or limits 3 0;
      lower_extended = get_or limits 4 0;
      upper_extended = get_or limits 5 0;
    }
    ≡ block_in s h f
unfolding u64s_at
block_read s f h links limits type byte count flags position attached =
    rw (links, limits, type, byte, count, flags, position, attached)

-- ---- written

-- the word of four bytes has these
pub word_bytes : (x y z t w : ℕ) → x < 256 → y < 256 → z < 256 → t < 256 → w ≡ u32_at (x ∷ y ∷ z ∷ t ∷ []) 0 → le 4 w ≡ x ∷ y ∷ z ∷ t ∷ []
word_bytes x y z t w hx hy hz ht e = ap (le 4) e ∙ back_le (x ∷ y ∷ z ∷ t ∷ []) (bytes_four x y z t hx hy hz ht)

module _ (b : ChannelBlock) where
  -- six stores, one after the other, are the fields before the limits
  pub format_stored : (out : List ℕ) {code : ℕ} {kinds last o₁ o₂ o₃ o₄ o₅ o₆ : List ℕ} → code ≡ code_of b.data_type
      → kinds ≡ b.channel_type ∷ b.sync_type ∷ code ∷ b.bit_offset ∷ [] → last ≡ b.precision ∷ 0 ∷ 0 ∷ 0 ∷ []
      → o₁ ≡ sets out 88 kinds → o₂ ≡ sets o₁ 92 (le 4 b.byte_offset) → o₃ ≡ sets o₂ 96 (le 4 b.bit_count)
      → o₄ ≡ sets o₃ 100 (le 4 b.flags) → o₅ ≡ sets o₄ 104 (le 4 b.invalidation_bit) → o₆ ≡ sets o₅ 108 last
      → o₆ ≡ sets out 88 (format_bytes b)
  unfolding le
  format_stored out {o₁ = o₁} et ek el e₁ e₂ e₃ e₄ e₅ e₆ =
      let kind : List ℕ = b.channel_type ∷ b.sync_type ∷ code_of b.data_type ∷ b.bit_offset ∷ [] in
      let first : o₁ ≡ sets out 88 kind = e₁ ∙ ap (sets out 88) (ek ∙ ap (λ (x : ℕ). b.channel_type ∷ b.sync_type ∷ x ∷ b.bit_offset ∷ []) et) in
      stored_on out 88 108 (kind ++ le 4 b.byte_offset ++ le 4 b.bit_count ++ le 4 b.flags ++ le 4 b.invalidation_bit) _ el
      (stored_on out 88 104 (kind ++ le 4 b.byte_offset ++ le 4 b.bit_count ++ le 4 b.flags) (le 4 b.invalidation_bit) refl
      (stored_on out 88 100 (kind ++ le 4 b.byte_offset ++ le 4 b.bit_count) (le 4 b.flags) refl
      (stored_on out 88 96 (kind ++ le 4 b.byte_offset) (le 4 b.bit_count) refl
      (stored_on out 88 92 kind (le 4 b.byte_offset) refl first e₂ refl) e₃ refl) e₄ refl) e₅ refl) e₆ refl

  pub length_channel : length (channel_bytes b) ≡ 160
  unfolding channel_bytes header_bytes les le
  length_channel = refl

  -- four stores, one after the other, are the block's bytes
  pub channel_stored : (out : List ℕ) {h : Header} {o₁ o₂ o₃ o₄ : List ℕ} → h ≡ channel_header
      → o₁ ≡ sets out 0 (header_bytes h) → o₂ ≡ sets o₁ 24 (les (eight_links b)) → o₃ ≡ sets o₂ 88 (format_bytes b)
      → o₄ ≡ sets o₃ 112 (les (six_limits b)) → o₄ ≡ sets out 0 (channel_bytes b)
  unfolding channel_bytes header_bytes les le
  channel_stored out eh e₁ e₂ e₃ e₄ =
      let made : List ℕ = header_bytes channel_header in
      stored_then out (made ++ les (eight_links b) ++ format_bytes b) (les (six_limits b)) 112
      (stored_then out (made ++ les (eight_links b)) (format_bytes b) 88
      (stored_then out made (les (eight_links b)) 24 (e₁ ∙ ap (λ (x : Header). sets out 0 (header_bytes x)) eh) e₂ refl) e₃ refl) e₄ refl

module _ (out : List ℕ) (b : ChannelBlock) where
  pub channel_small : length out < 160 → record { reply = refusal 6 160; buffer = out } ≡ channel_written out b
  unfolding channel_written
  channel_small l = writing_short out (channel_bytes b) 160 160 (sym (length_channel b)) (omega arith) l

  pub channel_fits : (left : List ℕ) → 160 ≤ length out → left ≡ sets out 0 (channel_bytes b)
      → record { reply = answer 160; buffer = left } ≡ channel_written out b
  unfolding channel_written
  channel_fits left l e = writing_met out (channel_bytes b) 160 left (omega (arith, length_channel b)) e
