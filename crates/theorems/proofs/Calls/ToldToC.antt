-- From what a call returns to C, the definition's reply comes back: about each call's own clause.
use Rattle.std.specs.Prelude.{if◌then◌else◌}
use mathlib.Core.Path.{◌≡◌, refl, sym, ap, ◌∙◌}
use mathlib.Core.Bool.{Bool, true, false, not, ◌&&◌, ◌||◌, true≢false}
use mathlib.Core.List.{List}
use Prim.Native.Nat.{ℕ, suc, ◌+◌, ◌-◌, ◌*◌, ◌^◌, ◌≤◌, ◌<◌}
use native.Mathlib.Nat.{mod-lt}
use native.Mathlib.Omega.{arith}
use contract.Lifetimes.{Lfts}
use lib.IntN.{pos, negsuc}
use lib.ListN.{length, get_or, take, drop}
use lib.Dec.{ltb, eqb}
use lib.Pow.{pow_pos, pow_mono, pow-add}
use borrow.Author.Tests.{ltb-true, ltb-false, eqb-false}
use Rattle.definitions.specs.Reply.{Reply, Outcome, answer, refusal, and_then, told}
use Rattle.definitions.specs.Bytes.{twos_complement, u64_at}
use Rattle.definitions.specs.Unicode.{Encoding, text_written}
use Rattle.definitions.specs.Header.{header_of, header_written}
use Rattle.definitions.specs.DataType.{DataType, unsigned_integer, signed_integer, float, complex, string, byte_array, mime_sample, mime_stream, can_open_date, can_open_time, unknown, code_of, owns_code, kind_of}
use Rattle.definitions.specs.Channel.{Channel, Group, ValidValue, signed, decoded, start_of, span_of, number_in, is_number, is_integer, is_floating, value_by, value_of, valid_value_of, bounded_valid_of, bounded_value_of}
use Rattle.definitions.specs.ChannelBlock.{ChannelBlock, fields_at, described, channel_block_of, channel_written}
use Rattle.definitions.specs.DataList.{list_of, list_written, equal, variable}
use Rattle.definitions.specs.WrittenValue.{value_written}
use Rattle.definitions.specs.Chain.{data_length, fetched, value_fetched}
use Rattle.mf4.specs.Clauses.{Slice, Room}
use Rattle.block_replies.specs.Replies.{Returned, returned, returned_by, written_c, header_given}
use Rattle.replies.specs.Replies.{text_c, done_c}
use Rattle.block_replies.specs.Channels.{block_given, channel_c, channel_given}
use Rattle.replies.specs.Values.{group_given, valid_value_c}
use Rattle.replies.specs.declared.validity.Mf4ValidityReply.{Mf4ValidityReply}
use Rattle.replies.specs.Stored.{number_given}
use Rattle.block_replies.specs.declared.written.Mf4WrittenReply.{Mf4WrittenReply}
use Rattle.block_replies.specs.declared.header.Mf4Header.{Mf4Header}
use Rattle.block_replies.specs.declared.header.Mf4HeaderReply.{Mf4HeaderReply}
use Rattle.block_replies.specs.declared.list.Mf4ListReply.{Mf4ListReply}
use Rattle.block_replies.specs.declared.channel_block.Mf4ChannelBlock.{Mf4ChannelBlock}
use Rattle.block_replies.specs.declared.channel_block.Mf4ChannelReply.{Mf4ChannelReply}
use Rattle.replies.specs.declared.texts.Mf4TextReply.{Mf4TextReply}
use Rattle.block_replies.specs.declared.channel.Mf4Channel.{Mf4Channel}
use Rattle.replies.specs.declared.group.Mf4Group.{Mf4Group}
use Rattle.replies.specs.declared.values.Mf4ValueReply.{Mf4ValueReply}
use Rattle.replies.specs.declared.valid_values.Mf4ValidValueReply.{Mf4ValidValueReply}
use Rattle.replies.specs.declared.fetches.Mf4LengthReply.{Mf4LengthReply}
use Rattle.replies.specs.declared.done.Mf4DoneReply.{Mf4DoneReply}
use Rattle.replies.specs.declared.stored.Mf4Number.{Mf4Number}
use Rattle.block_replies.proofs.ToldToC.{Tellable, Any, OwnType, header_again, header_told, written_again, written_told, list_again, list_told, channel_again, description_back_law, channel_told}
use Rattle.replies.proofs.ToldToC.{Reversible, text_again, text_told, value_reply_again, value_told, valid_value_again, valid_value_told, validity_again, validity_told, length_again, length_told, done_again, done_told}
use Rattle.theorems.specs.ClausesToC.{ReadsHeaderC, WritesHeaderC, ReadsListC, WritesEqualC, WritesVariableC, ReadsChannelC, WritesChannelC, WritesTextC, ReadsValueC, ReadsValidValueC, ReadsUnboundedC, ChecksValidityC, ReadsLengthC, WritesValueC, ReadsRecordC, ReadsRecordValueC}
use Rattle.theorems.proofs.Types.TypeCodes.{code_back, code_owned}
use Rattle.theorems.proofs.Blocks.ChannelAnswers.{channel_stands}
use Rattle.theorems.proofs.Texts.TextClausesToC.{text_clause}
use Rattle.theorems.proofs.Writing.WrittenEnds.{OfWriting, value_written_numbered}
use Rattle.theorems.proofs.Calls.RefusalNumbers.{Numbered, OfBlocks, OfArea, not_zero, header_numbered, list_numbered, channel_numbered, header_written_numbered, channel_written_numbered, list_written_numbered, text_written_numbered, length_numbered, fetched_numbered, bounded_valid_numbered}

-- ---- refusals can be told

-- where 0 is none of their numbers
pub by_number : {A : Type 0} (P : ℕ → ℕ → Type 0) → ((t : ℕ) → P 0 t → ⊥) → (r : Reply A) → Numbered P r → Tellable Any r
by_number P none (answer a) h = tt
by_number P none (refusal n t) h = not_zero P none n t (h n t refl)

of_blocks : {A : Type 0} (r : Reply A) → Numbered OfBlocks r → Tellable Any r
of_blocks = by_number OfBlocks (λ t h. true≢false (sym h))

of_area : {A : Type 0} (r : Reply A) → Numbered OfArea r → Tellable Any r
of_area = by_number OfArea (λ t h. true≢false (sym h))

of_writing : {A : Type 0} (r : Reply A) → Numbered OfWriting r → Tellable Any r
of_writing = by_number OfWriting (λ t h. true≢false (sym h))

-- what follows an answer; a refusal before it is handed on
pub following : {A B : Type 0} (P : A → Type 0) (Q : B → Type 0) (r : Reply A) (g : A → Reply B) → Tellable P r → ((a : A) → P a → Tellable Q (g a))
    → Tellable Q (and_then r g)
following P Q (answer a) g h i = i a h
following P Q (refusal n t) g h i = h

-- ---- the values of fields can be told

-- two's complement of up to 64 bits is a word's
pub word_reversible : (w x : ℕ) → 1 ≤ w → w ≤ 64 → x < 2 ^ w → Reversible (signed (twos_complement w x))
word_reversible w x lo hi h = by_sign (ltb x (2 ^ (w - 1))) refl
  where
    half : 2 ^ (w - 1) ≤ 2 ^ 63
    half = pow_mono {i = w - 1} {j = 63} (omega arith)

    twice : 2 ^ w ≡ 2 ^ (w - 1) * 2
    twice = ap (λ (j : ℕ). 2 ^ j) {x = w} {y = w - 1 + 1} (omega arith) ∙ pow-add 2 (w - 1) 1

    by_sign : (b : Bool) → ltb x (2 ^ (w - 1)) ≡ b → Reversible (signed (if b then pos x else negsuc (2 ^ w - suc x)))
    by_sign true e = omega (arith, half, ltb-true x (2 ^ (w - 1)) e)
    by_sign false e = omega (arith, half, twice, h, ltb-false x (2 ^ (w - 1)) e)

module _ (s : List ℕ) (at n : ℕ) (c : Channel) where
  reversible : (type : DataType) → is_number (kind_of type) && eqb c.bit_count 0 ≡ false → is_integer (kind_of type) && ltb 64 c.bit_count ≡ false
      → Reversible (decoded type s at n c)
  unfolding decoded
  reversible (unsigned_integer o) some few = tt
  reversible (signed_integer o) some few =
      let lo : c.bit_count ≡ 0 → ⊥ = eqb-false _ _ some in
      word_reversible c.bit_count (number_in o s at c) (omega arith) (ltb-false _ _ few) (mod-lt _ (pow_pos c.bit_count))
  reversible (float o) some few = refl
  reversible (string e) some few = tt
  reversible byte_array some few = tt
  reversible mime_sample some few = tt
  reversible mime_stream some few = tt
  reversible can_open_date some few = tt
  reversible can_open_time some few = tt
  reversible (complex o) some few = tt
  reversible (unknown code) some few = tt

  past : {A : Type 0} (P : A → Type 0) (b : Bool) (number t : ℕ) (r : Reply A) → 0 < number → (b ≡ false → Tellable P r) → Tellable P (if b then refusal number t else r)
  past P true number t r some h = some
  past P false number t r some h = h refl

  by_tests : Tellable Reversible (value_by (kind_of c.data_type) at n s c)
  unfolding value_by
  by_tests =
      let k = kind_of c.data_type in
      past Reversible (is_number k && eqb c.bit_count 0) 18 0 _ (omega arith)
      (λ some. past Reversible (is_number k && ltb 7 c.bit_offset) 19 0 _ (omega arith)
      (λ e. past Reversible (is_integer k && ltb 64 c.bit_count) 20 0 _ (omega arith)
      (λ few. past Reversible (ltb (length s) (at + n)) 21 (told (at + n)) _ (omega arith)
      (λ e. past Reversible (is_floating k && not (eqb c.bit_count 32 || eqb c.bit_count 64)) 22 0 (answer (decoded c.data_type s at n c)) (omega arith)
      (λ e. reversible c.data_type some few)))))

pub value_tellable : (s : List ℕ) (id_size : ℕ) (c : Channel) → Tellable Reversible (value_of s id_size c)
unfolding value_of
value_tellable s id_size c = by_tests s (start_of id_size c) (span_of s c) c

abbrev pub Judged : ValidValue → Type 0
Judged v = Reversible v.value

pub valid_value_tellable : (s : List ℕ) (g : Group) (c : Channel) → Tellable Judged (valid_value_of s g c)
unfolding valid_value_of
valid_value_tellable s g c = following Reversible Judged (value_of s g.id_size c) _ (value_tellable s g.id_size c) (λ v h. h)

pub bounded_value_tellable : (s : List ℕ) (g : Group) (c : Channel) → Tellable Judged (bounded_value_of s g c)
unfolding bounded_value_of
bounded_value_tellable s g c =
    following Reversible Judged (value_of s g.id_size c) _ (value_tellable s g.id_size c)
    (λ v h. following Any Judged (bounded_valid_of s g c) _ (of_area _ (bounded_valid_numbered s g c)) (λ b any. h))

-- ---- what each call returns

-- of a call that wrote
pub by_result : {A R : Type 0} (to_c : Reply A → R) (back : R → Reply A) {y : R} {after : List ℕ} {o : Outcome A}
    → returned y after ≡ returned_by to_c o → back (to_c o.reply) ≡ o.reply → back y ≡ o.reply
by_result {R = R} to_c back p h = ap (λ (x : Returned R). back x.result) p ∙ h

pub mf4_read_header_told : (κs : Lfts 1) (bytes : Slice) (y : Mf4HeaderReply) → ReadsHeaderC κs bytes y → header_again y ≡ header_of bytes.now
mf4_read_header_told κs bytes y p = ap header_again p ∙ header_told _ (of_blocks _ (header_numbered bytes.now))

pub mf4_write_header_told : (κs : Lfts 1) (header : Mf4Header) (out : Room) (y : Mf4WrittenReply) (after : List ℕ)
    → WritesHeaderC κs header out y after → written_again y ≡ (header_written out.now (header_given header)).reply
mf4_write_header_told κs header out y after p = by_result written_c written_again p (written_told _ (of_blocks _ (header_written_numbered out.now (header_given header))))

pub mf4_read_list_told : (κs : Lfts 1) (bytes : Slice) (y : Mf4ListReply) → ReadsListC κs bytes y → list_again y ≡ list_of bytes.now
mf4_read_list_told κs bytes y p = ap list_again p ∙ list_told _ (of_blocks _ (list_numbered bytes.now))

-- the type of a block is the one that a code stands for
own_type : (s : List ℕ) (b : ChannelBlock) → channel_block_of s ≡ answer b → OwnType b
own_type s b read = ap (λ (x : ChannelBlock). owns_code x.data_type) (channel_stands s b read).1 ∙ code_owned (get_or (drop (fields_at (u64_at s 16)) s) 2 0)

channel_tellable : (s : List ℕ) → Tellable OwnType (channel_block_of s)
channel_tellable s = go (channel_block_of s) refl (channel_numbered s)
  where
    go : (r : Reply ChannelBlock) → channel_block_of s ≡ r → Numbered OfBlocks r → Tellable OwnType r
    go (answer b) e h = own_type s b e
    go (refusal n t) e h = of_blocks (refusal n t) h

pub mf4_read_channel_told : (κs : Lfts 1) (bytes : Slice) (y : Mf4ChannelReply) → ReadsChannelC κs bytes y → channel_again y ≡ channel_block_of bytes.now
mf4_read_channel_told κs bytes y p = ap channel_again p ∙ channel_told _ (channel_tellable bytes.now)

-- the description that C is told is the block's, when C gives it to another call
pub mf4_read_channel_described : (κs : Lfts 1) (bytes : Slice) (y : Mf4ChannelReply) (b : ChannelBlock) → ReadsChannelC κs bytes y
    → channel_block_of bytes.now ≡ answer b → channel_given y.block.channel ≡ described b
mf4_read_channel_described κs bytes y b p e =
    ap (λ (x : Mf4ChannelReply). channel_given x.block.channel) (p ∙ ap channel_c e) ∙ description_back_law (described b) (own_type bytes.now b e)

-- and the code of its type is the byte that stands in the block, whatever it is
pub mf4_read_channel_code : (κs : Lfts 1) (bytes : Slice) (y : Mf4ChannelReply) (b : ChannelBlock) → ReadsChannelC κs bytes y
    → channel_block_of bytes.now ≡ answer b → y.block.channel.data_type ≡ get_or (drop (fields_at (u64_at bytes.now 16)) bytes.now) 2 0
mf4_read_channel_code κs bytes y b p e =
    ap (λ (x : Mf4ChannelReply). x.block.channel.data_type) (p ∙ ap channel_c e)
    ∙ ap (λ (x : ChannelBlock). code_of x.data_type) (channel_stands bytes.now b e).1 ∙ code_back _

pub mf4_write_channel_told : (κs : Lfts 1) (block : Mf4ChannelBlock) (out : Room) (y : Mf4WrittenReply) (after : List ℕ)
    → WritesChannelC κs block out y after → written_again y ≡ (channel_written out.now (block_given block)).reply
mf4_write_channel_told κs block out y after p = by_result written_c written_again p (written_told _ (of_blocks _ (channel_written_numbered out.now (block_given block))))

pub mf4_write_list_equal_told : (κs : Lfts 2) (next : ℕ) (links : Slice) (length : ℕ) (out : Room) (y : Mf4WrittenReply) (after : List ℕ)
    → WritesEqualC κs next links length out y after → written_again y ≡ (list_written out.now next links.now (equal length)).reply
mf4_write_list_equal_told κs next links length out y after p =
    by_result written_c written_again p (written_told _ (of_blocks _ (list_written_numbered out.now next links.now (equal length))))

pub mf4_write_list_variable_told : (κs : Lfts 3) (next : ℕ) (links offsets : Slice) (out : Room) (y : Mf4WrittenReply) (after : List ℕ)
    → WritesVariableC κs next links offsets out y after → written_again y ≡ (list_written out.now next links.now (variable offsets.now)).reply
mf4_write_list_variable_told κs next links offsets out y after p =
    by_result written_c written_again p (written_told _ (of_blocks _ (list_written_numbered out.now next links.now (variable offsets.now))))

-- the four calls for texts
pub mf4_text_told : (e : Encoding) (κs : Lfts 2) (bytes : Slice) (out : Room) (y : Mf4TextReply) (after : List ℕ)
    → WritesTextC e κs bytes out y after → text_again y ≡ (text_written out.now e bytes.now).reply
mf4_text_told e κs bytes out y after p =
    by_result text_c text_again (text_clause e κs bytes out y after p) (text_told _ (of_blocks _ (text_written_numbered out.now e bytes.now)))

pub mf4_decode_value_told : (κs : Lfts 1) (bytes : Slice) (id_size : ℕ) (channel : Mf4Channel) (y : Mf4ValueReply)
    → ReadsValueC κs bytes id_size channel y → value_reply_again y ≡ value_of bytes.now id_size (channel_given channel)
mf4_decode_value_told κs bytes id_size channel y p = ap value_reply_again p ∙ value_told _ (value_tellable bytes.now id_size (channel_given channel))

pub mf4_decode_valid_value_told : (κs : Lfts 1) (bytes : Slice) (group : Mf4Group) (channel : Mf4Channel) (y : Mf4ValidValueReply)
    → ReadsValidValueC κs bytes group channel y → valid_value_again y ≡ bounded_value_of bytes.now (group_given group) (channel_given channel)
mf4_decode_valid_value_told κs bytes group channel y p =
    ap valid_value_again p ∙ valid_value_told _ (bounded_value_tellable bytes.now (group_given group) (channel_given channel))

pub mf4_decode_valid_value_unbounded_told : (κs : Lfts 1) (bytes : Slice) (group : Mf4Group) (channel : Mf4Channel) (y : Mf4ValidValueReply)
    → ReadsUnboundedC κs bytes group channel y → valid_value_again y ≡ valid_value_of bytes.now (group_given group) (channel_given channel)
mf4_decode_valid_value_unbounded_told κs bytes group channel y p =
    ap valid_value_again p ∙ valid_value_told _ (valid_value_tellable bytes.now (group_given group) (channel_given channel))

pub mf4_check_validity_told : (κs : Lfts 1) (bytes : Slice) (group : Mf4Group) (channel : Mf4Channel) (y : Mf4ValidityReply)
    → ChecksValidityC κs bytes group channel y → validity_again y ≡ bounded_valid_of bytes.now (group_given group) (channel_given channel)
mf4_check_validity_told κs bytes group channel y p =
    ap validity_again p ∙ validity_told _ (of_area _ (bounded_valid_numbered bytes.now (group_given group) (channel_given channel)))

pub mf4_data_length_told : (κs : Lfts 1) (file : Slice) (start : ℕ) (y : Mf4LengthReply) → ReadsLengthC κs file start y → length_again y ≡ data_length file.now start
mf4_data_length_told κs file start y p = ap length_again p ∙ length_told _ (of_blocks _ (length_numbered file.now start))

pub mf4_write_value_told : (κs : Lfts 1) (id_size : ℕ) (channel : Mf4Channel) (value : Mf4Number) (bytes : Room) (y : Mf4DoneReply) (after : List ℕ)
    → WritesValueC κs id_size channel value bytes y after → done_again y ≡ (value_written bytes.now id_size (channel_given channel) (number_given value)).reply
mf4_write_value_told κs id_size channel value bytes y after p =
    by_result done_c done_again p (done_told _ (of_writing _ (value_written_numbered bytes.now id_size (channel_given channel) (number_given value))))

pub mf4_read_record_told : (κs : Lfts 2) (file : Slice) (start number size : ℕ) (out : Room) (y : Mf4DoneReply) (after : List ℕ)
    → ReadsRecordC κs file start number size out y after → done_again y ≡ (fetched file.now start number size out.now).reply
mf4_read_record_told κs file start number size out y after p =
    by_result done_c done_again p (done_told _ (of_blocks _ (fetched_numbered file.now start number size out.now)))

pub value_fetched_tellable : (f : List ℕ) (start k size : ℕ) (g : Group) (c : Channel) (out : List ℕ)
    → Tellable Judged (value_fetched f start k size g c out).reply
unfolding value_fetched
value_fetched_tellable f start k size g c out =
    following Any Judged (fetched f start k size out).reply _ (of_blocks _ (fetched_numbered f start k size out))
    (λ u any. bounded_value_tellable (take size (fetched f start k size out).buffer) g c)

pub mf4_record_value_told : (κs : Lfts 2) (file : Slice) (start number size : ℕ) (group : Mf4Group) (channel : Mf4Channel) (out : Room) (y : Mf4ValidValueReply) (after : List ℕ)
    → ReadsRecordValueC κs file start number size group channel out y after
    → valid_value_again y ≡ (value_fetched file.now start number size (group_given group) (channel_given channel) out.now).reply
mf4_record_value_told κs file start number size group channel out y after p =
    by_result valid_value_c valid_value_again p (valid_value_told _ (value_fetched_tellable file.now start number size (group_given group) (channel_given channel) out.now))
