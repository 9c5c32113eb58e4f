-- Which numbers refusals have: a field's are 18 to 22, its validity's 28 and 29, those of blocks, chains and records 2 to 17 without
-- 14, and a payload's also 21, 23 and 35; of a number that is written `WrittenEnds` has them, of a list of channels `Overlaps`,
-- and of a report `ReportNumbers`. So a reply of 0 is an answer.
use Rattle.std.specs.Prelude.{if◌then◌else◌}
use mathlib.Core.Path.{◌≡◌, refl, sym}
use mathlib.Core.Logic.{◌⊎◌, inl, inr}
use mathlib.Core.Bool.{Bool, true, false, not, ◌&&◌, ◌||◌}
use mathlib.Core.List.{List, [], ◌∷◌, ◌++◌}
use Prim.Native.Nat.{ℕ, zero, suc, ◌+◌, ◌*◌, ◌<◌}
use native.Mathlib.Omega.{arith}
use lib.ListN.{length, take, drop}
use lib.Dec.{ltb, leb, eqb}
use Rattle.definitions.specs.Reply.{Reply, Outcome, answer, refusal, and_then, told, writing, on_answer}
use Rattle.definitions.specs.Bytes.{u32_at, u64_at, id_at}
use Rattle.definitions.specs.Unicode.{Encoding, text_of, written_text, text_written}
use Rattle.definitions.specs.Header.{Header, header_of, header_bytes, header_written}
use Rattle.definitions.specs.DataType.{Kind, kind_of}
use Rattle.definitions.specs.DataList.{DataList, Lengths, id_dl, list_of, links_of, rest_of, rest_in, flags_at, list_bytes, list_size, flags_for, rest_for, unwritable, list_written}
use Rattle.definitions.specs.ChannelBlock.{ChannelBlock, id_cn, fields_at, fields_of, channel_block_of, channel_bytes, channel_written}
use Rattle.definitions.specs.Channel.{Channel, Group, start_of, span_of, is_integer, is_floating, is_number, value_by, value_of, valid_of, valid_value_of, record_length, has_invalidation_bit, area_of, bounded_valid_of, bounded_value_of}
use Rattle.definitions.specs.Chain.{Block, id_dt, file_limit, fragment_limit, has_header, block_at, declared, judged, fragment_of, fragments, agrees, admitted, list_at, Declaration, declaration_of, keeps_to, chained_at, lists, list_limit, chain_of, total_of, data_length, joined, bad_size, record_of, fetched, value_fetched}
use Rattle.definitions.specs.Payload.{id_sd, position_of, payload_at, joined_of, payload_of}
use Rattle.definitions.proofs.Replies.{not_answered}

-- P holds of every refusal's number and of what it tells
abbrev pub Numbered : {A : Type 0} → (ℕ → ℕ → Type 0) → Reply A → Type 0
Numbered P r = (n t : ℕ) → r ≡ refusal n t → P n t

-- of blocks, buffers, chains and records; 14 is not used any more
abbrev is_of_blocks : ℕ → Bool
is_of_blocks n = leb 2 n && leb n 17 && not (eqb n 14)

abbrev pub OfBlocks : ℕ → ℕ → Type 0
OfBlocks n t = is_of_blocks n ≡ true

abbrev pub OfFields : ℕ → ℕ → Type 0
OfFields n t = leb 18 n && leb n 22 ≡ true

-- of validity, where the invalidation bytes have an end
abbrev pub OfArea : ℕ → ℕ → Type 0
OfArea n t = leb 28 n && leb n 29 ≡ true

-- a number is above 0, if 0 is none of them
pub not_zero : (P : ℕ → ℕ → Type 0) → ((t : ℕ) → P 0 t → ⊥) → (n t : ℕ) → P n t → 0 < n
not_zero P none zero t h = absurd (none t h)
not_zero P none (suc n) t h = omega arith

pub weaker : {A : Type 0} {P Q : ℕ → ℕ → Type 0} (r : Reply A) → ((n t : ℕ) → P n t → Q n t) → Numbered P r → Numbered Q r
weaker r on h n t e = on n t (h n t e)

module _ (P : ℕ → ℕ → Type 0) where
  pub of_answer : {A : Type 0} (a : A) → Numbered P (answer a)
  of_answer a n t e = not_answered a n t (sym e)

  pub of_refusal : {A : Type 0} (n t : ℕ) → P n t → Numbered {A = A} P (refusal n t)
  of_refusal n t p m s e = let en : n ≡ m = cc in let et : t ≡ s = cc in rw (← en, ← et) p

  pub of_either : {A : Type 0} (b : Bool) (q r : Reply A) → Numbered P q → Numbered P r → Numbered P (if b then q else r)
  of_either true q r g h = g
  of_either false q r g h = h

  pub of_test : {A : Type 0} (b : Bool) (n t : ℕ) (r : Reply A) → P n t → Numbered P r → Numbered P (if b then refusal n t else r)
  of_test b n t r p h = of_either b (refusal n t) r (of_refusal n t p) h

  pub of_following : {A B : Type 0} (r : Reply A) (g : A → Reply B) → Numbered P r → ((a : A) → Numbered P (g a)) → Numbered P (and_then r g)
  of_following (answer a) g h i = i a
  of_following (refusal n t) g h i = of_refusal n t (h n t refl)

  -- the same into a buffer, which a refusal leaves
  pub of_lending : {A B : Type 0} (r : Reply A) (g : A → Outcome B) (out : List ℕ) → Numbered P r → ((a : A) → Numbered P (g a).reply) → Numbered P (on_answer r g out).reply
  of_lending (answer a) g out h i = i a
  of_lending (refusal n t) g out h i = of_refusal n t (h n t refl)

  pub of_outcome : {A : Type 0} (b : Bool) (n t : ℕ) (out : List ℕ) (o : Outcome A) → P n t → Numbered P o.reply
      → Numbered P (if◌then◌else◌ {A = Outcome A} b (record { reply = refusal n t; buffer = out }) o).reply
  of_outcome true n t out o p h = of_refusal n t p
  of_outcome false n t out o p h = h

-- ---- blocks

pub header_numbered : (s : List ℕ) → Numbered OfBlocks (header_of s)
unfolding header_of
header_numbered s = of_test OfBlocks (ltb (length s) 24) 2 (told 24) _ refl (of_answer OfBlocks _)

rest_numbered : (s : List ℕ) (h : Header) → Numbered OfBlocks (rest_of s h)
unfolding rest_of
rest_numbered s h = of_test OfBlocks (ltb (length s) (flags_at h.link_count + 8 + rest_in s h.link_count * 8)) 2 _ _ refl (of_answer OfBlocks _)

links_numbered : (s : List ℕ) (h : Header) → Numbered OfBlocks (links_of s h)
unfolding links_of
links_numbered s h =
    of_test OfBlocks (not (id_at s 0 id_dl)) 3 0 _ refl
    (of_test OfBlocks (eqb h.link_count 0) 4 0 _ refl
    (of_test OfBlocks (ltb (length s) (flags_at h.link_count + 8)) 2 _ _ refl (rest_numbered s h)))

pub list_numbered : (s : List ℕ) → Numbered OfBlocks (list_of s)
unfolding list_of
list_numbered s = of_following OfBlocks (header_of s) (links_of s) (header_numbered s) (links_numbered s)

fields_numbered : (s : List ℕ) (h : Header) → Numbered OfBlocks (fields_of s h)
unfolding fields_of
fields_numbered s h =
    of_test OfBlocks (not (id_at s 0 id_cn)) 3 0 _ refl
    (of_test OfBlocks (ltb h.link_count 8) 17 0 _ refl
    (of_test OfBlocks (ltb (length s) (fields_at h.link_count + 72)) 2 _ _ refl (of_answer OfBlocks _)))

pub channel_numbered : (s : List ℕ) → Numbered OfBlocks (channel_block_of s)
unfolding channel_block_of
channel_numbered s = of_following OfBlocks (header_of s) (fields_of s) (header_numbered s) (fields_numbered s)

-- ---- into a buffer

writing_numbered : {A : Type 0} (out bytes : List ℕ) (a : A) → Numbered OfBlocks (writing out bytes a).reply
writing_numbered out bytes a = of_outcome OfBlocks (ltb (length out) (length bytes)) 6 _ out _ refl (of_answer OfBlocks a)

pub header_written_numbered : (out : List ℕ) (h : Header) → Numbered OfBlocks (header_written out h).reply
unfolding header_written
header_written_numbered out h = writing_numbered out (header_bytes h) 24

pub channel_written_numbered : (out : List ℕ) (b : ChannelBlock) → Numbered OfBlocks (channel_written out b).reply
unfolding channel_written
channel_written_numbered out b = writing_numbered out (channel_bytes b) 160

pub list_written_numbered : (out : List ℕ) (next : ℕ) (links : List ℕ) (l : Lengths) → Numbered OfBlocks (list_written out next links l).reply
unfolding list_written
list_written_numbered out next links l =
    of_outcome OfBlocks (unwritable (length links) l) 5 0 out _ refl
    (writing_numbered out (list_bytes next links (flags_for l) (rest_for l)) (list_size (length links) (length (rest_for l))))

pub text_written_numbered : (out : List ℕ) (e : Encoding) (s : List ℕ) → Numbered OfBlocks (text_written out e s).reply
unfolding text_written written_text
text_written_numbered out e s = writing_numbered out (text_of e s).bytes _

-- ---- a chain

pub block_numbered : (id f : List ℕ) (a : ℕ) → Numbered OfBlocks (block_at id f a)
unfolding block_at
block_numbered id f a =
    of_test OfBlocks (not (has_header f a)) 11 0 _ refl
    (of_test OfBlocks (not (id_at f a id)) 12 0 _ refl
    (of_test OfBlocks (not (eqb (u64_at f (a + 16)) 0)) 12 0 _ refl
    (of_test OfBlocks (ltb (u64_at f (a + 8)) 24) 12 0 _ refl
    (of_test OfBlocks (ltb (length f) (a + u64_at f (a + 8))) 12 0 _ refl (of_answer OfBlocks _)))))

judged_numbered : (s : List ℕ) (d : DataList) (i p : ℕ) (b : Block) → Numbered OfBlocks (judged s d i p b)
judged_numbered s d i p b = of_test OfBlocks (not (declared s d i p b.size)) 13 0 _ refl (of_answer OfBlocks b)

fragments_numbered : (id f s : List ℕ) (d : DataList) (i n : ℕ) (before : List Block) → Numbered OfBlocks (fragments id f s d i n before)
unfolding fragments fragment_of
fragments_numbered id f s d i zero before = of_answer OfBlocks before
fragments_numbered id f s d i (suc n) before =
    of_following OfBlocks (and_then (block_at id f (u64_at s (d.links_at + i * 8))) (judged s d i _)) _
    (of_following OfBlocks (block_at id f (u64_at s (d.links_at + i * 8))) _ (block_numbered id f _) (judged_numbered s d i _))
    (λ b. fragments_numbered id f s d (i + 1) n (before ++ (b ∷ [])))

admitted_numbered : (n : ℕ) (d : DataList) → Numbered OfBlocks (admitted n d)
admitted_numbered n d =
    of_test OfBlocks (not (agrees d)) 10 0 _ refl
    (of_test OfBlocks (ltb fragment_limit (n + d.links)) 9 0 _ refl (of_answer OfBlocks d))

list_at_numbered : (f : List ℕ) (n a : ℕ) → Numbered OfBlocks (list_at f n a)
unfolding list_at
list_at_numbered f n a =
    of_test OfBlocks (not (has_header f a)) 11 0 _ refl
    (of_following OfBlocks (list_of (drop a f)) (admitted n) (list_numbered (drop a f)) (admitted_numbered n))

chained_numbered : (first : Declaration) (f : List ℕ) (n a : ℕ) → Numbered OfBlocks (chained_at first f n a)
unfolding chained_at
chained_numbered first f n a =
    of_following OfBlocks (list_at f n a) _ (list_at_numbered f n a)
    (λ d. of_test OfBlocks (not (keeps_to first (eqb d.next 0) (declaration_of (drop a f) d))) 13 0 _ refl (of_answer OfBlocks d))

lists_numbered : (id f : List ℕ) (first : Declaration) (k a : ℕ) (before : List Block) → Numbered OfBlocks (lists id f first k a before)
unfolding lists
lists_numbered id f first zero a before = of_refusal OfBlocks 8 0 refl
lists_numbered id f first (suc k) a before =
    of_following OfBlocks (chained_at first f (length before) a) _ (chained_numbered first f (length before) a)
    (λ d. of_following OfBlocks (fragments id f (drop a f) d 0 d.links before) _ (fragments_numbered id f (drop a f) d 0 d.links before)
    (λ bs. of_either OfBlocks (eqb d.next 0) _ _ (of_answer OfBlocks bs) (lists_numbered id f first k d.next bs)))

pub chain_numbered : (id f : List ℕ) (start : ℕ) → Numbered OfBlocks (chain_of id f start)
unfolding chain_of
chain_numbered id f start =
    of_following OfBlocks (list_at f 0 start) _ (list_at_numbered f 0 start)
    (λ d. lists_numbered id f (declaration_of (drop start f) d) list_limit start [])

pub total_numbered : (id f : List ℕ) (start : ℕ) → Numbered OfBlocks (total_of id f start)
unfolding total_of
total_numbered id f start = of_following OfBlocks (chain_of id f start) _ (chain_numbered id f start) (λ bs. of_answer OfBlocks _)

pub length_numbered : (f : List ℕ) (start : ℕ) → Numbered OfBlocks (data_length f start)
unfolding data_length
length_numbered f start = of_test OfBlocks (ltb file_limit (length f)) 7 0 _ refl (total_numbered id_dt f start)

-- ---- a record

module _ (f : List ℕ) (start k size : ℕ) (out : List ℕ) where
  record_numbered : (j : List ℕ) → Numbered OfBlocks (record_of j k size out).reply
  unfolding record_of
  record_numbered j = of_outcome OfBlocks (ltb (length j) (k * size + size)) 16 0 out _ refl (of_answer OfBlocks tt)

  pub fetched_numbered : Numbered OfBlocks (fetched f start k size out).reply
  unfolding fetched
  fetched_numbered =
      of_outcome OfBlocks (bad_size size (length out)) 15 0 out _ refl
      (of_outcome OfBlocks (ltb file_limit (length f)) 7 0 out _ refl
      (of_lending OfBlocks (chain_of id_dt f start) _ out (chain_numbered id_dt f start) (λ bs. record_numbered (joined f bs))))

-- ---- a field

module _ (s : List ℕ) (id_size : ℕ) (c : Channel) where
  by_kind : (k : Kind) (at n : ℕ) → Numbered OfFields (value_by k at n s c)
  unfolding value_by
  by_kind k at n =
      of_test OfFields (is_number k && eqb c.bit_count 0) 18 0 _ refl
      (of_test OfFields (is_number k && ltb 7 c.bit_offset) 19 0 _ refl
      (of_test OfFields (is_integer k && ltb 64 c.bit_count) 20 0 _ refl
      (of_test OfFields (ltb (length s) (at + n)) 21 (told (at + n)) _ refl
      (of_test OfFields (is_floating k && not (eqb c.bit_count 32 || eqb c.bit_count 64)) 22 0 _ refl (of_answer OfFields _)))))

  pub value_numbered : Numbered OfFields (value_of s id_size c)
  unfolding value_of
  value_numbered = by_kind (kind_of c.data_type) (start_of id_size c) (span_of s c)

pub valid_value_numbered : (s : List ℕ) (g : Group) (c : Channel) → Numbered OfFields (valid_value_of s g c)
unfolding valid_value_of
valid_value_numbered s g c = of_following OfFields (value_of s g.id_size c) _ (value_numbered s g.id_size c) (λ v. of_answer OfFields _)

-- ---- validity

area_numbered : (k : ℕ) (g : Group) (c : Channel) → Numbered OfArea (area_of k g c)
unfolding area_of
area_numbered k g c =
    of_test OfArea (not (eqb k (record_length g))) 28 0 _ refl
    (of_test OfArea (has_invalidation_bit c && not (ltb c.invalidation_bit (8 * g.invalidation_bytes))) 29 0 _ refl (of_answer OfArea tt))

-- those of a field, or of its validity
abbrev pub OfBounded : ℕ → ℕ → Type 0
OfBounded n t = OfFields n t ⊎ OfArea n t

module _ (s : List ℕ) (g : Group) (c : Channel) where
  pub bounded_valid_numbered : Numbered OfArea (bounded_valid_of s g c)
  unfolding bounded_valid_of
  bounded_valid_numbered = of_following OfArea (area_of (length s) g c) _ (area_numbered (length s) g c) (λ u. of_answer OfArea (valid_of s g c))

  pub bounded_value_numbered : Numbered OfBounded (bounded_value_of s g c)
  unfolding bounded_value_of
  bounded_value_numbered =
      of_following OfBounded (value_of s g.id_size c) _ (weaker _ (λ n t p. inl p) (value_numbered s g.id_size c))
      (λ v. of_following OfBounded (bounded_valid_of s g c) _ (weaker _ (λ n t p. inr p) bounded_valid_numbered) (λ b. of_answer OfBounded _))

-- those of a record, or of its field and its validity
abbrev pub OfFetches : ℕ → ℕ → Type 0
OfFetches n t = OfBlocks n t ⊎ OfBounded n t

pub value_fetched_numbered : (f : List ℕ) (start k size : ℕ) (out : List ℕ) (g : Group) (c : Channel) → Numbered OfFetches (value_fetched f start k size g c out).reply
unfolding value_fetched
value_fetched_numbered f start k size out g c =
    of_following OfFetches (fetched f start k size out).reply _ (weaker _ (λ n t p. inl p) (fetched_numbered f start k size out))
    (λ u. weaker _ (λ n t p. inr p) (bounded_value_numbered (take size (fetched f start k size out).buffer) g c))

-- ---- a payload

abbrev pub OfPayloads : ℕ → ℕ → Type 0
OfPayloads n t = is_of_blocks n || eqb n 21 || eqb n 23 || eqb n 35 ≡ true

pub of_blocks_too : (n t : ℕ) → OfBlocks n t → OfPayloads n t
of_blocks_too n t h = rw h

module _ (f s : List ℕ) (id_size : ℕ) (c : Channel) where
  position_numbered : Numbered OfPayloads (position_of s id_size c)
  unfolding position_of
  position_numbered = of_test OfPayloads (ltb (length s) (id_size + c.byte_offset + 8)) 21 _ _ refl (of_answer OfPayloads _)

  joined_numbered : Numbered OfPayloads (joined_of id_sd f c.data_link)
  unfolding joined_of
  joined_numbered =
      of_following OfPayloads (chain_of id_sd f c.data_link) _ (weaker _ of_blocks_too (chain_numbered id_sd f c.data_link)) (λ bs. of_answer OfPayloads _)

  at_numbered : (j : List ℕ) (p : ℕ) → Numbered OfPayloads (payload_at j p)
  unfolding payload_at
  at_numbered j p =
      of_test OfPayloads (ltb (length j) (p + 4)) 23 0 _ refl
      (of_test OfPayloads (ltb (length j) (p + 4 + u32_at j p)) 23 0 _ refl (of_answer OfPayloads _))

  pub payload_numbered : Numbered OfPayloads (payload_of (joined_of id_sd f c.data_link) s id_size c)
  unfolding payload_of
  payload_numbered =
      of_following OfPayloads (position_of s id_size c) _ position_numbered
      (λ p. of_following OfPayloads (joined_of id_sd f c.data_link) _ joined_numbered (λ j. at_numbered j p))
