-- From a chain of data lists to a record: lists in turn, and the fragments of each in turn. f is the file, and id the id
-- of its data blocks.
use Rattle.std.specs.Prelude.{ℕ, zero, suc, ◌+◌, ◌-◌, ◌*◌, List, [], ◌∷◌, ◌++◌, Bool, true, false, not, ◌&&◌, ◌||◌, length, take, drop, ltb, leb, eqb, if◌then◌else◌}
use Rattle.definitions.specs.Reply.{Reply, Outcome, answer, refusal, and_then, on_answer}
use Rattle.definitions.specs.Bytes.{span, u64_at, id_at}
use Rattle.definitions.specs.DataList.{DataList, list_of, one_length}
use Rattle.definitions.specs.Channel.{Channel, Group, ValidValue, bounded_value_of}

-- `##DT`
abbrev pub id_dt : List ℕ
id_dt = 35 ∷ 35 ∷ 68 ∷ 84 ∷ []

-- ---- the limits

-- 7: a file has at most 2^40 bytes
abbrev pub file_limit : ℕ
file_limit = 1099511627776

-- 8: a chain has at most so many lists
abbrev pub list_limit : ℕ
list_limit = 256

-- 9: and so many fragments in all
abbrev pub fragment_limit : ℕ
fragment_limit = 4096

-- 15: a record has at most so many bytes
abbrev pub record_limit : ℕ
record_limit = 16384

-- ---- a data block

-- an address in the file that is not 0 and has 24 bytes from it on, else 11
abbrev pub has_header : List ℕ → ℕ → Bool
has_header f a = not (eqb a 0) && leb (a + 24) (length f)

-- a data block of the chain: its address, and how many bytes of data follow its header
pub record Block : Type 0 where
  pub address : ℕ
  pub size : ℕ

abbrev pub data_of : List ℕ → Block → List ℕ
data_of f b = span f (b.address + 24) b.size

-- the blocks' data end to end, and its length
unfoldable pub joined : List ℕ → List Block → List ℕ
joined f [] = []
joined f (b ∷ bs) = data_of f b ++ joined f bs

unfoldable pub total : List Block → ℕ
total [] = 0
total (b ∷ bs) = b.size + total bs

-- 12: another id, links, a length under 24, or an end past the file
unfoldable pub block_at : List ℕ → List ℕ → ℕ → Reply Block
block_at id f a =
    if not (has_header f a) then refusal 11 0
    else if not (id_at f a id) then refusal 12 0
    else if not (eqb (u64_at f (a + 16)) 0) then refusal 12 0
    else if ltb (u64_at f (a + 8)) 24 then refusal 12 0
    else if ltb (length f) (a + u64_at f (a + 8)) then refusal 12 0
    else answer (record { address = a; size = u64_at f (a + 8) - 24 })

-- ---- a fragment

-- whether fragment i of a list is the last of its chain: no list follows, and no fragment of this one
abbrev pub is_last : DataList → ℕ → Bool
is_last d i = eqb d.next 0 && leb d.links (i + 1)

-- Whether what a list declares of its fragment i is true; s is the file from the list on, and the data of all fragments
-- before this one is p bytes. One length holds for all fragments and bounds the last of the chain; it is that of the data
-- without the header. An offset is p
abbrev pub declared : List ℕ → DataList → ℕ → ℕ → ℕ → Bool
declared s d i p size =
    if one_length d.flags
    then (if is_last d i then leb size (u64_at s d.rest_at) else eqb size (u64_at s d.rest_at))
    else eqb (u64_at s (d.rest_at + i * 8)) p

-- 13: the list declares it falsely
abbrev pub judged : List ℕ → DataList → ℕ → ℕ → Block → Reply Block
judged s d i p b = if not (declared s d i p b.size) then refusal 13 0 else answer b

unfoldable pub fragment_of : List ℕ → List ℕ → List ℕ → DataList → ℕ → ℕ → Reply Block
fragment_of id f s d i p = and_then (block_at id f (u64_at s (d.links_at + i * 8))) (judged s d i p)

-- n fragments of a list from fragment i on, added to the blocks before them
unfoldable pub fragments : List ℕ → List ℕ → List ℕ → DataList → ℕ → ℕ → List Block → Reply (List Block)
fragments id f s d i zero before = answer before
fragments id f s d i (suc n) before =
    and_then (fragment_of id f s d i (total before)) (λ b. fragments id f s d (i + 1) n (before ++ (b ∷ [])))

-- ---- a list

-- 10: the count is not that of the data links, or the block is shorter than its fields
abbrev pub agrees : DataList → Bool
agrees d = eqb d.count d.links && leb (d.rest_at + d.rest * 8) d.header.block_length

-- 9: with the n fragments of the lists before, more than 4,096
abbrev pub admitted : ℕ → DataList → Reply DataList
admitted n d =
    if not (agrees d) then refusal 10 0
    else if ltb fragment_limit (n + d.links) then refusal 9 0
    else answer d

-- the list has all bytes of the file from its address on
unfoldable pub list_at : List ℕ → ℕ → ℕ → Reply DataList
list_at f n a = if not (has_header f a) then refusal 11 0 else and_then (list_of (drop a f)) (admitted n)

-- ---- the chain

-- what a list declares for its whole chain: with flag bit 0 the one length and the count of its fragments, and without it only
-- that there are offsets
pub data Declaration : Type 0 where
  by_length : ℕ → ℕ → Declaration
  by_offsets : Declaration

-- the declaration of the list d, the first of the bytes s
abbrev pub declaration_of : List ℕ → DataList → Declaration
declaration_of s d = if one_length d.flags then by_length (u64_at s d.rest_at) d.count else by_offsets

-- Whether a list, the last or not, keeps to what the first one declares, by what it declares itself: all lists have flag bit 0
-- or none has, and with it they have one length and one count between them, but the last may count less
abbrev pub keeps_to : Declaration → Bool → Declaration → Bool
keeps_to (by_length n c) last (by_length m k) = eqb m n && (if last then leb k c else eqb k c)
keeps_to (by_length n c) last by_offsets = false
keeps_to by_offsets last (by_length m k) = false
keeps_to by_offsets last by_offsets = true

-- a list of a chain whose first list declares so; 13: it does not keep to that. The last list is the one with a next link of 0
unfoldable pub chained_at : Declaration → List ℕ → ℕ → ℕ → Reply DataList
chained_at first f n a =
    and_then (list_at f n a)
    (λ d. if not (keeps_to first (eqb d.next 0) (declaration_of (drop a f) d)) then refusal 13 0 else answer d)

-- k lists at most from the one at a on, in such a chain, added to the blocks before them; 8: one list more would be read
unfoldable pub lists : List ℕ → List ℕ → Declaration → ℕ → ℕ → List Block → Reply (List Block)
lists id f first zero a before = refusal 8 0
lists id f first (suc k) a before =
    and_then (chained_at first f (length before) a)
    (λ d. and_then (fragments id f (drop a f) d 0 d.links before)
    (λ bs. if eqb d.next 0 then answer bs else lists id f first k d.next bs))

-- the first list declares, and all lists in turn keep to it, the first among them
unfoldable pub chain_of : List ℕ → List ℕ → ℕ → Reply (List Block)
chain_of id f start =
    and_then (list_at f 0 start) (λ d. lists id f (declaration_of (drop start f) d) list_limit start [])

-- the length of the joined data
unfoldable pub total_of : List ℕ → List ℕ → ℕ → Reply ℕ
total_of id f start = and_then (chain_of id f start) (λ bs. answer (total bs))

-- 7 for a file that is too long, then the chain's own
abbrev pub length_by : List ℕ → List ℕ → ℕ → Reply ℕ
length_by id f start = if ltb file_limit (length f) then refusal 7 0 else total_of id f start

-- of a chain of records
unfoldable pub data_length : List ℕ → ℕ → Reply ℕ
data_length f start = length_by id_dt f start

-- ---- a record

-- 15: a size that is not from 1 to 16,384, or that the buffer does not hold
abbrev pub bad_size : ℕ → ℕ → Bool
bad_size size room = eqb size 0 || ltb record_limit size || ltb room size

-- record k of the joined data j into the buffer; 16: j ends before it does
unfoldable pub record_of : List ℕ → ℕ → ℕ → List ℕ → Outcome (Unit {0})
record_of j k size out =
    if ltb (length j) (k * size + size)
    then record { reply = refusal 16 0; buffer = out }
    else record { reply = answer tt; buffer = span j (k * size) size ++ drop size out }

-- 15, 7 for a file longer than 2^40 bytes, the chain's own, 16
unfoldable pub fetched : List ℕ → ℕ → ℕ → ℕ → List ℕ → Outcome (Unit {0})
fetched f start k size out =
    if bad_size size (length out) then record { reply = refusal 15 0; buffer = out }
    else if ltb file_limit (length f) then record { reply = refusal 7 0; buffer = out }
    else on_answer (chain_of id_dt f start) (λ bs. record_of (joined f bs) k size out) out

-- the record, then its field from those bytes alone; a refused field leaves the record in the buffer
abbrev pub field_of : ℕ → Group → Channel → Outcome (Unit {0}) → Outcome ValidValue
field_of size g c o = record {
  reply = and_then o.reply (λ u. bounded_value_of (take size o.buffer) g c);
  buffer = o.buffer;
}

unfoldable pub value_fetched : List ℕ → ℕ → ℕ → ℕ → Group → Channel → List ℕ → Outcome ValidValue
value_fetched f start k size g c out = field_of size g c (fetched f start k size out)
