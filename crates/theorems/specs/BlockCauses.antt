-- Why a block is not read, or not written: each refusal with its condition, in the order of the tests.
use Rattle.std.specs.Prelude.{◌≡◌, ◌⊎◌, List, false, ℕ, ◌+◌, ◌*◌, ◌<◌, length}
use Rattle.definitions.specs.Reply.{told}
use Rattle.definitions.specs.Bytes.{u64_at, id_at}
use Rattle.definitions.specs.Unicode.{Encoding, text_of}
use Rattle.definitions.specs.DataList.{Lengths, equal, variable, id_dl, link_limit, flags_at, rest_in, list_size, rest_for}
use Rattle.definitions.specs.ChannelBlock.{id_cn, fields_at}
use Rattle.theorems.specs.Causes.{Not}
use Rattle.theorems.specs.Refused.{Cause, refused, ◌or_else◌}

-- ---- read

-- 2: the block has fewer than n bytes, and n is told
abbrev pub too_short : List ℕ → ℕ → Cause
too_short s n = refused 2 (told n) (length s < n)

abbrev pub header_refused : List ℕ → Cause
header_refused s = too_short s 24

-- how many links the header counts
abbrev pub link_count_in : List ℕ → ℕ
link_count_in s = u64_at s 16

abbrev pub list_refused : List ℕ → Cause
list_refused s =
    header_refused s
    or_else refused 3 0 (id_at s 0 id_dl ≡ false)  -- the id is not `##DL`
    or_else refused 4 0 (link_count_in s ≡ 0)  -- no link, not even to a next list
    or_else too_short s (flags_at (link_count_in s) + 8)  -- header, links, flags and count
    or_else too_short s (flags_at (link_count_in s) + 8 + rest_in s (link_count_in s) * 8)  -- and the one length or the offsets

abbrev pub channel_refused : List ℕ → Cause
channel_refused s =
    header_refused s
    or_else refused 3 0 (id_at s 0 id_cn ≡ false)  -- the id is not `##CN`
    or_else refused 17 0 (link_count_in s < 8)  -- fewer links than every channel has
    or_else too_short s (fields_at (link_count_in s) + 72)  -- header, all links and the fields

-- ---- written

-- 6: the buffer has fewer than the n bytes that are written, and n is told
abbrev pub no_room : List ℕ → ℕ → Cause
no_room out n = refused 6 (told n) (length out < n)

-- offsets of another number than the data links
abbrev pub Uncounted : ℕ → Lengths → Type 0
Uncounted n (equal k) = ⊥
Uncounted n (variable ns) = Not (n ≡ length ns)

abbrev pub list_unwritten : List ℕ → List ℕ → Lengths → Cause
list_unwritten out links l =
    refused 5 0 ((link_limit < length links) ⊎ Uncounted (length links) l)  -- too many data links, or such offsets
    or_else no_room out (list_size (length links) (length (rest_for l)))

abbrev pub header_unwritten : List ℕ → Cause
header_unwritten out = no_room out 24

abbrev pub channel_unwritten : List ℕ → Cause
channel_unwritten out = no_room out 160

abbrev pub text_unwritten : List ℕ → Encoding → List ℕ → Cause
text_unwritten out e s = no_room out (length (text_of e s).bytes)
