-- A data list: behind the header a link to the next list and the links to its data, then a byte of flags, three reserved
-- ones and a count of four. The rest, by flag bit 0, is one length of its fragments, or else an offset for each; links,
-- length and offsets have 8 bytes.
use Rattle.std.specs.Prelude.{ℕ, ◌+◌, ◌-◌, ◌*◌, List, [], ◌∷◌, ◌++◌, Bool, not, ◌||◌, length, get_or, ltb, eqb, if◌then◌else◌}
use Rattle.definitions.specs.Reply.{Reply, Outcome, answer, refusal, and_then, needing, writing}
use Rattle.definitions.specs.Bytes.{le_of, le, les, span, u32_at, u64_at, id_at, bit}
use Rattle.definitions.specs.Header.{Header, header_of, header_bytes}

-- `##DL`
abbrev pub id_dl : List ℕ
id_dl = 35 ∷ 35 ∷ 68 ∷ 76 ∷ []

-- a list that is written has at most so many data links
abbrev pub link_limit : ℕ
link_limit = 4096

-- ---- read

pub record DataList : Type 0 where
  pub header : Header
  pub next : ℕ
  -- the data links: where in the slice given, and how many
  pub links_at : ℕ
  pub links : ℕ
  pub flags : ℕ
  pub reserved : ℕ
  pub count : ℕ
  -- the one length or the offsets: where in the slice given, and how many
  pub rest_at : ℕ
  pub rest : ℕ

-- flag bit 0: one length for every fragment
abbrev pub one_length : ℕ → Bool
one_length flags = eqb (bit flags 0) 1

-- where the flags stand, after the header and n links
abbrev pub flags_at : ℕ → ℕ
flags_at n = 24 + n * 8

-- one length, or count offsets
abbrev pub rest_count : ℕ → ℕ → ℕ
rest_count flags count = if one_length flags then 1 else count

abbrev pub rest_in : List ℕ → ℕ → ℕ
rest_in s n = rest_count (get_or s (flags_at n) 0) (u32_at s (flags_at n + 4))

-- the list in s, by its header
abbrev pub list_in : List ℕ → Header → DataList
list_in s h = record {
  header = h;
  next = u64_at s 24;
  links_at = 32;
  links = h.link_count - 1;
  flags = get_or s (flags_at h.link_count) 0;
  reserved = le_of (span s (flags_at h.link_count + 1) 3);
  count = u32_at s (flags_at h.link_count + 4);
  rest_at = flags_at h.link_count + 8;
  rest = rest_in s h.link_count;
}

-- after the links: 2 for the rest
unfoldable pub rest_of : List ℕ → Header → Reply DataList
rest_of s h = needing s (flags_at h.link_count + 8 + rest_in s h.link_count * 8) (answer (list_in s h))

-- after the header: 3 for another id, 4 for no links, 2 for header + links + 8
unfoldable pub links_of : List ℕ → Header → Reply DataList
links_of s h =
    if not (id_at s 0 id_dl) then refusal 3 0
    else if eqb h.link_count 0 then refusal 4 0
    else needing s (flags_at h.link_count + 8) (rest_of s h)

unfoldable pub list_of : List ℕ → Reply DataList
list_of s = and_then (header_of s) (links_of s)

-- ---- written

-- the bytes that the fields take, with n data links and r numbers of the rest
abbrev pub list_size : ℕ → ℕ → ℕ
list_size n r = flags_at (n + 1) + 8 + r * 8

abbrev pub header_for : ℕ → ℕ → Header
header_for n r = record { id = le_of id_dl; reserved = 0; block_length = list_size n r; link_count = n + 1 }

unfoldable pub list_bytes : ℕ → List ℕ → ℕ → List ℕ → List ℕ
list_bytes next links flags rest =
    header_bytes (header_for (length links) (length rest)) ++ le 8 next ++ les links
    ++ (flags ∷ 0 ∷ 0 ∷ 0 ∷ []) ++ le 4 (length links) ++ les rest

-- what a list says of its fragments: one length, with flag bit 0, or an offset for each
pub data Lengths : Type 0 where
  equal : ℕ → Lengths
  variable : List ℕ → Lengths

abbrev pub flags_for : Lengths → ℕ
flags_for (equal n) = 1
flags_for (variable ns) = 0

abbrev pub rest_for : Lengths → List ℕ
rest_for (equal n) = n ∷ []
rest_for (variable ns) = ns

-- 5: over 4,096 data links, or offsets of another number
abbrev pub unwritable : ℕ → Lengths → Bool
unwritable n (equal k) = ltb link_limit n
unwritable n (variable ns) = ltb link_limit n || not (eqb n (length ns))

-- 5 comes before 6
unfoldable pub list_written : List ℕ → ℕ → List ℕ → Lengths → Outcome ℕ
list_written out next links l =
    if unwritable (length links) l
    then record { reply = refusal 5 0; buffer = out }
    else writing out (list_bytes next links (flags_for l) (rest_for l)) (list_size (length links) (length (rest_for l)))
