-- Worked examples of tables: the definitions compute to what the rows say. The file is that of three blocks, at 96, 123 and 147, of 3, 0
-- and 3 bytes, which ends at 174.
use mathlib.Core.Path.{◌≡◌, refl}
use mathlib.Core.List.{List, [], ◌∷◌, map}
use Prim.Native.Nat.{ℕ}
use lib.ListN.{take}
use Rattle.definitions.specs.Reply.{Outcome}
use Rattle.definitions.specs.Bytes.{le_of, le, les}
use Rattle.definitions.specs.Header.{header_of, header_bytes}
use Rattle.definitions.specs.DataList.{list_of, links_of, rest_of, list_bytes}
use Rattle.definitions.specs.Chain.{block_at, fragment_of, fragments, list_at, chained_at, lists, chain_of, total, joined, record_of}
use Rattle.definitions.specs.Table.{begin_of, fragments_in, rising, ordered, in_file, sound, places_of, opened, with_block, extended, without_last, shortened, table_fetched}
use Rattle.theorems.specs.Examples.{three_blocks}
use Rattle.theorems.proofs.Examples.LimitExamples.{refused_with}

-- a reply's number, 0 for an answer, and with it the first words, or bytes, that are left
abbrev shown : ℕ → Outcome (Unit {0}) → List ℕ
shown n o = refused_with o.reply ∷ take n o.buffer

pub record Row : Type 0 where
  pub given : List ℕ
  pub stated : List ℕ

abbrev row : List ℕ → List ℕ → Row
row g s = record { given = g; stated = s }

abbrev opening : ℕ → List ℕ → List ℕ
opening start w = shown 8 (opened three_blocks start w)

abbrev extending : ℕ → List ℕ → List ℕ
extending a w = shown 10 (extended three_blocks a w)

abbrev shortening : ℕ → List ℕ → List ℕ
shortening n w = shown n (shortened w)

-- record k of two bytes, into a buffer of three
abbrev fetching : List ℕ → ℕ → List ℕ
fetching w k = shown 3 (table_fetched three_blocks w k 2 (255 ∷ 255 ∷ 255 ∷ []))

abbrev pub table : List Row
table =
    -- opened, whatever stood there; and a chain that is refused
    row (opening 8 (7 ∷ 7 ∷ [])) (0 ∷ 3 ∷ 6 ∷ 96 ∷ 0 ∷ 123 ∷ 3 ∷ 147 ∷ 3 ∷ [])
    ∷ row (opening 9 (7 ∷ 7 ∷ [])) (3 ∷ 7 ∷ 7 ∷ [])
    -- one block more: no other place changes
    ∷ row (extending 147 (2 ∷ 3 ∷ 96 ∷ 0 ∷ 123 ∷ 3 ∷ 7 ∷ 7 ∷ 9 ∷ 9 ∷ [])) (0 ∷ 3 ∷ 6 ∷ 96 ∷ 0 ∷ 123 ∷ 3 ∷ 147 ∷ 3 ∷ 9 ∷ 9 ∷ [])
    -- no block there, a block of another kind; and a table that cannot be right comes first
    ∷ row (extending 0 (0 ∷ 0 ∷ 7 ∷ 7 ∷ [])) (11 ∷ 0 ∷ 0 ∷ 7 ∷ 7 ∷ [])
    ∷ row (extending 8 (0 ∷ 0 ∷ 7 ∷ 7 ∷ [])) (12 ∷ 0 ∷ 0 ∷ 7 ∷ 7 ∷ [])
    ∷ row (extending 0 (0 ∷ 1 ∷ 7 ∷ 7 ∷ [])) (32 ∷ 0 ∷ 1 ∷ 7 ∷ 7 ∷ [])
    -- the last one given up, down to none
    ∷ row (shortening 10 (3 ∷ 6 ∷ 96 ∷ 0 ∷ 123 ∷ 3 ∷ 147 ∷ 3 ∷ 9 ∷ 9 ∷ [])) (0 ∷ 2 ∷ 3 ∷ 96 ∷ 0 ∷ 123 ∷ 3 ∷ 0 ∷ 0 ∷ 9 ∷ 9 ∷ [])
    ∷ row (shortening 4 (1 ∷ 3 ∷ 96 ∷ 0 ∷ [])) (0 ∷ 0 ∷ 0 ∷ 0 ∷ 0 ∷ [])
    ∷ row (shortening 2 (0 ∷ 0 ∷ [])) (31 ∷ 0 ∷ 0 ∷ [])
    -- empty with a total; positions that start above 0, fall, pass the total; and such as pass
    ∷ row (shortening 2 (0 ∷ 1 ∷ [])) (32 ∷ 0 ∷ 1 ∷ [])
    ∷ row (shortening 4 (1 ∷ 3 ∷ 96 ∷ 1 ∷ [])) (32 ∷ 1 ∷ 3 ∷ 96 ∷ 1 ∷ [])
    ∷ row (shortening 2 (3 ∷ 6 ∷ 96 ∷ 0 ∷ 123 ∷ 4 ∷ 147 ∷ 3 ∷ [])) (32 ∷ 3 ∷ 6 ∷ [])
    ∷ row (shortening 2 (2 ∷ 2 ∷ 96 ∷ 0 ∷ 123 ∷ 3 ∷ [])) (32 ∷ 2 ∷ 2 ∷ [])
    ∷ row (shortening 2 (3 ∷ 6 ∷ 0 ∷ 0 ∷ 0 ∷ 6 ∷ 0 ∷ 6 ∷ [])) (0 ∷ 2 ∷ 6 ∷ [])
    -- a record over three fragments, and one behind the data
    ∷ row (fetching (3 ∷ 6 ∷ 96 ∷ 0 ∷ 123 ∷ 3 ∷ 147 ∷ 3 ∷ []) 1) (0 ∷ 3 ∷ 4 ∷ 255 ∷ [])
    ∷ row (fetching (3 ∷ 6 ∷ 96 ∷ 0 ∷ 123 ∷ 3 ∷ 147 ∷ 3 ∷ []) 3) (16 ∷ 255 ∷ 255 ∷ 255 ∷ [])
    -- an empty fragment that ends with the file, and one byte behind it; and an address whose end would wrap
    ∷ row (fetching (1 ∷ 0 ∷ 150 ∷ 0 ∷ []) 0) (16 ∷ 255 ∷ 255 ∷ 255 ∷ [])
    ∷ row (fetching (1 ∷ 0 ∷ 151 ∷ 0 ∷ []) 0) (32 ∷ 255 ∷ 255 ∷ 255 ∷ [])
    ∷ row (fetching (1 ∷ 2 ∷ 18446744073709551592 ∷ 0 ∷ []) 0) (32 ∷ 255 ∷ 255 ∷ 255 ∷ [])
    -- one fragment more than a table holds, all of them empty; `LimitExamples` has the number
    ∷ row (shortening 2 (513 ∷ 0 ∷ [])) (32 ∷ 513 ∷ 0 ∷ [])
    ∷ []

pub claim : map (λ (r : Row). r.given) table ≡ map (λ (r : Row). r.stated) table
unfolding le_of le les header_of header_bytes list_of links_of rest_of list_bytes block_at fragment_of fragments list_at chained_at lists chain_of total joined record_of begin_of fragments_in rising ordered in_file sound places_of opened with_block extended without_last shortened table_fetched
claim = refl
