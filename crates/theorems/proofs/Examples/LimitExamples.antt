-- Worked examples of the limits: at each, and one beyond it, what the definitions give is what the rules say. A limit that no list of
-- bytes here reaches stands as a number beside the rule's. Of channels `OverlapExamples` has it.
use mathlib.Core.Path.{◌≡◌, refl}
use mathlib.Core.List.{List, [], ◌∷◌, ◌++◌, map}
use Prim.Native.Nat.{ℕ, ◌^◌}
use Rattle.definitions.specs.Reply.{Reply, answer, refusal}
use Rattle.definitions.specs.Bytes.{le_of, le, les}
use Rattle.definitions.specs.Header.{header_of, header_bytes}
use Rattle.definitions.specs.DataList.{equal, list_of, links_of, rest_of, list_bytes, list_written}
use Rattle.definitions.specs.Chain.{id_dt, file_limit, list_limit, fragments, by_offsets, list_at, chained_at, lists, chain_of, fetched}
use Rattle.definitions.specs.Table.{table_limit}
use Rattle.theorems.specs.Examples.{copies, three_blocks}

-- two lists without a block, at 8 and 48
abbrev empty_lists : List ℕ
empty_lists = le 8 0 ++ list_bytes 48 [] 0 [] ++ list_bytes 0 [] 0 []

-- the number of a refusal, and 0 for an answer
abbrev pub refused_with : {A : Type 0} → Reply A → ℕ
refused_with (answer a) = 0
refused_with (refusal n t) = n

-- record 0 of so many bytes, into a buffer of so many, from a chain that is not there: 11 where the size passes
abbrev fetched_nowhere : ℕ → ℕ → ℕ
fetched_nowhere size room = refused_with (fetched [] 8 0 size (copies room 255)).reply

-- so many links to be written where there is no room: 6 where their number passes
abbrev written_nowhere : ℕ → ℕ
written_nowhere n = refused_with (list_written [] 0 (copies n 8) (equal 2)).reply

pub record Row : Type 0 where
  pub given : ℕ
  pub stated : ℕ

abbrev row : ℕ → ℕ → Row
row n m = record { given = n; stated = m }

abbrev pub table : List Row
table =
    -- a file's bytes, and a chain's lists: two where two may still be read, and where one may
    row file_limit (2 ^ 40)
    ∷ row list_limit 256
    ∷ row (refused_with (lists id_dt empty_lists by_offsets 2 8 [])) 0
    ∷ row (refused_with (lists id_dt empty_lists by_offsets 1 8 [])) 8
    -- a table's fragments
    ∷ row table_limit 512
    -- a list of three fragments, behind 4,093 others and behind one more
    ∷ row (refused_with (list_at three_blocks 4093 8)) 0
    ∷ row (refused_with (list_at three_blocks 4094 8)) 9
    -- a record's bytes, and a buffer that is one byte short
    ∷ row (fetched_nowhere 0 1) 15
    ∷ row (fetched_nowhere 1 1) 11
    ∷ row (fetched_nowhere 16384 16384) 11
    ∷ row (fetched_nowhere 16385 16385) 15
    ∷ row (fetched_nowhere 16384 16383) 15
    -- a written list's links
    ∷ row (written_nowhere 4096) 6
    ∷ row (written_nowhere 4097) 5
    ∷ []

pub claim : map (λ (r : Row). r.given) table ≡ map (λ (r : Row). r.stated) table
unfolding copies le_of le les header_of header_bytes list_of links_of rest_of list_bytes list_written fragments list_at chained_at lists chain_of fetched
claim = refl
