-- A table of fragments, by which a record is found without a walk along its chain. f is the file, and w the words of the table.
use Rattle.std.specs.Prelude.{ℕ, zero, suc, ◌+◌, ◌-◌, ◌*◌, List, [], ◌∷◌, ◌++◌, Bool, true, not, ◌&&◌, length, get_or, set, replicate, ltb, leb, eqb, if◌then◌else◌}
use Rattle.definitions.specs.Reply.{Outcome, answer, refusal, on_answer}
use Rattle.definitions.specs.Channel.{Channel, Group, ValidValue}
use Rattle.definitions.specs.Chain.{Block, file_limit, id_dt, total, joined, block_at, chain_of, bad_size, record_of, field_of}

-- 30: a table has at most so many fragments
abbrev pub table_limit : ℕ
table_limit = 512

-- ---- its words: how many fragments, the length of their data, and then an address and a position in each of 512 places

abbrev pub count_of : List ℕ → ℕ
count_of w = get_or w 0 0

abbrev pub total_in : List ℕ → ℕ
total_in w = get_or w 1 0

-- where the block of fragment i stands in the file
abbrev pub address_at : List ℕ → ℕ → ℕ
address_at w i = get_or w (2 + i * 2) 0

-- where its data begins in the joined data
abbrev pub position_at : List ℕ → ℕ → ℕ
position_at w i = get_or w (3 + i * 2) 0

-- the same, and behind the last fragment where all data ends
unfoldable pub begin_of : List ℕ → ℕ → ℕ
begin_of w i = if ltb i (count_of w) then position_at w i else total_in w

-- ---- its fragments as blocks

-- the data of a fragment ends where that of the next one begins
abbrev pub fragment_in : List ℕ → ℕ → Block
fragment_in w i = record { address = address_at w i; size = begin_of w (i + 1) - begin_of w i }

-- the first n
unfoldable pub fragments_in : List ℕ → ℕ → List Block
fragments_in w zero = []
fragments_in w (suc n) = fragments_in w n ++ (fragment_in w n ∷ [])

abbrev pub blocks_in : List ℕ → List Block
blocks_in w = fragments_in w (count_of w)

-- ---- 32: a table that cannot be right

-- of the first n fragments none begins behind its end: no position falls, or passes the total
unfoldable pub rising : List ℕ → ℕ → Bool
rising w zero = true
rising w (suc n) = leb (begin_of w n) (begin_of w (n + 1)) && rising w n

-- at most 512 fragments; the data begins at 0, so that without a fragment the total is 0
unfoldable pub ordered : List ℕ → Bool
ordered w = leb (count_of w) table_limit && eqb (begin_of w 0) 0 && rising w (count_of w)

-- no block ends past a file of n bytes, with its header
unfoldable pub in_file : ℕ → List Block → Bool
in_file n [] = true
in_file n (b ∷ bs) = leb (b.address + 24 + b.size) n && in_file n bs

-- where a file is given
unfoldable pub sound : List ℕ → List ℕ → Bool
sound f w = ordered w && in_file (length f) (blocks_in w)

-- ---- the table worked out afresh from blocks

-- the address of each, and the length of the data before it, which is p before the first
unfoldable pub places_of : ℕ → List Block → List ℕ
places_of p [] = []
places_of p (b ∷ bs) = b.address ∷ p ∷ places_of (p + b.size) bs

-- the places behind them are 0
abbrev pub table_of : List Block → List ℕ
table_of bs = length bs ∷ total bs ∷ (places_of 0 bs ++ replicate (table_limit * 2 - length bs * 2) 0)

-- ---- a table is changed

-- a refusal leaves it
abbrev pub refusing : ℕ → List ℕ → Outcome (Unit {0})
refusing n w = record { reply = refusal n 0; buffer = w }

abbrev pub leaving : List ℕ → Outcome (Unit {0})
leaving w = record { reply = answer tt; buffer = w }

-- opened from a chain: 7, the chain's own, 30
unfoldable pub opened : List ℕ → ℕ → List ℕ → Outcome (Unit {0})
opened f start w =
    if ltb file_limit (length f) then refusing 7 w
    else on_answer (chain_of id_dt f start) (λ bs. if ltb table_limit (length bs) then refusing 30 w else leaving (table_of bs)) w

-- a block takes the first free place, and the data ends behind it
unfoldable pub with_block : List ℕ → Block → List ℕ
with_block w b =
    set
    (set (set (set w 0 (count_of w + 1)) 1 (total_in w + b.size)) (2 + count_of w * 2) b.address)
    (3 + count_of w * 2)
    (total_in w)

-- extended by the block at a: 7, 32, 11, 12, 30
unfoldable pub extended : List ℕ → ℕ → List ℕ → Outcome (Unit {0})
extended f a w =
    if ltb file_limit (length f) then refusing 7 w
    else if not (sound f w) then refusing 32 w
    else on_answer (block_at id_dt f a) (λ b. if leb table_limit (count_of w) then refusing 30 w else leaving (with_block w b)) w

-- the last place is cleared, and the data ends where its fragment's began
unfoldable pub without_last : List ℕ → List ℕ
without_last w =
    set
    (set (set (set w 0 (count_of w - 1)) 1 (position_at w (count_of w - 1))) (2 + (count_of w - 1) * 2) 0)
    (3 + (count_of w - 1) * 2)
    0

-- the last fragment given up: 32, 31
unfoldable pub shortened : List ℕ → Outcome (Unit {0})
shortened w =
    if not (ordered w) then refusing 32 w
    else if eqb (count_of w) 0 then refusing 31 w
    else leaving (without_last w)

-- ---- a record: 15, 7, 32, 16

unfoldable pub table_fetched : List ℕ → List ℕ → ℕ → ℕ → List ℕ → Outcome (Unit {0})
table_fetched f w k size out =
    if bad_size size (length out) then refusing 15 out
    else if ltb file_limit (length f) then refusing 7 out
    else if not (sound f w) then refusing 32 out
    else record_of (joined f (blocks_in w)) k size out

-- then its field
unfoldable pub table_value_fetched : List ℕ → List ℕ → ℕ → ℕ → Group → Channel → List ℕ → Outcome ValidValue
table_value_fetched f w k size g c out = field_of size g c (table_fetched f w k size out)
