-- Bytes, and the numbers that they stand for.
use Rattle.std.specs.Prelude.{ℕ, zero, suc, ◌+◌, ◌-◌, ◌*◌, ◌/◌, ◌%◌, ◌^◌, List, [], ◌∷◌, ◌++◌, reverse, Bool, ◌&&◌, ℤ, pos, negsuc, get_or, take, drop, ltb, eqb, if◌then◌else◌}
use Rattle.std.proofs.lemmas.List.Edits.{sets}

-- the number that bytes stand for, the first the lowest
unfoldable pub le_of : List ℕ → ℕ
le_of [] = 0
le_of (b ∷ bs) = le_of bs * 256 + b

-- the byte orders, and the number in either
pub data Order : Type 0 where
  little big : Order

abbrev pub number_of : Order → List ℕ → ℕ
number_of little bs = le_of bs
number_of big bs = le_of (reverse bs)

-- back: the n lowest bytes of a number, the lowest first
unfoldable pub le : ℕ → ℕ → List ℕ
le zero x = []
le (suc n) x = x % 256 ∷ le n (x / 256)

-- eight bytes for each number of a list
unfoldable pub les : List ℕ → List ℕ
les [] = []
les (x ∷ xs) = le 8 x ++ les xs

-- n bytes of s, from `at` on
abbrev pub span : List ℕ → ℕ → ℕ → List ℕ
span s at n = take n (drop at s)

abbrev pub u16_at : List ℕ → ℕ → ℕ
u16_at s at = le_of (span s at 2)

abbrev pub u32_at : List ℕ → ℕ → ℕ
u32_at s at = le_of (span s at 4)

abbrev pub u64_at : List ℕ → ℕ → ℕ
u64_at s at = le_of (span s at 8)

-- n numbers of eight bytes each, from `at` on
unfoldable pub u64s_at : List ℕ → ℕ → ℕ → List ℕ
u64s_at s at zero = []
u64s_at s at (suc n) = u64_at s at ∷ u64s_at s (at + 8) n

-- whether the four bytes of s from `at` on are those of a block id
abbrev pub id_at : List ℕ → ℕ → List ℕ → Bool
id_at s at id =
    eqb (get_or s at 0) (get_or id 0 0) && eqb (get_or s (at + 1) 0) (get_or id 1 0)
    && eqb (get_or s (at + 2) 0) (get_or id 2 0) && eqb (get_or s (at + 3) 0) (get_or id 3 0)

-- the bit field: floor(n / 2^offset) mod 2^count
abbrev pub bits : ℕ → ℕ → ℕ → ℕ
bits n offset count = n / 2 ^ offset % 2 ^ count

-- bit k of a number
abbrev pub bit : ℕ → ℕ → ℕ
bit n k = bits n k 1

-- how many bytes hold the bits from offset to offset + count: ceil((offset + count) / 8)
abbrev pub bytes_for : ℕ → ℕ → ℕ
bytes_for offset count = (offset + count + 7) / 8

-- the bit field of the bytes of s from `at` on, in the given order
abbrev pub field_at : Order → List ℕ → ℕ → ℕ → ℕ → ℕ
field_at o s at offset count = bits (number_of o (span s at (bytes_for offset count))) offset count

-- back: the n lowest bytes of a number in either order
abbrev pub bytes_of : Order → ℕ → ℕ → List ℕ
bytes_of little n x = le n x
bytes_of big n x = reverse (le n x)

-- a number with x in the place of its bit field: the field taken off, and x put on
abbrev pub with_bits : ℕ → ℕ → ℕ → ℕ → ℕ
with_bits n offset count x = n - bits n offset count * 2 ^ offset + x * 2 ^ offset

-- the bytes s with x in their bit field from `at` on: the span stands for its old number with x in that field
abbrev pub field_set : Order → List ℕ → ℕ → ℕ → ℕ → ℕ → List ℕ
field_set o s at offset count x =
    sets s at (bytes_of o (bytes_for offset count) (with_bits (number_of o (span s at (bytes_for offset count))) offset count x))

-- which of the n bytes of a span holds bit k of its number
abbrev pub byte_with : Order → ℕ → ℕ → ℕ
byte_with little n k = k / 8
byte_with big n k = n - 1 - k / 8

-- two's complement: x below 2^(width_1) is itself, else x - 2^width; negsuc k is -(k + 1)
abbrev pub twos_complement : ℕ → ℕ → ℤ
twos_complement width x = if ltb x (2 ^ (width - 1)) then pos x else negsuc (2 ^ width - suc x)
