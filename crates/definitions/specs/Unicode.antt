-- Texts: the Unicode standard, chapter 3 (D76, D91, D92), and where a text in a record stops.
use Rattle.std.specs.Prelude.{◌≡◌, ℕ, zero, suc, ◌+◌, ◌-◌, ◌*◌, ◌/◌, ◌%◌, List, [], ◌∷◌, ◌++◌, Bool, true, false, ◌&&◌, ◌||◌, length, get_or, leb, ltb, eqb, if◌then◌else◌}
use Rattle.definitions.specs.Reply.{Outcome, writing}
use Rattle.definitions.specs.Bytes.{Order, little, big}

pub data Encoding : Type 0 where
  latin1 utf8 : Encoding
  utf16 : Order → Encoding

-- ---- where a text stops

-- single bytes: before the first NUL
unfoldable pub before_nul : List ℕ → List ℕ
before_nul [] = []
before_nul (b ∷ s) = if eqb b 0 then [] else b ∷ before_nul s

-- UTF-16: before the first unit of two zero bytes, and without half a unit at the end
unfoldable pub before_zero_unit : List ℕ → List ℕ
before_zero_unit [] = []
before_zero_unit (a ∷ []) = []
before_zero_unit (a ∷ b ∷ s) = if eqb (a + b) 0 then [] else a ∷ b ∷ before_zero_unit s

unfoldable pub stopped : Encoding → List ℕ → List ℕ
stopped latin1 s = before_nul s
stopped utf8 s = before_nul s
stopped (utf16 o) s = before_zero_unit s

-- ---- encoding

-- lo ≤ x < hi
abbrev pub within : ℕ → ℕ → ℕ → Bool
within lo hi x = leb lo x && ltb x hi

-- D76: a scalar value is 0 to D7FF or E000 to 10FFFF
unfoldable pub is_scalar : ℕ → Bool
is_scalar c = ltb c 0xD800 || within 0xE000 0x110000 c

-- D92, table 3-6: the bytes of a scalar value as UTF-8
unfoldable pub utf8_of : ℕ → List ℕ
utf8_of c =
    if ltb c 0x80 then c ∷ []
    else if ltb c 0x800 then (0xC0 + c / 64) ∷ (0x80 + c % 64) ∷ []
    else if ltb c 0x10000 then (0xE0 + c / 4096) ∷ (0x80 + c / 64 % 64) ∷ (0x80 + c % 64) ∷ []
    else (0xF0 + c / 262144) ∷ (0x80 + c / 4096 % 64) ∷ (0x80 + c / 64 % 64) ∷ (0x80 + c % 64) ∷ []

-- D91, table 3-5: the units of a scalar value as UTF-16, a surrogate pair from 10000 on
unfoldable pub utf16_of : ℕ → List ℕ
utf16_of c =
    if ltb c 0x10000 then c ∷ []
    else (0xD800 + (c - 0x10000) / 1024) ∷ (0xDC00 + (c - 0x10000) % 1024) ∷ []

-- the unit of two bytes, and the bytes of units
abbrev pub unit_of : Order → ℕ → ℕ → ℕ
unit_of little a b = a + b * 256
unit_of big a b = a * 256 + b

unfoldable pub unit_bytes : Order → List ℕ → List ℕ
unit_bytes o [] = []
unit_bytes little (u ∷ us) = u % 256 ∷ u / 256 ∷ unit_bytes little us
unit_bytes big (u ∷ us) = u / 256 ∷ u % 256 ∷ unit_bytes big us

-- the bytes of a scalar value; Latin-1 has one for each of the first 256
unfoldable pub encoded : Encoding → ℕ → List ℕ
encoded latin1 c = c ∷ []
encoded utf8 c = utf8_of c
encoded (utf16 o) c = unit_bytes o (utf16_of c)

unfoldable pub encoded_all : Encoding → List ℕ → List ℕ
encoded_all e [] = []
encoded_all e (c ∷ cs) = encoded e c ++ encoded_all e cs

unfoldable pub all_scalar : List ℕ → Bool
all_scalar [] = true
all_scalar (c ∷ cs) = is_scalar c && all_scalar cs

-- D84 to D86: bytes are well-formed where they are the encoding of scalar values
pub record Spells (e : Encoding) (s cs : List ℕ) : Type 0 where
  pub scalar : all_scalar cs ≡ true
  pub bytes : s ≡ encoded_all e cs

-- ---- decoding: the same, read from the bytes

-- the next character of a text: a scalar value, with the number of bytes after its first; or damage
pub data Char : Type 0 where
  scalar : ℕ → ℕ → Char
  damage : Char

abbrev pub scalar_if : Bool → ℕ → ℕ → Char
scalar_if ok c more = if ok then scalar c more else damage

-- the six bits of a byte that continues a character, 80 to BF; 64 for any other byte
unfoldable pub six_bits : ℕ → ℕ
six_bits b = if within 0x80 0xC0 b then b - 0x80 else 64

-- table 3-6 read backwards, by the first byte: only the shortest form of a scalar value counts
unfoldable pub utf8_two : ℕ → ℕ → Char
utf8_two a b =
    let c : ℕ = (a - 0xC0) * 64 + six_bits b in
    scalar_if (ltb (six_bits b) 64 && leb 0x80 c) c 1

unfoldable pub utf8_three : ℕ → ℕ → ℕ → Char
utf8_three a b d =
    let c : ℕ = (a - 0xE0) * 4096 + six_bits b * 64 + six_bits d in
    scalar_if (ltb (six_bits b) 64 && ltb (six_bits d) 64 && leb 0x800 c && is_scalar c) c 2

unfoldable pub utf8_four : ℕ → ℕ → ℕ → ℕ → Char
utf8_four a b d e =
    let c : ℕ = (a - 0xF0) * 262144 + six_bits b * 4096 + six_bits d * 64 + six_bits e in
    scalar_if (ltb (six_bits b) 64 && ltb (six_bits d) 64 && ltb (six_bits e) 64 && within 0x10000 0x110000 c) c 3

unfoldable pub utf8_char : ℕ → ℕ → ℕ → ℕ → Char
utf8_char a b c d =
    if ltb a 0x80 then scalar a 0
    else if ltb a 0xC0 then damage
    else if ltb a 0xE0 then utf8_two a b
    else if ltb a 0xF0 then utf8_three a b c
    else if ltb a 0xF8 then utf8_four a b c d
    else damage

-- table 3-5 read backwards: a unit that is no surrogate, or a high surrogate and a low one
unfoldable pub utf16_char : ℕ → ℕ → Char
utf16_char u v =
    if ltb u 0xD800 then scalar u 1
    else if ltb u 0xDC00 then scalar_if (within 0xDC00 0xE000 v) (0x10000 + (u - 0xD800) * 1024 + (v - 0xDC00)) 3
    else if ltb u 0xE000 then damage
    else scalar u 1

-- the character that starts with four bytes
unfoldable pub char_of : Encoding → ℕ → ℕ → ℕ → ℕ → Char
char_of latin1 a b c d = scalar a 0
char_of utf8 a b c d = utf8_char a b c d
char_of (utf16 o) a b c d = utf16_char (unit_of o a b) (unit_of o c d)

-- a character that does not end within the n bytes that are left is damage
abbrev pub inside : ℕ → Char → Char
inside n (scalar c more) = if ltb more n then scalar c more else damage
inside n damage = damage

-- the first character of s, where a byte past the end reads 0
unfoldable pub char_at : Encoding → List ℕ → Char
char_at e s = inside (length s) (char_of e (get_or s 0 0) (get_or s 1 0) (get_or s 2 0) (get_or s 3 0))

abbrev pub more_of : Char → ℕ
more_of (scalar c more) = more
more_of damage = 0

-- the characters of a text in turn, its first k bytes belonging to the character before
unfoldable pub chars : Encoding → ℕ → List ℕ → List Char
chars e k [] = []
chars e (suc k) (b ∷ s) = chars e k s
chars e zero (b ∷ s) = char_at e (b ∷ s) ∷ chars e (more_of (char_at e (b ∷ s))) s

-- ---- a text as UTF-8

abbrev pub is_sound : Char → Bool
is_sound (scalar c more) = true
is_sound damage = false

abbrev pub char_utf8 : Char → List ℕ
char_utf8 (scalar c more) = utf8_of c
char_utf8 damage = []

abbrev pub all_sound : List Char → Bool
all_sound [] = true
all_sound (c ∷ cs) = is_sound c && all_sound cs

abbrev pub chars_utf8 : List Char → List ℕ
chars_utf8 [] = []
chars_utf8 (c ∷ cs) = char_utf8 c ++ chars_utf8 cs

-- what stands for a damaged text: <Invalid UTF8>, <Invalid UTF16LE>, <Invalid UTF16BE>. Latin-1 is never damaged
unfoldable pub placeholder : Encoding → List ℕ
placeholder latin1 = []
placeholder utf8 = 60 ∷ 73 ∷ 110 ∷ 118 ∷ 97 ∷ 108 ∷ 105 ∷ 100 ∷ 32 ∷ 85 ∷ 84 ∷ 70 ∷ 56 ∷ 62 ∷ []
placeholder (utf16 little) = 60 ∷ 73 ∷ 110 ∷ 118 ∷ 97 ∷ 108 ∷ 105 ∷ 100 ∷ 32 ∷ 85 ∷ 84 ∷ 70 ∷ 49 ∷ 54 ∷ 76 ∷ 69 ∷ 62 ∷ []
placeholder (utf16 big) = 60 ∷ 73 ∷ 110 ∷ 118 ∷ 97 ∷ 108 ∷ 105 ∷ 100 ∷ 32 ∷ 85 ∷ 84 ∷ 70 ∷ 49 ∷ 54 ∷ 66 ∷ 69 ∷ 62 ∷ []

-- a text as UTF-8, and whether it was damaged
pub record Text : Type 0 where
  pub bytes : List ℕ
  pub damaged : Bool

abbrev pub text_from : Encoding → List Char → Text
text_from e cs =
    if all_sound cs
    then record { bytes = chars_utf8 cs; damaged = false }
    else record { bytes = placeholder e; damaged = true }

unfoldable pub text_of : Encoding → List ℕ → Text
text_of e s = text_from e (chars e 0 (stopped e s))

-- what the call answers: how many bytes it wrote, and whether the text was damaged
pub record TextWritten : Type 0 where
  pub count : ℕ
  pub damaged : Bool

unfoldable pub written_text : List ℕ → Text → Outcome TextWritten
written_text out t = writing out t.bytes (record { count = length t.bytes; damaged = t.damaged })

unfoldable pub text_written : List ℕ → Encoding → List ℕ → Outcome TextWritten
text_written out e s = written_text out (text_of e s)
