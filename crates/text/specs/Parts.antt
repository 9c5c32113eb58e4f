-- What the parts of the public call promise one another.
use Rattle.std.specs.Prelude.{◌≡◌, ℕ, suc, ◌*◌, ◌≤◌, ◌<◌, List, Bool, true, false, Option, Some, None, length, ltb, if◌then◌else◌}
use Rattle.definitions.specs.Unicode.{Encoding, Char as Character, scalar, damage, char_at, six_bits, utf8_of, chars, all_sound, chars_utf8, Text, text_from}
use Rattle.text.specs.Meaning.{char_meant}
use Rattle.text.specs.declared.character.Scalar.{Scalar}

-- what sums and casts rest on: a scalar value has at most twice the bytes as UTF-8 that it was read from
abbrev pub Modest : Character → Type 0
Modest (scalar c more) = (c < 0x110000) × (length (utf8_of c) ≤ 2 * suc more)
Modest damage = Unit {0}

-- the six bits of a byte that continues a character
abbrev pub continuing : ℕ → Option ℕ
continuing byte = if ltb (six_bits byte) 64 then Some (six_bits byte) else None

-- where in a unit of UTF-16 its high byte stands
abbrev pub high_byte : Bool → ℕ
high_byte true = 0
high_byte false = 1

-- r is the first character of s
pub record CharRead (e : Encoding) (s : List ℕ) (r : Option Scalar) : Type 0 where
  pub same : char_meant r ≡ char_at e s
  pub modest : Modest (char_meant r)

-- what the first pass finds
unfoldable pub size_of : List Character → Option ℕ
size_of cs = if all_sound cs then Some (length (chars_utf8 cs)) else None

-- a text by what is written of it
abbrev pub as_is : List ℕ → Bool → Text
as_is written damaged = record { bytes = written; damaged = damaged }

-- all of s as a text: its stop is found already
unfoldable pub whole_text : Encoding → List ℕ → Text
whole_text e s = text_from e (chars e 0 s)
