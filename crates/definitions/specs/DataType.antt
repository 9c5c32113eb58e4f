-- The data types of channels, and their codes.
use Rattle.std.specs.Prelude.{ℕ, List, [], ◌∷◌, Bool, true, get_or, ltb}
use Rattle.definitions.specs.Bytes.{Order, little, big}
use Rattle.definitions.specs.Unicode.{Encoding, latin1, utf8, utf16}

pub data DataType : Type 0 where
  unsigned_integer signed_integer float complex : Order → DataType
  string : Encoding → DataType
  byte_array mime_sample mime_stream can_open_date can_open_time : DataType
  -- by its code
  unknown : ℕ → DataType

-- by their codes, from 0 on. The public document has those up to 14, the crate two more for complex numbers
abbrev pub coded : List DataType
coded =
    unsigned_integer little ∷ unsigned_integer big ∷ signed_integer little ∷ signed_integer big ∷ float little ∷ float big
    ∷ string latin1 ∷ string utf8 ∷ string (utf16 little) ∷ string (utf16 big)
    ∷ byte_array ∷ mime_sample ∷ mime_stream ∷ can_open_date ∷ can_open_time ∷ complex little ∷ complex big ∷ []

-- any other code is an unknown type, which keeps it
abbrev pub type_of : ℕ → DataType
type_of code = get_or coded code (unknown code)

-- back to the code
abbrev pub code_of : DataType → ℕ
code_of (unsigned_integer little) = 0
code_of (unsigned_integer big) = 1
code_of (signed_integer little) = 2
code_of (signed_integer big) = 3
code_of (float little) = 4
code_of (float big) = 5
code_of (string latin1) = 6
code_of (string utf8) = 7
code_of (string (utf16 little)) = 8
code_of (string (utf16 big)) = 9
code_of byte_array = 10
code_of mime_sample = 11
code_of mime_stream = 12
code_of can_open_date = 13
code_of can_open_time = 14
code_of (complex little) = 15
code_of (complex big) = 16
code_of (unknown code) = code

-- whether its code stands for it: any type, but an unknown one that was made with the code of another, 0 to 16
abbrev pub owns_code : DataType → Bool
owns_code (unsigned_integer o) = true
owns_code (signed_integer o) = true
owns_code (float o) = true
owns_code (string e) = true
owns_code byte_array = true
owns_code mime_sample = true
owns_code mime_stream = true
owns_code can_open_date = true
owns_code can_open_time = true
owns_code (complex o) = true
owns_code (unknown code) = ltb 16 code

-- the bits that a channel has where nobody says how many
abbrev pub default_bits : DataType → ℕ
default_bits (unsigned_integer o) = 32
default_bits (signed_integer o) = 32
default_bits (float o) = 32
default_bits (string e) = 8
default_bits byte_array = 8
default_bits mime_sample = 8
default_bits mime_stream = 8
default_bits can_open_date = 64
default_bits can_open_time = 64
default_bits (complex o) = 64
default_bits (unknown code) = 8

-- the order of a number's bytes; of the others none is asked
abbrev pub order_of : DataType → Order
order_of (unsigned_integer o) = o
order_of (signed_integer o) = o
order_of (float o) = o
order_of (complex o) = o
order_of (string e) = little
order_of byte_array = little
order_of mime_sample = little
order_of mime_stream = little
order_of can_open_date = little
order_of can_open_time = little
order_of (unknown code) = little

-- how a type's field lies in a record: an integer or a float of some bits, whole bytes, or bits that nothing here decodes
pub data Kind : Type 0 where
  integer floating whole undecoded : Kind

abbrev pub kind_of : DataType → Kind
kind_of (unsigned_integer o) = integer
kind_of (signed_integer o) = integer
kind_of (float o) = floating
kind_of (string e) = whole
kind_of byte_array = whole
kind_of mime_sample = whole
kind_of mime_stream = whole
kind_of can_open_date = undecoded
kind_of can_open_time = undecoded
kind_of (complex o) = undecoded
kind_of (unknown code) = undecoded
