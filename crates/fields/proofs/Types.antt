-- The types of numbers are those whose kind is a number's.
use mathlib.Core.Path.{◌≡◌, sym}
use mathlib.Core.Bool.{true, true≢false}
use Rattle.definitions.specs.Bytes.{Order}
use Rattle.definitions.specs.DataType.{DataType, unsigned_integer, signed_integer, float, complex, string, byte_array, mime_sample, mime_stream, can_open_date, can_open_time, unknown, kind_of}
use Rattle.definitions.specs.Channel.{is_integer, is_number}

pub number_types : (P : DataType → Type 0) → ((o : Order) → P (unsigned_integer o)) → ((o : Order) → P (signed_integer o)) → ((o : Order) → P (float o))
    → (type : DataType) → is_number (kind_of type) ≡ true → P type
number_types P u s f (unsigned_integer o) h = u o
number_types P u s f (signed_integer o) h = s o
number_types P u s f (float o) h = f o
number_types P u s f (string e) h = absurd (true≢false (sym h))
number_types P u s f byte_array h = absurd (true≢false (sym h))
number_types P u s f mime_sample h = absurd (true≢false (sym h))
number_types P u s f mime_stream h = absurd (true≢false (sym h))
number_types P u s f can_open_date h = absurd (true≢false (sym h))
number_types P u s f can_open_time h = absurd (true≢false (sym h))
number_types P u s f (complex o) h = absurd (true≢false (sym h))
number_types P u s f (unknown code) h = absurd (true≢false (sym h))

integer_number : (type : DataType) → is_integer (kind_of type) ≡ true → is_number (kind_of type) ≡ true
integer_number type h = rw h

-- an integer's type is no float's
pub integer_types : (P : DataType → Type 0) → ((o : Order) → P (unsigned_integer o)) → ((o : Order) → P (signed_integer o))
    → (type : DataType) → is_integer (kind_of type) ≡ true → P type
integer_types P u s type h =
    number_types (λ t. is_integer (kind_of t) ≡ true → P t) (λ o _. u o) (λ o _. s o) (λ o e. absurd (true≢false (sym e))) type (integer_number type h) h
