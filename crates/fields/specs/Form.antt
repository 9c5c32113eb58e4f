-- The forms of fields, and what the definitions say of a type by its form.
use Rattle.std.specs.Prelude.{Bool, true, false, List, ℕ, length}
use Rattle.definitions.specs.Bytes.{Order, little, big, span, twos_complement}
use Rattle.definitions.specs.Unicode.{latin1, utf8, utf16, stopped}
use Rattle.definitions.specs.DataType.{DataType, unsigned_integer, signed_integer, float, complex, string, byte_array, mime_sample, mime_stream, can_open_date, can_open_time, unknown, Kind, integer, floating, whole, undecoded}
use Rattle.definitions.specs.Channel.{Channel, Value, unsigned, signed, text, bytes, sample, stream, unknown_value, double_value, float_bits, number_in}
pub use Rattle.encodings.specs.Meaning.{order_meant}
use Rattle.encodings.specs.Meaning.{encoding_of}
use Rattle.encodings.specs.declared.encoding.Encoding.TheVariants.{Latin1, Utf8, Utf16Le, Utf16Be}
use Rattle.fields.specs.declared.form.Number as numbers
use Rattle.fields.specs.declared.form.Number.TheVariants.{Unsigned, Signed, Float}
use Rattle.fields.specs.declared.form.Form.{Form}
use Rattle.fields.specs.declared.form.Form.TheVariants.{Number, Other}
use Rattle.fields.specs.declared.form.Content.{Content}
use Rattle.fields.specs.declared.form.Content.TheVariants.{Text, ByteArray, MimeSample, MimeStream, Undecoded}

abbrev pub is_big : Order → Bool
is_big little = false
is_big big = true

abbrev pub form_of : DataType → Form
form_of (unsigned_integer o) = Number Unsigned (is_big o)
form_of (signed_integer o) = Number Signed (is_big o)
form_of (float o) = Number Float (is_big o)
form_of (string latin1) = Other (Text Latin1)
form_of (string utf8) = Other (Text Utf8)
form_of (string (utf16 little)) = Other (Text Utf16Le)
form_of (string (utf16 big)) = Other (Text Utf16Be)
form_of byte_array = Other ByteArray
form_of mime_sample = Other MimeSample
form_of mime_stream = Other MimeStream
form_of can_open_date = Other Undecoded
form_of can_open_time = Other Undecoded
form_of (complex o) = Other Undecoded
form_of (unknown code) = Other Undecoded

abbrev pub number_kind : numbers.Number → Kind
number_kind Unsigned = integer
number_kind Signed = integer
number_kind Float = floating

abbrev pub content_kind : Content → Kind
content_kind (Text e) = whole
content_kind ByteArray = whole
content_kind MimeSample = whole
content_kind MimeStream = whole
content_kind Undecoded = undecoded

abbrev pub form_kind : Form → Kind
form_kind (Number number b) = number_kind number
form_kind (Other content) = content_kind content

-- whether a number is big-endian; of another form it is not asked
abbrev pub big_form : Form → Bool
big_form (Number number b) = b
big_form (Other content) = false

-- what the field x of a number stands for
abbrev pub number_value : numbers.Number → ℕ → ℕ → Value
number_value Unsigned count x = unsigned x
number_value Signed count x = signed (twos_complement count x)
number_value Float count x = double_value (float_bits count x)

-- what the n bytes from `at` on stand for
abbrev pub content_value : Content → List ℕ → ℕ → ℕ → Value
content_value (Text e) s at n = text at (length (stopped (encoding_of e) (span s at n)))
content_value ByteArray s at n = bytes at n
content_value MimeSample s at n = sample at n
content_value MimeStream s at n = stream at n
content_value Undecoded s at n = unknown_value

abbrev pub form_value : Form → List ℕ → ℕ → ℕ → Channel → Value
form_value (Number number b) s at n c = number_value number c.bit_count (number_in (order_meant b) s at c)
form_value (Other content) s at n c = content_value content s at n
