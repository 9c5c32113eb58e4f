-- What an encoding, and a byte order told as a flag, mean in the definitions.
use Rattle.std.specs.Prelude.{Bool, true, false}
use Rattle.definitions.specs.Bytes.{Order, little, big}
use Rattle.definitions.specs.Unicode.{Encoding as Encoded, latin1, utf8, utf16}
use Rattle.encodings.specs.declared.encoding.Encoding.{Encoding}
use Rattle.encodings.specs.declared.encoding.Encoding.TheVariants.{Latin1, Utf8, Utf16Le, Utf16Be}

abbrev pub encoding_of : Encoding → Encoded
encoding_of Latin1 = latin1
encoding_of Utf8 = utf8
encoding_of Utf16Le = utf16 little
encoding_of Utf16Be = utf16 big

-- the byte order, told as a flag
abbrev pub order_meant : Bool → Order
order_meant true = big
order_meant false = little
