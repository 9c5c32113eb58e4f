-- What each data type means in the definitions.
use Rattle.definitions.specs.Bytes.{little, big}
use Rattle.definitions.specs.Unicode.{latin1, utf8, utf16}
use Rattle.definitions.specs.DataType as types
use Rattle.data_types.specs.declared.data_type.DataType.{DataType}
use Rattle.data_types.specs.declared.data_type.DataType.TheVariants.{UnsignedIntegerLE, UnsignedIntegerBE, SignedIntegerLE, SignedIntegerBE, FloatLE, FloatBE, StringLatin1, StringUtf8, StringUtf16LE, StringUtf16BE, ByteArray, MimeSample, MimeStream, CanOpenDate, CanOpenTime, ComplexLE, ComplexBE, Unknown}

abbrev pub type_meant : DataType → types.DataType
type_meant UnsignedIntegerLE = types.unsigned_integer little
type_meant UnsignedIntegerBE = types.unsigned_integer big
type_meant SignedIntegerLE = types.signed_integer little
type_meant SignedIntegerBE = types.signed_integer big
type_meant FloatLE = types.float little
type_meant FloatBE = types.float big
type_meant StringLatin1 = types.string latin1
type_meant StringUtf8 = types.string utf8
type_meant StringUtf16LE = types.string (utf16 little)
type_meant StringUtf16BE = types.string (utf16 big)
type_meant ByteArray = types.byte_array
type_meant MimeSample = types.mime_sample
type_meant MimeStream = types.mime_stream
type_meant CanOpenDate = types.can_open_date
type_meant CanOpenTime = types.can_open_time
type_meant ComplexLE = types.complex little
type_meant ComplexBE = types.complex big
type_meant (Unknown code) = types.unknown code
