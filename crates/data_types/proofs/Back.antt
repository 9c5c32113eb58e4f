-- The meaning of a type is one-to-one: from what it means the type comes back.
use mathlib.Core.Path.{◌≡◌, refl}
use Rattle.definitions.specs.Bytes.{little, big}
use Rattle.definitions.specs.Unicode.{latin1, utf8, utf16}
use Rattle.definitions.specs.DataType as types
use Rattle.definitions.proofs.Replies.{one_by}
use Rattle.data_types.specs.declared.data_type.DataType.{DataType}
use Rattle.data_types.specs.declared.data_type.DataType.TheVariants.{UnsignedIntegerLE, UnsignedIntegerBE, SignedIntegerLE, SignedIntegerBE, FloatLE, FloatBE, StringLatin1, StringUtf8, StringUtf16LE, StringUtf16BE, ByteArray, MimeSample, MimeStream, CanOpenDate, CanOpenTime, ComplexLE, ComplexBE, Unknown}
use Rattle.data_types.specs.Meaning.{type_meant}

abbrev pub type_back : types.DataType → DataType
type_back (types.unsigned_integer little) = UnsignedIntegerLE
type_back (types.unsigned_integer big) = UnsignedIntegerBE
type_back (types.signed_integer little) = SignedIntegerLE
type_back (types.signed_integer big) = SignedIntegerBE
type_back (types.float little) = FloatLE
type_back (types.float big) = FloatBE
type_back (types.string latin1) = StringLatin1
type_back (types.string utf8) = StringUtf8
type_back (types.string (utf16 little)) = StringUtf16LE
type_back (types.string (utf16 big)) = StringUtf16BE
type_back types.byte_array = ByteArray
type_back types.mime_sample = MimeSample
type_back types.mime_stream = MimeStream
type_back types.can_open_date = CanOpenDate
type_back types.can_open_time = CanOpenTime
type_back (types.complex little) = ComplexLE
type_back (types.complex big) = ComplexBE
type_back (types.unknown code) = Unknown code

pub type_back_law : (t : DataType) → type_back (type_meant t) ≡ t
type_back_law UnsignedIntegerLE = refl
type_back_law UnsignedIntegerBE = refl
type_back_law SignedIntegerLE = refl
type_back_law SignedIntegerBE = refl
type_back_law FloatLE = refl
type_back_law FloatBE = refl
type_back_law StringLatin1 = refl
type_back_law StringUtf8 = refl
type_back_law StringUtf16LE = refl
type_back_law StringUtf16BE = refl
type_back_law ByteArray = refl
type_back_law MimeSample = refl
type_back_law MimeStream = refl
type_back_law CanOpenDate = refl
type_back_law CanOpenTime = refl
type_back_law ComplexLE = refl
type_back_law ComplexBE = refl
type_back_law (Unknown code) = refl

pub type_one : (a b : DataType) → type_meant a ≡ type_meant b → a ≡ b
type_one = one_by type_meant type_back type_back_law
