-- Each type of a number by itself: the load is that of the field, and the double that of its number.
use mathlib.Core.Path.{◌≡◌, refl, ap}
use mathlib.Core.Bool.{true, false}
use Rattle.data_types.specs.Meaning.{type_meant}
use Rattle.encodings.specs.declared.encoding.Encoding.TheVariants.{Latin1, Utf8, Utf16Le, Utf16Be}
use Rattle.data_types.specs.declared.data_type.DataType.{DataType}
use Rattle.data_types.specs.declared.data_type.DataType.TheVariants.{UnsignedIntegerLE, UnsignedIntegerBE, SignedIntegerLE, SignedIntegerBE, FloatLE, FloatBE, StringLatin1, StringUtf8, StringUtf16LE, StringUtf16BE, ByteArray as bytes, MimeSample as sample, MimeStream as stream, CanOpenDate, CanOpenTime, ComplexLE, ComplexBE, Unknown}
use Rattle.fields.specs.declared.form.Number.TheVariants.{Unsigned, Signed}
use Rattle.fields.specs.declared.form.Content.{Content}
use Rattle.fields.specs.declared.form.Content.TheVariants.{Text, ByteArray, MimeSample, MimeStream, Undecoded}
use Rattle.fields.specs.declared.form.Form.TheVariants.{Other}
use Rattle.decoder.proofs.Doubles.{double_other}
use Rattle.fields.specs.Form.{form_of}
use Rattle.decoder.proofs.WordFields.{integer_double, float_double}
use Rattle.decoder.proofs.double.near_double.Goals as goal

-- the form of the type that the channel has
form : {type t : DataType} → type ≡ t → form_of (type_meant type) ≡ form_of (type_meant t)
form e = ap (λ (t : DataType). form_of (type_meant t)) e

pub returns-in-UnsignedIntegerLE : goal.returns-in-UnsignedIntegerLE
returns-in-UnsignedIntegerLE c =
    integer_double _ _ _ c.requires false c.number.ensures Unsigned (form c.in-UnsignedIntegerLE.is) refl c.unsigned_double.ensures

pub returns-in-UnsignedIntegerBE : goal.returns-in-UnsignedIntegerBE
returns-in-UnsignedIntegerBE c =
    integer_double _ _ _ c.requires true c.number-in-UnsignedIntegerBE.ensures Unsigned (form c.in-UnsignedIntegerBE.is) refl c.unsigned_double-in-UnsignedIntegerBE.ensures

pub returns-in-SignedIntegerLE : goal.returns-in-SignedIntegerLE
returns-in-SignedIntegerLE c =
    integer_double _ _ _ c.requires false c.number-in-SignedIntegerLE.ensures Signed (form c.in-SignedIntegerLE.is) refl c.signed_double.ensures

pub returns-in-SignedIntegerBE : goal.returns-in-SignedIntegerBE
returns-in-SignedIntegerBE c =
    integer_double _ _ _ c.requires true c.number-in-SignedIntegerBE.ensures Signed (form c.in-SignedIntegerBE.is) refl c.signed_double-in-SignedIntegerBE.ensures

pub returns-in-FloatLE : goal.returns-in-FloatLE
returns-in-FloatLE c =
    float_double _ _ _ c.requires false c.number-in-FloatLE.ensures (form c.in-FloatLE.is) c.near_float.ensures

pub returns-in-FloatBE : goal.returns-in-FloatBE
returns-in-FloatBE c =
    float_double _ _ _ c.requires true c.number-in-FloatBE.ensures (form c.in-FloatBE.is) c.near_float-in-FloatBE.ensures

-- the types behind those of numbers
other_form : (t : DataType) → (t ≡ UnsignedIntegerLE → ⊥) → (t ≡ UnsignedIntegerBE → ⊥) → (t ≡ SignedIntegerLE → ⊥) → (t ≡ SignedIntegerBE → ⊥)
    → (t ≡ FloatLE → ⊥) → (t ≡ FloatBE → ⊥) → (content : Content) × (form_of (type_meant t) ≡ Other content)
other_form UnsignedIntegerLE a b d e f g = absurd (a refl)
other_form UnsignedIntegerBE a b d e f g = absurd (b refl)
other_form SignedIntegerLE a b d e f g = absurd (d refl)
other_form SignedIntegerBE a b d e f g = absurd (e refl)
other_form FloatLE a b d e f g = absurd (f refl)
other_form FloatBE a b d e f g = absurd (g refl)
other_form StringLatin1 a b d e f g = (Text Latin1, refl)
other_form StringUtf8 a b d e f g = (Text Utf8, refl)
other_form StringUtf16LE a b d e f g = (Text Utf16Le, refl)
other_form StringUtf16BE a b d e f g = (Text Utf16Be, refl)
other_form bytes a b d e f g = (ByteArray, refl)
other_form sample a b d e f g = (MimeSample, refl)
other_form stream a b d e f g = (MimeStream, refl)
other_form CanOpenDate a b d e f g = (Undecoded, refl)
other_form CanOpenTime a b d e f g = (Undecoded, refl)
other_form ComplexLE a b d e f g = (Undecoded, refl)
other_form ComplexBE a b d e f g = (Undecoded, refl)
other_form (Unknown code) a b d e f g = (Undecoded, refl)

pub returns-in_default : goal.returns-in_default
returns-in_default c =
    let d = c.in_default in
    let other = other_form _ d.not-UnsignedIntegerLE d.not-UnsignedIntegerBE d.not-SignedIntegerLE d.not-SignedIntegerBE d.not-FloatLE d.not-FloatBE in
    double_other _ _ _ c.requires.fixed other.1
