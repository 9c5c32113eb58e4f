-- The meaning of an encoding is one-to-one: from what it means the encoding comes back.
use mathlib.Core.Path.{◌≡◌, refl}
use Rattle.definitions.specs.Bytes.{little, big}
use Rattle.definitions.specs.Unicode.{Encoding as Encoded, latin1, utf8, utf16}
use Rattle.definitions.proofs.Replies.{one_by}
use Rattle.encodings.specs.Meaning.{encoding_of}
use Rattle.encodings.specs.declared.encoding.Encoding.{Encoding}
use Rattle.encodings.specs.declared.encoding.Encoding.TheVariants.{Latin1, Utf8, Utf16Le, Utf16Be}

abbrev encoding_meant : Encoded → Encoding
encoding_meant latin1 = Latin1
encoding_meant utf8 = Utf8
encoding_meant (utf16 little) = Utf16Le
encoding_meant (utf16 big) = Utf16Be

encoding_back : (e : Encoding) → encoding_meant (encoding_of e) ≡ e
encoding_back Latin1 = refl
encoding_back Utf8 = refl
encoding_back Utf16Le = refl
encoding_back Utf16Be = refl

pub encoding_one : (a b : Encoding) → encoding_of a ≡ encoding_of b → a ≡ b
encoding_one = one_by encoding_of encoding_meant encoding_back
