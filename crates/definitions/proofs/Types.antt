-- A type and its code.
use mathlib.Core.Path.{◌≡◌, refl}
use mathlib.Core.Bool.{true}
use Prim.Native.Nat.{ℕ, ◌<◌}
use lib.ListN.{get_or-eq_default}
use borrow.Author.Tests.{ltb-true}
use Rattle.definitions.specs.Bytes.{little, big}
use Rattle.definitions.specs.Unicode.{latin1, utf8, utf16}
use Rattle.definitions.specs.DataType.{DataType, unsigned_integer, signed_integer, float, complex, string, byte_array, mime_sample, mime_stream, can_open_date, can_open_time, unknown, coded, type_of, code_of, owns_code}

-- a code behind the table
pub type_unknown : (code : ℕ) → 16 < code → type_of code ≡ unknown code
type_unknown code h = get_or-eq_default coded (unknown code) h

-- a type comes back from its code, where the code is its own
pub type_back_law : (t : DataType) → owns_code t ≡ true → type_of (code_of t) ≡ t
type_back_law (unsigned_integer little) h = refl
type_back_law (unsigned_integer big) h = refl
type_back_law (signed_integer little) h = refl
type_back_law (signed_integer big) h = refl
type_back_law (float little) h = refl
type_back_law (float big) h = refl
type_back_law (complex little) h = refl
type_back_law (complex big) h = refl
type_back_law (string latin1) h = refl
type_back_law (string utf8) h = refl
type_back_law (string (utf16 little)) h = refl
type_back_law (string (utf16 big)) h = refl
type_back_law byte_array h = refl
type_back_law mime_sample h = refl
type_back_law mime_stream h = refl
type_back_law can_open_date h = refl
type_back_law can_open_time h = refl
type_back_law (unknown code) h = type_unknown code (ltb-true _ _ h)
