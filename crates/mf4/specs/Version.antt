-- The version of the library as one number, which mf4.h has as MF4_VERSION_NUMBER.
use Rattle.std.specs.Prelude.{ℕ}

-- 0.6.1: two digits each for the minor version and the patch
abbrev pub version : ℕ
version = 601
