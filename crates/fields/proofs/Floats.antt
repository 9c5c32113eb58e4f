-- The pattern of a float, by its width.
use mathlib.Core.Path.{◌≡◌}
use Prim.Native.Nat.{ℕ}
use borrow.Author.Tests.{eq-eqb}
use Rattle.definitions.specs.Channel.{float_bits}

pub wide_float : (count x : ℕ) → count ≡ 64 → x ≡ float_bits count x
wide_float count x e = rw (eq-eqb count 64 e)
