-- A field of 32 bits widens.
use mathlib.Core.Path.{subst}
use Prim.Native.Nat.{ℕ, ◌^◌, ◌<◌}
use Rattle.decoder.proofs.double.near_float.Goals as goal

pub overflow_cast-x : goal.overflow_cast-x
overflow_cast-x c = record { fits = subst (λ (k : ℕ). c.args.x < 2 ^ k) c.in-32.is c.requires }
