-- The meaning of an answer is one-to-one.
use mathlib.Core.Path.{◌≡◌, refl}
use Rattle.std.specs.Prelude.{Result}
use Rattle.refusals.specs.declared.Refusal.{Refusal}
use Rattle.refusals.proofs.Back.{replied_one}
use Rattle.encoder.specs.Meaning.{written_reply}

pub written_one : (y z : Result (Unit {0}) Refusal) → written_reply y ≡ written_reply z → y ≡ z
written_one = replied_one (λ u. u) (λ u. u) (λ u. refl)
