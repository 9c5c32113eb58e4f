-- The meaning is one-to-one: from its meaning the answer comes back.
use mathlib.Core.Path.{◌≡◌, refl}
use Rattle.std.specs.Prelude.{Result}
use Rattle.refusals.specs.declared.Refusal.{Refusal}
use Rattle.refusals.proofs.Back.{replied_one}
use Rattle.table.specs.Meaning.{change_reply}

pub change_one : (a b : Result (Unit {0}) Refusal) → change_reply a ≡ change_reply b → a ≡ b
change_one = replied_one (λ u. u) (λ u. u) (λ u. refl)
