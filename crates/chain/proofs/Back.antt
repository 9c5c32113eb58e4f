-- The meanings are one-to-one: from its meaning each answer comes back.
use mathlib.Core.Path.{◌≡◌, refl}
use Rattle.std.specs.Prelude.{Result}
use Rattle.refusals.specs.declared.Refusal.{Refusal}
use Rattle.refusals.proofs.Back.{replied_one}
use Rattle.chain.specs.Meaning.{chain_reply}
use Rattle.places.specs.declared.place.DataPosition.{DataPosition}

pub chain_one : (a b : Result DataPosition Refusal) → chain_reply a ≡ chain_reply b → a ≡ b
chain_one = replied_one (λ (q : DataPosition). q.0) (λ n. record { 0 = n }) (λ q. refl)
