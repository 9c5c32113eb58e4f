-- An answer comes back from its meaning, so no two mean the same.
use mathlib.Core.Path.{◌≡◌, refl, ap}
use Prim.Native.Nat.{ℕ}
use mathlib.Core.List.{List}
use Rattle.std.specs.Prelude.{Result}
use Rattle.definitions.specs.Reply.{Outcome}
use Rattle.refusals.specs.declared.Refusal.{Refusal}
use Rattle.refusals.proofs.Back.{replied_one}
use Rattle.records.specs.Meaning.{record_reply, fetched_by}

pub record_one : (a b : Result (Unit {0}) Refusal) → record_reply a ≡ record_reply b → a ≡ b
record_one = replied_one (λ (u : Unit {0}). u) (λ u. u) (λ u. refl)

-- a reply with the buffer that it leaves
pub fetched_one : (a b : Result (Unit {0}) Refusal) (x y : List ℕ) → fetched_by a x ≡ fetched_by b y → (a ≡ b) × (x ≡ y)
fetched_one a b x y e =
    (record_one a b (ap (λ (o : Outcome (Unit {0})). o.reply) e), ap (λ (o : Outcome (Unit {0})). o.buffer) e)
