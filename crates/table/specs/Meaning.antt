-- What a call's answer and the table that it leaves mean in the definitions.
use Rattle.std.specs.Prelude.{ℕ, List, Result}
use Rattle.definitions.specs.Reply.{Reply, Outcome}
use Rattle.refusals.specs.Meaning.{replied}
use Rattle.refusals.specs.declared.Refusal.{Refusal}

abbrev pub change_reply : Result (Unit {0}) Refusal → Reply (Unit {0})
change_reply = replied (λ u. u)

abbrev pub changed_by : Result (Unit {0}) Refusal → List ℕ → Outcome (Unit {0})
changed_by r w = record { reply = change_reply r; buffer = w }
