-- What a call's answer and the buffer that it leaves mean in the definitions.
use Rattle.std.specs.Prelude.{ℕ, List, Result}
use Rattle.definitions.specs.Reply.{Reply, Outcome}
use Rattle.definitions.specs.Channel.{ValidValue}
use Rattle.refusals.specs.Meaning.{replied}
use Rattle.refusals.specs.declared.Refusal.{Refusal}
use Rattle.fields.specs.Meaning.{valid_value_reply}
use Rattle.fields.specs.declared.value.DecodedChannelValue.{DecodedChannelValue}

abbrev pub record_reply : Result (Unit {0}) Refusal → Reply (Unit {0})
record_reply = replied (λ u. u)

abbrev pub fetched_by : Result (Unit {0}) Refusal → List ℕ → Outcome (Unit {0})
fetched_by r out = record { reply = record_reply r; buffer = out }

abbrev pub value_fetched_by : Result DecodedChannelValue Refusal → List ℕ → Outcome ValidValue
value_fetched_by r out = record { reply = valid_value_reply r; buffer = out }
