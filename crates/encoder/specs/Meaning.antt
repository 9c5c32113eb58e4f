-- What the code's own types mean in the definitions.
use Rattle.std.specs.Prelude.{ℕ, List, Result}
use Rattle.definitions.specs.Reply.{Reply, Outcome}
use Rattle.definitions.specs.WrittenValue.{Given, given_unsigned, given_signed, given_double, given_other, unsigned_field, signed_field, float_field}
use Rattle.definitions.specs.Channel.{Value, unsigned, signed, double_value, unknown_value}
use Rattle.refusals.specs.Meaning.{replied}
use Rattle.refusals.specs.declared.Refusal.{Refusal}
use Rattle.fields.specs.declared.form.Number as numbers
use Rattle.encoder.specs.declared.number.NumberGiven.{NumberGiven}
use Rattle.encoder.specs.declared.number.NumberGiven.TheVariants.{Unsigned, Signed, Double, Other}

abbrev pub given_meant : NumberGiven → Given
given_meant (Unsigned n) = given_unsigned n
given_meant (Signed z) = given_signed z
given_meant (Double pattern) = given_double pattern
given_meant Other = given_other

-- the value that is given; what is no number stands for none that is written
abbrev pub value_given : Given → Value
value_given (given_unsigned n) = unsigned n
value_given (given_signed z) = signed z
value_given (given_double pattern) = double_value pattern
value_given given_other = unknown_value

abbrev pub bits_reply : Result ℕ Refusal → Reply ℕ
bits_reply = replied (λ n. n)

-- the field of a number, by its class
abbrev pub number_field : numbers.Number → ℕ → Given → Reply ℕ
number_field numbers.TheVariants.Unsigned count v = unsigned_field count v
number_field numbers.TheVariants.Signed count v = signed_field count v
number_field numbers.TheVariants.Float count v = float_field count v

abbrev pub written_reply : Result (Unit {0}) Refusal → Reply (Unit {0})
written_reply = replied (λ u. u)

-- the answer, and the record as it is left
abbrev pub outcome : Result (Unit {0}) Refusal → List ℕ → Outcome (Unit {0})
outcome r s = record { reply = written_reply r; buffer = s }
