-- A number that C gives to be written, and the reply.
use Rattle.std.specs.Prelude.{ℕ, eqb, if◌then◌else◌}
use Rattle.definitions.specs.Bytes.{twos_complement}
use Rattle.definitions.specs.WrittenValue.{Given, given_unsigned, given_signed, given_double, given_other}
use Rattle.replies.specs.declared.stored.Mf4Number.{Mf4Number}

-- by the kinds that a value has for C; any other kind is no number
abbrev pub given_by : ℕ → ℕ → Given
given_by kind number =
    if eqb kind 1 then given_unsigned number
    else if eqb kind 2 then given_signed (twos_complement 64 number)
    else if eqb kind 3 then given_double number
    else given_other

abbrev pub number_given : Mf4Number → Given
number_given v = given_by v.kind v.number
