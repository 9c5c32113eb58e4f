-- The tests in turn; each way out has its law.
use Rattle.std.proofs.lemmas.Result.{err_from_is_err_and}
use mathlib.Core.Path.{sym, ◌∙◌}
use native.Mathlib.Omega.{arith}
use Rattle.fields.specs.Meaning.{channel_meant}
use Rattle.encoder.specs.Meaning.{given_meant}
use Rattle.encoder.proofs.Choosing.{payload_takes_none, other_takes_none, in_bounds, reads_none, bits_refused, bits_chosen}
use borrow.Author.Rules.{rules}
use Rattle.encoder.proofs.encode.choose_field.Goals as goal

pub other_refusal-requires : goal.other_refusal-requires
other_refusal-requires c =
    let a = c.args in
    payload_takes_none a.«record».now a.record_id_size (channel_meant a.channel) (sym c.is_variable_length.ensures ∙ c.if-is_variable_length.true)

pub other_refusal-requires-in_default : goal.other_refusal-requires-in_default
other_refusal-requires-in_default c =
    let a = c.args in
    other_takes_none a.«record».now a.record_id_size (channel_meant a.channel) (sym c.is_variable_length.ensures ∙ c.if-is_variable_length.false) c.form_of-form.ensures c.in_default.is

-- a number's form was found

pub other_refusal-requires-then-not-is_readable : goal.other_refusal-requires-then-not-is_readable
other_refusal-requires-then-not-is_readable c =
    let a = c.args in
    let n = c.in-Number in
    reads_none a.«record».now a.record_id_size (channel_meant a.channel) n.number n.big_endian (sym c.is_variable_length.ensures ∙ c.if-is_variable_length.false)
    (sym c.form_of-form.ensures ∙ n.is)
    (sym c.is_readable.ensures ∙ c.if-not-is_readable.true)

-- the number can be read

pub returns-in_err-bits : goal.returns-in_err-bits
returns-in_err-bits c =
    let a = c.args in
    let n = c.in-Number in
    let fixed = sym c.is_variable_length.ensures ∙ c.if-is_variable_length.false in
    let form = sym c.form_of-form.ensures ∙ n.is in
    let p = err_from_is_err_and c.from_residual.result c.from_residual.ensures.1 in
    rw (p.1, p.2)
    (bits_refused a.«record».now a.record_id_size (channel_meant a.channel) n.number n.big_endian fixed form (sym c.is_readable.ensures ∙ c.if-not-is_readable.false) (given_meant a.given) _ c.in_err-bits.ensures)

pub overflow_add-result : goal.overflow_add-result
overflow_add-result c =
    let a = c.args in
    let n = c.in-Number in
    let b =
    in_bounds a.«record».now a.record_id_size (channel_meant a.channel) n.number n.big_endian (sym c.is_variable_length.ensures ∙ c.if-is_variable_length.false)
    (sym c.form_of-form.ensures ∙ n.is)
    (sym c.is_readable.ensures ∙ c.if-not-is_readable.false) in
    record { fits = omega (arith, b.inside) }

pub returns : goal.returns
returns c =
    let a = c.args in
    let n = c.in-Number in
    let fixed = sym c.is_variable_length.ensures ∙ c.if-is_variable_length.false in
    let form = sym c.form_of-form.ensures ∙ n.is in
    bits_chosen a.«record».now a.record_id_size (channel_meant a.channel) n.number n.big_endian fixed form (sym c.is_readable.ensures ∙ c.if-not-is_readable.false) (given_meant a.given) _ c.in_ok-bits.ensures (search rules)
