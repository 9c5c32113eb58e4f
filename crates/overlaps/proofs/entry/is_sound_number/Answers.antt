-- Each way out is one test of the definition, those before it passed.
use Rattle.overlaps.proofs.Entries.{other_form, variable_length_law, by_description}
use Rattle.overlaps.proofs.entry.is_sound_number.Goals as goal

pub returns-in_default : goal.returns-in_default
returns-in_default c = other_form _ c.form_of.ensures c.in_default.is

pub returns-then-is_variable_length : goal.returns-then-is_variable_length
returns-then-is_variable_length c =
    variable_length_law _ c.form_of.ensures c.in-Number.is c.is_variable_length.ensures c.if-is_variable_length.true

pub returns : goal.returns
returns c =
    by_description _ c.form_of.ensures c.in-Number.is c.is_variable_length.ensures c.if-is_variable_length.false c.is_well_described.ensures
