use mathlib.Core.Path.{◌∙◌}
use Rattle.blocks.proofs.Writes.{variable_many, variable_other, variable_same}
use Rattle.blocks.proofs.data_list.DataListBlock.write_variable.Goals as goal

pub returns-then-links-gt-LINK_LIMIT : goal.returns-then-links-gt-LINK_LIMIT
returns-then-links-gt-LINK_LIMIT c = variable_many _ _ _ _ c.if-links-gt-LINK_LIMIT.true

pub returns-then-links-offsets : goal.returns-then-links-offsets
returns-then-links-offsets c = variable_other _ _ _ _ c.if-links-gt-LINK_LIMIT.false c.if-links-offsets.true

pub returns : goal.returns
returns c =
    c.write_fields.ensures ∙ variable_same _ _ _ _ c.if-links-gt-LINK_LIMIT.false c.if-links-offsets.false
