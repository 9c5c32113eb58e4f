use mathlib.Core.Path.{◌∙◌}
use Rattle.blocks.proofs.Writes.{equal_many, equal_few}
use Rattle.blocks.proofs.data_list.DataListBlock.write_equal.Goals as goal

pub returns-then-links-gt-LINK_LIMIT : goal.returns-then-links-gt-LINK_LIMIT
returns-then-links-gt-LINK_LIMIT c = equal_many _ _ _ _ c.if-links-gt-LINK_LIMIT.true

pub returns : goal.returns
returns c =
    c.write_fields.ensures ∙ equal_few _ _ _ _ c.if-links-gt-LINK_LIMIT.false
