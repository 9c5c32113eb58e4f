use mathlib.Core.Path.{refl, ◌∙◌}
use Rattle.definitions.specs.Bytes.{le_of}
use Rattle.blocks.proofs.Writes.{header_made}
use Rattle.blocks.proofs.data_list.list_header.Goals as goal

pub returns : goal.returns
unfolding le_of
returns c = header_made _ _ _ _ (c.read_le.ensures ∙ refl) refl
