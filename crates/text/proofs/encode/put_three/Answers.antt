use Rattle.text.proofs.Widths.{put_3}
use Rattle.text.proofs.encode.put_three.Goals as goal

pub returns : goal.returns
returns c = put_3 _ _ _ c.requires.0 c.requires.1
