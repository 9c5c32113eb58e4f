use Rattle.text.proofs.Widths.{put_2}
use Rattle.text.proofs.encode.put_two.Goals as goal

pub returns : goal.returns
returns c = put_2 _ _ _ c.requires.0 c.requires.1
