use Rattle.text.proofs.Widths.{put_4}
use Rattle.text.proofs.encode.put_four.Goals as goal

pub returns : goal.returns
returns c = put_4 _ _ _ c.requires.0
