-- The first overlap as C sees it.
use Rattle.definitions.specs.Reply.{Reply, answer, refusal}
use Rattle.definitions.specs.Overlap.{Overlap, pair, none}
use Rattle.replies.specs.declared.overlap.Mf4OverlapReply.{Mf4OverlapReply}

-- whether there is a pair, and its two places
abbrev pub overlap_c : Reply Overlap → Mf4OverlapReply
overlap_c (answer (pair i j)) = record { reply = 0; told = 0; found = 1; first = i; second = j }
overlap_c (answer none) = record { reply = 0; told = 0; found = 0; first = 0; second = 0 }
overlap_c (refusal n t) = record { reply = n; told = t; found = 0; first = 0; second = 0 }
