-- What the search finds, or the end, is where the rule stops.
use mathlib.Core.Path.{sym, ◌∙◌, ap}
use Rattle.std.specs.Option.{unwrap_or}
use lib.ListN.{length}
use Rattle.encodings.proofs.Stopping.{first_or_end, first_nul}
use Rattle.encodings.proofs.stop.before_nul.Goals as goal

pub returns : goal.returns
returns c =
    let s = c.args.bytes.now in
    c.unwrap_or.ensures ∙ ap (λ r. unwrap_or r (length s)) c.first_nul.ensures ∙ first_or_end _ s ∙ sym (first_nul s)
