-- The units are cut from the front, and what the search finds among them, or their end, is where the rule stops.
use mathlib.Core.Path.{ap, ◌∙◌}
use mathlib.Core.List.{List}
use Prim.Native.Nat.{ℕ, ◌*◌}
use Rattle.std.specs.List.{position_or_len}
use Rattle.std.specs.Option.{unwrap_or}
use lib.ListN.{length}
use Rattle.encodings.proofs.Stopping.{is_zero_unit, first_or_end, first_unit}
use Rattle.encodings.proofs.stop.before_zero_unit.Goals as goal

pub returns : goal.returns
returns c =
    let units = c.as_chunks.result.0.now in
    ap (λ (n : ℕ). n * 2)
    (c.unwrap_or.ensures ∙ ap (λ r. unwrap_or r (length units)) c.first_zero_unit.ensures ∙ first_or_end is_zero_unit units
    ∙ ap (λ (l : List (List ℕ)). position_or_len is_zero_unit l) c.as_chunks.ensures.front)
    ∙ first_unit c.args.bytes.now
