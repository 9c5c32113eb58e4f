-- What the code's own types mean in the definitions, and what is known on the way.
use Rattle.std.specs.Prelude.{◌≡◌, ℕ, ◌≤◌, Option, Some, None}
use Rattle.definitions.specs.Reply.{Reply, answer, refusal}
use Rattle.definitions.specs.Ieee754.{widened}

abbrev pub narrow_meant : Option ℕ → Reply ℕ
narrow_meant (Some x) = answer x
narrow_meant None = refusal 24 0

-- of the 32-bit patterns with a clear sign that are no NaN's, none but r can widen to m
abbrev pub OnlyOne : ℕ → ℕ → Type 0
OnlyOne m r = (x : ℕ) → x ≤ 0x7f80_0000 → widened x ≡ m → x ≡ r
