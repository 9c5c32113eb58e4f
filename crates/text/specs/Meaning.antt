-- What the code's own types mean in the definitions.
use Rattle.std.specs.Prelude.{ℕ, List, Option, Some, None, Result}
use Rattle.definitions.specs.Reply.{Reply, Outcome}
use Rattle.definitions.specs.Unicode.{Char as Character, scalar, damage, TextWritten as Written}
use Rattle.refusals.specs.Meaning.{replied}
use Rattle.refusals.specs.declared.Refusal.{Refusal}
use Rattle.text.specs.declared.character.Scalar.{Scalar}
use Rattle.text.specs.declared.answer.TextWritten.{TextWritten}

-- the character that was read
abbrev pub read_as : ℕ → ℕ → Option Scalar
read_as value more = Some (record { value = value; more = more })

abbrev pub char_meant : Option Scalar → Character
char_meant (Some c) = scalar c.value c.more
char_meant None = damage

abbrev pub written_meant : TextWritten → Written
written_meant t = record { count = t.count; damaged = t.damaged }

abbrev pub text_reply : Result TextWritten Refusal → Reply Written
text_reply = replied written_meant

-- the reply, and the buffer that the call leaves
abbrev pub wrote : Result TextWritten Refusal → List ℕ → Outcome Written
wrote r out = record { reply = text_reply r; buffer = out }
