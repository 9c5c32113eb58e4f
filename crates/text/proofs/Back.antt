-- The meanings are one-to-one: from what it means, the code's own value comes back.
use mathlib.Core.Path.{◌≡◌, refl}
use Rattle.std.specs.Prelude.{Option, Some, None, Result}
use Rattle.definitions.specs.Unicode.{Char as Character, scalar, damage}
use Rattle.definitions.proofs.Replies.{one_by}
use Rattle.refusals.specs.declared.Refusal.{Refusal}
use Rattle.refusals.proofs.Back.{replied_one}
use Rattle.text.specs.Meaning.{read_as, char_meant, written_meant, text_reply}
use Rattle.text.specs.declared.character.Scalar.{Scalar}
use Rattle.text.specs.declared.answer.TextWritten.{TextWritten}

abbrev char_of : Character → Option Scalar
char_of (scalar c more) = read_as c more
char_of damage = None

char_back : (r : Option Scalar) → char_of (char_meant r) ≡ r
char_back (Some c) = refl
char_back None = refl

pub char_one : (a b : Option Scalar) → char_meant a ≡ char_meant b → a ≡ b
char_one = one_by char_meant char_of char_back

pub text_one : (a b : Result TextWritten Refusal) → text_reply a ≡ text_reply b → a ≡ b
text_one = replied_one written_meant (λ t. record { count = t.count; damaged = t.damaged }) (λ t. refl)
