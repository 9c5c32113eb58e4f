-- A reply as C sees it: 0 and the answer's fields, or the refusal's number, what it tells, and zeros.
use Rattle.std.specs.Prelude.{ℕ, Bool, true, false, Result}
use Rattle.definitions.specs.Reply.{Reply, answer, refusal}
use Rattle.definitions.specs.Unicode.{TextWritten}
use Rattle.refusals.specs.Meaning.{replied}
use Rattle.refusals.specs.declared.Refusal.{Refusal}
use Rattle.replies.specs.declared.done.Mf4DoneReply.{Mf4DoneReply}
use Rattle.replies.specs.declared.texts.Mf4TextReply.{Mf4TextReply}

-- a test, as a number
abbrev pub flag_c : Bool → ℕ
flag_c true = 1
flag_c false = 0

-- ---- done

-- what the library's answer that something is done replies
abbrev pub done_reply : Result (Unit {0}) Refusal → Reply (Unit {0})
done_reply = replied (λ u. u)

-- of a call that answers nothing else
abbrev pub done_c : Reply (Unit {0}) → Mf4DoneReply
done_c (answer u) = record { reply = 0; told = 0 }
done_c (refusal n t) = record { reply = n; told = t }

-- ---- texts

abbrev pub text_c : Reply TextWritten → Mf4TextReply
text_c (answer t) = record { reply = 0; told = 0; count = t.count; damaged = flag_c t.damaged }
text_c (refusal n t) = record { reply = n; told = t; count = 0; damaged = 0 }
