-- What a call replies, and what it leaves in a buffer that was lent to it.
use Rattle.std.specs.Prelude.{ℕ, min, Bool, true, false, if◌then◌else◌, List, ◌++◌, length, drop, ltb}

-- an answer, or a refusal: its number, and what it tells (0 where it tells nothing)
pub data Reply (A : Type 0) : Type 0 where
  answer : A → Reply A
  refusal : ℕ → ℕ → Reply A

-- go on with an answer; a refusal stays
abbrev pub and_then : {A B : Type 0} → Reply A → (A → Reply B) → Reply B
and_then (answer a) f = f a
and_then (refusal n t) f = refusal n t

-- a size that a refusal tells: at most 2^64-1
abbrev pub told : ℕ → ℕ
told n = min n 18446744073709551615

-- 2: the block has too few bytes, and needs n
abbrev pub needing : {A : Type 0} → List ℕ → ℕ → Reply A → Reply A
needing s n r = if ltb (length s) n then refusal 2 (told n) else r

-- the reply of a call that was lent a buffer, and the buffer as the call leaves it
pub record Outcome (A : Type 0) : Type 0 where
  pub reply : Reply A
  pub buffer : List ℕ

-- 6: the output buffer is too small for the bytes. Else they stand at its front, nothing behind them changes, and a is the answer
abbrev pub writing : {A : Type 0} → List ℕ → List ℕ → A → Outcome A
writing out bytes a =
    if ltb (length out) (length bytes)
    then record { reply = refusal 6 (told (length bytes)); buffer = out }
    else record { reply = answer a; buffer = bytes ++ drop (length bytes) out }

-- go on with an answer to what is done with the buffer; a refusal leaves it
abbrev pub on_answer : {A B : Type 0} → Reply A → (A → Outcome B) → List ℕ → Outcome B
on_answer (answer a) f out = f a
on_answer (refusal n t) f out = record { reply = refusal n t; buffer = out }
