-- What follows on a header that was read.
use mathlib.Core.Path.{◌≡◌, refl, sym, ap, ◌∙◌}
use mathlib.Core.List.{List}
use Prim.Native.Nat.{ℕ}
use Rattle.definitions.specs.Reply.{Reply, answer, refusal, and_then}
use Rattle.definitions.specs.Header.{Header, header_of, header_in}
use Rattle.blocks.proofs.Headers.{header_answered}
use Rattle.definitions.proofs.Replies.{not_answered}

-- an answer behind the header is one about the header in the bytes
pub headed : {A : Type 0} (s : List ℕ) (g : Header → Reply A) (a : A) → and_then (header_of s) g ≡ answer a → g (header_in s) ≡ answer a
headed {A} s g a h = go (header_of s) refl h
  where
    go : (r : Reply Header) → header_of s ≡ r → and_then r g ≡ answer a → g (header_in s) ≡ answer a
    go (refusal n t) e h = not_answered a _ _ h
    go (answer x) e h = ap g (sym (header_answered s x e).1) ∙ h
