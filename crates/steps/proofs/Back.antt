-- The meanings are one-to-one: from its meaning each answer comes back.
use mathlib.Core.Path.{◌≡◌, refl}
use Rattle.std.specs.Prelude.{Result}
use Rattle.refusals.specs.declared.Refusal.{Refusal}
use Rattle.refusals.proofs.Back.{replied_one}
use Rattle.steps.specs.Steps.{Onward, a_list, the_end, next_meant, next_reply}
use Rattle.steps.specs.declared.next.Next.{Next}
use Rattle.steps.specs.declared.next.Next.TheVariants.{List as AList, End}

abbrev next_again : Onward → Next
next_again (a_list p) = AList p
next_again (the_end n) = End (record { 0 = n })

next_back : (n : Next) → next_again (next_meant n) ≡ n
next_back (AList p) = refl
next_back (End q) = refl

pub next_one : (a b : Result Next Refusal) → next_reply a ≡ next_reply b → a ≡ b
next_one = replied_one next_meant next_again next_back
