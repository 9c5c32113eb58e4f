-- When a data list is answered: exactly then, with the list that stands in the bytes.
use Rattle.std.specs.Prelude.{if◌then◌else◌}
use mathlib.Core.Path.{◌≡◌, refl, ◌∙◌}
use mathlib.Core.List.{List}
use mathlib.Core.Bool.{Bool, true, false, not}
use Prim.Native.Nat.{ℕ, ◌+◌, ◌*◌, ◌≤◌}
use native.Mathlib.Omega.{arith}
use lib.ListN.{length}
use lib.Dec.{eqb}
use borrow.Author.Tests.{eqb-false}
use Rattle.definitions.specs.Reply.{answer, refusal, needing}
use Rattle.definitions.specs.Bytes.{u64_at, id_at}
use Rattle.definitions.specs.Header.{Header, header_in}
use Rattle.definitions.specs.DataList.{DataList, id_dl, list_of, links_of, rest_of, list_in, rest_in, flags_at}
use Rattle.theorems.specs.Exactly.{ListStands}
use Rattle.theorems.proofs.Blocks.HeaderAnswers.{headed}
use Rattle.blocks.proofs.Headers.{needed, header_met}
use Rattle.blocks.proofs.Lists.{list_linked}
use Rattle.definitions.proofs.Replies.{not_answered, needing_met}

module _ (s : List ℕ) where
  pub list_answered : ListStands s → list_of s ≡ answer (list_in s (header_in s))
  unfolding rest_of
  list_answered h =
      let w = h.whole in
      let l : 24 ≤ length s = omega arith in
      let z : u64_at s 16 ≡ 0 → ⊥ = λ e. omega (arith, e, h.some) in
      list_linked s (header_in s) (header_met s l) h.named z (omega arith) ∙ needing_met s _ _ w

  by_tests : (x : Header) (d : DataList) (i k : Bool) → id_at s 0 id_dl ≡ i → eqb x.link_count 0 ≡ k
      → (if not i then refusal 3 0 else if k then refusal 4 0 else needing s (flags_at x.link_count + 8) (rest_of s x)) ≡ answer d
      → (id_at s 0 id_dl ≡ true) × (x.link_count ≡ 0 → ⊥) × (rest_of s x ≡ answer d)
  by_tests x d false k e f h = not_answered d _ _ h
  by_tests x d true true e f h = not_answered d _ _ h
  by_tests x d true false e f h = (e, eqb-false _ _ f, (needed s _ _ d h).1)

  linked : (x : Header) (d : DataList) → links_of s x ≡ answer d → (id_at s 0 id_dl ≡ true) × (x.link_count ≡ 0 → ⊥) × (rest_of s x ≡ answer d)
  unfolding links_of
  linked x d h = by_tests x d (id_at s 0 id_dl) (eqb x.link_count 0) refl refl h

  rested : (d : DataList) → rest_of s (header_in s) ≡ answer d
      → (flags_at (u64_at s 16) + 8 + rest_in s (u64_at s 16) * 8 ≤ length s) × (answer (list_in s (header_in s)) ≡ answer d)
  unfolding rest_of
  rested d h = needed s _ _ d h

  pub list_stands : (d : DataList) → list_of s ≡ answer d → ListStands s × (d ≡ list_in s (header_in s))
  unfolding list_of
  list_stands d h =
      let p = linked (header_in s) d (headed s (links_of s) d h) in
      let q = rested d p.2 in
      (record { named = p.0; some = omega (arith, p.1); whole = q.0 }, cc)
