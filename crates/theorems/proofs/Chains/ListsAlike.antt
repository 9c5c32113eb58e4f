-- Lists keep to the declaration of the first exactly where all declare one length and one count between them, or all offsets.
use Rattle.std.specs.Prelude.{if◌then◌else◌}
use mathlib.Core.Path.{◌≡◌, refl, sym, ap₂, subst}
use mathlib.Core.Bool.{Bool, true, false, true≢false}
use mathlib.Core.List.{List, [], ◌∷◌, ◌++◌}
use mathlib.Core.Logic.{◌⊎◌, inl, inr}
use Prim.Native.Nat.{ℕ, ◌<◌}
use native.Mathlib.Omega.{arith}
use lib.ListN.{drop}
use lib.Dec.{leb, eqb}
use borrow.Author.Tests.{eq-eqb, ne_eqb, le-leb, leb-true, eqb-true, eqb-false}
use Rattle.definitions.specs.Bytes.{u64_at, bit}
use Rattle.definitions.specs.DataList.{one_length}
use Rattle.definitions.specs.Chain.{Declaration, by_length, by_offsets, declaration_of, keeps_to}
use Rattle.definitions.specs.Accepted.{Each, Part, PartStands, DeclaresLength, DeclaresOffsets}
use Rattle.definitions.proofs.Replies.{both}
use Rattle.steps.proofs.Declarations.{keeps_itself}
use Rattle.theorems.proofs.Chains.BlocksStand.{unset}

-- a list keeps to what the chain has in common
abbrev pub Keeps : List ℕ → Declaration → List Part → Part → List Part → Type 0
Keeps f common before q after = keeps_to common (eqb q.list.next 0) (declaration_of (drop q.address f) q.list) ≡ true

abbrev pub Alike : List ℕ → List Part → Type 0
Alike f qs = ((n : ℕ) × (c : ℕ) × Each (DeclaresLength f n c) [] qs) ⊎ Each DeclaresOffsets [] qs

module _ {P Q : List Part → Part → List Part → Type 0} where
  each_so : ((ps : List Part) (q : Part) (qs : List Part) → P ps q qs → Q ps q qs) → (ps qs : List Part) → Each P ps qs → Each Q ps qs
  unfolding Each
  each_so g ps [] h = tt
  each_so g ps (q ∷ qs) h = (g ps q qs h.0, each_so g (ps ++ (q ∷ [])) qs h.1)

-- ---- of one list

module _ (f : List ℕ) (before : List Part) (q : Part) (after : List Part) where
  module _ (n c : ℕ) where
    length_by_law : (one last : Bool) → one_length q.list.flags ≡ one → eqb q.list.next 0 ≡ last
        → keeps_to (by_length n c) last (if one then by_length (u64_at (drop q.address f) q.list.rest_at) q.list.count else by_offsets) ≡ true
        → DeclaresLength f n c before q after
    length_by_law true true e g h =
        let p = both (eqb _ n) (leb _ c) h in record {
          flag = eqb-true _ _ e;
          declares = eqb-true _ n p.0;
          counts = λ more. absurd (omega (arith, eqb-true q.list.next 0 g));
          most = leb-true _ c p.1;
        }
    length_by_law true false e g h =
        let p = both (eqb _ n) (eqb _ c) h in
        let k : q.list.count ≡ c = eqb-true _ c p.1 in
        record { flag = eqb-true _ _ e; declares = eqb-true _ n p.0; counts = λ more. k; most = omega arith }
    length_by_law false last e g h = absurd (true≢false (sym h))

    declares_length : Keeps f (by_length n c) before q after → DeclaresLength f n c before q after
    declares_length h = length_by_law _ _ refl refl h

    keeps_by : (last : Bool) → eqb q.list.next 0 ≡ last → DeclaresLength f n c before q after
        → keeps_to (by_length n c) last (by_length (u64_at (drop q.address f) q.list.rest_at) q.list.count) ≡ true
    keeps_by true g h = rw (eq-eqb _ n h.declares) (le-leb _ c h.most)
    keeps_by false g h = rw (eq-eqb _ n h.declares) (eq-eqb _ c (h.counts (omega (arith, eqb-false q.list.next 0 g))))

    keeps_length : DeclaresLength f n c before q after → Keeps f (by_length n c) before q after
    keeps_length h = rw (eq-eqb _ _ h.flag) (keeps_by _ refl h)

  offsets_by : (one last : Bool) (n c : ℕ) → one_length q.list.flags ≡ one
      → keeps_to by_offsets last (if one then by_length n c else by_offsets) ≡ true → DeclaresOffsets before q after
  offsets_by true last n c e h = absurd (true≢false (sym h))
  offsets_by false last n c e h = record { flag = unset q.list.flags (eqb-false _ _ e) }

  declares_offsets : Keeps f by_offsets before q after → DeclaresOffsets before q after
  declares_offsets h = offsets_by _ (eqb q.list.next 0) _ _ refl h

  module _ (h : DeclaresOffsets before q after) where
    no_length : declaration_of (drop q.address f) q.list ≡ by_offsets
    no_length = let z : bit q.list.flags 0 ≡ 1 → ⊥ = λ e. omega (arith, e, h.flag) in rw (ne_eqb _ _ z)

    keeps_offsets : Keeps f by_offsets before q after
    keeps_offsets = rw no_length

-- ---- of all lists

pub all_alike : (f : List ℕ) (common : Declaration) (qs : List Part) → Each (Keeps f common) [] qs → Alike f qs
all_alike f (by_length n c) qs h = inl (n, c, each_so (λ ps q rs. declares_length f ps q rs n c) [] qs h)
all_alike f by_offsets qs h = inr (each_so (λ ps q rs. declares_offsets f ps q rs) [] qs h)

pub all_keep : (id f : List ℕ) (q : Part) (qs : List Part) → Each (PartStands id f) [] (q ∷ qs) → Alike f (q ∷ qs)
    → Each (Keeps f (declaration_of (drop q.address f) q.list)) [] (q ∷ qs)
unfolding Each
all_keep id f q [] h (inl d) = (keeps_itself (eqb q.list.next 0) (declaration_of (drop q.address f) q.list), tt)
all_keep id f q (r ∷ rs) h (inl d) =
    let one = d.2.0 in
    let more : 0 < q.list.next = omega (arith, h.0.next, h.1.0.somewhere) in
    let same : declaration_of (drop q.address f) q.list ≡ by_length d.0 d.1 = rw (eq-eqb _ _ one.flag) (ap₂ by_length one.declares (one.counts more)) in
    subst (λ (x : Declaration). Each (Keeps f x) [] (q ∷ r ∷ rs)) (sym same) (each_so (λ ps x xs. keeps_length f ps x xs d.0 d.1) [] (q ∷ r ∷ rs) d.2)
all_keep id f q qs h (inr d) =
    subst (λ (x : Declaration). Each (Keeps f x) [] (q ∷ qs)) (sym (no_length f [] q qs d.0)) (each_so (λ ps x xs. keeps_offsets f ps x xs) [] (q ∷ qs) d)
