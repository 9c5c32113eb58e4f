-- What a walk meets: the list of its place, the ways to the next one, and what that tells.
use Rattle.std.specs.Prelude.{if◌then◌else◌}
use mathlib.Core.Path.{◌≡◌, refl, sym, subst, ◌∙◌}
use mathlib.Core.Bool.{Bool, true, false}
use mathlib.Core.List.{List}
use Prim.Native.Nat.{ℕ, ◌+◌, ◌≤◌, ◌<◌}
use native.Mathlib.Omega.{arith}
use lib.ListN.{drop}
use lib.Dec.{leb, eqb}
use borrow.Author.Tests.{eq-eqb, ne_eqb, lt-leb, le-leb, leb-false}
use Rattle.definitions.specs.Reply.{Reply, answer, refusal, and_then}
use Rattle.definitions.specs.DataList.{DataList}
use Rattle.definitions.specs.Chain.{fragment_limit, list_limit, has_header, list_at, declaration_of, keeps_to, chained_at}
use Rattle.places.specs.Places.{opened, Opens, behind, entered, ended}
use Rattle.steps.specs.Steps.{LinkWithin, LengthWithin, declaration_in, ListKnown, Onward, a_list, the_end, declared_before, next_of}
use Rattle.places.specs.declared.place.Place.{Place}
use Rattle.places.proofs.Answers.{passed, followed, answered}
use Rattle.places.proofs.Lists.{list_stands}
use Rattle.steps.proofs.Kept.{link_within, length_within}
use Rattle.steps.proofs.Declarations.{keeps_itself, declares_kept, chained_refused_law, chained_untrue, chained_kept}

-- ---- where a walk stands

-- inside a list, that list
pub the_list : (f : List ℕ) (p : Place) → ListKnown f p → p.index < p.list.links
    → (d : DataList) × (list_at f p.fragments p.list.address.0 ≡ answer d) × Opens p.list d
the_list f p k h = k.read (omega (arith, k.none))

pub the_link : (f s : List ℕ) (p : Place) → ListKnown f p → p.index < p.list.links → s ≡ drop p.list.address.0 f
    → (has_header f p.list.address.0 ≡ true) × LinkWithin s p.list p.index
the_link f s p k h from =
    let read = the_list f p k h in
    let there = list_stands f p.fragments p.list.address.0 read.0 read.1 in
    (there.0, rw from (link_within _ p.fragments p.index p.list read.0 there.1 read.2 h))

module _ (f : List ℕ) (p : Place) (k : ListKnown f p) where
  pub known_behind : (n : ℕ) → p.index < p.list.links → ListKnown f (behind p n)
  known_behind n h = record { inside = omega arith; few = k.few; none = k.none; read = k.read }

  pub known_entered : (d : DataList) → list_at f (p.fragments + p.index) p.list.next.0 ≡ answer d → ListKnown f (entered p d)
  known_entered d e =
      let few : p.fragments + p.index + d.links ≤ fragment_limit = (list_stands f (p.fragments + p.index) p.list.next.0 d e).1.few in
      record { inside = omega arith; few = few; none = omega arith; read = λ l. (d, e, refl) }

  -- what a list read before declares, and what the next one does, can be read
  pub lengths_within : (p.lists ≡ 0 → ⊥) → (d : DataList) → list_at f (p.fragments + p.index) p.list.next.0 ≡ answer d
      → (q : Place) → q ≡ entered p d → LengthWithin f p.list × LengthWithin f q.list
  lengths_within z d e q is =
      let r = k.read (omega arith) in (
        length_within f p.fragments p.list r.0 r.1 r.2,
        rw is (length_within f (p.fragments + p.index) (opened p.list.next d) d e refl),
      )

-- ---- the ways to the next list

module _ (f : List ℕ) (p : Place) where
  pub next_end : ended p ≡ true → answer (the_end p.position.0) ≡ next_of f p
  unfolding next_of
  next_end t = rw t

  module _ (t : ended p ≡ false) where
    pub next_many : list_limit ≤ p.lists → refusal 8 0 ≡ next_of f p
    unfolding next_of
    next_many l = rw (t, le-leb _ _ l)

    module _ (l : p.lists < list_limit) where
      by_list : (r : Reply DataList) → r ≡ chained_at (declared_before f p) f (p.fragments + p.index) p.list.next.0
          → and_then r (λ d. answer (a_list (entered p d))) ≡ next_of f p
      unfolding next_of
      by_list r e = rw (t, lt-leb _ _ l, sym e)

      pub next_refused : (n m : ℕ) → list_at f (p.fragments + p.index) p.list.next.0 ≡ refusal n m → refusal n m ≡ next_of f p
      next_refused n m e = by_list (refusal n m) (chained_refused_law _ _ _ _ n m e)

      module _ (d : DataList) (e : list_at f (p.fragments + p.index) p.list.next.0 ≡ answer d) where
        -- the first list declares what it keeps to
        declared_first : p.lists ≡ 0 → declared_before f p ≡ declaration_of (drop p.list.next.0 f) d
        unfolding declared_before
        declared_first z = rw (eq-eqb _ _ z, e)

        pub next_first : p.lists ≡ 0 → answer (a_list (entered p d)) ≡ next_of f p
        next_first z =
            let kept : keeps_to (declared_before f p) (eqb d.next 0) (declaration_of (drop p.list.next.0 f) d) ≡ true =
            rw (declared_first z) (keeps_itself (eqb d.next 0) (declaration_of (drop p.list.next.0 f) d)) in
            by_list (answer d) (chained_kept _ _ _ _ d e kept)

        -- and each other one is held to the list before it
        module _ (z : p.lists ≡ 0 → ⊥) (b : Bool)
            (k : b ≡ keeps_to (declaration_in f p.list) (eqb d.next 0) (declaration_in f (opened p.list.next d))) where
          kept_is : keeps_to (declared_before f p) (eqb d.next 0) (declaration_of (drop p.list.next.0 f) d) ≡ b
          unfolding declared_before
          kept_is =
              let same : declaration_in f (opened p.list.next d) ≡ declaration_of (drop p.list.next.0 f) d =
              declares_kept f p.list.next d (list_stands f _ _ d e).1.count in
              rw (ne_eqb _ _ z, sym same) (sym k)

          pub next_untrue : b ≡ false → refusal 13 0 ≡ next_of f p
          next_untrue h = by_list (refusal 13 0) (chained_untrue _ _ _ _ d e (kept_is ∙ h))

          pub next_kept : b ≡ true → answer (a_list (entered p d)) ≡ next_of f p
          next_kept h = by_list (answer d) (chained_kept _ _ _ _ d e (kept_is ∙ h))

-- one list more, or the end
unfoldable pub Tells : List ℕ → Place → Onward → Type 0
Tells f p (a_list q) =
    (d : DataList) × (chained_at (declared_before f p) f (p.fragments + p.index) p.list.next.0 ≡ answer d) × (entered p d ≡ q)
    × (p.lists < list_limit) × (ended p ≡ false)
Tells f p (the_end n) = n ≡ p.position.0

module _ (f : List ℕ) (p : Place) where
  tells_by : (t : Bool) (x : Onward) → ended p ≡ t
      → (if t then answer (the_end p.position.0)
      else if leb list_limit p.lists then refusal 8 0
      else and_then (chained_at (declared_before f p) f (p.fragments + p.index) p.list.next.0) (λ d. answer (a_list (entered p d)))) ≡ answer x
      → Tells f p x
  unfolding Tells
  tells_by true x e a = let y : Tells f p (the_end p.position.0) = refl in subst (Tells f p) (answered a) y
  tells_by false x e a =
      let few = passed (leb list_limit p.lists) _ _ _ _ a in
      let read = followed (chained_at (declared_before f p) f (p.fragments + p.index) p.list.next.0) (λ d. answer (a_list (entered p d))) x few.1 in
      let y : Tells f p (a_list (entered p read.0)) = (read.0, read.1, refl, leb-false list_limit p.lists few.0, e) in
      subst (Tells f p) (answered read.2) y

  pub next_tells : (x : Onward) → next_of f p ≡ answer x → Tells f p x
  unfolding next_of
  next_tells x a = tells_by (ended p) x refl a
