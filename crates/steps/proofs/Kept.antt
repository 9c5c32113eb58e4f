-- What can be read of a list that is kept.
use mathlib.Core.Path.{◌≡◌, sym, ap, subst, ◌∙◌}
use mathlib.Core.List.{List}
use Prim.Native.Nat.{ℕ, ◌<◌}
use native.Mathlib.Omega.{arith}
use Rattle.definitions.specs.Reply.{answer}
use Rattle.definitions.specs.DataList.{DataList, rest_count}
use Rattle.definitions.specs.Chain.{list_at}
use Rattle.blocks.proofs.Lists.{rest_one}
use Rattle.places.specs.Places.{opened, Opens}
use Rattle.steps.specs.Steps.{LinkWithin, LengthWithin}
use Rattle.places.specs.declared.place.OpenList.{OpenList}
use Rattle.places.proofs.Addresses.{header_inside}
use Rattle.places.proofs.Lists.{Listed, list_stands}

-- link i of a list that is kept can be read, and what the list declares of that fragment
pub link_within : (s : List ℕ) (n i : ℕ) (l : OpenList) (d : DataList) → Listed s n d → Opens l d → i < l.links → LinkWithin s l i
link_within s n i l d h k m =
    let e : d.rest ≡ rest_count d.flags d.links = h.lies.counted ∙ ap (rest_count d.flags) h.count in
    let within : i < d.links → LinkWithin s (opened l.address d) i = λ j. record {
      one = j;
      link = h.lies.links;
      rest = rw e at h.lies.rest;
    } in
    subst (λ (x : OpenList). i < x.links → LinkWithin s x i) (sym k) within m

-- and so can the one length that it declares
pub length_within : (f : List ℕ) (n : ℕ) (l : OpenList) (d : DataList) → list_at f n l.address.0 ≡ answer d → Opens l d → LengthWithin f l
length_within f n l d h k =
    let there = list_stands f n l.address.0 d h in
    let within : LengthWithin f (opened l.address d) = record {
      there = header_inside f l.address.0 there.0;
      rest = λ o. omega (arith, there.1.lies.rest, there.1.lies.counted, rest_one d.flags d.count o);
    } in
    subst (LengthWithin f) (sym k) within
