-- Addresses, the bytes from an address on, and the end of a chain.
use mathlib.Core.Path.{◌≡◌, sym}
use mathlib.Core.Bool.{Bool, true, false, not}
use mathlib.Core.List.{List}
use Prim.Native.Nat.{ℕ, ◌+◌, ◌-◌, ◌≤◌, ◌<◌}
use native.Mathlib.Omega.{arith}
use native.Mathlib.Nat.{add-zero}
use lib.ListN.{length, take, drop, length-drop}
use lib.Seq.{drop-drop, get_or-drop}
use lib.Dec.{leb, ltb, eqb}
use borrow.Author.Tests.{eq-eqb, ne_eqb, lt-leb, le-leb, leb-true, ltb-true, ltb-false, eqb-false, not-true}
use Rattle.definitions.specs.Bytes.{span, id_at}
use Rattle.definitions.specs.Chain.{has_header}
use Rattle.definitions.proofs.Replies.{both}
use Rattle.places.specs.Places.{ended}
use Rattle.places.specs.declared.place.Place.{Place}

module _ (f : List ℕ) (a : ℕ) where
  pub header_nowhere : a ≡ 0 → false ≡ has_header f a
  header_nowhere h = rw (eq-eqb _ _ h)

  header_test : (t : Bool) → ltb (length f) (a + 24) ≡ t → not t ≡ leb (a + 24) (length f)
  header_test true e = sym (lt-leb (a + 24) (length f) (ltb-true (length f) (a + 24) e))
  header_test false e = sym (le-leb (a + 24) (length f) (ltb-false (length f) (a + 24) e))

  pub header_by : (a ≡ 0 → ⊥) → (past : Bool) → past ≡ ltb (length f) (a + 24) → not past ≡ has_header f a
  header_by z past e = rw (ne_eqb _ _ z) (header_test past (sym e))

  pub header_there : has_header f a ≡ true → (0 < a) × (a + 24 ≤ length f)
  header_there h =
      let p = both (not (eqb a 0)) (leb (a + 24) (length f)) h in
      omega (arith, eqb-false a 0 (not-true _ p.0), leb-true (a + 24) (length f) p.1)

  pub header_inside : has_header f a ≡ true → a ≤ length f
  header_inside h = omega (arith, header_there h)

  pub header_long : has_header f a ≡ true → 24 ≤ length (drop a f)
  header_long h = omega (arith, header_there h, length-drop a f)

  -- the id of a block is that of the bytes from its address on
  pub id_from : (id : List ℕ) → id_at (drop a f) 0 id ≡ id_at f a id
  id_from id = simp (get_or-drop, add-zero)

-- n bytes behind the first k of those from an address on
pub part : (l : List ℕ) (a k n : ℕ) → take (k + n - k) (drop k (drop a l)) ≡ span l (a + k) n
part l a k n = let e : k + n - k ≡ n = omega arith in rw (e, drop-drop)

-- ---- the end of a chain

pub ended_by : (p : Place) → (p.lists ≡ 0 → ⊥) → eqb p.list.next.0 0 ≡ ended p
ended_by p z = rw (ne_eqb _ _ z)
