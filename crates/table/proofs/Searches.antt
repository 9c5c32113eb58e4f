-- The places of a table, and the last of them that begins no later than a position.
use mathlib.Core.Path.{◌≡◌, refl, ap, ap₂, ◌∙◌}
use mathlib.Core.Bool.{true, false}
use mathlib.Core.List.{List, [], ◌∷◌}
use mathlib.Core.Logic.{inl, inr}
use Prim.Native.Nat.{ℕ, zero, suc, ◌+◌, ◌-◌, ◌*◌, ◌/◌, ◌≤◌, ◌<◌}
use native.Mathlib.Omega.{arith}
use native.Mathlib.Nat.{eq-or-lt_of_le}
use native.Mathlib.Numerals.{add-one}
use lib.ListN.{length, get_or, take, drop}
use lib.Dec.{leb}
use borrow.Author.Tests.{leb-true, leb-false}
use borrow.Rule.Slice.PartMut.{mid_of}
use Rattle.std.specs.Simd.{first_chunks}
use Rattle.std.specs.List.Sorted.{IsPartitionPoint, IsPartitionedBy}
use Rattle.std.proofs.lemmas.List.{get_or-drop, get_or-take, length-drop, length-take}
use Rattle.std.proofs.lemmas.List.Sorted.{IsNonDecreasingBy-from_default, IsPartitionedBy-leb}
use Rattle.definitions.specs.Table.{table_limit, count_of, position_at, begin_of, ordered}
use Rattle.table.specs.Holds.{Places, Holds}
use Rattle.table.proofs.Ordered.{begin_at}
use Rattle.table.proofs.Fragments.{in_order, rise_at}

-- ---- the words of a table two by two

first_two : (xs : List ℕ) → 2 ≤ length xs → take 2 xs ≡ get_or xs 0 0 ∷ get_or xs 1 0 ∷ []
first_two [] h = let no : ⊥ = omega arith in absurd no
first_two (x ∷ []) h = let no : ⊥ = omega arith in absurd no
first_two (x ∷ y ∷ rest) h = refl

pair_at : (k i : ℕ) (xs : List ℕ) → i < k → k * 2 ≤ length xs → get_or (first_chunks 2 k xs) i [] ≡ get_or xs (i * 2) 0 ∷ get_or xs (i * 2 + 1) 0 ∷ []
pair_at zero i xs h l = let no : ⊥ = omega arith in absurd no
pair_at (suc k) zero xs h l = first_two xs (omega arith)
pair_at (suc k) (suc i) xs h l =
    let a : 2 + i * 2 ≡ suc i * 2 = omega arith in
    let b : 2 + (i * 2 + 1) ≡ suc i * 2 + 1 = omega arith in
    pair_at k i (drop 2 xs) (omega arith) (omega (arith, length-drop 2 xs))
    ∙ ap₂ (λ (x y : ℕ). x ∷ y ∷ [])
    (get_or-drop 2 xs (i * 2) 0 ∙ ap (λ (j : ℕ). get_or xs j 0) a)
    (get_or-drop 2 xs (i * 2 + 1) 0 ∙ ap (λ (j : ℕ). get_or xs j 0) b)

pub paired : (w : List ℕ) (places : List (List ℕ)) → length w ≡ 1026 → places ≡ first_chunks 2 (length (mid_of 2 1024 w) / 2) (mid_of 2 1024 w) → length places ≡ length (mid_of 2 1024 w) / 2
    → Places w places
paired w places l e n =
    let m : List ℕ = mid_of 2 1024 w in
    let long : length m ≡ 1024 = omega (arith, length-take 1024 (drop 2 w), length-drop 2 w) in
    let half : length m / 2 ≡ 512 = omega (arith, long) in
    record {
      all = n ∙ half;
      each = λ i h.
          let a : 2 + (i * 2 + 1) ≡ 3 + i * 2 = omega arith in
          ap (λ (p : List (List ℕ)). get_or p i []) (e ∙ ap (λ (k : ℕ). first_chunks 2 k m) half)
          ∙ pair_at 512 i m h (omega (arith, long))
          ∙ ap₂ (λ (x y : ℕ). x ∷ y ∷ [])
          (get_or-take 1024 (drop 2 w) (i * 2) 0 (omega arith) ∙ get_or-drop 2 w (i * 2) 0)
          (get_or-take 1024 (drop 2 w) (i * 2 + 1) 0 (omega arith) ∙ get_or-drop 2 w (i * 2 + 1) 0 ∙ ap (λ (j : ℕ). get_or w j 0) a);
    }

-- ---- where the places begin

abbrev pub begins_of : List ℕ → ℕ
begins_of place = get_or place 1 0

module _ (w : List ℕ) (places : List (List ℕ)) (p : Places w places) (o : ordered w ≡ true) where
  -- those that are taken
  abbrev pub listed : List (List ℕ)
  listed = take (count_of w) places

  pub few : count_of w ≤ table_limit
  few = (in_order w o).few

  pub as_many : length listed ≡ count_of w
  as_many = omega (arith, length-take (count_of w) places, p.all, few)

  pub begins_at : (i : ℕ) → i < count_of w → begins_of (get_or listed i []) ≡ position_at w i
  begins_at i h = ap begins_of (get_or-take (count_of w) places i [] h ∙ p.each i (omega (arith, few)))

  rise : (i j : ℕ) → i ≤ j → j < count_of w → position_at w i ≤ position_at w j
  rise i zero le lt = let z : i ≡ 0 = omega arith in omega (arith, ap (position_at w) z)
  rise i (suc j) le lt = elim (eq-or-lt_of_le le) [
    | inl e ↦ omega (arith, ap (position_at w) e)
    | inr l ↦
        let step : begin_of w j ≤ begin_of w (j + 1) = rise_at w (in_order w o) j (omega arith) in
        let same : position_at w (j + 1) ≡ position_at w (suc j) = ap (position_at w) (add-one j) in
        omega (arith, rise i j (omega arith) (omega arith), step, begin_at w j (omega arith), begin_at w (j + 1) (omega arith), same)
  ]

  pub parted : (wanted : ℕ) → IsPartitionedBy (λ place. leb (begins_of place) wanted) listed
  parted wanted =
      IsPartitionedBy-leb begins_of listed wanted
      (IsNonDecreasingBy-from_default begins_of listed [] (λ i j le lt.
      let l : j < count_of w = omega (arith, as_many) in
      omega (arith, begins_at i (omega arith), begins_at j l, rise i j le l)))

  -- the place before the first that begins later
  module _ (wanted k : ℕ) (some : 0 < count_of w) (starts : position_at w 0 ≤ wanted) (bound : k ≤ length listed)
      (point : IsPartitionPoint (λ place. leb (begins_of place) wanted ≡ true) (λ place. leb (begins_of place) wanted ≡ false) listed k) where
    later : (i : ℕ) → k ≤ i → i < count_of w → wanted < position_at w i
    later i h l = omega (arith, leb-false _ _ (point.1 i [] h (omega (arith, as_many))), begins_at i l)

    pub one_begun : 1 ≤ k
    one_begun = elim (eq-or-lt_of_le (least k)) [
      | inl e ↦ let no : ⊥ = omega (arith, later 0 (omega arith) some) in absurd no
      | inr l ↦ omega arith
    ]
      where
        least : (n : ℕ) → 0 ≤ n
        least n = omega arith

    pub last_begun : Holds w wanted (k - 1)
    last_begun =
        let one = one_begun in
        let l : k - 1 < count_of w = omega (arith, as_many) in
        let next : k - 1 + 1 ≡ k = omega arith in
        record {
          one = l;
          begins = omega (arith, leb-true _ _ (point.0 (k - 1) [] (omega arith) (omega arith)), begins_at (k - 1) l);
          ends = λ h. omega (arith, later k (omega arith) (omega arith), ap (position_at w) next);
        }
