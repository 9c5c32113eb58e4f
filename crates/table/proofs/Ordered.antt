-- The one pass over a table's fragments, from the last to the first: what is left of the test after each.
use Rattle.std.specs.Prelude.{Option, Some, None}
use mathlib.Core.Path.{◌≡◌, refl, sym, ap, ap₂, ◌∙◌}
use mathlib.Core.Bool.{Bool, true, false, ◌&&◌}
use mathlib.Core.List.{List, [], ◌∷◌, ◌++◌}
use Prim.Native.Nat.{ℕ, zero, suc, ◌+◌, ◌-◌, ◌≤◌, ◌<◌}
use native.Mathlib.Omega.{arith}
use native.Mathlib.Numerals.{add-one}
use lib.ListN.{length}
use lib.Dec.{leb, eqb}
use borrow.Author.Tests.{lt-ltb, le-ltb, lt-leb, le-leb, leb-true, leb-false}
use Rattle.definitions.specs.Chain.{Block}
use Rattle.definitions.specs.Table.{table_limit, count_of, total_in, address_at, position_at, begin_of, fragment_in, fragments_in, rising, ordered, in_file, sound}
use Rattle.table.specs.Passed.{ends_by, all_end, passes}

-- ---- a block's end, tested without a sum

module _ (len a size : ℕ) where
  pub short_file : len < 24 → false ≡ leb (a + 24 + size) len
  short_file h = let l : len < a + 24 + size = omega arith in sym (lt-leb _ _ l)

  pub long_data : len - 24 < size → false ≡ leb (a + 24 + size) len
  long_data h = let l : len < a + 24 + size = omega arith in sym (lt-leb _ _ l)

  by_test : (t : Bool) → leb a (len - 24 - size) ≡ t → 24 ≤ len → size ≤ len - 24 → t ≡ leb (a + 24 + size) len
  by_test true e h g = let l : a + 24 + size ≤ len = omega (arith, leb-true a (len - 24 - size) e) in sym (le-leb _ _ l)
  by_test false e h g = let l : len < a + 24 + size = omega (arith, leb-false a (len - 24 - size) e) in sym (lt-leb _ _ l)

  pub ends_by_law : 24 ≤ len → size ≤ len - 24 → leb a (len - 24 - size) ≡ leb (a + 24 + size) len
  ends_by_law = by_test (leb a (len - 24 - size)) refl

-- ---- where a fragment's data begins

module _ (w : List ℕ) where
  pub begin_at : (i : ℕ) → i < count_of w → begin_of w i ≡ position_at w i
  unfolding begin_of
  begin_at i h = rw (lt-ltb i (count_of w) h) refl

  pub begin_past : (i : ℕ) → count_of w ≤ i → begin_of w i ≡ total_in w
  unfolding begin_of
  begin_past i h = rw (le-ltb i (count_of w) h) refl

-- ---- the test of the first i fragments

and_false : (a : Bool) → a && false ≡ false
and_false true = refl
and_false false = refl

and_true : (a : Bool) → a && true ≡ a
and_true true = refl
and_true false = refl

module _ (n : ℕ) where
  in_file_more : (bs : List Block) (b : Block) → in_file n (bs ++ (b ∷ [])) ≡ in_file n bs && leb (b.address + 24 + b.size) n
  unfolding in_file
  in_file_more [] b = and_true (leb (b.address + 24 + b.size) n)
  in_file_more (c ∷ cs) b =
      ap (λ (t : Bool). leb (c.address + 24 + c.size) n && t) (in_file_more cs b)
      ∙ joint (leb (c.address + 24 + c.size) n) (in_file n cs) (leb (b.address + 24 + b.size) n)
    where
      joint : (a x y : Bool) → a && (x && y) ≡ (a && x) && y
      joint true x y = refl
      joint false x y = refl

all_more : (end : Option ℕ) (bs : List Block) (b : Block) → all_end end (bs ++ (b ∷ [])) ≡ all_end end bs && ends_by end (b.address + 24 + b.size)
all_more None bs b = refl
all_more (Some n) bs b = in_file_more n bs b

all_none : (end : Option ℕ) → all_end end [] ≡ true
unfolding in_file
all_none None = refl
all_none (Some n) = refl

module _ (end : Option ℕ) (w : List ℕ) where
  -- what is left of the test
  abbrev pub passes_up_to : ℕ → Bool
  passes_up_to i = (eqb (begin_of w 0) 0 && rising w i) && all_end end (fragments_in w i)

  pub too_many : table_limit < count_of w → false ≡ passes end w
  unfolding ordered
  too_many h = sym (rw (lt-leb _ _ h) refl)

  pub passes_whole : count_of w ≤ table_limit → passes end w ≡ passes_up_to (count_of w)
  unfolding ordered
  passes_whole h = rw (le-leb _ _ h) refl

  -- no fragment is left
  pub passes_none : (i e : ℕ) → i ≤ 0 → e ≡ begin_of w i → eqb e 0 ≡ passes_up_to i
  unfolding rising fragments_in
  passes_none zero e h is =
      ap (λ (n : ℕ). eqb n 0) is
      ∙ sym (ap (λ (t : Bool). (eqb (begin_of w 0) 0 && true) && t) (all_none end) ∙ and_true (eqb (begin_of w 0) 0 && true) ∙ and_true (eqb (begin_of w 0) 0))
  passes_none (suc i) e h is = let no : ⊥ = omega arith in absurd no

  -- fragment j is the last of i, begins at p and ends at e
  module _ (i j e p : ℕ) (is : i ≡ suc j) (inner : i ≤ count_of w) (he : e ≡ begin_of w i) (hp : p ≡ position_at w j) where
    begins : p ≡ begin_of w j
    begins = hp ∙ sym (begin_at w j (omega arith))

    ends : e ≡ begin_of w (j + 1)
    ends = he ∙ ap (begin_of w) (is ∙ sym (add-one j))

    rising_one : rising w i ≡ leb p e && rising w j
    unfolding rising
    rising_one = ap (rising w) is ∙ ap₂ (λ (x y : ℕ). leb x y && rising w j) (sym begins) (sym ends)

    pub falls : e < p → false ≡ passes_up_to i
    falls h =
        sym (ap (λ (t : Bool). (eqb (begin_of w 0) 0 && t) && all_end end (fragments_in w i)) (rising_one ∙ rw (lt-leb _ _ h) refl)
        ∙ ap (λ (t : Bool). t && all_end end (fragments_in w i)) (and_false (eqb (begin_of w 0) 0)))

    module _ (a : ℕ) (ha : a ≡ address_at w j) (ok : p ≤ e) (t : Bool) (ht : t ≡ ends_by end (a + 24 + (e - p))) where
      its_end : all_end end (fragments_in w i) ≡ all_end end (fragments_in w j) && t
      unfolding fragments_in
      its_end =
          let size : e - p ≡ begin_of w (j + 1) - begin_of w j = ap₂ (λ (x y : ℕ). x - y) ends begins in
          ap (λ (n : ℕ). all_end end (fragments_in w n)) is
          ∙ all_more end (fragments_in w j) (fragment_in w j)
          ∙ ap₂ (λ (x y : ℕ). all_end end (fragments_in w j) && ends_by end (x + 24 + y)) (sym ha) (sym size)
          ∙ ap (λ (x : Bool). all_end end (fragments_in w j) && x) (sym ht)

      pub outside : t ≡ false → false ≡ passes_up_to i
      outside n =
          sym (ap (λ (x : Bool). (eqb (begin_of w 0) 0 && rising w i) && x) (its_end ∙ ap (λ (x : Bool). all_end end (fragments_in w j) && x) n ∙ and_false (all_end end (fragments_in w j)))
          ∙ and_false (eqb (begin_of w 0) 0 && rising w i))

      pub inside : t ≡ true → passes_up_to i ≡ passes_up_to j
      inside n =
          ap₂ (λ (x y : Bool). (eqb (begin_of w 0) 0 && x) && y) (rising_one ∙ rw (le-leb _ _ ok) refl)
          (its_end ∙ ap (λ (x : Bool). all_end end (fragments_in w j) && x) n ∙ and_true (all_end end (fragments_in w j)))

-- ---- the two ways in which it is asked

pub without_file : (w : List ℕ) → passes None w ≡ ordered w
without_file w = and_true (ordered w)

pub with_file : (f w : List ℕ) → passes (Some (length f)) w ≡ sound f w
unfolding sound
with_file f w = refl
