-- The pass over a table, in turn, finds exactly the tables that can be right.
use mathlib.Core.Path.{◌≡◌, refl, sym, subst, ◌∙◌}
use mathlib.Core.Bool.{true}
use mathlib.Core.Logic.{inl, inr}
use mathlib.Core.List.{List, [], ◌∷◌}
use Prim.Native.Nat.{ℕ, zero, suc, ◌+◌, ◌-◌, ◌≤◌, ◌<◌}
use native.Mathlib.Omega.{arith}
use native.Mathlib.Nat.{eq-or-lt_of_le, eq-zero-or-pos}
use lib.ListN.{length}
use borrow.Author.Tests.{le-leb, eq-eqb}
use Rattle.std.specs.Bool.{Decides}
use Rattle.definitions.specs.Chain.{Block}
use Rattle.definitions.specs.Table.{count_of, total_in, address_at, position_at, begin_of, fragment_in, fragments_in, blocks_in, rising, ordered, in_file, sound}
use Rattle.chain.specs.Walk.{Inside}
use Rattle.chain.proofs.Chains.{inside_more}
use Rattle.table.proofs.Ordered.{begin_at, begin_past}
use Rattle.table.proofs.Fragments as told
use Rattle.theorems.specs.TableCauses.{InOrder, RightIn}

-- blocks in a file pass its test
pub inside_tested : (f : List ℕ) (bs : List Block) → Inside f bs → in_file (length f) bs ≡ true
unfolding in_file Inside
inside_tested f [] h = refl
inside_tested f (b ∷ bs) h = rw (le-leb _ _ h.0) (inside_tested f bs h.1)

module _ (w : List ℕ) where
  -- ---- from the test

  next_at : (i : ℕ) → i + 1 < count_of w → begin_of w (i + 1) ≡ position_at w (i + 1)
  next_at i h = begin_at w (i + 1) h

  next_past : (i : ℕ) → i + 1 ≡ count_of w → begin_of w (i + 1) ≡ total_in w
  next_past i h = begin_past w (i + 1) (omega arith)

  module _ (o : told.InOrder w) where
    pub in_order : InOrder w
    in_order = record {
      few = o.few;
      empty = λ z. sym (begin_past w 0 (omega arith)) ∙ o.starts;
      starts = λ l. sym (begin_at w 0 l) ∙ o.starts;
      rises = λ i l. omega (arith, told.rise_at w o i (omega arith), begin_at w i (omega arith), next_at i l);
      ends = λ i l. omega (arith, told.rise_at w o i (omega arith), begin_at w i (omega arith), next_past i l);
    }

  -- ---- to the test

  module _ (r : InOrder w) where
    first_begin : begin_of w 0 ≡ 0
    first_begin = elim (eq-zero-or-pos (count_of w)) [
      | inl z ↦ begin_past w 0 (omega arith) ∙ r.empty z
      | inr l ↦ begin_at w 0 l ∙ r.starts l
    ]

    up : (i : ℕ) → i < count_of w → begin_of w i ≤ begin_of w (i + 1)
    up i h = elim (eq-or-lt_of_le h) [
      | inl z ↦ omega (arith, begin_at w i h, next_past i (omega arith), r.ends i (omega arith))
      | inr l ↦ omega (arith, begin_at w i h, next_at i (omega arith), r.rises i (omega arith))
    ]

    all_rise : (n : ℕ) → n ≤ count_of w → rising w n ≡ true
    unfolding rising
    all_rise zero h = refl
    all_rise (suc n) h = rw (le-leb _ _ (up n h)) (all_rise n (omega arith))

    pub test_ordered : ordered w ≡ true
    unfolding ordered
    test_ordered = rw (le-leb _ _ r.few, eq-eqb _ _ first_begin) (all_rise (count_of w) (omega arith))

  pub tests_order : Decides (ordered w) (InOrder w)
  tests_order = (λ h. in_order (told.in_order w h), test_ordered)

  -- ---- in a file

  module _ (f : List ℕ) where
    right_in : sound f w ≡ true → RightIn f w
    right_in s =
        let o : told.InOrder w = told.sound_ordered w f s in
        record {
          order = in_order o;
          inside = λ i l. subst (λ (k : ℕ). address_at w i + 24 + (k - position_at w i) ≤ length f) (next_at i l)
              (subst (λ (k : ℕ). address_at w i + 24 + (begin_of w (i + 1) - k) ≤ length f) (begin_at w i (omega arith)) (told.lies w f s i (omega arith)));
          last = λ i l. subst (λ (k : ℕ). address_at w i + 24 + (k - position_at w i) ≤ length f) (next_past i l)
              (subst (λ (k : ℕ). address_at w i + 24 + (begin_of w (i + 1) - k) ≤ length f) (begin_at w i (omega arith)) (told.lies w f s i (omega arith)));
        }

    module _ (r : RightIn f w) where
      lies : (i : ℕ) → i < count_of w → address_at w i + 24 + (begin_of w (i + 1) - begin_of w i) ≤ length f
      lies i h = elim (eq-or-lt_of_le h) [
        | inl z ↦ let p = r.last i (omega arith) in omega (arith, begin_at w i h, next_past i (omega arith), p)
        | inr l ↦ let p = r.inside i (omega arith) in omega (arith, begin_at w i h, next_at i (omega arith), p)
      ]

      all_lie : (n : ℕ) → n ≤ count_of w → Inside f (fragments_in w n)
      unfolding fragments_in Inside
      all_lie zero h = tt
      all_lie (suc n) h = inside_more f (fragment_in w n) (fragments_in w n) (all_lie n (omega arith)) (lies n h)

      test_sound : sound f w ≡ true
      unfolding sound
      test_sound = rw (test_ordered r.order) (inside_tested f (blocks_in w) (all_lie (count_of w) (omega arith)))

    pub tests_right : Decides (sound f w) (RightIn f w)
    tests_right = (right_in, test_sound)
