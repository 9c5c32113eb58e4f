-- What a table that can be right tells of its fragments: where each begins, how much data they have, and that they lie in the file.
use mathlib.Core.Path.{◌≡◌, refl, sym, ap, subst, ◌∙◌}
use mathlib.Core.Bool.{true, ◌&&◌}
use mathlib.Core.Logic.{inl, inr}
use mathlib.Core.List.{List, [], ◌∷◌, ◌++◌, append_assoc, append-nil}
use Prim.Native.Nat.{ℕ, zero, suc, ◌+◌, ◌-◌, ◌≤◌, ◌<◌}
use native.Mathlib.Omega.{arith}
use native.Mathlib.Nat.{eq-or-lt_of_le}
use native.Mathlib.Numerals.{add-one}
use lib.ListN.{length, length-append}
use lib.Dec.{leb, eqb}
use borrow.Author.Tests.{leb-true, eqb-true}
use Rattle.definitions.specs.Chain.{Block, total, joined}
use Rattle.definitions.specs.Table.{table_limit, count_of, total_in, address_at, position_at, begin_of, fragment_in, fragments_in, blocks_in, rising, ordered, in_file, sound}
use Rattle.definitions.proofs.Replies.{both}
use Rattle.chain.specs.Walk.{Inside}
use Rattle.chain.proofs.Chains.{total_more, joined_length}
use Rattle.table.proofs.Ordered.{begin_at, begin_past}

-- ---- blocks in a file

pub inside_by : (f : List ℕ) (bs : List Block) → in_file (length f) bs ≡ true → Inside f bs
unfolding in_file Inside
inside_by f [] h = tt
inside_by f (b ∷ bs) h =
    let p = both (leb (b.address + 24 + b.size) (length f)) (in_file (length f) bs) h in
    (leb-true _ _ p.0, inside_by f bs p.1)

-- the first of them, and the others
inside_parts : (f : List ℕ) (xs ys : List Block) → Inside f (xs ++ ys) → Inside f xs × Inside f ys
unfolding Inside
inside_parts f [] ys h = (tt, h)
inside_parts f (x ∷ xs) ys h = let p = inside_parts f xs ys h.1 in ((h.0, p.0), p.1)

module _ (w : List ℕ) where
  -- ---- the first i fragments

  pub fragments_one : (i : ℕ) → fragments_in w (i + 1) ≡ fragments_in w i ++ (fragment_in w i ∷ [])
  unfolding fragments_in
  fragments_one i = ap (fragments_in w) (add-one i)

  pub length_fragments : (n : ℕ) → length (fragments_in w n) ≡ n
  unfolding fragments_in
  length_fragments zero = refl
  length_fragments (suc n) = omega (arith, length-append (fragments_in w n) (fragment_in w n ∷ []), length_fragments n)

  -- the others come behind them
  abbrev Split : ℕ → ℕ → Type 0
  Split n i = (rest : List Block) × (fragments_in w n ≡ fragments_in w i ++ rest)

  one_less : (n i : ℕ) → Split n i → Split (suc n) i
  unfolding fragments_in
  one_less n i s = (s.0 ++ (fragment_in w n ∷ []), ap (λ (l : List Block). l ++ (fragment_in w n ∷ [])) s.1 ∙ append_assoc (fragments_in w i) s.0 (fragment_in w n ∷ []))

  all_of : (n i : ℕ) → i ≡ n → Split n i
  all_of n i e = ([], ap (fragments_in w) (sym e) ∙ sym (append-nil (fragments_in w i)))

  pub split_at : (n i : ℕ) → i ≤ n → Split n i
  split_at zero i h = all_of zero i (omega arith)
  split_at (suc n) i h = elim (eq-or-lt_of_le h) [
    | inl e ↦ all_of (suc n) i e
    | inr l ↦ one_less n i (split_at n i (omega arith))
  ]

  -- ---- their positions

  rise_last : (n : ℕ) → rising w (suc n) ≡ true → (begin_of w n ≤ begin_of w (n + 1)) × (rising w n ≡ true)
  unfolding rising
  rise_last n h = let p = both (leb (begin_of w n) (begin_of w (n + 1))) (rising w n) h in (leb-true _ _ p.0, p.1)

  -- those of the first n rise, and with them those of the first i
  rise_first : (n i : ℕ) → i ≤ n → rising w n ≡ true → rising w i ≡ true
  rise_first zero i h r = let z : i ≡ 0 = omega arith in ap (rising w) z ∙ r
  rise_first (suc n) i h r = elim (eq-or-lt_of_le h) [
    | inl e ↦ ap (rising w) e ∙ r
    | inr l ↦ rise_first n i (omega arith) (rise_last n r).1
  ]

  -- their data ends where the next begins
  total_first : (n : ℕ) → begin_of w 0 ≡ 0 → rising w n ≡ true → total (fragments_in w n) ≡ begin_of w n
  unfolding fragments_in total
  total_first zero z r = sym z
  total_first (suc n) z r =
      let p = rise_last n r in
      let m : total (fragments_in w n) ≡ begin_of w n = total_first n z p.1 in
      let k = total_more (fragment_in w n) (fragments_in w n) in
      let s : begin_of w (n + 1) ≡ begin_of w (suc n) = ap (begin_of w) (add-one n) in
      omega (arith, p.0, m, k, s)

  -- ---- a table in order

  pub record InOrder : Type 0 where
    pub few : count_of w ≤ table_limit
    pub starts : begin_of w 0 ≡ 0
    pub rises : rising w (count_of w) ≡ true

  pub in_order : ordered w ≡ true → InOrder
  unfolding ordered
  in_order h =
      let p = both (leb (count_of w) table_limit && eqb (begin_of w 0) 0) (rising w (count_of w)) h in
      let q = both (leb (count_of w) table_limit) (eqb (begin_of w 0) 0) p.0 in
      record { few = leb-true _ _ q.0; starts = eqb-true _ _ q.1; rises = p.1 }

  module _ (o : InOrder) where
    pub rise_at : (i : ℕ) → i < count_of w → begin_of w i ≤ begin_of w (i + 1)
    rise_at i h = (rise_last i (rise_first (count_of w) (suc i) h o.rises)).0

    pub total_at : (i : ℕ) → i ≤ count_of w → total (fragments_in w i) ≡ begin_of w i
    total_at i h = total_first i o.starts (rise_first (count_of w) i h o.rises)

    pub total_all : total (blocks_in w) ≡ total_in w
    total_all = total_at (count_of w) (omega arith) ∙ begin_past w (count_of w) (omega arith)

    -- where there is data there is a fragment, and the first begins at 0
    pub some_first : 0 < total_in w → (0 < count_of w) × (position_at w 0 ≡ 0)
    some_first h = elim (eq-or-lt_of_le (zero_least (count_of w))) [
      | inl e ↦ let no : ⊥ = omega (arith, begin_past w 0 (omega arith), o.starts) in absurd no
      | inr l ↦ (l, sym (begin_at w 0 l) ∙ o.starts)
    ]
      where
        zero_least : (n : ℕ) → 0 ≤ n
        zero_least n = omega arith

  -- ---- a sound one

  module _ (f : List ℕ) (s : sound f w ≡ true) where
    pub sound_ordered : InOrder
    unfolding sound
    sound_ordered = in_order (both (ordered w) (in_file (length f) (blocks_in w)) s).0

    pub all_inside : Inside f (blocks_in w)
    unfolding sound
    all_inside = inside_by f (blocks_in w) (both (ordered w) (in_file (length f) (blocks_in w)) s).1

    pub first_inside : (i : ℕ) → i ≤ count_of w → Inside f (fragments_in w i)
    first_inside i h = let p = split_at (count_of w) i h in (inside_parts f (fragments_in w i) p.0 (subst (Inside f) p.1 all_inside)).0

    pub lies : (i : ℕ) → i < count_of w → address_at w i + 24 + (begin_of w (i + 1) - begin_of w i) ≤ length f
    unfolding Inside
    lies i h = (inside_parts f (fragments_in w i) (fragment_in w i ∷ []) (subst (Inside f) (fragments_one i) (first_inside (i + 1) (omega arith)))).1.0

    pub data_long : length (joined f (blocks_in w)) ≡ total_in w
    data_long = joined_length f (blocks_in w) all_inside ∙ total_all sound_ordered
