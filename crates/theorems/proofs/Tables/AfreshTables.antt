-- A table worked out afresh from blocks of a file: it can be right there, and holds these blocks and no others.
use mathlib.Core.Path.{◌≡◌, refl, sym, ap, ap₂, subst, ◌∙◌}
use mathlib.Core.Bool.{true}
use mathlib.Core.List.{List, [], ◌∷◌, ◌++◌, append_assoc, append-nil}
use Prim.Native.Nat.{ℕ, ◌+◌, ◌-◌, ◌*◌, ◌≤◌}
use native.Mathlib.Omega.{arith}
use native.Mathlib.Numerals.{add-one}
use lib.ListN.{length, replicate, length-append}
use borrow.Author.Tests.{le-leb, eq-eqb}
use Rattle.definitions.specs.Chain.{Block, total}
use Rattle.definitions.specs.Table.{table_limit, count_of, total_in, address_at, position_at, begin_of, fragment_in, fragments_in, blocks_in, rising, ordered, sound, places_of, table_of}
use Rattle.chain.specs.Walk.{Inside}
use Rattle.table.proofs.Words.{get_first, get_second}
use Rattle.table.proofs.Ordered.{begin_at, begin_past}
use Rattle.table.proofs.Fragments.{fragments_one}
use Rattle.theorems.proofs.Tables.RightTables.{inside_tested}

-- from place i on the blocks are listed, with p bytes of data before them
unfoldable Lists : List ℕ → ℕ → ℕ → List Block → Type 0
Lists w i p [] = Unit {0}
Lists w i p (b ∷ bs) = (address_at w i ≡ b.address) × (position_at w i ≡ p) × Lists w (i + 1) (p + b.size) bs

lists_at : (c t : ℕ) (front rest : List ℕ) (i p : ℕ) (bs : List Block) → length front ≡ i * 2 → Lists (c ∷ t ∷ (front ++ (places_of p bs ++ rest))) i p bs
unfolding Lists places_of
lists_at c t front rest i p [] h = tt
lists_at c t front rest i p (b ∷ bs) h =
    let more : List ℕ = places_of (p + b.size) bs ++ rest in
    let same : front ++ b.address ∷ p ∷ more ≡ (front ++ b.address ∷ p ∷ []) ++ more = sym (append_assoc front (b.address ∷ p ∷ []) more) in
    let long : length (front ++ b.address ∷ p ∷ []) ≡ (i + 1) * 2 = omega (arith, length-append front (b.address ∷ p ∷ []), h) in (
      get_first c t front b.address p more i h,
      get_second c t front b.address p more i h,
      subst (λ (l : List ℕ). Lists (c ∷ t ∷ l) (i + 1) (p + b.size) bs) (sym same) (lists_at c t (front ++ b.address ∷ p ∷ []) rest (i + 1) (p + b.size) bs long),
    )

-- i fragments and the blocks are all of the table w
module _ (w : List ℕ) where
  -- the next fragment begins where the data before it ends
  lists_begin : (bs : List Block) (i p : ℕ) → Lists w i p bs → i + length bs ≡ count_of w → p + total bs ≡ total_in w → begin_of w i ≡ p
  unfolding Lists total
  lists_begin [] i p h n t = begin_past w i (omega arith) ∙ omega (arith, t)
  lists_begin (b ∷ bs) i p h n t = begin_at w i (omega (arith, n)) ∙ h.1

  module _ (b : Block) (bs : List Block) (i p : ℕ) (h : Lists w i p (b ∷ bs)) (n : i + length (b ∷ bs) ≡ count_of w) (t : p + total (b ∷ bs) ≡ total_in w) where
    rest : Lists w (i + 1) (p + b.size) bs
    unfolding Lists
    rest = h.2

    address_is : address_at w i ≡ b.address
    unfolding Lists
    address_is = h.0

    rest_count_law : i + 1 + length bs ≡ count_of w
    rest_count_law = omega (arith, n)

    rest_total : p + b.size + total bs ≡ total_in w
    unfolding total
    rest_total = omega (arith, t)

    begin_here : begin_of w i ≡ p
    begin_here = lists_begin (b ∷ bs) i p h n t

    begin_next : begin_of w (i + 1) ≡ p + b.size
    begin_next = lists_begin bs (i + 1) (p + b.size) rest rest_count_law rest_total

    block_is : fragment_in w i ≡ b
    block_is =
        let size : begin_of w (i + 1) - begin_of w i ≡ b.size = omega (arith, begin_here, begin_next) in
        ap₂ (λ (x y : ℕ). record { address = x; size = y }) address_is size

  lists_blocks : (bs : List Block) (i p : ℕ) → Lists w i p bs → i + length bs ≡ count_of w → p + total bs ≡ total_in w → blocks_in w ≡ fragments_in w i ++ bs
  lists_blocks [] i p h n t = let e : count_of w ≡ i = omega (arith, n) in ap (fragments_in w) e ∙ sym (append-nil (fragments_in w i))
  lists_blocks (b ∷ bs) i p h n t =
      lists_blocks bs (i + 1) (p + b.size) (rest b bs i p h n t) (rest_count_law b bs i p h n t) (rest_total b bs i p h n t)
      ∙ ap (λ (l : List Block). l ++ bs) (fragments_one w i ∙ ap (λ (x : Block). fragments_in w i ++ (x ∷ [])) (block_is b bs i p h n t))
      ∙ append_assoc (fragments_in w i) (b ∷ []) bs

  rise_one : (i : ℕ) → begin_of w i ≤ begin_of w (i + 1) → rising w i ≡ true → rising w (i + 1) ≡ true
  unfolding rising
  rise_one i l r = ap (rising w) (add-one i) ∙ rw (le-leb _ _ l) r

  lists_rise : (bs : List Block) (i p : ℕ) → Lists w i p bs → i + length bs ≡ count_of w → p + total bs ≡ total_in w → rising w i ≡ true → rising w (count_of w) ≡ true
  lists_rise [] i p h n t r = let e : count_of w ≡ i = omega (arith, n) in ap (rising w) e ∙ r
  lists_rise (b ∷ bs) i p h n t r =
      lists_rise bs (i + 1) (p + b.size) (rest b bs i p h n t) (rest_count_law b bs i p h n t) (rest_total b bs i p h n t)
      (rise_one i (omega (arith, begin_here b bs i p h n t, begin_next b bs i p h n t)) r)

module _ (bs : List Block) where
  held : Lists (table_of bs) 0 0 bs
  held = lists_at (length bs) (total bs) [] (replicate (table_limit * 2 - length bs * 2) 0) 0 0 bs refl

  count_all : 0 + length bs ≡ length bs
  count_all = omega arith

  total_all : 0 + total bs ≡ total bs
  total_all = omega arith

  -- these blocks and no others
  pub blocks_back : blocks_in (table_of bs) ≡ bs
  unfolding fragments_in
  blocks_back = lists_blocks (table_of bs) bs 0 0 held count_all total_all

  -- and it can be right in their file
  pub ordered_afresh : length bs ≤ table_limit → ordered (table_of bs) ≡ true
  unfolding ordered rising
  ordered_afresh few =
      rw (le-leb _ _ few, eq-eqb _ _ (lists_begin (table_of bs) bs 0 0 held count_all total_all))
      (lists_rise (table_of bs) bs 0 0 held count_all total_all refl)

  pub sound_afresh : (f : List ℕ) → length bs ≤ table_limit → Inside f bs → sound f (table_of bs) ≡ true
  unfolding sound
  sound_afresh f few h = rw (ordered_afresh few, blocks_back) (inside_tested f bs h)
