-- A window on the data of a table's fragments.
use mathlib.Core.Path.{◌≡◌, refl, sym, ap, ◌∙◌}
use mathlib.Core.Bool.{true}
use mathlib.Core.List.{List, [], ◌∷◌, ◌++◌}
use Prim.Native.Nat.{ℕ, ◌+◌, ◌-◌, ◌≤◌, ◌<◌}
use native.Mathlib.Omega.{arith}
use lib.ListN.{length}
use Rattle.definitions.specs.Chain.{Block, data_of, joined, total}
use Rattle.definitions.specs.Table.{count_of, address_at, position_at, begin_of, fragment_in, fragments_in, blocks_in, ordered, in_file, sound}
use Rattle.definitions.proofs.Replies.{both}
use Rattle.chain.specs.Walk.{Inside}
use Rattle.records.specs.Window.{laid}
use Rattle.records.proofs.Laying.{lay_start, lay_turn, lay_full}
use Rattle.table.proofs.Ordered.{begin_at}
use Rattle.table.proofs.Fragments.{fragments_one, split_at, rise_at, total_at, sound_ordered, first_inside, lies}

pub sound_order : (f w : List ℕ) → sound f w ≡ true → ordered w ≡ true
unfolding sound
sound_order f w s = (both (ordered w) (in_file (length f) (blocks_in w)) s).0

module _ (f w : List ℕ) (s : sound f w ≡ true) (d : List ℕ) (from i : ℕ) (one : i < count_of w) where
  size_here : total (fragments_in w i) ≡ position_at w i
  size_here = total_at w (sound_ordered w f s) i (omega arith) ∙ begin_at w i one

  before : Inside f (fragments_in w i)
  before = first_inside w f s i (omega arith)

  -- the data of the fragments before i is laid into the window
  abbrev pub Laid : List ℕ → Type 0
  Laid out = out ≡ laid d from 0 (joined f (fragments_in w i))

  pub window_start : position_at w i ≤ from → Laid d
  window_start l = lay_start d from f (fragments_in w i) (position_at w i) before size_here l

  -- fragment i, which begins at p and ends at e
  module _ (a p e : ℕ) (ha : a ≡ address_at w i) (hp : p ≡ position_at w i) (he : e ≡ begin_of w (i + 1)) where
    begins : p ≡ begin_of w i
    begins = hp ∙ sym (begin_at w i one)

    pub rises : p ≤ e
    rises = omega (arith, begins, he, rise_at w (sound_ordered w f s) i one)

    pub lies_in : a + 24 + (e - p) ≤ length f
    lies_in = rw (ha, begins, he) (lies w f s i one)

    -- its data x is laid too
    abbrev pub Turned : List ℕ → Type 0
    Turned new = new ≡ laid d from 0 (joined f (fragments_in w (i + 1)))

    pub window_turn : (x out new : List ℕ) → Laid out → x ≡ data_of f (record { address = a; size = e - p }) → new ≡ laid out from p x → Turned new
    window_turn x out new so its turn =
        let block : record { address = a; size = e - p } ≡ fragment_in w i = rw (ha, begins, he) refl in
        lay_turn d from f (fragments_in w i) p before (size_here ∙ sym hp) out so (record { address = a; size = e - p }) x new its turn
        ∙ ap (λ (b : Block). laid d from 0 (joined f (fragments_in w i ++ (b ∷ [])))) block
        ∙ ap (λ (l : List Block). laid d from 0 (joined f l)) (sym (fragments_one w i))

    -- the window is full
    pub window_end : (new : List ℕ) → from + length d ≤ e → Turned new → new ≡ laid d from 0 (joined f (blocks_in w))
    window_end new full so =
        let part = split_at w (count_of w) (i + 1) (omega arith) in
        lay_full d from f (fragments_in w (i + 1)) e (first_inside w f s (i + 1) (omega arith)) (total_at w (sound_ordered w f s) (i + 1) (omega arith) ∙ sym he)
        new so part.0 (blocks_in w) part.1 full
