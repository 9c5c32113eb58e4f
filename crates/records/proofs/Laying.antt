-- A window on a longer list: what is laid into it piece by piece is what is laid at once.
use mathlib.Core.Path.{◌≡◌, sym, ap, ap₂, ◌∙◌}
use mathlib.Core.Logic.{⊎_elim}
use mathlib.Core.List.{List, [], ◌∷◌, ◌++◌, append_assoc, append-nil}
use Prim.Native.Nat.{ℕ, ◌+◌, ◌-◌, ◌≤◌, ◌<◌, min}
use native.Mathlib.Omega.{arith}
use native.Mathlib.Nat.{add-zero}
use lib.ListN.{length, take, drop, length-append, length-take, length-drop, take-append-drop, drop_of_length-le}
use lib.Seq.{take_all, take-nil, drop-drop, paste, take-append_seam, take-append-le, drop-append-le, take-append-add, drop-append-add}
use Rattle.definitions.specs.Bytes.{span}
use Rattle.definitions.specs.Chain.{Block, data_of, joined, total}
use Rattle.definitions.proofs.Replies.{le_or_lt}
use Rattle.records.specs.Window.{overwritten, laid}
use Rattle.chain.specs.Walk.{Inside}
use Rattle.chain.proofs.Chains.{joined_length, joined_more, joined_append}

-- nothing is laid over d
overwritten_none : (d : List ℕ) (g : ℕ) → overwritten d g [] ≡ d
unfolding overwritten
overwritten_none d g = rw (take-nil, append-nil, add-zero) (take-append-drop g d)

-- nothing is left of d from g on
overwritten_past : (d : List ℕ) (g : ℕ) (c : List ℕ) → length d ≤ g → overwritten d g c ≡ d
unfolding overwritten
overwritten_past d g c h =
    let z : length d - g ≡ 0 = omega arith in
    rw (take_all g d h, z, drop_of_length-le d {i = g + length c} (omega arith)) (append-nil (d ++ []) ∙ append-nil d)

-- what a loop has copied that stops where either list ends
pub overwritten_paste : (d : List ℕ) (g : ℕ) (c : List ℕ) (n : ℕ) → g ≤ length d → n ≡ min (length d - g) (length c) → paste d g c n ≡ overwritten d g c
unfolding overwritten
overwritten_paste d g c n h e = ⊎_elim
    (λ (l : length c ≤ length d - g).
    let m : n ≡ length c = omega arith in
    rw (m, take_all (length c) c (omega arith), take_all (length d - g) c l))
    (λ (l : length d - g < length c).
    let m : n ≡ length d - g = omega arith in
    rw (m, drop_of_length-le d {i = g + (length d - g)} (omega arith), drop_of_length-le d {i = g + length c} (omega arith)))
    (le_or_lt (length c) (length d - g))

length_overwritten : (d : List ℕ) (g : ℕ) (c : List ℕ) → length (overwritten d g c) ≡ length d
unfolding overwritten
length_overwritten d g c = simp (length-append, length-take, length-drop) (omega arith)

-- b ends before the window
pub laid_before : (d : List ℕ) (from p : ℕ) (b : List ℕ) → length b ≤ from - p → laid d from p b ≡ d
unfolding laid
laid_before d from p b h = rw (drop_of_length-le b {i = from - p} h) (overwritten_none d (p - from))

-- b begins behind it
pub laid_after : (d : List ℕ) (from p : ℕ) (b : List ℕ) → length d < p - from → laid d from p b ≡ d
unfolding laid
laid_after d from p b h = overwritten_past d _ _ (omega arith)

-- the window holds nothing but data
pub laid_whole : (d : List ℕ) (from : ℕ) (j : List ℕ) → from + length d ≤ length j → laid d from 0 j ≡ span j from (length d)
unfolding laid overwritten
laid_whole d from j h =
    let e : from - 0 ≡ from = omega arith in
    let g : 0 - from ≡ 0 = omega arith in
    let n : length d - 0 ≡ length d = omega arith in
    rw (e, g, n, drop_of_length-le d {i = 0 + length (drop from j)} (omega (arith, length-drop from j))) (append-nil _)

-- over the front, what fits of it and what is left of d
overwritten_front : (d a : List ℕ) → overwritten d 0 a ≡ take (length d) a ++ drop (length a) d
unfolding overwritten
overwritten_front d a =
    let n : length d - 0 ≡ length d = omega arith in
    let m : 0 + length a ≡ length a = omega arith in
    rw (n, m)

-- behind a
overwritten_seam : (d a b : List ℕ) → overwritten (a ++ d) (length a) b ≡ a ++ overwritten d 0 b
unfolding overwritten
overwritten_seam d a b =
    let n : length (a ++ d) - length a ≡ length d - 0 = omega (arith, length-append a d) in
    let m : 0 + length b ≡ length b = omega arith in
    rw (take-append_seam a d, n, drop-append-add a d (length b), m) (append_assoc a (take (length d - 0) b) (drop (length b) d))

-- two in a row are both at once
overwritten_twice : (d a b : List ℕ) → overwritten (overwritten d 0 a) (length a) b ≡ overwritten d 0 (a ++ b)
overwritten_twice d a b = ⊎_elim
    (λ (l : length a ≤ length d).
    let n : length d ≡ length a + length (drop (length a) d) = omega (arith, length-drop (length a) d) in
    let t : take (length d) (a ++ b) ≡ a ++ take (length (drop (length a) d)) b =
    ap (λ (k : ℕ). take k (a ++ b)) n ∙ take-append-add a b _ in
    let r : drop (length b) (drop (length a) d) ≡ drop (length (a ++ b)) d =
    drop-drop (length b) (length a) d ∙ ap (λ (k : ℕ). drop k d) (sym (length-append a b)) in
    ap (λ (e : List ℕ). overwritten e (length a) b) (overwritten_front d a ∙ ap (λ (e : List ℕ). e ++ drop (length a) d) (take_all (length d) a l))
    ∙ overwritten_seam (drop (length a) d) a b
    ∙ ap (λ (e : List ℕ). a ++ e) (overwritten_front (drop (length a) d) b)
    ∙ sym (append_assoc a _ _)
    ∙ ap₂ (λ (x y : List ℕ). x ++ y) (sym t) r
    ∙ sym (overwritten_front d (a ++ b)))
    (λ (l : length d < length a).
    let f : (c : List ℕ) → length d ≤ length c → overwritten d 0 c ≡ take (length d) c =
    λ c h. overwritten_front d c ∙ ap (λ (e : List ℕ). take (length d) c ++ e) (drop_of_length-le d h) ∙ append-nil _ in
    overwritten_past (overwritten d 0 a) (length a) b (omega (arith, length_overwritten d 0 a))
    ∙ f a (omega arith) ∙ sym (take-append-le (length d) a b (omega arith)) ∙ sym (f (a ++ b) (omega (arith, length-append a b))))
    (le_or_lt (length a) (length d))

-- the window on what stands at the front
laid_front : (d : List ℕ) (from : ℕ) (j : List ℕ) → laid d from 0 j ≡ overwritten d 0 (drop from j)
unfolding laid
laid_front d from j =
    let e : from - 0 ≡ from = omega arith in
    let g : 0 - from ≡ 0 = omega arith in
    rw (e, g)

-- a window on j, with b laid behind j, is the window on both
laid_more : (d : List ℕ) (from : ℕ) (j b : List ℕ) → laid (laid d from 0 j) from (length j) b ≡ laid d from 0 (j ++ b)
unfolding laid
laid_more d from j b = ⊎_elim
    (λ (l : from ≤ length j).
    let g : length j - from ≡ length (drop from j) = sym (length-drop from j) in
    let s : from - length j ≡ 0 = omega arith in
    ap (λ (e : List ℕ). overwritten e (length j - from) (drop (from - length j) b)) (laid_front d from j)
    ∙ ap₂ (λ (x y : ℕ). overwritten (overwritten d 0 (drop from j)) x (drop y b)) g s
    ∙ overwritten_twice d (drop from j) b
    ∙ ap (overwritten d 0) (sym (drop-append-le from j b l))
    ∙ sym (laid_front d from (j ++ b)))
    (λ (l : length j < from).
    let g : length j - from ≡ 0 = omega arith in
    let n : from ≡ length j + (from - length j) = omega arith in
    let t : drop from (j ++ b) ≡ drop (from - length j) b = ap (λ (k : ℕ). drop k (j ++ b)) n ∙ drop-append-add j b (from - length j) in
    ap (λ (e : List ℕ). overwritten e (length j - from) (drop (from - length j) b)) (laid_before d from 0 j (omega arith))
    ∙ ap₂ (λ (x : ℕ) (y : List ℕ). overwritten d x y) g (sym t)
    ∙ sym (laid_front d from (j ++ b)))
    (le_or_lt from (length j))

-- b without the bytes before the window, from its place in the window on
pub laid_part : (d : List ℕ) (from p : ℕ) (b : List ℕ) (g k : ℕ) → g ≡ p - from → k ≡ from - p → overwritten d g (take (length b - k) (drop k b)) ≡ laid d from p b
unfolding laid
laid_part d from p b g k eg ek =
    ap (overwritten d g) (take_all (length b - k) (drop k b) (omega (arith, length-drop k b)))
    ∙ ap₂ (λ (x y : ℕ). overwritten d x (drop y b)) eg ek

-- what comes behind a window does not matter to it
laid_full : (d : List ℕ) (from : ℕ) (xs ys : List ℕ) → from + length d ≤ length xs → laid d from 0 (xs ++ ys) ≡ laid d from 0 xs
laid_full d from xs ys h =
    let more : from + length d ≤ length (xs ++ ys) = omega (arith, length-append xs ys) in
    let low : from ≤ length xs = omega arith in
    let room : length d ≤ length (drop from xs) = omega (arith, length-drop from xs) in
    laid_whole d from (xs ++ ys) more
    ∙ ap (take (length d)) (drop-append-le from xs ys low) ∙ take-append-le (length d) (drop from xs) ys room
    ∙ sym (laid_whole d from xs h)

-- ---- the data of blocks in turn, whoever lists them: `bs` are those so far, which end at p

module _ (d : List ℕ) (from : ℕ) (f : List ℕ) (bs : List Block) (p : ℕ) (inside : Inside f bs) (size : total bs ≡ p) where
  long : p ≡ length (joined f bs)
  long = sym (joined_length f bs inside ∙ size)

  -- none reaches into the window
  pub lay_start : p ≤ from → d ≡ laid d from 0 (joined f bs)
  lay_start l = sym (laid_before d from 0 (joined f bs) (omega (arith, long)))

  module _ (out : List ℕ) (so : out ≡ laid d from 0 (joined f bs)) where
    -- the data x of one more is laid
    pub lay_turn : (b : Block) (x new : List ℕ) → x ≡ data_of f b → new ≡ laid out from p x → new ≡ laid d from 0 (joined f (bs ++ (b ∷ [])))
    lay_turn b x new its turn = turn ∙ rw (so, its, long, joined_more f b bs) (laid_more d from (joined f bs) (data_of f b))

    -- the window is full, whatever blocks come behind
    pub lay_full : (rest all : List Block) → all ≡ bs ++ rest → from + length d ≤ p → out ≡ laid d from 0 (joined f all)
    lay_full rest all is full =
        let enough : from + length d ≤ length (joined f bs) = omega (arith, long) in
        so ∙ sym (ap (λ (xs : List Block). laid d from 0 (joined f xs)) is ∙ ap (laid d from 0) (joined_append f bs rest) ∙ laid_full d from (joined f bs) (joined f rest) enough)
