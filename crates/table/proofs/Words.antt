-- The words of a table worked out afresh: one block more, and the last one given up.
use mathlib.Core.Path.{◌≡◌, refl, sym, ap, ◌∙◌}
use mathlib.Core.List.{List, [], ◌∷◌, ◌++◌, append_assoc}
use Prim.Native.Nat.{ℕ, suc, ◌+◌, ◌-◌, ◌*◌, ◌<◌}
use native.Mathlib.Omega.{arith}
use lib.ListN.{length, get_or, set, replicate, length-append}
use lib.Seq.{set_at, get_or_at}
use Rattle.definitions.specs.Chain.{Block, total}
use Rattle.definitions.specs.Table.{table_limit, address_at, position_at, places_of, table_of, with_block, without_last}
use Rattle.chain.proofs.Chains.{total_more}

-- ---- the words around place k

abbrev words : ℕ → ℕ → List ℕ → ℕ → ℕ → List ℕ → List ℕ
words c t front x y rest = c ∷ t ∷ (front ++ x ∷ y ∷ rest)

module _ (c t : ℕ) (front : List ℕ) (x y : ℕ) (rest : List ℕ) (k : ℕ) (h : length front ≡ k * 2) where
  first : 2 + k * 2 ≡ suc (suc (k * 2))
  first = omega arith

  second : 3 + k * 2 ≡ suc (suc (k * 2 + 1))
  second = omega arith

  one_behind : length (front ++ x ∷ []) ≡ k * 2 + 1
  one_behind = length-append front (x ∷ []) ∙ omega arith

  set_first : (a : ℕ) → set (words c t front x y rest) (2 + k * 2) a ≡ words c t front a y rest
  set_first a = ap (λ (i : ℕ). set (words c t front x y rest) i a) first ∙ ap (λ (l : List ℕ). c ∷ t ∷ l) (set_at front x (y ∷ rest) a (k * 2) h)

  set_second : (a : ℕ) → set (words c t front x y rest) (3 + k * 2) a ≡ words c t front x a rest
  set_second a =
      ap (λ (i : ℕ). set (words c t front x y rest) i a) second
      ∙ ap (λ (l : List ℕ). c ∷ t ∷ l)
      (ap (λ (l : List ℕ). set l (k * 2 + 1) a) (sym (append_assoc front (x ∷ []) (y ∷ rest)))
      ∙ set_at (front ++ x ∷ []) y rest a (k * 2 + 1) one_behind
      ∙ append_assoc front (x ∷ []) (a ∷ rest))

  pub get_first : address_at (words c t front x y rest) k ≡ x
  get_first = ap (λ (i : ℕ). get_or (words c t front x y rest) i 0) first ∙ get_or_at front x (y ∷ rest) 0 (k * 2) h

  pub get_second : position_at (words c t front x y rest) k ≡ y
  get_second =
      ap (λ (i : ℕ). get_or (words c t front x y rest) i 0) second
      ∙ ap (λ (l : List ℕ). get_or l (k * 2 + 1) 0) (sym (append_assoc front (x ∷ []) (y ∷ rest)))
      ∙ get_or_at (front ++ x ∷ []) y rest 0 (k * 2 + 1) one_behind

-- the count, the total and one place: all that extending and giving up change
set_four : (c t : ℕ) (front : List ℕ) (x y : ℕ) (rest : List ℕ) (k : ℕ) → length front ≡ k * 2 → (c' t' x' y' : ℕ)
    → set (set (set (set (words c t front x y rest) 0 c') 1 t') (2 + k * 2) x') (3 + k * 2) y' ≡ words c' t' front x' y' rest
set_four c t front x y rest k h c' t' x' y' =
    ap (λ (l : List ℕ). set l (3 + k * 2) y') (set_first c' t' front x y rest k h x') ∙ set_second c' t' front x' y rest k h y'

-- ---- blocks listed

places_more : (p : ℕ) (bs : List Block) (b : Block) → places_of p (bs ++ (b ∷ [])) ≡ places_of p bs ++ b.address ∷ (p + total bs) ∷ []
unfolding places_of total
places_more p [] b = ap (λ (n : ℕ). b.address ∷ n ∷ []) (omega arith)
places_more p (c ∷ cs) b =
    ap (λ (l : List ℕ). c.address ∷ p ∷ l)
    (places_more (p + c.size) cs b ∙ ap (λ (n : ℕ). places_of (p + c.size) cs ++ b.address ∷ n ∷ []) (omega arith))

length_places : (p : ℕ) (bs : List Block) → length (places_of p bs) ≡ length bs * 2
unfolding places_of
length_places p [] = refl
length_places p (b ∷ bs) = omega (arith, length_places (p + b.size) bs)

-- n places that are free
abbrev free : ℕ → List ℕ
free n = replicate (n * 2) 0

one_free : (n : ℕ) → 0 < n → free n ≡ 0 ∷ 0 ∷ free (n - 1)
one_free n h = let e : n * 2 ≡ suc (suc ((n - 1) * 2)) = omega arith in ap (λ (k : ℕ). replicate k 0) e

module _ (bs : List Block) (b : Block) (room : length bs < table_limit) where
  abbrev left : ℕ
  left = table_limit - length bs - 1

  -- the same words around the place that the block takes
  without : table_of bs ≡ words (length bs) (total bs) (places_of 0 bs) 0 0 (free left)
  without =
      let n : table_limit * 2 - length bs * 2 ≡ (table_limit - length bs) * 2 = omega arith in
      ap (λ (l : List ℕ). length bs ∷ total bs ∷ (places_of 0 bs ++ l)) (ap (λ (k : ℕ). replicate k 0) n ∙ one_free (table_limit - length bs) (omega arith))

  with_it : table_of (bs ++ (b ∷ [])) ≡ words (length bs + 1) (total bs + b.size) (places_of 0 bs) b.address (total bs) (free left)
  with_it =
      let more : length (bs ++ (b ∷ [])) ≡ length bs + 1 = length-append bs (b ∷ []) in
      let n : table_limit * 2 - length (bs ++ (b ∷ [])) * 2 ≡ left * 2 = omega (arith, more) in
      ap (λ (c : ℕ). c ∷ total (bs ++ (b ∷ [])) ∷ (places_of 0 (bs ++ (b ∷ [])) ++ replicate (table_limit * 2 - length (bs ++ (b ∷ [])) * 2) 0)) more
      ∙ ap (λ (t : ℕ). (length bs + 1) ∷ t ∷ (places_of 0 (bs ++ (b ∷ [])) ++ replicate (table_limit * 2 - length (bs ++ (b ∷ [])) * 2) 0)) (total_more b bs)
      ∙ ap (λ (k : ℕ). (length bs + 1) ∷ (total bs + b.size) ∷ (places_of 0 (bs ++ (b ∷ [])) ++ replicate k 0)) n
      ∙ ap (λ (l : List ℕ). (length bs + 1) ∷ (total bs + b.size) ∷ (l ++ free left)) (places_more 0 bs b)
      ∙ ap (λ (l : List ℕ). (length bs + 1) ∷ (total bs + b.size) ∷ l)
      (append_assoc (places_of 0 bs) (b.address ∷ (0 + total bs) ∷ []) (free left)
      ∙ ap (λ (k : ℕ). places_of 0 bs ++ b.address ∷ k ∷ free left) (omega arith))

  pub one_more : with_block (table_of bs) b ≡ table_of (bs ++ (b ∷ []))
  unfolding with_block
  one_more =
      ap (λ (w : List ℕ). set (set (set (set w 0 (length bs + 1)) 1 (total bs + b.size)) (2 + length bs * 2) b.address) (3 + length bs * 2) (total bs)) without
      ∙ set_four (length bs) (total bs) (places_of 0 bs) 0 0 (free left) (length bs) (length_places 0 bs) (length bs + 1) (total bs + b.size) b.address (total bs)
      ∙ sym with_it

  -- back
  dropped : (w : List ℕ) → w ≡ words (length bs + 1) (total bs + b.size) (places_of 0 bs) b.address (total bs) (free left)
      → without_last w ≡ words (length bs) (total bs) (places_of 0 bs) 0 0 (free left)
  unfolding without_last
  dropped w e =
      let v : List ℕ = words (length bs + 1) (total bs + b.size) (places_of 0 bs) b.address (total bs) (free left) in
      let n : length bs + 1 - 1 ≡ length bs = omega arith in
      let p : position_at v (length bs) ≡ total bs = get_second (length bs + 1) (total bs + b.size) (places_of 0 bs) b.address (total bs) (free left) (length bs) (length_places 0 bs) in
      ap without_last e
      ∙ ap (λ (k : ℕ). set (set (set (set v 0 k) 1 (position_at v k)) (2 + k * 2) 0) (3 + k * 2) 0) n
      ∙ ap (λ (t : ℕ). set (set (set (set v 0 (length bs)) 1 t) (2 + length bs * 2) 0) (3 + length bs * 2) 0) p
      ∙ set_four (length bs + 1) (total bs + b.size) (places_of 0 bs) b.address (total bs) (free left) (length bs) (length_places 0 bs) (length bs) (total bs) 0 0

  pub one_less : without_last (table_of (bs ++ (b ∷ []))) ≡ table_of bs
  one_less = dropped (table_of (bs ++ (b ∷ []))) with_it ∙ sym without
