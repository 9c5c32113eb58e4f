-- In a chain whose lists declare one length, a block begins as many lengths into the joined data as there are blocks before it,
-- and a list as many counts into the blocks as there are lists before it: so a tool may find blocks by these two numbers.
use mathlib.Core.Path.{◌≡◌, sym, ap, ◌∙◌}
use mathlib.Core.List.{List, [], ◌∷◌, ◌++◌, append-nil}
use mathlib.Core.Logic.{inl, inr}
use Prim.Native.Nat.{ℕ, ◌+◌, ◌*◌, ◌<◌}
use native.Mathlib.Nat.{add-mul}
use native.Mathlib.Omega.{arith}
use lib.ListN.{length, drop, length-append}
use Rattle.definitions.specs.Bytes.{u64_at, bit}
use Rattle.definitions.specs.DataList.{DataList}
use Rattle.definitions.specs.Chain.{Block, total}
use Rattle.definitions.specs.Accepted.{Each, Part, blocks_of, BlockListed, PartStands, DeclaresLength, Accepted}
use Rattle.chain.proofs.Chains.{total_more}
use Rattle.theorems.proofs.Chains.AcceptedChains.{blocks_one}

-- ---- equal steps

-- an element behind which there is another takes n
abbrev Even : {A : Type 0} → (A → ℕ) → ℕ → List A → A → List A → Type 0
Even size n before x after = 0 < length after → size x ≡ n

-- and so the elements before each take n times as much as they are
module _ {A : Type 0} (size : A → ℕ) (sum : List A → ℕ) (more : (xs : List A) (x : A) → sum (xs ++ (x ∷ [])) ≡ sum xs + size x) (n : ℕ) where
  one_step : (xs : List A) (x : A) → sum xs ≡ length xs * n → size x ≡ n → sum (xs ++ (x ∷ [])) ≡ length (xs ++ (x ∷ [])) * n
  one_step xs x e s =
      let l : length (xs ++ (x ∷ [])) ≡ length xs + 1 = length-append xs (x ∷ []) in
      rw l (omega (arith, more xs x, add-mul (length xs) 1 n))

  steps : (xs ys : List A) → sum xs ≡ length xs * n → Each (Even size n) xs ys → Each (λ before y after. sum before ≡ length before * n) xs ys
  unfolding Each
  steps xs [] e h = tt
  steps xs (y ∷ []) e h = (e, tt)
  steps xs (y ∷ z ∷ zs) e h = (e, steps (xs ++ (y ∷ [])) (z ∷ zs) (one_step xs y e (h.0 (omega arith))) h.1)

-- ---- the blocks of one list

module _ (id f : List ℕ) (a : ℕ) (d : DataList) (p n : ℕ) (flag : bit d.flags 0 ≡ 1) (declares : u64_at (drop a f) d.rest_at ≡ n) where
  -- the last list: all but its last block
  last_even : (bs cs ds : List Block) → Each (BlockListed id f a d p) bs cs → Each (Even (λ (b : Block). b.size) n) ds cs
  unfolding Each
  last_even bs [] ds h = tt
  last_even bs (c ∷ cs) ds h =
      (λ m. h.0.truthful.full flag (inl m) ∙ declares, last_even (bs ++ (c ∷ [])) cs (ds ++ (c ∷ [])) h.1)

  -- a list behind which there is another: all of them, whatever blocks come behind
  inner_even : 0 < d.next → (more : List Block) → ((es : List Block) → Each (Even (λ (b : Block). b.size) n) es more)
      → (bs cs ds : List Block) → Each (BlockListed id f a d p) bs cs → Each (Even (λ (b : Block). b.size) n) ds (cs ++ more)
  unfolding Each
  inner_even next more g bs [] ds h = g ds
  inner_even next more g bs (c ∷ cs) ds h =
      (λ m. h.0.truthful.full flag (inr next) ∙ declares, inner_even next more g (bs ++ (c ∷ [])) cs (ds ++ (c ∷ [])) h.1)

-- ---- the lists of a chain

module _ (id f : List ℕ) (n c : ℕ) where
  blocks_even : (ps qs : List Part) → Each (PartStands id f) ps qs → Each (DeclaresLength f n c) ps qs
      → (bs : List Block) → Each (Even (λ (b : Block). b.size) n) bs (blocks_of qs)
  unfolding Each blocks_of
  blocks_even ps [] h d bs = tt
  blocks_even ps (q ∷ []) h d bs =
      rw (append-nil q.blocks) (last_even id f q.address q.list _ n d.0.flag d.0.declares [] q.blocks bs h.0.each)
  blocks_even ps (q ∷ r ∷ rs) h d bs =
      let next : 0 < q.list.next = omega (arith, h.0.next, h.1.0.somewhere) in
      inner_even id f q.address q.list _ n d.0.flag d.0.declares next (blocks_of (r ∷ rs))
      (blocks_even (ps ++ (q ∷ [])) (r ∷ rs) h.1 d.1) [] q.blocks bs h.0.each

  lists_even : (ps qs : List Part) → Each (PartStands id f) ps qs → Each (DeclaresLength f n c) ps qs → Each (Even (λ (q : Part). length q.blocks) c) ps qs
  unfolding Each
  lists_even ps [] h d = tt
  lists_even ps (q ∷ []) h d = (λ m. absurd (omega arith), tt)
  lists_even ps (q ∷ r ∷ rs) h d =
      let next : 0 < q.list.next = omega (arith, h.0.next, h.1.0.somewhere) in
      (λ m. h.0.links ∙ sym h.0.count ∙ d.0.counts next, lists_even (ps ++ (q ∷ [])) (r ∷ rs) h.1 d.1)

module _ (id f : List ℕ) (start : ℕ) (blocks : List Block) (h : Accepted id f start blocks) (n c : ℕ) (d : Each (DeclaresLength f n c) [] h.parts) where
  -- where a block's data begins
  pub block_begins : Each (λ before b after. total before ≡ length before * n) [] blocks
  unfolding total
  block_begins =
      rw h.together
      (steps (λ (b : Block). b.size) total (λ bs b. total_more b bs) n [] (blocks_of h.parts) (omega arith) (blocks_even id f n c [] h.parts h.each d []))

  -- which block a list begins with
  pub list_begins : Each (λ before q after. length (blocks_of before) ≡ length before * c) [] h.parts
  unfolding blocks_of
  list_begins =
      steps (λ (q : Part). length q.blocks) (λ ps. length (blocks_of ps)) (λ ps q. ap length (blocks_one ps q) ∙ length-append (blocks_of ps) q.blocks) c [] h.parts (omega arith)
      (lists_even id f n c [] h.parts h.each d)
