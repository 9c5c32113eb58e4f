-- Over one file, whatever operations came before, refused ones among them: the table is the one worked out afresh from the block
-- addresses that are left.
use Rattle.std.specs.Prelude.{if◌then◌else◌}
use mathlib.Core.Path.{◌≡◌, refl, sym, ap, ap₂, subst, ◌∙◌}
use mathlib.Core.Bool.{Bool, true, false, not}
use mathlib.Core.List.{List, [], ◌∷◌, ◌++◌, map}
use Prim.Native.Nat.{ℕ, zero, suc, ◌+◌, ◌-◌, ◌≤◌, ◌<◌}
use native.Mathlib.Omega.{arith}
use lib.ListN.{length, take, replicate, length-append}
use lib.Dec.{ltb, leb, eqb}
use borrow.Author.Tests.{ltb-false, leb-false, eqb-false}
use Rattle.definitions.specs.Reply.{Reply, Outcome, answer, refusal, on_answer}
use Rattle.definitions.specs.Bytes.{u64_at}
use Rattle.definitions.specs.Chain.{Block, id_dt, file_limit, total, block_at, chain_of}
use Rattle.definitions.specs.Accepted.{Each, Part, blocks_of, BlockStands, BlockListed, PartStands, Accepted}
use Rattle.definitions.specs.Table.{table_limit, count_of, ordered, sound, refusing, leaving, places_of, table_of, opened, with_block, extended, without_last, shortened}
use Rattle.chain.specs.Walk.{Inside}
use Rattle.places.proofs.Blocks.{block_stands}
use Rattle.table.proofs.Words.{one_more, one_less}
use Rattle.theorems.specs.Histories.{block_there, blocks_there, AllStand, Afresh, Operation, opens, extends, shortens, outcome_of, addresses_of, leaves, Runs}
use Rattle.definitions.proofs.Replies.{not_answered}
use Rattle.theorems.proofs.Calls.Outcomes.{of_buffer, of_outcome}
use Rattle.theorems.proofs.Chains.AcceptedChains.{accepted}

-- ---- the block at an address

-- a block that stands is what the file says of its address
there_is : (f : List ℕ) (b : Block) → BlockStands id_dt f b → b ≡ block_there f b.address
there_is f b h = let n : b.size ≡ u64_at f (b.address + 8) - 24 = omega (arith, h.block_length) in ap (λ (k : ℕ). record { address = b.address; size = k }) n

-- and so one that is read at an address
read_there : (f : List ℕ) (a : ℕ) (b : Block) → block_at id_dt f a ≡ answer b → (b ≡ block_there f a) × BlockStands id_dt f (block_there f a)
read_there f a b e =
    let s = block_stands id_dt f a b e in
    let same : b ≡ block_there f a = there_is f b s.1 ∙ ap (block_there f) s.0 in
    (same, subst (BlockStands id_dt f) same s.1)

-- ---- many of them

map_more : (f xs : List ℕ) (a : ℕ) → blocks_there f (xs ++ (a ∷ [])) ≡ blocks_there f xs ++ (block_there f a ∷ [])
map_more f [] a = refl
map_more f (x ∷ xs) a = ap (λ (l : List Block). block_there f x ∷ l) (map_more f xs a)

pub map_long : (f xs : List ℕ) → length (blocks_there f xs) ≡ length xs
map_long f [] = refl
map_long f (x ∷ xs) = omega (arith, map_long f xs)

stand_more : (f xs : List ℕ) (a : ℕ) → AllStand f xs → BlockStands id_dt f (block_there f a) → AllStand f (xs ++ (a ∷ []))
unfolding AllStand
stand_more f [] a h s = (s, tt)
stand_more f (x ∷ xs) a h s = (h.0, stand_more f xs a h.1 s)

stand_less : (f xs : List ℕ) (n : ℕ) → AllStand f xs → AllStand f (take n xs)
unfolding AllStand
stand_less f [] zero h = tt
stand_less f [] (suc n) h = tt
stand_less f (x ∷ xs) zero h = tt
stand_less f (x ∷ xs) (suc n) h = (h.0, stand_less f xs n h.1)

-- they lie in the file
pub stand_inside : (f xs : List ℕ) → AllStand f xs → Inside f (blocks_there f xs)
unfolding AllStand Inside
stand_inside f [] h = tt
stand_inside f (x ∷ xs) h = (h.0.inside, stand_inside f xs h.1)

-- all but the last, and the last
split_last : (x : ℕ) (xs : List ℕ) → (a : ℕ) × (x ∷ xs ≡ take (length (x ∷ xs) - 1) (x ∷ xs) ++ (a ∷ []))
split_last x [] = (x, refl)
split_last x (y ∷ xs) =
    let s = split_last y xs in
    let n : length (x ∷ y ∷ xs) - 1 ≡ suc (length (y ∷ xs) - 1) = omega arith in
    (s.0, ap (λ (l : List ℕ). x ∷ l) s.1 ∙ ap (λ (k : ℕ). take k (x ∷ y ∷ xs) ++ (s.0 ∷ [])) (sym n))

-- ---- the blocks of an accepted chain

-- they are what the file says of their addresses
abbrev AllThere : List ℕ → List Block → Type 0
AllThere f bs = (AllStand f (map (λ (b : Block). b.address) bs)) × (blocks_there f (map (λ (b : Block). b.address) bs) ≡ bs)

one_there : (f : List ℕ) (b : Block) (bs : List Block) → BlockStands id_dt f b → AllThere f bs → AllThere f (b ∷ bs)
unfolding AllStand
one_there f b bs s h =
    let same : b ≡ block_there f b.address = there_is f b s in
    ((subst (BlockStands id_dt f) same s, h.0), ap₂ (λ (x : Block) (l : List Block). x ∷ l) (sym same) h.1)

none_there : (f : List ℕ) → AllThere f []
unfolding AllStand
none_there f = (tt, refl)

listed_there : (f : List ℕ) (p : List Block → Block → List Block → Type 0) → ((x : List Block) (b : Block) (y : List Block) → p x b y → BlockStands id_dt f b)
    → (before bs rest : List Block) → Each p before bs → AllThere f rest → AllThere f (bs ++ rest)
unfolding Each
listed_there f p stands before [] rest e h = h
listed_there f p stands before (b ∷ bs) rest e h = one_there f b (bs ++ rest) (stands before b bs e.0) (listed_there f p stands (before ++ (b ∷ [])) bs rest e.1 h)

parts_there : (f : List ℕ) (before qs : List Part) → Each (PartStands id_dt f) before qs → AllThere f (blocks_of qs)
unfolding Each blocks_of
parts_there f before [] e = none_there f
parts_there f before (q ∷ qs) e =
    listed_there f (BlockListed id_dt f q.address q.list (total (blocks_of before))) (λ x b y h. h.stands) [] q.blocks (blocks_of qs) e.0.each
    (parts_there f (before ++ (q ∷ [])) qs e.1)

chain_there : (f : List ℕ) (start : ℕ) (bs : List Block) → chain_of id_dt f start ≡ answer bs → AllThere f bs
chain_there f start bs e =
    let a : Accepted id_dt f start bs = accepted id_dt f start bs e in
    subst (AllThere f) (sym a.together) (parts_there f [] a.parts a.each)

-- ---- one operation

module _ (f : List ℕ) where
  -- the table that an opening makes is afresh, whatever stood there before
  pub opened_afresh : (start : ℕ) (bs : List Block) → chain_of id_dt f start ≡ answer bs → length bs ≤ table_limit
      → Afresh f (addresses_of (chain_of id_dt f start)) (table_of bs)
  opened_afresh start bs e few =
      let t = chain_there f start bs e in
      subst (λ (r : Reply (List Block)). Afresh f (addresses_of r) (table_of bs)) (sym e)
      (record { few = omega (arith, sym (map_long f (map (λ (b : Block). b.address) bs)), ap length t.1); stand = t.0; table = ap table_of (sym t.1) })

  module _ (xs w : List ℕ) (h : Afresh f xs w) where
    abbrev After : Operation → Outcome (Unit {0}) → Type 0
    After o r = Afresh f (leaves f o r.reply xs) r.buffer

    -- opened
    open_many : (start : ℕ) (bs : List Block) (full : Bool) → chain_of id_dt f start ≡ answer bs → ltb table_limit (length bs) ≡ full
        → After (opens start) (if full then refusing 30 w else leaving (table_of bs))
    open_many start bs true e l = h
    open_many start bs false e l = opened_afresh start bs e (ltb-false table_limit (length bs) l)

    open_chain : (start : ℕ) (long : Bool) (r : Reply (List Block)) → chain_of id_dt f start ≡ r
        → After (opens start) (if long then refusing 7 w else on_answer r (λ bs. if ltb table_limit (length bs) then refusing 30 w else leaving (table_of bs)) w)
    open_chain start true r e = h
    open_chain start false (refusal n t) e = h
    open_chain start false (answer bs) e = open_many start bs (ltb table_limit (length bs)) e refl

    -- extended
    count_is : count_of w ≡ length xs
    count_is = ap count_of h.table ∙ map_long f xs

    extend_room : (a : ℕ) (b : Block) → block_at id_dt f a ≡ answer b → count_of w < table_limit → Afresh f (xs ++ (a ∷ [])) (with_block w b)
    extend_room a b e room =
        let t = read_there f a b e in record {
          few = omega (arith, length-append xs (a ∷ []), count_is);
          stand = stand_more f xs a h.stand t.1;
          table = ap₂ with_block h.table t.0
              ∙ one_more (blocks_there f xs) (block_there f a) (omega (arith, map_long f xs, count_is)) ∙ ap table_of (sym (map_more f xs a));
        }

    extend_block : (a : ℕ) (long wrong full : Bool) (r : Reply Block) → block_at id_dt f a ≡ r → leb table_limit (count_of w) ≡ full
        → After (extends a) (if long then refusing 7 w else if wrong then refusing 32 w else on_answer r (λ b. if full then refusing 30 w else leaving (with_block w b)) w)
    extend_block a true wrong full r e l = h
    extend_block a false true full r e l = h
    extend_block a false false full (refusal n t) e l = h
    extend_block a false false true (answer b) e l = h
    extend_block a false false false (answer b) e l = extend_room a b e (leb-false table_limit (count_of w) l)

    -- the last one given up
    shorten_some : (x : ℕ) (ys : List ℕ) → xs ≡ x ∷ ys → Afresh f (take (length xs - 1) xs) (without_last w)
    shorten_some x ys is =
        let s = split_last x ys in
        let front : List ℕ = take (length xs - 1) xs in
        let all : xs ≡ front ++ (s.0 ∷ []) = is ∙ s.1 ∙ ap (λ (l : List ℕ). take (length l - 1) l ++ (s.0 ∷ [])) (sym is) in
        let long : length xs ≡ length front + 1 = ap length all ∙ length-append front (s.0 ∷ []) in record {
          few = omega (arith, long, h.few);
          stand = stand_less f xs (length xs - 1) h.stand;
          table = ap without_last (h.table ∙ ap (λ (l : List ℕ). table_of (blocks_there f l)) all ∙ ap table_of (map_more f front s.0))
              ∙ one_less (blocks_there f front) (block_there f s.0) (omega (arith, map_long f front, long, h.few));
        }

    shorten_list : (ys : List ℕ) → xs ≡ ys → 0 < length ys → Afresh f (take (length xs - 1) xs) (without_last w)
    shorten_list [] is some = absurd (omega arith)
    shorten_list (x ∷ ys) is some = shorten_some x ys is

    shorten_ways : (wrong none : Bool) → eqb (count_of w) 0 ≡ none
        → After shortens (if wrong then refusing 32 w else if none then refusing 31 w else leaving (without_last w))
    shorten_ways true none e = h
    shorten_ways false true e = h
    shorten_ways false false e = shorten_list xs refl (let n = eqb-false (count_of w) 0 e in omega (arith, count_is))

    pub step_afresh : (o : Operation) → After o (outcome_of f o w)
    unfolding opened extended shortened
    step_afresh (opens start) = open_chain start (ltb file_limit (length f)) (chain_of id_dt f start) refl
    step_afresh (extends a) = extend_block a (ltb file_limit (length f)) (not (sound f w)) (leb table_limit (count_of w)) (block_at id_dt f a) refl refl
    step_afresh shortens = shorten_ways (not (ordered w)) (eqb (count_of w) 0) refl

-- ---- any number of them

-- calls that do what the definition says
abbrev pub Faithful : List ℕ → (Operation → List ℕ → Reply (Unit {0}) → List ℕ → Type 0) → Type 0
Faithful f By = (o : Operation) (w v : List ℕ) (r : Reply (Unit {0})) → By o w r v → record { reply = r; buffer = v } ≡ outcome_of f o w

pub history : (f : List ℕ) (By : Operation → List ℕ → Reply (Unit {0}) → List ℕ → Type 0) → Faithful f By
    → (os : List Operation) (w xs x ys : List ℕ) → Afresh f xs w → Runs By f os w xs x ys → Afresh f ys x
unfolding Runs
history f By so [] w xs x ys h r = subst (λ (l : List ℕ). Afresh f l x) r.1 (subst (Afresh f xs) r.0 h)
history f By so (o ∷ os) w xs x ys h r =
    let here : record { reply = r.0; buffer = r.1 } ≡ outcome_of f o w = so o w r.1 r.0 r.2 in
    history f By so os r.1 (leaves f o r.0 xs) x ys
    (subst (λ (z : Outcome (Unit {0})). Afresh f (leaves f o z.reply xs) z.buffer) (sym here) (step_afresh f xs w h o)) r.3

-- the table of zeros is that of no blocks
pub zeros_afresh : (f : List ℕ) → Afresh f [] (replicate 1026 0)
unfolding AllStand places_of total
zeros_afresh f = record { few = omega arith; stand = tt; table = refl }

-- what an opening that answered left
pub record OpenedFrom (f : List ℕ) (start : ℕ) (v : List ℕ) : Type 0 where
  pub short : length f ≤ file_limit
  pub blocks : List Block
  pub chain : chain_of id_dt f start ≡ answer blocks
  pub few : length blocks ≤ table_limit
  pub table : v ≡ table_of blocks

pub opened_from : (f : List ℕ) (start : ℕ) (w v : List ℕ) → record { reply = answer tt; buffer = v } ≡ opened f start w → OpenedFrom f start v
unfolding opened
opened_from f start w v e = go (ltb file_limit (length f)) (chain_of id_dt f start) refl refl e
  where
    few : (bs : List Block) (full : Bool) → length f ≤ file_limit → chain_of id_dt f start ≡ answer bs → ltb table_limit (length bs) ≡ full
        → record { reply = answer tt; buffer = v } ≡ (if full then refusing 30 w else leaving (table_of bs)) → OpenedFrom f start v
    few bs true s c l e = let q : answer tt ≡ refusal 30 0 = of_outcome e in not_answered tt 30 0 (sym q)
    few bs false s c l e = record { short = s; blocks = bs; chain = c; few = ltb-false _ _ l; table = of_buffer e }

    go : (long : Bool) (r : Reply (List Block)) → ltb file_limit (length f) ≡ long → chain_of id_dt f start ≡ r
        → record { reply = answer tt; buffer = v } ≡ (if long then refusing 7 w else on_answer r (λ bs. if ltb table_limit (length bs) then refusing 30 w else leaving (table_of bs)) w)
        → OpenedFrom f start v
    go true r s c e = let q : answer tt ≡ refusal 7 0 = of_outcome e in not_answered tt 7 0 (sym q)
    go false (refusal n t) s c e = let q : answer tt ≡ refusal n t = of_outcome e in not_answered tt n t (sym q)
    go false (answer bs) s c e = few bs (ltb table_limit (length bs)) (ltb-false _ _ s) c refl e

-- so its table is afresh, whatever stood there before
pub open_afresh : (f : List ℕ) (start : ℕ) (w v : List ℕ) → record { reply = answer tt; buffer = v } ≡ opened f start w → Afresh f (addresses_of (chain_of id_dt f start)) v
open_afresh f start w v e =
    let o = opened_from f start w v e in
    subst (Afresh f (addresses_of (chain_of id_dt f start))) (sym o.table) (opened_afresh f start o.blocks o.chain o.few)
