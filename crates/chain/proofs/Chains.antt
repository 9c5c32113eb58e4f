-- What is known of the blocks of an accepted chain.
use Rattle.std.specs.Prelude.{if◌then◌else◌}
use mathlib.Core.Path.{◌≡◌, refl, subst}
use mathlib.Core.Bool.{Bool, true, false}
use mathlib.Core.List.{List, [], ◌∷◌, ◌++◌, append_assoc, append-nil}
use Prim.Native.Nat.{ℕ, zero, suc, ◌+◌, ◌-◌, ◌*◌, ◌≤◌, ◌<◌}
use native.Mathlib.Nat.{suc-mul}
use native.Mathlib.Omega.{arith}
use lib.ListN.{length, drop, length-append}
use lib.Dec.{eqb}
use Rattle.definitions.specs.Reply.{Reply, answer}
use Rattle.definitions.specs.DataList.{DataList}
use Rattle.definitions.specs.Chain.{Block, file_limit, list_limit, fragment_limit, data_of, joined, total, fragment_of, fragments, list_at, Declaration, declaration_of, chained_at, lists, chain_of}
use Rattle.definitions.proofs.Replies.{not_answered}
use Rattle.chain.specs.Walk.{Inside, Stand}
use Rattle.words.proofs.Spans.{length_span}
use Rattle.places.proofs.Answers.{followed, answered}
use Rattle.places.proofs.Lists.{list_stands}
use Rattle.steps.proofs.Declarations.{chained_answer}
use Rattle.steps.proofs.Fragments.{fragment_inside}

-- ---- one block more

pub total_more : (b : Block) (bs : List Block) → total (bs ++ (b ∷ [])) ≡ total bs + b.size
unfolding total
total_more b [] = omega arith
total_more b (c ∷ cs) = omega (arith, total_more b cs)

module _ (f : List ℕ) (b : Block) where
  pub joined_more : (bs : List Block) → joined f (bs ++ (b ∷ [])) ≡ joined f bs ++ data_of f b
  unfolding joined
  joined_more [] = append-nil (data_of f b)
  joined_more (c ∷ cs) = rw (joined_more cs, append_assoc)

  pub inside_more : (bs : List Block) → Inside f bs → b.address + 24 + b.size ≤ length f → Inside f (bs ++ (b ∷ []))
  unfolding Inside
  inside_more [] h r = (r, tt)
  inside_more (c ∷ cs) h r = (h.0, inside_more cs h.1 r)

  pub stand_more : (bs : List Block) → Stand f bs → length bs < fragment_limit → b.address + 24 + b.size ≤ length f → Stand f (bs ++ (b ∷ []))
  stand_more bs h l t = record { inside = inside_more bs h.inside t; few = omega (arith, length-append bs (b ∷ [])) }

pub joined_append : (f : List ℕ) (bs cs : List Block) → joined f (bs ++ cs) ≡ joined f bs ++ joined f cs
unfolding joined
joined_append f [] cs = refl
joined_append f (b ∷ bs) cs = rw (joined_append f bs cs, append_assoc)

-- the joined data is as long as the blocks say
pub joined_length : (f : List ℕ) (bs : List Block) → Inside f bs → length (joined f bs) ≡ total bs
unfolding joined total Inside
joined_length f [] h = refl
joined_length f (b ∷ bs) h =
    omega (arith, length-append (data_of f b) (joined f bs), length_span f (b.address + 24) b.size h.0, joined_length f bs h.1)

-- ---- how much data there is

-- no block has more than the file, less its header
pub total_bound : (f : List ℕ) (n : ℕ) (bs : List Block) → length f ≤ n + 24 → Inside f bs → total bs ≤ length bs * n
unfolding total Inside
total_bound f n [] l h = omega arith
total_bound f n (b ∷ bs) l h = let one = h.0 in omega (arith, suc-mul (length bs) n, total_bound f n bs l h.1)

-- so by 7 and 9 the data of a walk's blocks is below 2^52 bytes, far less than a word can count, and no sum of it wraps
pub data_bound : (f : List ℕ) (bs : List Block) → length f ≤ file_limit → Stand f bs → total bs < fragment_limit * file_limit
data_bound f bs short h = let few = h.few in omega (arith, total_bound f (file_limit - 24) bs (omega arith) h.inside)

-- ---- all of them

module _ (id f : List ℕ) where
  pub fragments_stand : (s : List ℕ) (d : DataList) (n i : ℕ) (before bs : List Block) → Stand f before → length before + n ≤ fragment_limit
      → fragments id f s d i n before ≡ answer bs → Stand f bs
  unfolding fragments
  fragments_stand s d zero i before bs h l e = subst (Stand f) (answered e) h
  fragments_stand s d (suc n) i before bs h l e =
      let read = followed (fragment_of id f s d i (total before)) (λ b. fragments id f s d (i + 1) n (before ++ (b ∷ []))) bs e in
      let b = read.0 in
      fragments_stand s d n (i + 1) (before ++ (b ∷ [])) bs
      (stand_more f b before h (omega arith) (fragment_inside id f s d i (total before) b read.1)) (omega (arith, length-append before (b ∷ []))) read.2

  next_stand : (t : Bool) (r : Reply (List Block)) (cs bs : List Block) → Stand f cs → (r ≡ answer bs → Stand f bs) → (if t then answer cs else r) ≡ answer bs → Stand f bs
  next_stand true r cs bs h g e = subst (Stand f) (answered e) h
  next_stand false r cs bs h g e = g e

  lists_stand : (first : Declaration) (k a : ℕ) (before bs : List Block) → Stand f before → lists id f first k a before ≡ answer bs → Stand f bs
  unfolding lists
  lists_stand first zero a before bs h e = not_answered bs 8 0 e
  lists_stand first (suc k) a before bs h e =
      let listed = followed (chained_at first f (length before) a) _ bs e in
      let d = listed.0 in
      let read = followed (fragments id f (drop a f) d 0 d.links before) _ bs listed.2 in
      let few = (list_stands f (length before) a d (chained_answer first f (length before) a d listed.1).0).1.few in
      let cs = fragments_stand (drop a f) d d.links 0 before read.0 h few read.1 in
      next_stand (eqb d.next 0) (lists id f first k d.next read.0) read.0 bs cs (lists_stand first k d.next read.0 bs cs) read.2

  -- the blocks of an accepted chain lie in the file, and are not too many
  pub chain_stands : (start : ℕ) (bs : List Block) → chain_of id f start ≡ answer bs → Stand f bs
  unfolding chain_of Inside total
  chain_stands start bs e =
      let read = followed (list_at f 0 start) (λ d. lists id f (declaration_of (drop start f) d) list_limit start []) bs e in
      lists_stand _ list_limit start [] bs (record { inside = tt; few = omega arith }) read.2
