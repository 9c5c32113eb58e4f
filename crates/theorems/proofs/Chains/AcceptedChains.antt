-- The walk accepts exactly the chains that `Accepted` describes, and joins their blocks' data end to end.
use Rattle.std.specs.Prelude.{if◌then◌else◌}
use mathlib.Core.Path.{◌≡◌, refl, sym, ap, ◌∙◌}
use mathlib.Core.Bool.{Bool, true, false}
use mathlib.Core.List.{List, [], ◌∷◌, ◌++◌, append_assoc, append-nil}
use Prim.Native.Nat.{ℕ, zero, suc, ◌+◌, ◌≤◌, ◌<◌}
use native.Mathlib.Nat.{zero-add}
use native.Mathlib.Omega.{arith}
use lib.ListN.{length, drop, length-append}
use lib.Dec.{eqb}
use borrow.Author.Tests.{eqb-true, eq-eqb, ne_eqb}
use Rattle.definitions.specs.Reply.{answer}
use Rattle.definitions.specs.DataList.{DataList}
use Rattle.definitions.specs.Chain.{Block, total, list_limit, fragment_limit, fragment_of, fragments, list_at, Declaration, declaration_of, keeps_to, chained_at, lists, chain_of}
use Rattle.definitions.specs.Accepted.{Each, Part, blocks_of, link_to, Truthful, BlockListed, PartStands, Accepted}
use Rattle.definitions.proofs.Replies.{not_answered}
use Rattle.places.proofs.Answers.{followed}
use Rattle.steps.proofs.Declarations.{chained_kept, chained_answer}
use Rattle.theorems.proofs.Chains.BlocksStand.{fragment_stands, fragment_taken, list_there_law, list_taken}
use Rattle.theorems.proofs.Chains.ListsAlike.{Keeps, Alike, all_alike, all_keep}

total_append : (bs cs : List Block) → total (bs ++ cs) ≡ total bs + total cs
unfolding total
total_append [] cs = omega arith
total_append (b ∷ bs) cs = omega (arith, total_append bs cs)

blocks_append : (ps qs : List Part) → blocks_of (ps ++ qs) ≡ blocks_of ps ++ blocks_of qs
unfolding blocks_of
blocks_append [] qs = refl
blocks_append (p ∷ ps) qs = rw (blocks_append ps qs) (sym (append_assoc p.blocks (blocks_of ps) (blocks_of qs)))

pub blocks_one : (ps : List Part) (q : Part) → blocks_of (ps ++ (q ∷ [])) ≡ blocks_of ps ++ q.blocks
unfolding blocks_of
blocks_one ps q = blocks_append ps (q ∷ []) ∙ ap (λ (bs : List Block). blocks_of ps ++ bs) (append-nil q.blocks)

-- ---- the fragments of a list

-- the list d at a, with the blocks `old` before it
module _ (id f : List ℕ) (a : ℕ) (d : DataList) (old : List Block) where
  -- `new` are blocks of it, behind those in `bs`
  abbrev Listed : List Block → List Block → Type 0
  Listed bs new = Each (BlockListed id f a d (total old)) bs new

  one_on : (bs : List Block) (b : Block) (n : ℕ)
      → fragments id f (drop a f) d (length bs + 1) n (old ++ bs ++ (b ∷ [])) ≡ fragments id f (drop a f) d (length (bs ++ (b ∷ []))) n (old ++ (bs ++ (b ∷ [])))
  one_on bs b n =
      let e : length bs + 1 ≡ length (bs ++ (b ∷ [])) = sym (length-append bs (b ∷ [])) in
      rw (e, append_assoc)

  moved : (bs : List Block) (b : Block) (new : List Block) → old ++ (bs ++ (b ∷ [])) ++ new ≡ old ++ bs ++ (b ∷ new)
  moved bs b new = simp append_assoc

  fragments_stand : (n : ℕ) (bs all : List Block) → length bs + n ≡ d.links
      → fragments id f (drop a f) d (length bs) n (old ++ bs) ≡ answer all
      → (new : List Block) × (all ≡ old ++ bs ++ new) × (length new ≡ n) × Listed bs new
  unfolding fragments Each
  fragments_stand zero bs all l h =
      let same : old ++ bs ≡ all = cc in
      ([], sym same ∙ sym (append-nil (old ++ bs)), refl, tt)
  fragments_stand (suc n) bs all l h =
      let g = followed (fragment_of id f (drop a f) d (length bs) (total (old ++ bs))) (λ b. fragments id f (drop a f) d (length bs + 1) n (old ++ bs ++ (b ∷ []))) all h in
      let b : Block = g.0 in
      let k = fragment_stands id f (drop a f) d (length bs) n (total (old ++ bs)) (omega arith) b g.1 in
      let r = fragments_stand n (bs ++ (b ∷ [])) all (omega (arith, length-append bs (b ∷ []))) (sym (one_on bs b n) ∙ g.2) in
      let true : Truthful (drop a f) d (total old + total bs) (length bs) (length r.0) b.size = rw (sym (total_append old bs), r.2) k.2 in
      (b ∷ r.0, r.1 ∙ moved bs b r.0, ap suc r.2, (record { link = k.0; stands = k.1; truthful = true }, r.3))

  fragments_taken : (new bs : List Block) → length bs + length new ≡ d.links → Listed bs new
      → fragments id f (drop a f) d (length bs) (length new) (old ++ bs) ≡ answer (old ++ bs ++ new)
  unfolding fragments Each
  fragments_taken [] bs n l = ap answer (sym (append-nil (old ++ bs)))
  fragments_taken (b ∷ new) bs n l =
      let true : Truthful (drop a f) d (total (old ++ bs)) (length bs) (length new) b.size = rw (total_append old bs) l.0.truthful in
      let here : fragment_of id f (drop a f) d (length bs) (total (old ++ bs)) ≡ answer b =
      fragment_taken id f (drop a f) d (length bs) (length new) (total (old ++ bs)) (omega arith) b l.0.link l.0.stands true in
      rw here (one_on bs b (length new) ∙ fragments_taken new (bs ++ (b ∷ [])) (omega (arith, length-append bs (b ∷ []))) l.1 ∙ ap answer (moved bs b new))

-- ---- the lists of the chain

module _ (id f : List ℕ) (common : Declaration) where
  -- `qs` are lists of the chain from the address a on, behind those in `ps`, with `all` the blocks of both
  pub record Chained (k a : ℕ) (ps : List Part) (all : List Block) : Type 0 where
    pub qs : List Part
    pub some : 0 < a
    pub first : link_to qs ≡ a
    pub few : length qs ≤ k
    pub each : Each (PartStands id f) ps qs
    pub keep : Each (Keeps f common) ps qs
    pub together : all ≡ blocks_of (ps ++ qs)
    pub few_blocks : length all ≤ fragment_limit

  parts_on : (ps : List Part) (q : Part) (qs : List Part) → ps ++ (q ∷ []) ++ qs ≡ ps ++ q ∷ qs
  parts_on ps q qs = simp append_assoc

  -- the part that a list and its fragments make
  part_stands : (a : ℕ) (ps : List Part) (d : DataList) (bs : List Block)
      → list_at f (length (blocks_of ps)) a ≡ answer d → fragments id f (drop a f) d 0 d.links (blocks_of ps) ≡ answer bs
      → (new : List Block) × (bs ≡ blocks_of ps ++ new) × (length bs ≤ fragment_limit)
      × ((after : List Part) → d.next ≡ link_to after → PartStands id f ps (record { address = a; list = d; blocks = new }) after)
  part_stands a ps d bs there got =
      let known = list_there_law f (length (blocks_of ps)) a d there in
      let old : blocks_of ps ++ [] ≡ blocks_of ps = append-nil (blocks_of ps) in
      let got' : fragments id f (drop a f) d 0 d.links (blocks_of ps ++ []) ≡ answer bs = rw old got in
      let r = fragments_stand id f a d (blocks_of ps) d.links [] bs (zero-add d.links) got' in
      let all : bs ≡ blocks_of ps ++ r.0 = r.1 ∙ ap (λ (x : List Block). x ++ r.0) old in
      let few : length bs ≤ fragment_limit = omega (arith, ap length all, length-append (blocks_of ps) r.0, r.2, known.5) in (
        r.0,
        all,
        few,
        λ after e. record {
          somewhere = known.0;
          inside = known.1;
          reads = known.2;
          count = known.3;
          block_length = known.4;
          links = r.2;
          each = r.3;
          next = e;
        },
      )

  -- the last list, or the rest of the chain behind it
  on_next : (k a : ℕ) (ps : List Part) (d : DataList) (bs all : List Block) (b : Bool)
      → ((c : ℕ) (qs : List Part) → lists id f common k c (blocks_of qs) ≡ answer all → Chained k c qs all)
      → list_at f (length (blocks_of ps)) a ≡ answer d → keeps_to common (eqb d.next 0) (declaration_of (drop a f) d) ≡ true
      → fragments id f (drop a f) d 0 d.links (blocks_of ps) ≡ answer bs
      → eqb d.next 0 ≡ b → (if b then answer bs else lists id f common k d.next bs) ≡ answer all → Chained (suc k) a ps all
  unfolding Each
  on_next k a ps d bs all true rest there kept got e h =
      let p = part_stands a ps d bs there got in
      let q : Part = record { address = a; list = d; blocks = p.0 } in
      let same : bs ≡ all = cc in
      record {
        qs = q ∷ [];
        some = (list_there_law f (length (blocks_of ps)) a d there).0;
        first = refl;
        few = omega arith;
        each = (p.3 [] (eqb-true d.next 0 e), tt);
        keep = (kept, tt);
        together = sym same ∙ p.1 ∙ sym (blocks_one ps q);
        few_blocks = rw (sym same) p.2;
      }
  on_next k a ps d bs all false rest there kept got e h =
      let p = part_stands a ps d bs there got in
      let q : Part = record { address = a; list = d; blocks = p.0 } in
      let next : bs ≡ blocks_of (ps ++ (q ∷ [])) = p.1 ∙ sym (blocks_one ps q) in
      let c = rest d.next (ps ++ (q ∷ [])) (ap (lists id f common k d.next) (sym next) ∙ h) in
      record {
        qs = q ∷ c.qs;
        some = (list_there_law f (length (blocks_of ps)) a d there).0;
        first = refl;
        few = omega (arith, c.few);
        each = (p.3 c.qs (sym c.first), c.each);
        keep = (kept, c.keep);
        together = c.together ∙ ap blocks_of (parts_on ps q c.qs);
        few_blocks = c.few_blocks;
      }

  lists_stand : (k a : ℕ) (ps : List Part) (all : List Block)
      → lists id f common k a (blocks_of ps) ≡ answer all → Chained k a ps all
  unfolding lists
  lists_stand zero a ps all h = not_answered all 8 0 h
  lists_stand (suc k) a ps all h =
      let g = followed (chained_at common f (length (blocks_of ps)) a) _ all h in
      let d : DataList = g.0 in
      let read = chained_answer common f (length (blocks_of ps)) a d g.1 in
      let m = followed (fragments id f (drop a f) d 0 d.links (blocks_of ps)) _ all g.2 in
      on_next k a ps d m.0 all (eqb d.next 0) (λ c qs. lists_stand k c qs all) read.0 read.1 m.1 refl m.2

  -- a part that stands is taken
  module _ (k : ℕ) (ps : List Part) (q : Part) (after : List Part) (h : PartStands id f ps q after) (kept : Keeps f common ps q after)
      (few : length (blocks_of (ps ++ (q ∷ []))) ≤ fragment_limit) where
    list_here : list_at f (length (blocks_of ps)) q.address ≡ answer q.list
    list_here =
        let links = h.links in
        list_taken f (length (blocks_of ps)) q.address q.list h.somewhere h.inside h.reads h.count h.block_length
        (omega (arith, ap length (blocks_one ps q), length-append (blocks_of ps) q.blocks))

    fragments_here : fragments id f (drop q.address f) q.list 0 q.list.links (blocks_of ps) ≡ answer (blocks_of (ps ++ (q ∷ [])))
    fragments_here =
        let old : blocks_of ps ++ [] ≡ blocks_of ps = append-nil (blocks_of ps) in
        ap (λ (n : ℕ). fragments id f (drop q.address f) q.list 0 n (blocks_of ps)) (sym h.links)
        ∙ ap (fragments id f (drop q.address f) q.list 0 (length q.blocks)) (sym old)
        ∙ fragments_taken id f q.address q.list (blocks_of ps) q.blocks [] (zero-add (length q.blocks) ∙ h.links) h.each
        ∙ ap (λ (bs : List Block). answer (bs ++ q.blocks)) old ∙ ap answer (sym (blocks_one ps q))

    part_taken : lists id f common (suc k) q.address (blocks_of ps)
        ≡ (if eqb q.list.next 0 then answer (blocks_of (ps ++ (q ∷ []))) else lists id f common k q.list.next (blocks_of (ps ++ (q ∷ []))))
    unfolding lists
    part_taken =
        let here : chained_at common f (length (blocks_of ps)) q.address ≡ answer q.list = sym (chained_kept common f _ _ q.list list_here kept) in
        rw (here, fragments_here)

  fewer : (ps qs : List Part) → length (blocks_of ps) ≤ length (blocks_of (ps ++ qs))
  fewer ps qs = rw (blocks_append ps qs) (omega (arith, length-append (blocks_of ps) (blocks_of qs)))

  lists_taken : (qs ps : List Part) (k a : ℕ) → Each (PartStands id f) ps qs → Each (Keeps f common) ps qs → link_to qs ≡ a → 0 < a → length qs ≤ k
      → length (blocks_of (ps ++ qs)) ≤ fragment_limit
      → lists id f common k a (blocks_of ps) ≡ answer (blocks_of (ps ++ qs))
  unfolding Each
  lists_taken [] ps k a h d e z few m = absurd (omega arith)
  lists_taken (q ∷ qs) ps zero a h d e z few m = absurd (omega arith)
  lists_taken (q ∷ []) ps (suc k) a h d e z few m =
      ap (λ (x : ℕ). lists id f common (suc k) x (blocks_of ps)) (sym e) ∙ part_taken k ps q [] h.0 d.0 m ∙ rw (eq-eqb _ _ h.0.next)
  lists_taken (q ∷ r ∷ qs) ps (suc k) a h d e z few m =
      let on : ps ++ (q ∷ []) ++ (r ∷ qs) ≡ ps ++ q ∷ r ∷ qs = parts_on ps q (r ∷ qs) in
      let part : length (blocks_of (ps ++ (q ∷ []))) ≤ length (blocks_of (ps ++ q ∷ r ∷ qs)) = rw on at (fewer (ps ++ (q ∷ [])) (r ∷ qs)) in
      let some : 0 < q.list.next = omega (arith, h.0.next, h.1.0.somewhere) in
      let more : q.list.next ≡ 0 → ⊥ = λ x. omega arith in
      let rest = lists_taken (r ∷ qs) (ps ++ (q ∷ [])) k q.list.next h.1 d.1 (sym h.0.next) some (omega arith) (rw on m) in
      ap (λ (x : ℕ). lists id f common (suc k) x (blocks_of ps)) (sym e) ∙ part_taken k ps q (r ∷ qs) h.0 d.0 (omega arith)
      ∙ rw (ne_eqb _ _ more) (rest ∙ ap (λ (x : List Part). answer (blocks_of x)) on)

-- ---- the two are one

module _ (id f : List ℕ) (start : ℕ) where
  pub accepted : (blocks : List Block) → chain_of id f start ≡ answer blocks → Accepted id f start blocks
  unfolding chain_of blocks_of
  accepted blocks h =
      let g = followed (list_at f 0 start) _ blocks h in
      let common : Declaration = declaration_of (drop start f) g.0 in
      let c = lists_stand id f common list_limit start [] blocks g.2 in
      record {
        parts = c.qs;
        some = c.some;
        first = c.first;
        each = c.each;
        alike = all_alike f common c.qs c.keep;
        together = c.together;
        few_lists = c.few;
        few_blocks = c.few_blocks;
      }

  -- the first of the parts declares, and all keep to that
  parts_taken : (qs : List Part) → Each (PartStands id f) [] qs → Alike f qs → link_to qs ≡ start → 0 < start → length qs ≤ list_limit
      → length (blocks_of qs) ≤ fragment_limit → chain_of id f start ≡ answer (blocks_of qs)
  unfolding chain_of blocks_of Each
  parts_taken [] h d e z few m = absurd (omega arith)
  parts_taken (q ∷ qs) h d e z few m =
      let common : Declaration = declaration_of (drop q.address f) q.list in
      let keep = all_keep id f q qs h d in
      let part = fewer id f common (q ∷ []) qs in
      let here = list_here id f common 0 [] q qs h.0 keep.0 (omega arith) in
      rw (sym e, here) (lists_taken id f common (q ∷ qs) [] list_limit q.address h keep refl (rw e z) few m)

  pub accepts : (blocks : List Block) → Accepted id f start blocks → chain_of id f start ≡ answer blocks
  accepts blocks h =
      let e = h.together in
      parts_taken h.parts h.each h.alike h.first h.some h.few_lists (rw (sym e) h.few_blocks) ∙ ap answer (sym e)

  -- so a chain has its blocks and no others
  pub accepted_once : (bs cs : List Block) → Accepted id f start bs → Accepted id f start cs → bs ≡ cs
  accepted_once bs cs g h =
      let p : chain_of id f start ≡ answer bs = accepts bs g in
      let q : chain_of id f start ≡ answer cs = accepts cs h in
      cc
