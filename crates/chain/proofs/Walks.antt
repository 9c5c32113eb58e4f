-- What every reader's loop keeps: where it stands, the blocks so far, and that the chain gives what it gives from here on.
use Rattle.std.specs.Prelude.{Ok, Err}
use mathlib.Core.Path.{◌≡◌, refl, sym, ap, subst, ◌∙◌}
use mathlib.Core.Bool.{true, false}
use mathlib.Core.List.{List, [], ◌∷◌, ◌++◌}
use Prim.Native.Nat.{ℕ, ◌+◌, ◌≤◌, ◌<◌}
use native.Mathlib.Omega.{arith}
use lib.ListN.{length, drop, length-append}
use lib.Dec.{eqb}
use borrow.Author.Tests.{ne_eqb, lt-ltb, le-ltb}
use Rattle.definitions.specs.Reply.{Reply, answer, refusal, and_then}
use Rattle.definitions.specs.DataList.{DataList}
use Rattle.definitions.specs.Chain.{Block, file_limit, total, list_at, declaration_of, keeps_to, chain_of, total_of, length_by}
use Rattle.refusals.specs.Meaning.{refused}
use Rattle.refusals.specs.declared.Refusal.{Refusal}
use Rattle.chain.specs.Located.{Locates}
use Rattle.places.specs.Places.{start_at, behind, entered, ended}
use Rattle.steps.specs.Steps.{fragment_at, Onward, a_list, the_end, declared_at, declared_before, next_of}
pub use Rattle.chain.specs.Walk.{turns_left}
use Rattle.chain.specs.Walk.{Inside, At, fragments_left, lists_behind, chain_from, go_on}
use Rattle.places.specs.declared.place.FileAddress.{FileAddress}
use Rattle.places.specs.declared.place.Place.{Place}
use Rattle.chain.specs.declared.acceptance.Located.{Located}
use Rattle.places.proofs.Answers.{followed}
use Rattle.steps.proofs.Fragments.{fragment_inside}
use Rattle.chain.proofs.Chains.{total_more, stand_more, data_bound}
use Rattle.places.proofs.Lists.{list_stands}
use Rattle.steps.proofs.Declarations.{kept_same, declares_kept, chained_answer, chain_all}
use Rattle.steps.proofs.Steps.{known_behind, known_entered, Tells, next_tells}
use Rattle.chain.proofs.Rest.{rest_fragment, rest_next}

-- where the walk begins
module _ (id f : List ℕ) (p₀ : Place) (a : FileAddress) (begun : p₀ ≡ start_at a) where
  pub at_start : length f ≤ file_limit → At id f a.0 p₀ []
  unfolding total Inside declared_before fragments_left lists_behind
  at_start short =
      rw begun
      (record {
        known = record { inside = omega arith; few = omega arith; none = omega arith; read = λ some. let no : ⊥ = omega arith in absurd no };
        stand = record { inside = tt; few = omega arith };
        short = short;
        count = refl;
        size = refl;
        first = declared_at f a.0 (list_at f 0 a.0);
        alike = λ e. refl;
        rest = chain_all id f a.0;
      })

module _ (id f : List ℕ) (start : ℕ) where
  module _ (p : Place) (before : List Block) (m : At id f start p before) where
    -- ---- inside a list

    module _ (h : p.index < p.list.links) where
      -- the chain gives what the fragment gives
      by_fragment : (r : Reply Block) → fragment_at id f p ≡ r
          → chain_of id f start ≡ and_then r (λ b. chain_from id f m.first (behind p b.size) (before ++ (b ∷ [])))
      by_fragment r e =
          m.rest ∙ rest_fragment id f m.first p before m.known m.size h
          ∙ ap (λ (x : Reply Block). and_then x (λ b. chain_from id f m.first (behind p b.size) (before ++ (b ∷ [])))) e

      pub refused_here : (n t : ℕ) → fragment_at id f p ≡ refusal n t → chain_of id f start ≡ refusal n t
      refused_here n t e = by_fragment _ e

      module _ (b : Block) (e : fragment_at id f p ≡ answer b) where
        -- the fragment lies in the file, and there is room for one more
        pub taken_here : (b.address + 24 + b.size ≤ length f) × (p.index + 1 < 18446744073709551616) × (p.position.0 + b.size < 18446744073709551616)
        unfolding fragment_at
        taken_here =
            let read = followed (list_at f p.fragments p.list.address.0) _ b e in
            let inside = fragment_inside id f (drop p.list.address.0 f) read.0 p.index p.position.0 b read.2 in
            (inside, omega (arith, m.known.few), omega (arith, m.size, m.short, data_bound f before m.short m.stand))

        -- the list is the same
        alike_behind : (n : ℕ) → ended (behind p n) ≡ false → declared_before f (behind p n) ≡ m.first
        unfolding declared_before
        alike_behind n more =
            let some : eqb p.lists 0 ≡ false = ne_eqb p.lists 0 (λ z. omega (arith, m.known.none)) in
            rw some (rw some at (m.alike more))

        pub at_behind : (q : Place) → q ≡ behind p b.size → At id f start q (before ++ (b ∷ [])) × (turns_left q < turns_left p)
        at_behind q is =
            let there : At id f start (behind p b.size) (before ++ (b ∷ [])) × (turns_left (behind p b.size) < turns_left p) = (
              record {
                known = known_behind f p m.known b.size h;
                stand = stand_more f b before m.stand (omega (arith, m.count, m.known.few)) taken_here.0;
                short = m.short;
                count = omega (arith, length-append before (b ∷ []), m.count);
                size = omega (arith, total_more b before, m.size);
                first = m.first;
                alike = alike_behind b.size;
                rest = by_fragment _ e;
              },
              omega arith,
            ) in
            subst (λ (x : Place). At id f start x (before ++ (b ∷ [])) × (turns_left x < turns_left p)) (sym is) there

    -- ---- behind its last fragment

    module _ (h : p.list.links ≤ p.index) where
      -- the chain gives what the next list gives
      by_next : (r : Reply Onward) → next_of f p ≡ r → chain_of id f start ≡ and_then r (go_on id f m.first before)
      by_next r e =
          m.rest ∙ rest_next id f m.first p before m.known m.count h m.alike
          ∙ ap (λ (x : Reply Onward). and_then x (go_on id f m.first before)) e

      pub refused_next : (n t : ℕ) → next_of f p ≡ refusal n t → chain_of id f start ≡ refusal n t
      refused_next n t e = by_next _ e

      pub at_end : (n : ℕ) → next_of f p ≡ answer (the_end n) → (chain_of id f start ≡ answer before) × (total before ≡ n)
      unfolding Tells
      at_end n e = (by_next _ e, m.size ∙ sym (next_tells f p (the_end n) e))

      -- a list that is kept to, if another follows, declares what the first does
      alike_entered : (d : DataList) → list_at f (p.fragments + p.index) p.list.next.0 ≡ answer d
          → keeps_to m.first (eqb d.next 0) (declaration_of (drop p.list.next.0 f) d) ≡ true
          → ended (entered p d) ≡ false → declared_before f (entered p d) ≡ m.first
      unfolding declared_before
      alike_entered d e k more =
          let some : eqb (p.lists + 1) 0 ≡ false = ne_eqb (p.lists + 1) 0 (λ z. omega arith) in
          let next : eqb d.next 0 ≡ false = rw some at more in
          rw some
          (declares_kept f p.list.next d (list_stands f _ _ d e).1.count
          ∙ kept_same m.first _ (rw next at k))

      pub at_list : (q : Place) → next_of f p ≡ answer (a_list q) → At id f start q before × (turns_left q < turns_left p)
      unfolding Tells
      at_list q e =
          let t = next_tells f p (a_list q) e in
          let read = chained_answer _ _ _ _ t.0 t.1 in
          let known = known_entered f p m.known t.0 read.0 in
          let gone : chain_of id f start ≡ chain_from id f m.first (entered p t.0) before = by_next _ (e ∙ ap (λ (x : Place). answer (a_list x)) (sym t.2)) in
          let there : At id f start (entered p t.0) before × (turns_left (entered p t.0) < turns_left p) = (
            record {
              known = known;
              stand = m.stand;
              short = m.short;
              count = omega (arith, m.count);
              size = m.size;
              first = m.first;
              alike = alike_entered t.0 read.0 (rw (m.alike t.4) at read.1);
              rest = gone;
            },
            omega (arith, t.3, known.few),
          ) in
          subst (λ (x : Place). At id f start x before × (turns_left x < turns_left p)) t.2 there

-- ---- the length of the joined data

module _ (f : List ℕ) (start : ℕ) where
  pub length_refused_law : (id : List ℕ) → file_limit < length f → refusal 7 0 ≡ length_by id f start
  length_refused_law id l = rw (lt-ltb _ _ l)

  pub length_total : (id : List ℕ) → length f ≤ file_limit → total_of id f start ≡ length_by id f start
  length_total id l = rw (le-ltb _ _ l)

-- in a file that is not too long the chain says it
module _ (id f : List ℕ) (start : ℕ) (short : length f ≤ file_limit) where
  pub total_refused : (n t : ℕ) → chain_of id f start ≡ refusal n t → refusal n t ≡ length_by id f start
  unfolding total_of
  total_refused n t e = rw (le-ltb _ _ short, e)

  pub total_whole : (bs : List Block) (n : ℕ) → (chain_of id f start ≡ answer bs) × (total bs ≡ n) → answer n ≡ length_by id f start
  unfolding total_of
  total_whole bs n h = rw (le-ltb _ _ short, h.0, h.1)

-- ---- a position that was looked for

module _ (id f : List ℕ) (start wanted : ℕ) (reply : Reply ℕ) where
  pub located_refused : (why : Refusal) → refused why ≡ reply → Locates id f start wanted reply (Err why)
  located_refused why e = record { replied = e; place = λ l is. cc }

  pub located_whole : (l : Located) (before : List Block) → answer l.total.0 ≡ reply → At id f start l.place before → l.place.position.0 ≤ wanted
      → Locates id f start wanted reply (Ok l)
  located_whole l before e m below = record {
    replied = e;
    place = λ k is.
        let same : l ≡ k = cc in
        (before, subst (λ (x : Located). At id f start x.place before) same m, subst (λ (x : Located). x.place.position.0 ≤ wanted) same below);
  }
