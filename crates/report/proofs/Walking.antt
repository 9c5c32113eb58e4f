-- The records of a chain, as the walk along it meets them.
use mathlib.Core.Path.{◌≡◌, refl, sym, ap, subst, ◌∙◌}
use mathlib.Core.List.{List, [], ◌∷◌, ◌++◌}
use Prim.Native.Nat.{ℕ, ◌+◌, ◌≤◌, ◌<◌}
use native.Mathlib.Omega.{arith}
use lib.ListN.{length, take, drop, length-take}
use Rattle.definitions.specs.Chain.{Block, data_of, joined}
use Rattle.chain.specs.Walk.{Walked}
use Rattle.places.specs.declared.place.Place.{Place}
use Rattle.words.proofs.Numbers.{Bytes, bytes_append}
use Rattle.words.proofs.Spans.{bytes_span}
use Rattle.chain.proofs.Chains.{joined_length, joined_more, data_bound, chain_stands}
use Rattle.tally.specs.declared.tally.Tally.{Tally}
use Rattle.slots.specs.declared.slot.Slot.{Slot}
use Rattle.report.specs.Visits.{Held, visited, few_records}
use Rattle.report.proofs.Seen.{held_start, held_turn, held_few}
use Rattle.report.proofs.Visiting.{seen_records}

nil_of_length : (l : List ℕ) → length l ≡ 0 → l ≡ []
nil_of_length [] e = refl
nil_of_length (x ∷ l) e = let no : ⊥ = omega arith in absurd no

-- the joined data has nothing but bytes
pub joined_bytes : (f : List ℕ) (bs : List Block) → Bytes f → Bytes (joined f bs)
unfolding joined
joined_bytes f [] h = λ i. omega arith
joined_bytes f (b ∷ bs) h = bytes_append (data_of f b) (joined f bs) (bytes_span f (b.address + 24) b.size h) (joined_bytes f bs h)

-- and of a chain that is accepted it is short
pub joined_short : (id f : List ℕ) (p : Place) (w : Walked id f p) → length (joined f w.blocks) < 4503599627370496
joined_short id f p w =
    let stand = chain_stands id f w.start w.blocks w.whole in
    omega (arith, joined_length f w.blocks stand.inside, data_bound f w.blocks w.at.short stand)

module _ (id f : List ℕ) (p : Place) (v : Walked id f p) where
  -- the data of the blocks so far
  abbrev met : List ℕ
  met = joined f v.before

  met_long : length met ≡ p.position.0
  met_long = joined_length f v.before v.at.stand.inside ∙ v.at.size

  -- where there is none
  pub held_begin : {S : Type 0} (visit : S → List ℕ → S) (size : ℕ) (s : S) (buf : List ℕ) → 0 < size → p.position.0 ≡ 0 → Held visit size s met buf s 0
  held_begin visit size s buf z e =
      subst (λ (j : List ℕ). Held visit size s j buf s 0) (sym (nil_of_length met (met_long ∙ e))) (held_start visit size z s buf)

  module _ (w : Slot) (size : ℕ) (t u : Tally) (buf : List ℕ) (fill : ℕ) (none : t.records ≡ 0) (held : Held (visited w) size t met buf u fill) where
    -- no more records than bytes, which are few
    so_few : u.records < 4503599627370496
    so_few =
        let n : u.records ≡ t.records + held.k = ap (λ (x : Tally). x.records) held.state ∙ seen_records w size t met held.k in
        omega (arith, held_few (visited w) size (omega (arith, held.small)) t u met buf fill held, met_long, v.at.size, data_bound f v.before v.at.short v.at.stand)

    pub few_met : u.records < few_records
    few_met = omega (arith, so_few)

    -- nor has a fragment many
    pub few_with : (b : Block) → b.address + 24 + b.size ≤ length f → (part : List ℕ) → part ≡ data_of f b → u.records + 1 + length part < few_records
    few_with b inside part e =
        let n : length part ≤ b.size = subst (λ (d : List ℕ). length d ≤ b.size) (sym e) (omega (arith, length-take b.size (drop (b.address + 24) f))) in
        omega (arith, so_few, v.at.short)

    -- behind the fragment
    pub held_behind : (b : Block) (part buf' : List ℕ) (r : Tally) (fill' : ℕ) → part ≡ data_of f b → Held (visited w) size u (take fill buf ++ part) buf' r fill'
        → Held (visited w) size t (joined f (v.before ++ (b ∷ []))) buf' r fill'
    held_behind b part buf' r fill' e h =
        subst (λ (j : List ℕ). Held (visited w) size t j buf' r fill') (ap (λ (d : List ℕ). met ++ d) e ∙ sym (joined_more f b v.before))
        (held_turn (visited w) size t u r met buf part buf' fill fill' held h)
