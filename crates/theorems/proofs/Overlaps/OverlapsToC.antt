-- The same of the call for C: no second reply, about its very clause, that nothing of the reply is lost, and what the fields of
-- its struct tell.
use mathlib.Core.Path.{◌≡◌, refl, sym, ap, subst, ◌∙◌}
use mathlib.Core.Bool.{false}
use mathlib.Core.Logic.{◌⊎◌, ⊎_elim}
use mathlib.Core.List.{List, map}
use Prim.Native.Nat.{ℕ, ◌≤◌, ◌<◌}
use native.Mathlib.Omega.{arith}
use lib.Dec.{eqb}
use lib.ListN.{length}
use denote.Ref.{Bor}
use Rattle.definitions.specs.Reply.{Reply, answer, refusal}
use Rattle.definitions.specs.Channel.{Channel}
use Rattle.definitions.specs.Overlap.{Overlap, pair, none, channel_limit, overlap_of}
use Rattle.block_replies.specs.Channels.{channel_given}
use Rattle.replies.specs.Overlaps.{overlap_c}
use Rattle.block_replies.specs.declared.channel.Mf4Channel.{Mf4Channel}
use Rattle.replies.specs.declared.overlap.Mf4OverlapReply.{Mf4OverlapReply}
use Rattle.block_replies.proofs.ToldToC.{Tellable, Any}
use Rattle.replies.proofs.ToldToC.{overlap_again, overlap_told}
use Rattle.lent_channels.specs.contracts.first_overlap as first_overlap
use Rattle.mf4.specs.ByHand.{ClausesIn}
use Rattle.mf4.proofs.Border.{mf4_first_overlap_clauses}
use Rattle.mf4.specs.contracts.mf4_first_overlap as mf4_first_overlap
use Rattle.theorems.specs.Exactly.{ExactlyZero}
use Rattle.theorems.specs.SoleByHand.{SettledByHand}
use Rattle.theorems.specs.OverlapEnds.{Searchable, FirstOther, FirstPair, NoPair, OverlapEnds}
use Rattle.theorems.proofs.Calls.RefusalNumbers.{Numbered}
use Rattle.theorems.proofs.Calls.AnswersToC.{zero_exactly}
use Rattle.theorems.proofs.Overlaps.Overlaps.{OfOverlaps, overlap_ends, overlap_numbered, overlap_exactly, pair_is_first, first_is_given, none_is_clear, clear_gives_none, refused_exactly, many_refused, other_refused}

-- the clause, as a fact of the lent list and the result
abbrev pub FindsOverlapC : Bor (List Mf4Channel) → Mf4OverlapReply → Type 0
FindsOverlapC list y = y ≡ overlap_c (overlap_of (map channel_given list.now))

abbrev first_overlap_clauses : ClausesIn first_overlap.ended
first_overlap_clauses w = first_overlap.clauses w.𝓛 w.𝓜.mem w.𝓡.returns

-- of the walk that the call hands its list to
pub first_overlap_settled : SettledByHand first_overlap.ended first_overlap_clauses (λ κs a y b. FindsOverlapC a.0 y)
first_overlap_settled = record {
  free = λ w κs a g. refl;
  says = λ κs a y b w g. refl;
  sole = λ κs a y z b c p q. (p ∙ sym q, refl);
}

pub mf4_first_overlap_settled : SettledByHand mf4_first_overlap.ended mf4_first_overlap_clauses (λ κs a y b. FindsOverlapC a.0 y)
mf4_first_overlap_settled = record {
  free = λ w κs a g. refl;
  says = λ κs a y b w g. refl;
  sole = λ κs a y z b c p q. (p ∙ sym q, refl);
}

-- ---- the reply can be told

some_number : (n t : ℕ) → OfOverlaps n t → 0 < n
some_number n t h = ⊎_elim (λ q. above 26 q.0 (omega arith)) (λ q. above 27 q.0 (omega arith)) h
  where
    above : (m : ℕ) → n ≡ m → 0 < m → 0 < n
    above m e l = omega arith

tellable : (r : Reply Overlap) → Numbered OfOverlaps r → Tellable Any r
tellable (answer o) h = tt
tellable (refusal n t) h = some_number n t (h n t refl)

-- ---- what the fields tell

module _ (y : Mf4OverlapReply) where
  not_both : y.found ≡ 0 → y.found ≡ 1 → ⊥
  not_both e h = omega arith

  -- of no reply but a pair it is told that one is found
  pair_told : (r : Reply Overlap) → y ≡ overlap_c r → y.found ≡ 1 → r ≡ answer (pair y.first y.second)
  pair_told (answer (pair i j)) p h = ap (λ (x : Mf4OverlapReply). answer (pair x.first x.second)) (sym p)
  pair_told (answer none) p h = absurd (not_both (ap (λ (x : Mf4OverlapReply). x.found) p) h)
  pair_told (refusal n t) p h = absurd (not_both (ap (λ (x : Mf4OverlapReply). x.found) p) h)

  -- what is made again of a reply of 0 where none is found, and of a refusal
  none_again : y.reply ≡ 0 → y.found ≡ 0 → overlap_again y ≡ answer none
  none_again h g = rw (h, g)

  refused_again : (n : ℕ) → eqb n 0 ≡ false → y.reply ≡ n → overlap_again y ≡ refusal n y.told
  refused_again n some h = rw (h, some)

-- ---- the call

-- `other` stands past the end of the list, and is never asked
module _ (other : Channel) (list : Bor (List Mf4Channel)) (y : Mf4OverlapReply) (p : FindsOverlapC list y) where
  abbrev cs : List Channel
  cs = map channel_given list.now

  ends : OverlapEnds other cs (overlap_of cs)
  ends = overlap_ends other cs

  pub mf4_first_overlap_told : overlap_again y ≡ overlap_of cs
  mf4_first_overlap_told = ap overlap_again p ∙ overlap_told (overlap_of cs) (tellable (overlap_of cs) (overlap_numbered other cs))

  pub mf4_first_overlap_ends : OverlapEnds other cs (overlap_again y)
  mf4_first_overlap_ends = subst (OverlapEnds other cs) (sym mf4_first_overlap_told) ends

  -- it replies 0 exactly where the list can be searched
  pub first_overlap_zero : ExactlyZero (Searchable other cs) y.reply
  first_overlap_zero = zero_exactly y.reply y.told _ _ mf4_first_overlap_told (overlap_exactly other cs)

  -- a pair that is found is the first that shares a bit, and that is found
  pub found_is_first : y.found ≡ 1 → Searchable other cs × FirstPair other cs y.first y.second
  found_is_first h = pair_is_first other cs (overlap_of cs) ends y.first y.second (pair_told y (overlap_of cs) p h)

  pub first_is_found : Searchable other cs → (i j : ℕ) → FirstPair other cs i j → y ≡ overlap_c (answer (pair i j))
  first_is_found s i j f = p ∙ ap overlap_c (first_is_given other cs (overlap_of cs) ends s i j f)

  -- none is found where no pair shares a bit, and nowhere else
  pub not_found_is_clear : y.reply ≡ 0 → y.found ≡ 0 → Searchable other cs × NoPair other cs
  not_found_is_clear h g = none_is_clear other cs (overlap_of cs) ends (sym mf4_first_overlap_told ∙ none_again y h g)

  pub clear_is_not_found : Searchable other cs → NoPair other cs → y ≡ overlap_c (answer none)
  clear_is_not_found s f = p ∙ ap overlap_c (clear_gives_none other cs (overlap_of cs) ends s f)

  refused_so : (n : ℕ) → eqb n 0 ≡ false → y.reply ≡ n
      → ((channel_limit < length cs) × (n ≡ 26) × (y.told ≡ 0)) ⊎ ((length cs ≤ channel_limit) × FirstOther other cs y.told × (n ≡ 27))
  refused_so n some h = refused_exactly other cs (overlap_of cs) ends n y.told (sym mf4_first_overlap_told ∙ refused_again y n some h)

  -- 26 for a list that is too long, and for no other
  pub too_many_channels : y.reply ≡ 26 → channel_limit < length cs
  too_many_channels h = ⊎_elim (λ (l, _, _). l) (λ (_, _, e). absurd (omega arith)) (refused_so 26 refl h)

  pub too_many_refused : channel_limit < length cs → y ≡ overlap_c (refusal 26 0)
  too_many_refused l = p ∙ ap overlap_c (many_refused other cs (overlap_of cs) ends l)

  -- 27 with the first entry that is no fixed number, and for no other list
  pub no_fixed_number_there : y.reply ≡ 27 → (length cs ≤ channel_limit) × FirstOther other cs y.told
  no_fixed_number_there h = ⊎_elim (λ (_, e, _). absurd (omega arith)) (λ (l, f, _). (l, f)) (refused_so 27 refl h)

  pub no_fixed_number_refused : length cs ≤ channel_limit → (i : ℕ) → FirstOther other cs i → y ≡ overlap_c (refusal 27 i)
  no_fixed_number_refused l i f = p ∙ ap overlap_c (other_refused other cs (overlap_of cs) ends l i f)
