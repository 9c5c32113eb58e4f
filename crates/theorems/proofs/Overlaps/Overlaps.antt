-- The search for the first overlap ends in one of four ways, each exactly where the list is so: the pair given shares a bit and
-- none before it does, none is given where no pair does, and 26 and 27 are told of lists that cannot be searched.
use Rattle.std.specs.Prelude.{if◌then◌else◌}
use mathlib.Core.Path.{◌≡◌, refl, sym, ap, ap₂, subst, ◌∙◌}
use mathlib.Core.Bool.{Bool, true, false, true≢false}
use mathlib.Core.Logic.{◌⊎◌, inl, inr, ⊎_elim}
use mathlib.Core.List.{List, [], ◌∷◌}
use Prim.Native.Nat.{ℕ, zero, suc, ◌+◌, ◌<◌, ◌≤◌}
use native.Mathlib.Omega.{arith}
use lib.Dec.{ltb, eqb}
use lib.ListN.{length, get_or}
use borrow.Author.Tests.{ltb-true, ltb-false, eqb-true, eqb-false}
use Rattle.definitions.specs.Reply.{Reply, answer, refusal}
use Rattle.definitions.specs.Channel.{Channel, is_sound_number}
use Rattle.definitions.specs.Overlap.{share_a_bit, Overlap, pair, none, pair_with, first_pair, all_fixed, channel_limit, overlap_of}
use Rattle.definitions.proofs.Replies.{not_answered}
use Rattle.theorems.specs.Exactly.{Exactly}
use Rattle.theorems.specs.OverlapEnds.{fixed_at, share_at, Searchable, FirstOther, Earlier, FirstPair, NoPair, OverlapEnds, too_many, no_fixed_number, a_pair, no_pair}
use Rattle.theorems.proofs.Calls.RefusalNumbers.{Numbered}

-- `other` stands past the end of a list, and is never asked
module _ (other : Channel) where
  -- ---- the pairs of one entry a with those of bs, which stand from place q on

  abbrev Hit : ℕ → Channel → ℕ → List Channel → Overlap → Type 0
  Hit i a q bs o =
      (d : ℕ) × ((d < length bs) × (o ≡ pair i (q + d)) × (share_a_bit a (get_or bs d other) ≡ true) × ((e : ℕ) → e < d → share_a_bit a (get_or bs e other) ≡ false))

  abbrev Missed : Channel → List Channel → Type 0
  Missed a bs = (e : ℕ) → e < length bs → share_a_bit a (get_or bs e other) ≡ false

  later_hit : (i q : ℕ) (a b : Channel) (bs : List Channel) (o : Overlap) → share_a_bit a b ≡ false → Hit i a (q + 1) bs o → Hit i a q (b ∷ bs) o
  later_hit i q a b bs o no-b (d, (l, e, shared, free)) = (suc d, (omega arith, e ∙ ap (pair i) (omega arith), shared, before))
    where
      before : (e : ℕ) → e < suc d → share_a_bit a (get_or (b ∷ bs) e other) ≡ false
      before zero l = no-b
      before (suc e) l = free e (omega arith)

  later_miss : (a b : Channel) (bs : List Channel) → share_a_bit a b ≡ false → Missed a bs → Missed a (b ∷ bs)
  later_miss a b bs no-b m zero l = no-b
  later_miss a b bs no-b m (suc e) l = m e (omega arith)

  with_one : (i : ℕ) (a : Channel) (q : ℕ) (bs : List Channel) (after : Overlap)
      → Hit i a q bs (pair_with i a q bs after) ⊎ ((pair_with i a q bs after ≡ after) × Missed a bs)
  unfolding pair_with
  with_one i a q [] after = inr (refl, λ e l. absurd (omega arith))
  with_one i a q (b ∷ bs) after = go (share_a_bit a b) refl (with_one i a (q + 1) bs after)
    where
      go : (t : Bool) → share_a_bit a b ≡ t → Hit i a (q + 1) bs (pair_with i a (q + 1) bs after) ⊎ ((pair_with i a (q + 1) bs after ≡ after) × Missed a bs)
          → Hit i a q (b ∷ bs) (if t then pair i q else pair_with i a (q + 1) bs after) ⊎ (((if t then pair i q else pair_with i a (q + 1) bs after) ≡ after) × Missed a (b ∷ bs))
      go true e rest = inl (0, (omega arith, ap (pair i) (omega arith), e, λ k l. absurd (omega arith)))
      go false e rest = ⊎_elim (λ h. inl (later_hit i q a b bs _ e h)) (λ m. inr (m.0, later_miss a b bs e m.1)) rest

  -- ---- the pairs of the list cs, which stands from place p on

  abbrev Found : ℕ → List Channel → Overlap → Type 0
  Found p cs o = (i j : ℕ) × (FirstPair other cs i j × (o ≡ pair (p + i) (p + j)))

  abbrev Clear : List Channel → Overlap → Type 0
  Clear cs o = NoPair other cs × (o ≡ none)

  module _ (p : ℕ) (a : Channel) (cs : List Channel) where
    at_head : (o : Overlap) → Hit p a (p + 1) cs o → Found p (a ∷ cs) o
    at_head o (d, (l, e, shared, free)) =
        (0, suc d, (record { in_order = omega arith; inside = omega arith; shares = shared; none_before = before }, e ∙ ap₂ pair (omega arith) (omega arith)))
      where
        before : (x y : ℕ) → x < y → y < suc (length cs) → Earlier other (a ∷ cs) x y 0 (suc d) → share_at other (a ∷ cs) x y ≡ false
        before x zero l m w = absurd (omega arith)
        before zero (suc y) l m (inl n) = absurd (omega arith)
        before zero (suc y) l m (inr n) = free y (omega arith)
        before (suc x) (suc y) l m (inl n) = absurd (omega arith)
        before (suc x) (suc y) l m (inr n) = absurd (omega arith)

    -- a shares no bit with any of cs
    module _ (m : Missed a cs) where
      further : (o : Overlap) → Found (p + 1) cs o → Found p (a ∷ cs) o
      further o (i, j, (f, e)) = (
        suc i,
        suc j,
        (
          record { in_order = omega (arith, f.in_order); inside = omega (arith, f.inside); shares = f.shares; none_before = before },
          e ∙ ap₂ pair (omega arith) (omega arith),
        ),
      )
        where
          before : (x y : ℕ) → x < y → y < suc (length cs) → Earlier other (a ∷ cs) x y (suc i) (suc j) → share_at other (a ∷ cs) x y ≡ false
          before x zero l k w = absurd (omega arith)
          before zero (suc y) l k w = m y (omega arith)
          before (suc x) (suc y) l k (inl n) = f.none_before x y (omega arith) (omega arith) (inl (omega arith))
          before (suc x) (suc y) l k (inr n) = f.none_before x y (omega arith) (omega arith) (inr (omega arith, omega arith))

      still_clear : (o : Overlap) → Clear cs o → Clear (a ∷ cs) o
      still_clear o (f, e) = (nowhere, e)
        where
          nowhere : (x y : ℕ) → x < y → y < suc (length cs) → share_at other (a ∷ cs) x y ≡ false
          nowhere x zero l k = absurd (omega arith)
          nowhere zero (suc y) l k = m y (omega arith)
          nowhere (suc x) (suc y) l k = f x y (omega arith) (omega arith)

  first_or_none : (p : ℕ) (cs : List Channel) → Found p cs (first_pair p cs) ⊎ Clear cs (first_pair p cs)
  unfolding first_pair
  first_or_none p [] = inr (λ x y l k. absurd (omega arith), refl)
  first_or_none p (a ∷ cs) =
      ⊎_elim (λ h. inl (at_head p a cs _ h))
      (λ m. subst (λ (o : Overlap). Found p (a ∷ cs) o ⊎ Clear (a ∷ cs) o) (sym m.0)
      (⊎_elim (λ f. inl (further p a cs m.1 _ f)) (λ f. inr (still_clear p a cs m.1 _ f)) (first_or_none (p + 1) cs)))
      (with_one p a (p + 1) cs (first_pair (p + 1) cs))

  -- ---- the entries of cs, which stand from place p on

  abbrev AllFixed : List Channel → Reply Overlap → Reply Overlap → Type 0
  AllFixed cs r q = ((i : ℕ) → i < length cs → fixed_at other cs i ≡ true) × (q ≡ r)

  abbrev OneOther : ℕ → List Channel → Reply Overlap → Type 0
  OneOther p cs q = (i : ℕ) × (FirstOther other cs i × (q ≡ refusal 27 (p + i)))

  entries : (p : ℕ) (cs : List Channel) (r : Reply Overlap) → AllFixed cs r (all_fixed p cs r) ⊎ OneOther p cs (all_fixed p cs r)
  unfolding all_fixed
  entries p [] r = inl (λ i l. absurd (omega arith), refl)
  entries p (c ∷ cs) r = go (is_sound_number c) refl (entries (p + 1) cs r)
    where
      each : is_sound_number c ≡ true → (n : ℕ) → ((i : ℕ) → i < n → fixed_at other cs i ≡ true) → (i : ℕ) → i < suc n → fixed_at other (c ∷ cs) i ≡ true
      each e n f zero l = e
      each e n f (suc i) l = f i (omega arith)

      go : (t : Bool) → is_sound_number c ≡ t → AllFixed cs r (all_fixed (p + 1) cs r) ⊎ OneOther (p + 1) cs (all_fixed (p + 1) cs r)
          → AllFixed (c ∷ cs) r (if t then all_fixed (p + 1) cs r else refusal 27 p) ⊎ OneOther p (c ∷ cs) (if t then all_fixed (p + 1) cs r else refusal 27 p)
      go true e rest =
          ⊎_elim (λ (f, q). inl (each e (length cs) f, q))
          (λ (i, (f, q)). inr (suc i, (record { inside = omega (arith, f.inside); other_kind = f.other_kind; before = each e i f.before }, q ∙ ap (refusal 27) (omega arith))))
          rest
      go false e rest = inr (0, (record { inside = omega arith; other_kind = e; before = λ k l. absurd (omega arith) }, ap (refusal 27) (omega arith)))

  -- ---- the whole

  module _ (cs : List Channel) where
    searched : Searchable other cs → (r : Reply Overlap) → r ≡ answer (first_pair 0 cs) → OverlapEnds other cs r
    searched s r e =
        ⊎_elim (λ (i, j, (f, q)). a_pair i j s f (e ∙ ap answer (q ∙ ap₂ pair (omega arith) (omega arith))))
        (λ (f, q). no_pair s f (e ∙ ap answer q)) (first_or_none 0 cs)

    pub overlap_ends : OverlapEnds other cs (overlap_of cs)
    unfolding overlap_of
    overlap_ends = go (ltb channel_limit (length cs)) refl
      where
        short : length cs ≤ channel_limit → OverlapEnds other cs (all_fixed 0 cs (answer (first_pair 0 cs)))
        short l =
            ⊎_elim (λ (f, q). searched (record { few = l; fixed = f }) _ q) (λ (i, (f, q)). no_fixed_number i l f (q ∙ ap (refusal 27) (omega arith))) (entries 0 cs (answer (first_pair 0 cs)))

        go : (t : Bool) → ltb channel_limit (length cs) ≡ t → OverlapEnds other cs (if t then refusal 26 0 else all_fixed 0 cs (answer (first_pair 0 cs)))
        go true e = too_many (ltb-true _ _ e) refl
        go false e = short (ltb-false _ _ e)

-- ---- and each way exactly there

-- 26 and 27, and what they tell
abbrev pub OfOverlaps : ℕ → ℕ → Type 0
OfOverlaps n t = ((n ≡ 26) × (t ≡ 0)) ⊎ ((n ≡ 27) × (t < channel_limit))

module _ (other : Channel) (cs : List Channel) where
  -- two pairs are one, or one of them is earlier
  which : (i j x y : ℕ) → ((i ≡ x) × (j ≡ y)) ⊎ (Earlier other cs i j x y ⊎ Earlier other cs x y i j)
  which i j x y = by_first (eqb i x) refl (ltb i x) refl
    where
      by_second : i ≡ x → (t : Bool) → eqb j y ≡ t → (u : Bool) → ltb j y ≡ u → ((i ≡ x) × (j ≡ y)) ⊎ (Earlier other cs i j x y ⊎ Earlier other cs x y i j)
      by_second e true h u k = inl (e, eqb-true _ _ h)
      by_second e false h true k = inr (inl (inr (e, ltb-true _ _ k)))
      by_second e false h false k = inr (inr (inr (sym e, omega (arith, eqb-false _ _ h, ltb-false _ _ k))))

      by_first : (t : Bool) → eqb i x ≡ t → (u : Bool) → ltb i x ≡ u → ((i ≡ x) × (j ≡ y)) ⊎ (Earlier other cs i j x y ⊎ Earlier other cs x y i j)
      by_first true h u k = by_second (eqb-true _ _ h) (eqb j y) refl (ltb j y) refl
      by_first false h true k = inr (inl (inl (ltb-true _ _ k)))
      by_first false h false k = inr (inr (inl (omega (arith, eqb-false _ _ h, ltb-false _ _ k))))

  -- there is one first pair
  pub one_first : (i j x y : ℕ) → FirstPair other cs i j → FirstPair other cs x y → (i ≡ x) × (j ≡ y)
  one_first i j x y f g =
      ⊎_elim (λ e. e)
      (λ w. absurd (⊎_elim (λ u. clash f.shares (g.none_before i j f.in_order f.inside u)) (λ u. clash g.shares (f.none_before x y g.in_order g.inside u)) w))
      (which i j x y)
    where
      clash : {t : Bool} → t ≡ true → t ≡ false → ⊥
      clash p q = true≢false (sym p ∙ q)

  abbrev Ends : Reply Overlap → Type 0
  Ends = OverlapEnds other cs

  other_fixed : {A : Type 0} (i : ℕ) → FirstOther other cs i → Searchable other cs → A
  other_fixed i f s = absurd (true≢false (sym (s.fixed i f.inside) ∙ f.other_kind))

  -- a pair is given where it is the first, and nowhere else
  pub pair_is_first : (r : Reply Overlap) → Ends r → (i j : ℕ) → r ≡ answer (pair i j) → Searchable other cs × FirstPair other cs i j
  pair_is_first r (too_many l e) i j h = not_answered (pair i j) 26 0 (sym e ∙ h)
  pair_is_first r (no_fixed_number k l f e) i j h = not_answered (pair i j) 27 k (sym e ∙ h)
  pair_is_first r (a_pair x y s f e) i j h =
      let first : x ≡ i = cc in let second : y ≡ j = cc in (s, rw (← first, ← second) f)
  pair_is_first r (no_pair s f e) i j h = cc

  pub first_is_given : (r : Reply Overlap) → Ends r → Searchable other cs → (i j : ℕ) → FirstPair other cs i j → r ≡ answer (pair i j)
  first_is_given r (too_many l e) s i j f = absurd (omega (arith, s.few))
  first_is_given r (no_fixed_number k l g e) s i j f = other_fixed k g s
  first_is_given r (a_pair x y t g e) s i j f =
      let same = one_first x y i j g f in
      e ∙ ap (λ (p : ℕ). answer (pair p y)) same.0 ∙ ap (λ (p : ℕ). answer (pair i p)) same.1
  first_is_given r (no_pair t g e) s i j f = absurd (true≢false (sym f.shares ∙ g i j f.in_order f.inside))

  -- none is given where no pair shares a bit, and nowhere else
  pub none_is_clear : (r : Reply Overlap) → Ends r → r ≡ answer none → Searchable other cs × NoPair other cs
  none_is_clear r (too_many l e) h = not_answered none 26 0 (sym e ∙ h)
  none_is_clear r (no_fixed_number k l f e) h = not_answered none 27 k (sym e ∙ h)
  none_is_clear r (a_pair x y s f e) h = cc
  none_is_clear r (no_pair s f e) h = (s, f)

  pub clear_gives_none : (r : Reply Overlap) → Ends r → Searchable other cs → NoPair other cs → r ≡ answer none
  clear_gives_none r (too_many l e) s f = absurd (omega (arith, s.few))
  clear_gives_none r (no_fixed_number k l g e) s f = other_fixed k g s
  clear_gives_none r (a_pair x y t g e) s f = absurd (true≢false (sym g.shares ∙ f x y g.in_order g.inside))
  clear_gives_none r (no_pair t g e) s f = e

  -- the refusals
  pub refused_exactly : (r : Reply Overlap) → Ends r → (n t : ℕ) → r ≡ refusal n t
      → ((channel_limit < length cs) × (n ≡ 26) × (t ≡ 0)) ⊎ ((length cs ≤ channel_limit) × FirstOther other cs t × (n ≡ 27))
  refused_exactly r (too_many l e) n t h = inl (l, cc, cc)
  refused_exactly r (no_fixed_number i l f e) n t h = let tells : t ≡ i = cc in inr (l, rw tells f, cc)
  refused_exactly r (a_pair x y s f e) n t h = not_answered (pair x y) n t (sym h ∙ e)
  refused_exactly r (no_pair s f e) n t h = not_answered none n t (sym h ∙ e)

  pub many_refused : (r : Reply Overlap) → Ends r → channel_limit < length cs → r ≡ refusal 26 0
  many_refused r (too_many l e) h = e
  many_refused r (no_fixed_number i l f e) h = absurd (omega arith)
  many_refused r (a_pair x y s f e) h = absurd (omega (arith, s.few))
  many_refused r (no_pair s f e) h = absurd (omega (arith, s.few))

  -- there is one first entry that is no fixed number
  one_other : (i k : ℕ) → FirstOther other cs i → FirstOther other cs k → i ≡ k
  one_other i k f g = go (eqb i k) refl (ltb i k) refl
    where
      go : (t : Bool) → eqb i k ≡ t → (u : Bool) → ltb i k ≡ u → i ≡ k
      go true h u e = eqb-true _ _ h
      go false h true e = absurd (true≢false (sym (g.before i (ltb-true _ _ e)) ∙ f.other_kind))
      go false h false e = absurd (true≢false (sym (f.before k (omega (arith, eqb-false _ _ h, ltb-false _ _ e))) ∙ g.other_kind))

  pub other_refused : (r : Reply Overlap) → Ends r → length cs ≤ channel_limit → (i : ℕ) → FirstOther other cs i → r ≡ refusal 27 i
  other_refused r (too_many l e) m i f = absurd (omega arith)
  other_refused r (no_fixed_number k l g e) m i f = e ∙ ap (refusal 27) (one_other k i g f)
  other_refused r (a_pair x y s g e) m i f = other_fixed i f s
  other_refused r (no_pair s g e) m i f = other_fixed i f s

  numbered : (r : Reply Overlap) → Ends r → Numbered OfOverlaps r
  numbered r ends n t h =
      ⊎_elim (λ (l, en, et). inl (en, et)) (λ (l, f, en). inr (en, omega (arith, f.inside))) (refused_exactly r ends n t h)

  pub overlap_numbered : Numbered OfOverlaps (overlap_of cs)
  overlap_numbered = numbered (overlap_of cs) (overlap_ends other cs)

  searched_exactly : (r : Reply Overlap) → Ends r → Exactly (Searchable other cs) r
  searched_exactly r (too_many l e) = record { answers = λ s. absurd (omega (arith, s.few)); only = λ o h. not_answered o 26 0 (sym e ∙ h) }
  searched_exactly r (no_fixed_number i l f e) = record { answers = λ s. other_fixed i f s; only = λ o h. not_answered o 27 i (sym e ∙ h) }
  searched_exactly r (a_pair x y s f e) = record { answers = λ _. (pair x y, e); only = λ o h. s }
  searched_exactly r (no_pair s f e) = record { answers = λ _. (none, e); only = λ o h. s }

  pub overlap_exactly : Exactly (Searchable other cs) (overlap_of cs)
  overlap_exactly = searched_exactly (overlap_of cs) (overlap_ends other cs)
