-- The search through a list, by the place that it finds.
use Rattle.std.specs.Prelude.{if◌then◌else◌, Option, Some, None, position}
use Rattle.std.specs.List.{position_from}
use Rattle.std.proofs.lemmas.List.{take_rest}
use Rattle.std.proofs.lemmas.Iterator.Adapters.{position_from-zero}
use mathlib.Core.Path.{◌≡◌, refl, sym, ap, ◌∙◌}
use mathlib.Core.Bool.{Bool, true, false, not}
use mathlib.Core.List.{List, [], ◌∷◌, map}
use Prim.Native.Nat.{ℕ, suc, ◌+◌, ◌-◌, ◌≤◌, ◌<◌}
use native.Mathlib.Numerals.{add-one}
use native.Mathlib.Omega.{arith}
use lib.ListN.{length, length-map, get_or, drop, take, drop_of_length-le}
use lib.Seq.{drop-cons}
use borrow.Author.Tests.{le-ltb, lt-ltb}
use Rattle.definitions.specs.Reply.{Reply, answer, refusal}
use Rattle.definitions.specs.Channel.{Channel, is_sound_number}
use Rattle.definitions.specs.Overlap.{share_a_bit, Overlap, pair, none, pair_with, first_pair, all_fixed, channel_limit, overlap_of}
use Rattle.overlaps.specs.Meaning.{is_other, shares_with, found_meant}
use Rattle.overlaps.specs.declared.answer.Pair.{Pair}

module _ {A : Type 0} (meant : A → Channel) where
  -- ---- the pairs with one entry

  -- i with the place that was found, counted from `from`, or what comes after
  abbrev paired : ℕ → ℕ → Overlap → Option ℕ → Overlap
  paired i from after (Some k) = pair i (from + k)
  paired i from after None = after

  paired_by : (t : Bool) (i from k : ℕ) (after : Overlap) (found : Option ℕ)
      → (if t then pair i (from + k) else paired i from after found) ≡ paired i from after (if t then Some k else found)
  paired_by true i from k after found = refl
  paired_by false i from k after found = refl

  paired_from : (i : ℕ) (a : Channel) (from k : ℕ) (xs : List A) (after : Overlap)
      → pair_with i a (from + k) (map meant xs) after ≡ paired i from after (position_from (shares_with meant a) k xs)
  unfolding pair_with
  paired_from i a from k [] after = refl
  paired_from i a from k (x ∷ xs) after =
      let on : from + k + 1 ≡ from + (k + 1) = omega arith in
      ap (λ (o : Overlap). if share_a_bit a (meant x) then pair i (from + k) else o)
      (ap (λ (j : ℕ). pair_with i a j (map meant xs) after) on ∙ paired_from i a from (k + 1) xs after)
      ∙ paired_by (share_a_bit a (meant x)) i from k after (position_from (shares_with meant a) (k + 1) xs)

  pairs_with : (i : ℕ) (a : Channel) (from : ℕ) (xs : List A) (after : Overlap)
      → pair_with i a from (map meant xs) after ≡ paired i from after (position (shares_with meant a) xs)
  pairs_with i a from xs after =
      let start : from ≡ from + 0 = omega arith in
      ap (λ (j : ℕ). pair_with i a j (map meant xs) after) start ∙ paired_from i a from 0 xs after
      ∙ ap (paired i from after) (sym (position_from-zero (shares_with meant a) xs))

  -- ---- the pairs of a list

  -- the pairs from place i on
  abbrev pub pairs_from : List A → ℕ → Overlap
  pairs_from xs i = first_pair i (map meant (drop i xs))

  -- x stands at place i, and a is what it means
  module _ (xs : List A) (i : ℕ) (x : A) {a : Channel} {found : Option ℕ} (l : i < length xs) (here : x ≡ get_or xs i x) (means : a ≡ meant x)
      (e : found ≡ position (shares_with meant a) (take (length xs - (i + 1)) (drop (i + 1) xs))) where
    from_place : drop i xs ≡ x ∷ drop (i + 1) xs
    from_place = drop-cons xs i x l ∙ ap (λ (y : A). y ∷ drop (suc i) xs) (sym here) ∙ ap (λ (k : ℕ). x ∷ drop k xs) (sym (add-one i))

    turn : pairs_from xs i ≡ paired i (i + 1) (pairs_from xs (i + 1)) found
    unfolding first_pair
    turn =
        ap (λ (ys : List A). first_pair i (map meant ys)) from_place
        ∙ pairs_with i (meant x) (i + 1) (drop (i + 1) xs) (pairs_from xs (i + 1))
        ∙ ap (λ (c : Channel). paired i (i + 1) (pairs_from xs (i + 1)) (position (shares_with meant c) (drop (i + 1) xs))) (sym means)
        ∙ ap (paired i (i + 1) (pairs_from xs (i + 1))) (sym (e ∙ ap (position (shares_with meant a)) (take_rest xs (i + 1))))

    pub pair_found : {k : ℕ} → found ≡ Some k → pair i (i + 1 + k) ≡ pairs_from xs i
    pair_found f = sym (turn ∙ ap (paired i (i + 1) (pairs_from xs (i + 1))) f)

    pub none_found : found ≡ None → pairs_from xs i ≡ pairs_from xs (i + 1)
    none_found f = turn ∙ ap (paired i (i + 1) (pairs_from xs (i + 1))) f

  pub pairs_end : (xs : List A) (i : ℕ) → length xs ≤ i → none ≡ pairs_from xs i
  unfolding first_pair
  pairs_end xs i l = ap (λ (ys : List A). first_pair i (map meant ys)) (sym (drop_of_length-le xs l))

  -- ---- the entries

  abbrev other_told : Reply Overlap → Option ℕ → Reply Overlap
  other_told r (Some k) = refusal 27 k
  other_told r None = r

  other_by : (t : Bool) (k : ℕ) (r : Reply Overlap) (found : Option ℕ)
      → (if t then other_told r found else refusal 27 k) ≡ other_told r (if not t then Some k else found)
  other_by true k r found = refl
  other_by false k r found = refl

  others_from : (k : ℕ) (xs : List A) (r : Reply Overlap) → all_fixed k (map meant xs) r ≡ other_told r (position_from (is_other meant) k xs)
  unfolding all_fixed
  others_from k [] r = refl
  others_from k (x ∷ xs) r =
      ap (λ (o : Reply Overlap). if is_sound_number (meant x) then o else refusal 27 k) (others_from (k + 1) xs r)
      ∙ other_by (is_sound_number (meant x)) k r (position_from (is_other meant) (k + 1) xs)

  others : (xs : List A) (r : Reply Overlap) → all_fixed 0 (map meant xs) r ≡ other_told r (position (is_other meant) xs)
  others xs r = others_from 0 xs r ∙ ap (other_told r) (sym (position_from-zero (is_other meant) xs))

  -- ---- the whole

  pub many_entries : (xs : List A) → channel_limit < length xs → refusal 26 0 ≡ overlap_of (map meant xs)
  unfolding overlap_of
  many_entries xs l = rw (length-map xs meant, lt-ltb channel_limit (length xs) l)

  few_entries : (xs : List A) → length xs ≤ channel_limit
      → overlap_of (map meant xs) ≡ other_told (answer (first_pair 0 (map meant xs))) (position (is_other meant) xs)
  unfolding overlap_of
  few_entries xs l = rw (length-map xs meant, le-ltb channel_limit (length xs) l) (others xs (answer (first_pair 0 (map meant xs))))

  pub other_entry : (xs : List A) {found : Option ℕ} {k : ℕ} → length xs ≤ channel_limit → found ≡ position (is_other meant) xs → found ≡ Some k
      → refusal 27 k ≡ overlap_of (map meant xs)
  other_entry xs {found} {k} l e f = sym (few_entries xs l ∙ ap (other_told (answer (first_pair 0 (map meant xs)))) (sym e ∙ f))

  pub all_entries : (xs : List A) (pairs : Option Pair) {found : Option ℕ} → length xs ≤ channel_limit → found ≡ position (is_other meant) xs → found ≡ None
      → found_meant pairs ≡ first_pair 0 (map meant xs) → answer (found_meant pairs) ≡ overlap_of (map meant xs)
  all_entries xs pairs l e f g = ap answer g ∙ sym (few_entries xs l ∙ ap (other_told (answer (first_pair 0 (map meant xs)))) (sym e ∙ f))
