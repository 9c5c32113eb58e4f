-- What it is to share a bit of the record, without the recursion: some bit of each field stands in one place.
use mathlib.Core.Path.{◌≡◌, refl, sym, ap, ◌∙◌}
use mathlib.Core.Bool.{Bool, true, false, true≢false, ◌||◌}
use Prim.Native.Nat.{ℕ, zero, suc, ◌+◌, ◌≤◌, ◌<◌}
use native.Mathlib.Omega.{arith}
use lib.Dec.{eqb}
use borrow.Author.Tests.{eqb-true, eqb-false, eq-eqb}
use Rattle.definitions.specs.Channel.{Channel, bit_place}
use Rattle.definitions.specs.Overlap.{some_from, share_a_bit}

-- ---- a test over numbers in a row

or_true : (b : Bool) → b || true ≡ true
or_true true = refl
or_true false = refl

-- one that passes makes the whole pass
some_here : (k n i : ℕ) (test : ℕ → Bool) → k ≤ i → i < k + n → test i ≡ true → some_from k n test ≡ true
unfolding some_from
some_here k zero i test a b e = let no : ⊥ = omega arith in absurd no
some_here k (suc n) i test a b e = go (eqb k i) refl (λ h. some_here (k + 1) n i test (later (eqb-false k i h)) below e)
  where
    later : (k ≡ i → ⊥) → k + 1 ≤ i
    later h = omega arith

    below : i < k + 1 + n
    below = omega arith

    go : (t : Bool) → eqb k i ≡ t → (eqb k i ≡ false → some_from (k + 1) n test ≡ true) → test k || some_from (k + 1) n test ≡ true
    go true h rest = ap (λ (x : Bool). x || some_from (k + 1) n test) (ap test (eqb-true k i h) ∙ e)
    go false h rest = ap (λ (x : Bool). test k || x) (rest h) ∙ or_true (test k)

-- and where the whole passes there is one
some_there : (k n : ℕ) (test : ℕ → Bool) → some_from k n test ≡ true → (i : ℕ) × ((k ≤ i) × (i < k + n) × (test i ≡ true))
unfolding some_from
some_there k zero test e = absurd (true≢false (sym e))
some_there k (suc n) test e = go (test k) refl e (λ h. some_there (k + 1) n test h)
  where
    here : (k ≤ k) × (k < k + suc n)
    here = (omega arith, omega arith)

    up : (i : ℕ) → k + 1 ≤ i → k ≤ i
    up i h = omega arith

    down : (i : ℕ) → i < k + 1 + n → i < k + suc n
    down i h = omega arith

    go : (t : Bool) → test k ≡ t → t || some_from (k + 1) n test ≡ true
        → (some_from (k + 1) n test ≡ true → (i : ℕ) × ((k + 1 ≤ i) × (i < k + 1 + n) × (test i ≡ true)))
        → (i : ℕ) × ((k ≤ i) × (i < k + suc n) × (test i ≡ true))
    go true h f rest = (k, (here.0, here.1, h))
    go false h f rest = let r = rest f in (r.0, (up r.0 r.1.0, down r.0 r.1.1, r.1.2))

-- ---- two fields

-- bit k of the number is one of the field's own
abbrev pub Within : Channel → ℕ → Type 0
Within c k = (c.bit_offset ≤ k) × (k < c.bit_offset + c.bit_count)

pub record Shared (a b : Channel) : Type 0 where
  pub k : ℕ
  pub l : ℕ
  pub of_a : Within a k
  pub of_b : Within b l
  pub one_place : bit_place a k ≡ bit_place b l

pub shared : (a b : Channel) → share_a_bit a b ≡ true → Shared a b
unfolding share_a_bit
shared a b e =
    let u = some_there a.bit_offset a.bit_count (λ k. some_from b.bit_offset b.bit_count (λ l. eqb (bit_place a k) (bit_place b l))) e in
    let v = some_there b.bit_offset b.bit_count (λ l. eqb (bit_place a u.0) (bit_place b l)) u.1.2 in
    record {
      k = u.0;
      l = v.0;
      of_a = (u.1.0, u.1.1);
      of_b = (v.1.0, v.1.1);
      one_place = eqb-true _ _ v.1.2;
    }

pub shared_back : (a b : Channel) → Shared a b → share_a_bit a b ≡ true
unfolding share_a_bit
shared_back a b s =
    some_here a.bit_offset a.bit_count s.k _ s.of_a.0 s.of_a.1
    (some_here b.bit_offset b.bit_count s.l _ s.of_b.0 s.of_b.1 (eq-eqb _ _ s.one_place))

-- no bit of the one stands where a bit of the other does
abbrev pub Apart : Channel → Channel → Type 0
Apart a b = (k l : ℕ) → Within a k → Within b l → bit_place a k ≡ bit_place b l → ⊥

pub apart : (a b : Channel) → share_a_bit a b ≡ false → Apart a b
apart a b none k l of_a of_b e =
    true≢false (sym (shared_back a b (record { k = k; l = l; of_a = of_a; of_b = of_b; one_place = e })) ∙ none)

pub apart_back : (a b : Channel) → Apart a b → share_a_bit a b ≡ false
apart_back a b far = go (share_a_bit a b) refl
  where
    go : (t : Bool) → share_a_bit a b ≡ t → t ≡ false
    go true e = let s = shared a b e in absurd (far s.k s.l s.of_a s.of_b s.one_place)
    go false e = refl

-- whichever comes first
pub shared_either_way : (a b : Channel) → share_a_bit a b ≡ share_a_bit b a
shared_either_way a b = go (share_a_bit b a) refl
  where
    go : (t : Bool) → share_a_bit b a ≡ t → share_a_bit a b ≡ t
    go true e =
        let s = shared b a e in
        shared_back a b (record { k = s.l; l = s.k; of_a = s.of_b; of_b = s.of_a; one_place = sym s.one_place })
    go false e = apart_back a b (λ k l of_a of_b same. apart b a e l k of_b of_a (sym same))
