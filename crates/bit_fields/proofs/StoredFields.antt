-- A field that was replaced: it reads back, and no bit of the record changes that is not its own.
use mathlib.Core.Path.{◌≡◌, refl, sym, ap, ap₂, ◌∙◌}
use mathlib.Core.List.{List, [], ◌∷◌, ◌++◌, append_assoc, reverse, reverse-reverse}
use mathlib.Core.Logic.{◌⊎◌, inl, inr}
use Prim.Native.Nat.{ℕ, zero, suc, ◌+◌, ◌-◌, ◌*◌, ◌/◌, ◌%◌, ◌^◌, ◌≤◌, ◌<◌}
use native.Mathlib.Omega.{arith}
use lib.ListN.{length, get_or, set, take, drop, length-reverse, take-append-drop}
use lib.Seq.{sets, sets-eq, length-sets, get_or-set_other, drop-drop}
use Rattle.definitions.specs.Bytes.{Order, little, big, le_of, number_of, le, bytes_of, span, bits, bit, bytes_for, field_at, with_bits, field_set, byte_with}
use Rattle.definitions.proofs.Replies.{le_or_lt}
use Rattle.words.proofs.Numbers.{Bytes, bytes_reverse, back_le}
use Rattle.words.proofs.Spans.{bytes_span, length_span, span_below}
use Rattle.words.proofs.Stores.{span_sets}
use Rattle.bit_fields.proofs.Locality.{record_bit, span_bit}
use Rattle.bit_fields.proofs.Replaced.{field_inside, back, bit_below, bit_above, stays_below}
use Rattle.words.proofs.BytesOf.{length_of, bytes_of_law, number_back_law}

-- ---- runs of stores

bytes_set : (l : List ℕ) (i v : ℕ) → v < 256 → Bytes l → Bytes (set l i v)
bytes_set [] i v h b k = b k
bytes_set (y ∷ l) zero v h b zero = h
bytes_set (y ∷ l) zero v h b (suc k) = b (suc k)
bytes_set (y ∷ l) (suc i) v h b zero = b zero
bytes_set (y ∷ l) (suc i) v h b (suc k) = bytes_set l i v h (λ j. b (suc j)) k

-- bytes stay bytes
bytes_sets : (vs l : List ℕ) (i : ℕ) → Bytes vs → Bytes l → Bytes (sets l i vs)
bytes_sets [] l i a b = b
bytes_sets (v ∷ vs) l i a b = bytes_sets vs (set l i v) (suc i) (λ j. a (suc j)) (bytes_set l i v (a zero) b)

-- what stands before the run and behind it is left alone
outside_run : (vs l : List ℕ) (i k : ℕ) → (k < i) ⊎ (i + length vs ≤ k) → get_or (sets l i vs) k 0 ≡ get_or l k 0
outside_run [] l i k out = refl
outside_run (v ∷ vs) l i k (inl h) = outside_run vs (set l i v) (suc i) k (inl (omega arith)) ∙ get_or-set_other l i k v 0 (λ e. omega arith)
outside_run (v ∷ vs) l i k (inr h) = outside_run vs (set l i v) (suc i) k (inr (omega arith)) ∙ get_or-set_other l i k v 0 (λ e. omega arith)

-- ---- places of bits

-- where in a record bit k of a field's number stands: 8 bits to a byte, the lowest first
abbrev pub place_of : Order → ℕ → ℕ → ℕ → ℕ
place_of o at n k = (at + byte_with o n k) * 8 + k % 8

-- the bit at a place
abbrev pub bit_there : List ℕ → ℕ → ℕ
bit_there s p = bit (get_or s (p / 8) 0) (p % 8)

-- as the laws of fields have it
pub there : (o : Order) (s : List ℕ) (at n k : ℕ) → bit_there s (place_of o at n k) ≡ record_bit o s at n k
there o s at n k =
    let q : place_of o at n k / 8 ≡ at + byte_with o n k = omega arith in
    let r : place_of o at n k % 8 ≡ k % 8 = omega arith in
    ap₂ (λ (i j : ℕ). bit (get_or s i 0) j) q r

-- which bit of the number stands at a place of the span
abbrev number_bit : Order → ℕ → ℕ → ℕ → ℕ
number_bit little at n p = 8 * (p / 8 - at) + p % 8
number_bit big at n p = 8 * (n - 1 - (p / 8 - at)) + p % 8

found : (o : Order) (at n p : ℕ) → at ≤ p / 8 → p / 8 < at + n → (number_bit o at n p < 8 * n) × (place_of o at n (number_bit o at n p) ≡ p)
found little at n p lo hi = (omega arith, omega arith)
found big at n p lo hi = (omega arith, omega arith)

-- ---- the field

module _ (o : Order) (s : List ℕ) (at offset count x : ℕ) where
  abbrev n : ℕ
  n = bytes_for offset count

  abbrev new : ℕ
  new = with_bits (number_of o (span s at n)) offset count x

  pub length_stored : length (field_set o s at offset count x) ≡ length s
  length_stored = length-sets s at (bytes_of o n new)

  module _ (b : Bytes s) (room : at + bytes_for offset count ≤ length s) (fits : x < 2 ^ count) where
    pub bytes_stored : Bytes (field_set o s at offset count x)
    bytes_stored = bytes_sets (bytes_of o n new) s at (bytes_of_law o n new) b

    -- the span stands for the number with x in it
    number_stored : number_of o (span (field_set o s at offset count x) at n) ≡ new
    number_stored =
        let e : length (bytes_of o n new) ≡ n = length_of o n new in
        let h : new < 2 ^ (8 * n) = stays_below (number_of o (span s at n)) offset count x fits (8 * n) (omega arith) (span_below o s at n b room) in
        ap (number_of o) (ap (span (field_set o s at offset count x) at) (sym e) ∙ span_sets s (bytes_of o n new) at (omega arith)) ∙ number_back_law o n new h

    -- what was stored is read
    pub reads_back : field_at o (field_set o s at offset count x) at offset count ≡ x
    reads_back = ap (λ (y : ℕ). bits y offset count) number_stored ∙ back (number_of o (span s at n)) offset count x fits

    -- a bit of the span outside the field
    same_bit : (k : ℕ) → k < 8 * n → ((k < offset) ⊎ (offset + count ≤ k)) → record_bit o (field_set o s at offset count x) at n k ≡ record_bit o s at n k
    same_bit k l out =
        sym (span_bit o (field_set o s at offset count x) at n k bytes_stored (rw length_stored room) l)
        ∙ ap (λ (y : ℕ). bit y k) number_stored ∙ kept out ∙ span_bit o s at n k b room l
      where
        kept : (k < offset) ⊎ (offset + count ≤ k) → bit new k ≡ bit (number_of o (span s at n)) k
        kept (inl h) = bit_below (number_of o (span s at n)) offset count x k h
        kept (inr h) = bit_above (number_of o (span s at n)) offset count x fits k h

    -- no bit is changed that is not the field's
    pub untouched : (p : ℕ) → ((k : ℕ) → offset ≤ k → k < offset + count → place_of o at (bytes_for offset count) k ≡ p → ⊥)
        → bit_there (field_set o s at offset count x) p ≡ bit_there s p
    untouched p out = go (le_or_lt at (p / 8)) (le_or_lt (at + n) (p / 8))
      where
        k : ℕ
        k = number_bit o at n p

        off : (offset ≤ k) ⊎ (k < offset) → (offset + count ≤ k) ⊎ (k < offset + count) → place_of o at n k ≡ p → (k < offset) ⊎ (offset + count ≤ k)
        off (inr h) t e = inl h
        off (inl h) (inl g) e = inr g
        off (inl h) (inr g) e = absurd (out k h g e)

        inside : at ≤ p / 8 → p / 8 < at + n → bit_there (field_set o s at offset count x) p ≡ bit_there s p
        inside lo hi =
            let f = found o at n p lo hi in
            let same : bit_there (field_set o s at offset count x) (place_of o at n k) ≡ bit_there s (place_of o at n k) =
            there o (field_set o s at offset count x) at n k ∙ same_bit k f.0 (off (le_or_lt offset k) (le_or_lt (offset + count) k) f.1) ∙ sym (there o s at n k) in
            rw f.1 at same

        go : (at ≤ p / 8) ⊎ (p / 8 < at) → (at + n ≤ p / 8) ⊎ (p / 8 < at + n) → bit_there (field_set o s at offset count x) p ≡ bit_there s p
        go (inr h) t = ap (λ (y : ℕ). bit y (p % 8)) (outside_run (bytes_of o n new) s at (p / 8) (inl h))
        go (inl h) (inl g) = ap (λ (y : ℕ). bit y (p % 8)) (outside_run (bytes_of o n new) s at (p / 8) (inr (omega (arith, length_of o n new))))
        go (inl h) (inr g) = inside h g

-- ---- the field that is there already

-- a number with its own field is itself
own_bits : (m offset count : ℕ) → with_bits m offset count (bits m offset count) ≡ m
own_bits m offset count = omega (arith, field_inside m offset count 0)

bytes_back : (o : Order) (bs : List ℕ) (n : ℕ) → Bytes bs → length bs ≡ n → bytes_of o n (number_of o bs) ≡ bs
bytes_back little bs n b e = ap (λ (k : ℕ). le k (le_of bs)) (sym e) ∙ back_le bs b
bytes_back big bs n b e =
    ap reverse (ap (λ (k : ℕ). le k (le_of (reverse bs))) (sym (length-reverse bs ∙ e)) ∙ back_le (reverse bs) (bytes_reverse bs b)) ∙ reverse-reverse bs

-- bytes stored where they stand
sets_own : (s : List ℕ) (at n : ℕ) → at + n ≤ length s → sets s at (span s at n) ≡ s
sets_own s at n room =
    let e : length (span s at n) ≡ n = length_span s at n room in
    sets-eq (span s at n) s at (omega arith) ∙ append_assoc (take at s) (span s at n) (drop (at + length (span s at n)) s)
    ∙ ap (λ (k : ℕ). take at s ++ (span s at n ++ drop (at + k) s)) e
    ∙ ap (λ (r : List ℕ). take at s ++ (span s at n ++ r)) (sym (drop-drop n at s))
    ∙ ap (λ (r : List ℕ). take at s ++ r) (take-append-drop n (drop at s)) ∙ take-append-drop at s

pub stored_same : (o : Order) (s : List ℕ) (at offset count : ℕ) → Bytes s → at + bytes_for offset count ≤ length s
    → field_set o s at offset count (field_at o s at offset count) ≡ s
stored_same o s at offset count b room =
    let m : ℕ = bytes_for offset count in
    let bs : List ℕ = span s at m in
    ap (λ (y : ℕ). sets s at (bytes_of o m y)) (own_bits (number_of o bs) offset count)
    ∙ ap (sets s at) (bytes_back o bs m (bytes_span s at m b) (length_span s at m room)) ∙ sets_own s at m room
