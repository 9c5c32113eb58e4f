-- Two fields, record byte by record byte.
use mathlib.Core.Path.{◌≡◌, refl, sym, ap, ◌∙◌}
use mathlib.Core.Bool.{Bool, true, false}
use Prim.Native.Nat.{ℕ, ◌+◌, ◌*◌, ◌/◌, ◌%◌, ◌≤◌, ◌<◌, min, max}
use native.Mathlib.Omega.{arith}
use lib.Dec.{eqb}
use borrow.Author.Tests.{ltb-true, ltb-false, eqb-true, eqb-false}
use Rattle.definitions.specs.Bytes.{bytes_for, byte_with}
use Rattle.definitions.specs.DataType.{order_of}
use Rattle.definitions.specs.Channel.{Channel, bit_place}
use Rattle.definitions.specs.Overlap.{share_a_bit}
use Rattle.definitions.proofs.Shared.{Within, shared_back, apart_back}
use Rattle.bit_fields.proofs.Locality.{byte_inside}
use Rattle.overlaps.specs.Meaning.{bare, InSpan, Covers, meets}
use Rattle.overlaps.specs.declared.run.Run.{Run}

-- ---- the field alone

-- the bits of a field are all that is asked of it
pub bare_share : (a b : Channel) {x y : Channel} → x ≡ bare a → y ≡ bare b → share_a_bit x y ≡ share_a_bit a b
unfolding share_a_bit
bare_share a b {x} {y} ex ey = ap (λ (z : Channel). share_a_bit z y) ex ∙ ap (λ (z : Channel). share_a_bit (bare a) z) ey

-- ---- where a bit stands

byte_of : (start w k p : ℕ) → p ≡ (start + w) * 8 + k % 8 → p / 8 ≡ start + w
byte_of start w k p e = omega arith

bit_of : (start w k p : ℕ) → p ≡ (start + w) * 8 + k % 8 → p % 8 ≡ k % 8
bit_of start w k p e = omega arith

below : (low count k : ℕ) → k < low + count → k < 8 * bytes_for low count
below low count k h = omega arith

module _ (c : Channel) (k : ℕ) where
  abbrev byte_in : ℕ
  byte_in = byte_with (order_of c.data_type) (bytes_for c.bit_offset c.bit_count) k

  its_byte : bit_place c k / 8 ≡ c.byte_offset + byte_in
  its_byte = byte_of c.byte_offset byte_in k (bit_place c k) refl

  its_bit : bit_place c k % 8 ≡ k % 8
  its_bit = bit_of c.byte_offset byte_in k (bit_place c k) refl

  -- in a byte that the field reaches into
  in_span : Within c k → InSpan c (bit_place c k / 8)
  in_span (_, b) = between byte_in (bit_place c k / 8) its_byte (byte_inside (order_of c.data_type) _ k (below c.bit_offset c.bit_count k b))
    where
      between : (w q : ℕ) → q ≡ c.byte_offset + w → w < bytes_for c.bit_offset c.bit_count → InSpan c q
      between w q e l = (omega arith, omega arith)

-- ---- two fields

module _ (a b : Channel) where
  abbrev starts : ℕ
  starts = max a.byte_offset b.byte_offset

  abbrev ends : ℕ
  ends = min (a.byte_offset + bytes_for a.bit_offset a.bit_count) (b.byte_offset + bytes_for b.bit_offset b.bit_count)

  -- no bit that both have stands in a byte before this one
  abbrev pub FreeBefore : ℕ → Type 0
  FreeBefore byte = (k l : ℕ) → Within a k → Within b l → bit_place a k ≡ bit_place b l → byte ≤ bit_place a k / 8

  -- at a byte where both are, and free before it
  pub record Upto (byte : ℕ) : Type 0 where
    pub begun : starts ≤ byte
    pub free : FreeBefore byte

  -- a bit that both have stands in a byte where both are
  in_both : (k l : ℕ) → Within a k → Within b l → bit_place a k ≡ bit_place b l → (starts ≤ bit_place a k / 8) × (bit_place a k / 8 < ends)
  in_both k l wk wl e = both (bit_place a k / 8) (bit_place b l / 8) (ap (λ (p : ℕ). p / 8) e) (in_span a k wk) (in_span b l wl)
    where
      both : (p q : ℕ) → p ≡ q → InSpan a p → InSpan b q → (starts ≤ p) × (p < ends)
      both p q same (g, h) (u, v) = (omega arith, omega arith)

  pub at_start : {byte : ℕ} → byte ≡ starts → Upto byte
  at_start {byte} e = record {
    begun = reaches (starts) e;
    free = λ k l wk wl same. from (bit_place a k / 8) (in_both k l wk wl same).0;
  }
    where
      reaches : (m : ℕ) → byte ≡ m → m ≤ byte
      reaches m h = omega arith

      from : (p : ℕ) → starts ≤ p → byte ≤ p
      from p h = omega arith

  module _ (byte : ℕ) (upto : Upto byte) where
    pub in_first : {end : ℕ} → end ≡ ends → byte < end → InSpan a byte
    in_first e l = let g = upto.begun in (omega arith, omega arith)

    pub in_second : {end : ℕ} → end ≡ ends → byte < end → InSpan b byte
    in_second e l = let g = upto.begun in (omega arith, omega arith)

    -- behind the end of one of them
    pub none_shared : {end : ℕ} → end ≡ ends → end ≤ byte → share_a_bit a b ≡ false
    none_shared e l = apart_back a b (λ k l' wk wl same. no (bit_place a k / 8) (in_both k l' wk wl same).1 (upto.free k l' wk wl same))
      where
        no : (p : ℕ) → p < ends → byte ≤ p → ⊥
        no p g h = omega arith

    module _ (x y : Run) (ca : Covers a byte x) (cb : Covers b byte y) where
      pub one_shared : meets x y ≡ true → share_a_bit a b ≡ true
      one_shared m =
          let t : ℕ = max x.from y.from in
          let l = ltb-true _ _ m in
          let u = ca.there t (left x.from y.from) (low x.to y.to t l) in
          let v = cb.there t (right x.from y.from) (high x.to y.to t l) in
          shared_back a b (record { k = u.0; l = v.0; of_a = u.1.0; of_b = v.1.0; one_place = u.1.1 ∙ sym v.1.1 })
        where
          left : (p q : ℕ) → p ≤ max p q
          left p q = omega arith

          right : (p q : ℕ) → q ≤ max p q
          right p q = omega arith

          low : (p q t : ℕ) → t < min p q → t < p
          low p q t h = omega arith

          high : (p q t : ℕ) → t < min p q → t < q
          high p q t h = omega arith

      runs_apart : meets x y ≡ false → (t : ℕ) → (x.from ≤ t) × (t < x.to) → (y.from ≤ t) × (t < y.to) → ⊥
      runs_apart m t (p, q) (u, v) = no (ltb-false _ _ m)
        where
          no : min x.to y.to ≤ max x.from y.from → ⊥
          no h = omega arith

      -- the runs do not meet: free before the next byte
      pub next_byte : meets x y ≡ false → Upto (byte + 1)
      next_byte m = record { begun = on upto.begun; free = λ k l wk wl e. further k l wk wl e (eqb (bit_place a k / 8) byte) refl }
        where
          on : starts ≤ byte → starts ≤ byte + 1
          on h = omega arith

          more : (p : ℕ) → byte ≤ p → (p ≡ byte → ⊥) → byte + 1 ≤ p
          more p g h = omega arith

          further : (k l : ℕ) → Within a k → Within b l → bit_place a k ≡ bit_place b l → (t : Bool) → eqb (bit_place a k / 8) byte ≡ t → byte + 1 ≤ bit_place a k / 8
          further k l wk wl e false h = more (bit_place a k / 8) (upto.free k l wk wl e) (eqb-false _ _ h)
          further k l wk wl e true h =
              let here : bit_place a k / 8 ≡ byte = eqb-true _ _ h in
              let same : l % 8 ≡ k % 8 = sym (its_bit b l) ∙ ap (λ (p : ℕ). p % 8) (sym e) ∙ its_bit a k in
              let q = cb.all l wl (ap (λ (p : ℕ). p / 8) (sym e) ∙ here) in
              absurd (runs_apart m (k % 8) (ca.all k wk here) (rw (sym same) q.0, rw (sym same) q.1))
