-- The bit that tells whether a value is valid, and what 28 and 29 say of it.
use Rattle.std.specs.Prelude.{if◌then◌else◌}
use mathlib.Core.Path.{◌≡◌, refl, sym, ◌∙◌}
use mathlib.Core.Bool.{Bool, true, false, not, ◌&&◌}
use Prim.Native.Nat.{ℕ, ◌+◌, ◌*◌, ◌/◌, ◌%◌, ◌^◌, ◌<◌}
use native.Mathlib.Omega.{arith}
use lib.ListN.{get_or}
use lib.Dec.{ltb, eqb}
use borrow.Author.Tests.{eqb-true, eq-eqb, ltb-true, not-false}
use Rattle.definitions.specs.Reply.{Reply, answer, refusal}
use Rattle.definitions.specs.Bytes.{bit}
use Rattle.definitions.specs.Channel.{Channel, Group, record_length, has_invalidation_bit, area_of}
use Rattle.definitions.proofs.Replies.{not_answered}
use Rattle.fields.proofs.Invalidation.{all_valid, by_bit}
use Rattle.slots.specs.Known.{FlagAsked, FlagOf}

-- bit 8 of a byte
no_ninth : (x : ℕ) → x < 256 → bit x 8 ≡ 0
no_ninth x h = let e : x / 256 ≡ 0 = omega arith in rw e

module _ (g : Group) (c : Channel) (h : FlagAsked g c) {b : ℕ} (eb : b ≡ bit c.flags 1) where
  pub always : b ≡ 0 → FlagOf g c 0 8
  always z = record {
    inside = omega (arith, h.some);
    low = omega arith;
    tells = λ s bytes. sym (all_valid s g c refl h.clear eb z) ∙ sym (eq-eqb _ 0 (no_ninth (get_or s 0 0) (bytes 0)));
  }

  pub by_place : (b ≡ 0 → ⊥) → FlagOf g c (g.id_size + g.data_bytes + c.invalidation_bit / 8) (c.invalidation_bit % 8)
  by_place some =
      let l : c.invalidation_bit < 8 * g.invalidation_bytes = h.inside (λ z. some (eb ∙ z)) in
      record {
        inside = omega arith;
        low = omega arith;
        tells = λ s bytes. sym (by_bit s g c refl h.clear eb some refl refl);
      }

  -- its place is a number that fits
  pub place_fits : (b ≡ 0 → ⊥) → g.id_size + g.data_bytes + c.invalidation_bit / 8 < 2 ^ 64
  place_fits some = omega (arith, (by_place some).inside, h.fits)

-- ---- passed

module _ (n : ℕ) (g : Group) (c : Channel) (h : area_of n g c ≡ answer tt) where
  abbrev outside : Bool
  outside = has_invalidation_bit c && not (ltb c.invalidation_bit (8 * g.invalidation_bytes))

  passed : (eqb n (record_length g) ≡ true) × (outside ≡ false)
  unfolding area_of
  passed = go (eqb n (record_length g)) outside refl refl h
    where
      go : (a b : Bool) → eqb n (record_length g) ≡ a → outside ≡ b
          → ◌≡◌ {A = Reply (Unit {0})} (if not a then refusal 28 0 else if b then refusal 29 0 else answer tt) (answer tt)
          → (eqb n (record_length g) ≡ true) × (outside ≡ false)
      go true false ea eb e = (ea, eb)
      go true true ea eb e = not_answered tt 29 0 e
      go false b ea eb e = not_answered tt 28 0 e

  pub right_length : n ≡ record_length g
  right_length = eqb-true n (record_length g) passed.0

  pub bit_inside : (bit c.flags 0 ≡ 1 → ⊥) → (bit c.flags 1 ≡ 0 → ⊥) → c.invalidation_bit < 8 * g.invalidation_bytes
  bit_inside clear some =
      let a : bit c.flags 0 ≡ 0 = omega arith in
      let b : bit c.flags 1 ≡ 1 = omega arith in
      ltb-true _ _ (not-false _ (sym (rw (eq-eqb _ 0 a, eq-eqb _ 1 b)) ∙ passed.1))
