-- The ways to a validity.
use mathlib.Core.Path.{◌≡◌, refl, sym, ◌∙◌}
use mathlib.Core.Bool.{true, false}
use mathlib.Core.List.{List, [], ◌∷◌}
use Prim.Native.Nat.{ℕ, zero, suc, ◌+◌, ◌-◌, ◌/◌, ◌%◌, ◌≤◌}
use native.Mathlib.Nat.{not-suc-le-zero, le_of_suc-le-suc}
use native.Mathlib.Omega.{arith}
use lib.ListN.{length, get_or}
use lib.Dec.{eqb}
use borrow.Author.Tests.{eq-eqb, ne_eqb}
use Rattle.definitions.specs.Bytes.{bit}
use Rattle.definitions.specs.Channel.{Channel, Group, valid_of}

-- past the end there are zeros
get_d_past : (s : List ℕ) (i : ℕ) → length s ≤ i → get_or s i 0 ≡ 0
get_d_past [] i h = refl
get_d_past (x ∷ s) zero h = absurd (not-suc-le-zero h)
get_d_past (x ∷ s) (suc i) h = get_d_past s i (le_of_suc-le-suc h)

-- by which of the tests it is past the end
module _ (s : List ℕ) (skipped bytes place : ℕ) where
  pub past_place : length s - skipped - bytes ≤ place → 0 ≡ get_or s (skipped + bytes + place) 0
  past_place h = sym (get_d_past s (skipped + bytes + place) (omega arith))

module _ (s : List ℕ) (g : Group) (c : Channel) {a : ℕ} (ea : a ≡ bit c.flags 0) where
  pub all_invalid : a ≡ 1 → false ≡ valid_of s g c
  unfolding valid_of
  all_invalid h = rw (eq-eqb (bit c.flags 0) 1 (sym ea ∙ h))

  pub all_valid : {b : ℕ} → (a ≡ 1 → ⊥) → b ≡ bit c.flags 1 → b ≡ 0 → true ≡ valid_of s g c
  unfolding valid_of
  all_valid some eb h = rw (ne_eqb (bit c.flags 0) 1 (λ e. some (ea ∙ e)), eq-eqb (bit c.flags 1) 0 (sym eb ∙ h))

  pub by_bit : {b byte d : ℕ} → (a ≡ 1 → ⊥) → b ≡ bit c.flags 1 → (b ≡ 0 → ⊥)
      → byte ≡ get_or s (g.id_size + g.data_bytes + c.invalidation_bit / 8) 0 → d ≡ bit byte (c.invalidation_bit % 8) → eqb d 0 ≡ valid_of s g c
  unfolding valid_of
  by_bit some eb told ey ed =
      rw (ne_eqb (bit c.flags 0) 1 (λ e. some (ea ∙ e)), ne_eqb (bit c.flags 1) 0 (λ e. told (eb ∙ e)), ed, ey)
