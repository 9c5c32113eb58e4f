-- The length of a record by what is left behind its id.
use mathlib.Core.Path.{◌≡◌, refl, sym, ◌∙◌}
use mathlib.Core.Bool.{Bool, true, false}
use Prim.Native.Nat.{ℕ, ◌+◌, ◌-◌, ◌≤◌}
use native.Mathlib.Omega.{arith}
use lib.Dec.{eqb}
use borrow.Author.Tests.{eqb-true, eqb-false, eq-eqb, ne_eqb}
use Rattle.definitions.specs.Channel.{Group, record_length}

module _ (n : ℕ) (g : Group) where
  pub behind_id_law : (g.id_size ≤ n) → eqb (n - g.id_size) (g.data_bytes + g.invalidation_bytes) ≡ eqb n (record_length g)
  behind_id_law h = go (n - g.id_size) (g.data_bytes + g.invalidation_bytes) refl refl (eqb n (record_length g)) refl
    where
      go : (left behind : ℕ) → left ≡ n - g.id_size → behind ≡ g.data_bytes + g.invalidation_bytes
          → (b : Bool) → eqb n (record_length g) ≡ b → eqb left behind ≡ eqb n (record_length g)
      go left behind el eb true e = eq-eqb left behind (omega (arith, eqb-true n (record_length g) e)) ∙ sym e
      go left behind el eb false e = ne_eqb left behind (λ z. eqb-false n (record_length g) e (omega (arith, h, z))) ∙ sym e
