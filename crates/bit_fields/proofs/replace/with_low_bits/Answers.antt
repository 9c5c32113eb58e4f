-- The low bits of x are cut off.
use mathlib.Core.Path.{ap, ◌∙◌}
use Prim.Native.Nat.{ℕ, ◌-◌}
use native.Mathlib.Omega.{arith}
use Rattle.definitions.specs.Bytes.{with_bits}
use Rattle.bit_fields.proofs.Bits.{field_below}
use Rattle.bit_fields.proofs.WaysBack.{low_cut}
use Rattle.bit_fields.proofs.replace.with_low_bits.Goals as goal

pub with_bits-requires : goal.with_bits-requires
with_bits-requires c =
    let a = c.args in
    (omega arith, omega arith, omega arith, rw c.cut.ensures (field_below a.x 0 (64 - a.offset)))

pub returns : goal.returns
returns c =
    let a = c.args in
    c.with_bits.ensures ∙ ap (λ (y : ℕ). with_bits a.word a.offset (64 - a.offset) y) (low_cut a.offset a.x c.cut.ensures)
