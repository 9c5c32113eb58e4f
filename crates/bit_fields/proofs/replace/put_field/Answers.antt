-- Nine bytes have a way of their own.
use native.Mathlib.Omega.{arith}
use Rattle.bit_fields.proofs.WaysBack.{near_below}
use Rattle.bit_fields.proofs.replace.put_field.Goals as goal

pub put_few-requires : goal.put_few-requires
put_few-requires g c =
    let a = c.args in (
      omega arith,
      omega arith,
      omega arith,
      near_below g.O.ByteOrder.order a.s.now a.at a.offset a.count a.x (λ i. (c.slice_known-1.given i).fits) c.requires.3 c.requires.4 c.few_bytes.ensures
          c.with_bits-word.ensures,
    )
