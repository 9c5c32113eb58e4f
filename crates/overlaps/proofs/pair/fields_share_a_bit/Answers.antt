use mathlib.Core.Path.{◌≡◌, sym, ap₂, ◌∙◌}
use Prim.Native.Nat.{ℕ, min}
use Rattle.overlaps.proofs.Pairs.{none_shared, one_shared, next_byte}
use Rattle.overlaps.proofs.pair.fields_share_a_bit.Goals as goal

-- the smaller of the two ends
the_end : {m n p q end : ℕ} → end ≡ min p q → p ≡ m → q ≡ n → end ≡ min m n
the_end e ep eq = e ∙ ap₂ min ep eq

pub returns-then-meet : goal.returns-then-meet
returns-then-meet c =
    sym (one_shared _ _ _ c.loop-byte.invariant _ _ c.run_in.ensures c.run_in-in-loop-byte.ensures (sym c.meet.ensures ∙ c.if-meet.true))

pub loop-byte-preserved : goal.loop-byte-preserved
loop-byte-preserved c =
    next_byte _ _ _ c.loop-byte.invariant _ _ c.run_in.ensures c.run_in-in-loop-byte.ensures (sym c.meet.ensures ∙ c.if-meet.false)

pub returns : goal.returns
returns c =
    sym (none_shared _ _ _ c.loop-byte.invariant (the_end c.min-end.ensures c.byte_end.ensures c.byte_end-2.ensures) c.loop-byte-test.false)
