-- The parts of equal outcomes: the reply, and the buffer that is left beside it; and of what a call for C returns.
use mathlib.Core.Path.{◌≡◌, ap}
use Rattle.definitions.specs.Reply.{Outcome}
use Rattle.block_replies.specs.Replies.{Returned}

module _ {A : Type 0} {o q : Outcome A} (same : o ≡ q) where
  pub of_outcome : o.reply ≡ q.reply
  of_outcome = ap (λ (x : Outcome A). x.reply) same

  pub of_buffer : o.buffer ≡ q.buffer
  of_buffer = ap (λ (x : Outcome A). x.buffer) same

module _ {R : Type 0} {y z : Returned R} (same : y ≡ z) where
  pub returned_result : y.result ≡ z.result
  returned_result = ap (λ (x : Returned R). x.result) same

  pub returned_buffer : y.buffer ≡ z.buffer
  returned_buffer = ap (λ (x : Returned R). x.buffer) same
