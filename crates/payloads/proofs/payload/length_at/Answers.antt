use Rattle.payloads.proofs.Found.{length_laid}
use Rattle.payloads.proofs.payload.length_at.Goals as goal

pub returns : goal.returns
returns c = λ w.
    let laid = c.window-reached.ensures w in
    record { is = λ h. length_laid _ _ h laid.0 c.read_le.ensures; on = laid.1 }
