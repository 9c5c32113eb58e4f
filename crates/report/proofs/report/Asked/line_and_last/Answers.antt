-- Without a record nothing is written; else the window is on the last one.
use mathlib.Core.Path.{◌≡◌, refl, ap, ◌∙◌}
use Prim.Native.Nat.{◌-◌, ◌*◌}
use native.Mathlib.Omega.{arith}
use lib.ListN.{length}
use Rattle.definitions.specs.Bytes.{span}
use Rattle.definitions.specs.Chain.{id_dt, joined}
use Rattle.fields.specs.Meaning.{channel_meant, group_meant}
use Rattle.records.proofs.Laying.{laid_whole}
use Rattle.report.proofs.Walking.{joined_short}
use Rattle.report.proofs.Lines.{readings_none, no_last_record, last_inside, last_alone}
use Rattle.report.proofs.report.Asked.line_and_last.Goals as goal

pub returns-then-self-eq0 : goal.returns-then-self-eq0
returns-then-self-eq0 c = λ w en.
    let a = c.args in
    let j = joined a.file.now w.blocks in
    let size = length a.buffer.now in
    let empty = readings_none (group_meant a.self.group) (channel_meant a.self.channel) a.self.n size j c.if-self-eq0.true in
    (c.valueless_report.ensures _ empty.0 empty.1, no_last_record j size a.self.n a.buffer.now c.if-self-eq0.true)

pub overflow_mul-last : goal.overflow_mul-last
overflow_mul-last c =
    let a = c.args in
    record { fits = omega (arith, last_inside (joined a.file.now c.requires.0.0.blocks) (length a.buffer.now) a.self.n _ c.requires.0.1 c.if-self-eq0.false refl, joined_short id_dt a.file.now a.self.begin c.requires.0.0) }

pub returns : goal.returns
returns c = λ w en.
    let a = c.args in
    let j = joined a.file.now w.blocks in
    let size = length a.buffer.now in
    let scratch = c.line-report.new.buffer in
    let long : length scratch ≡ size = omega (arith, c.line-report.auto) in
    let from = (a.self.n - 1) * size in (
      c.line-report.ensures w en,
      last_alone j size a.self.n from a.buffer.now _ refl c.if-self-eq0.false refl
          ((c.window.ensures w).0 ∙ laid_whole scratch from j (omega (arith, last_inside j size a.self.n from en c.if-self-eq0.false refl, long)) ∙ ap (span j from) long),
    )
