-- By what all records of the size have in common.
use mathlib.Core.Path.{subst}
use lib.ListN.{length}
use Rattle.definitions.specs.Chain.{joined}
use Rattle.fields.specs.Meaning.{channel_meant, group_meant}
use Rattle.slots.specs.Slots.{SlotTold}
use Rattle.report.proofs.Walking.{joined_bytes}
use Rattle.report.proofs.Lines.{readings_length, all_line, invalid_line, valueless_line, n_inside}
use Rattle.report.proofs.report.Asked.line.Goals as goal

pub returns-in-NoValue : goal.returns-in-NoValue
returns-in-NoValue c = λ w en.
    let a = c.args in
    let j = joined a.file.now w.blocks in
    let size = length a.buffer.now in
    let g = group_meant a.self.group in
    let ch = channel_meant a.self.channel in
    c.valueless_report.ensures _ (readings_length g ch a.self.n size j)
    (valueless_line size g ch (subst (SlotTold size g ch) c.in-NoValue.is c.find_slot.ensures) j a.self.n (n_inside j size a.self.n en))

pub returns-in-AllInvalid : goal.returns-in-AllInvalid
returns-in-AllInvalid c = λ w en.
    let a = c.args in
    let j = joined a.file.now w.blocks in
    let size = length a.buffer.now in
    let g = group_meant a.self.group in
    let ch = channel_meant a.self.channel in
    c.invalid_report.ensures _ (readings_length g ch a.self.n size j)
    (invalid_line size g ch (subst (SlotTold size g ch) c.in-AllInvalid.is c.find_slot.ensures) j a.self.n (n_inside j size a.self.n en))

pub returns-in-Found : goal.returns-in-Found
returns-in-Found c = λ w en.
    let a = c.args in
    c.report_of.ensures _
    (all_line _ (length a.buffer.now) (group_meant a.self.group) (channel_meant a.self.channel) (let a = c.args in subst (SlotTold (length a.buffer.now) (group_meant a.self.group) (channel_meant a.self.channel)) c.in-Found.is c.find_slot.ensures) (joined a.file.now w.blocks)
    (joined_bytes a.file.now w.blocks (λ i. (c.type_inv.file i).fits)) a.self.n en _ (c.tally_records-tally.ensures.0 w))
