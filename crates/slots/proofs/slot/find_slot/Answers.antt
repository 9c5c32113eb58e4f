-- The record that is lent stands for all of its length.
use native.Mathlib.Omega.{arith}
use Rattle.fields.specs.Meaning.{channel_meant, group_meant}
use Rattle.slots.proofs.OneSize.{none_has, invalid_in_all, flag_asked, slot_found}
use Rattle.slots.proofs.slot.find_slot.Goals as goal

pub returns-in_default-find_field : goal.returns-in_default-find_field
returns-in_default-find_field c =
    let a = c.args in
    none_has a.«record».now (group_meant a.group) (channel_meant a.channel) c.requires.0 c.form_of-form.ensures c.in-Number.is
    c.find_field.ensures.0 c.in_default-find_field.is

pub returns-then-cut-eq1 : goal.returns-then-cut-eq1
returns-then-cut-eq1 c =
    let a = c.args in
    invalid_in_all a.«record».now (group_meant a.group) (channel_meant a.channel) c.requires.0 c.form_of-form.ensures c.in-Number.is
    c.find_field.ensures.0 c.in-Ok.is c.requires.1 c.cut.ensures c.if-cut-eq1.true

pub find_flag-flag-requires : goal.find_flag-flag-requires
find_flag-flag-requires c =
    let a = c.args in
    flag_asked a.«record».now (group_meant a.group) (channel_meant a.channel) c.requires.0 c.form_of-form.ensures c.in-Number.is
    c.find_field.ensures.0 c.in-Ok.is c.requires.1 c.cut.ensures c.if-cut-eq1.false (omega arith)

pub returns : goal.returns
returns c =
    let a = c.args in
    slot_found a.«record».now (group_meant a.group) (channel_meant a.channel) c.requires.0 c.form_of-form.ensures c.in-Number.is
    c.find_field.ensures.0 c.in-Ok.is c.requires.1 c.find_field.ensures.1 c.find_flag-flag.ensures
