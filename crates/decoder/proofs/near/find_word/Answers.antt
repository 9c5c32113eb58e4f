-- Each word is the number of some bytes that have the field's among them; a field that none has ends outside or has nine.
use mathlib.Core.Path.{refl}
use Prim.Native.Nat.{◌+◌, ◌-◌, ◌*◌}
use native.Mathlib.Omega.{arith}
use lib.ListN.{length}
use Rattle.decoder.proofs.WordFields.{held_by}
use Rattle.decoder.proofs.near.find_word.Goals as goal

pub returns-then-bit_offset-bit_count-gt64 : goal.returns-then-bit_offset-bit_count-gt64
returns-then-bit_offset-bit_count-gt64 c few inside = omega (arith, c.if-bit_offset-bit_count-gt64.true)

pub returns-then-start-left : goal.returns-then-start-left
returns-then-start-left c =
    let a = c.args in
    let at = a.skipped + a.byte_offset in
    held_by a.«record».now at a.bit_offset a.bit_count at 8 a.bit_offset c.read_le.ensures
    (λ i. (c.type_inv.record i).fits) (omega arith) (omega (arith, c.if-start-left.true)) refl c.requires.0 c.requires.1
    (omega (arith, c.if-bit_offset-bit_count-gt64.false))

pub returns-then-over-gt7 : goal.returns-then-over-gt7
returns-then-over-gt7 c few inside =
    let some = c.requires.1 in
    omega (arith, c.if-start-left.false, c.if-over-gt7.true)

pub returns-then-from-bit_count-gt64 : goal.returns-then-from-bit_count-gt64
returns-then-from-bit_count-gt64 c few inside =
    omega (arith, c.if-start-left.false, c.if-from-bit_count-gt64.true)

pub returns-then-length-lt8 : goal.returns-then-length-lt8
returns-then-length-lt8 c =
    let a = c.args in
    let s = a.«record».now in
    let over = a.byte_offset + 8 - (length s - a.skipped) in
    held_by s (a.skipped + a.byte_offset) a.bit_offset a.bit_count 0 (length s) (8 * over + a.bit_offset + 8 * length s - 64)
    c.few_le_bytes.ensures (λ i. (c.type_inv.record i).fits)
    (omega (arith, c.if-length-lt8.true)) (omega arith) (omega (arith, c.if-start-left.false, c.if-over-gt7.false, c.if-length-lt8.true)) c.requires.0 c.requires.1
    (omega (arith, c.if-start-left.false, c.if-from-bit_count-gt64.false, c.if-length-lt8.true))

pub returns : goal.returns
returns c =
    let a = c.args in
    let s = a.«record».now in
    let over = a.byte_offset + 8 - (length s - a.skipped) in
    held_by s (a.skipped + a.byte_offset) a.bit_offset a.bit_count (length s - 8) 8 (8 * over + a.bit_offset)
    c.read_le-2.ensures (λ i. (c.type_inv.record i).fits)
    (omega arith) (omega (arith, c.if-length-lt8.false)) (omega (arith, c.if-start-left.false, c.if-length-lt8.false)) c.requires.0 c.requires.1
    (omega (arith, c.if-from-bit_count-gt64.false))
