-- The data of the fragments before this one is laid into the window.
use mathlib.Core.Path.{◌≡◌, refl, sym, ◌∙◌}
use Prim.Native.Nat.{◌+◌, ◌<◌}
use native.Mathlib.Omega.{arith}
use lib.ListN.{length}
use borrow.Author.Tests.{leb-true}
use Rattle.definitions.specs.Table.{count_of}
use Rattle.table.proofs.Fragments.{sound_ordered, some_first}
use Rattle.table.proofs.Windows.{sound_order, window_start, rises, lies_in, window_turn, window_end}
use Rattle.table.proofs.fetch.window.Goals as goal

pub fragment_with-place-requires : goal.fragment_with-place-requires
fragment_with-place-requires c =
    let a = c.args in
    let first = some_first a.table.now (sound_ordered a.table.now a.file.now c.requires.0) (omega (arith, c.requires.1, c.requires.2)) in
    (sound_order a.file.now a.table.now c.requires.0, first.0, omega (arith, first.1))

pub loop-place-init : goal.loop-place-init
loop-place-init c =
    let a = c.args in
    let at = c.fragment_with-place.ensures in
    (refl, window_start a.file.now a.table.now c.requires.0 a.out.now a.from.0 _ at.one at.begins)

pub position_at-begin-requires : goal.position_at-begin-requires
position_at-begin-requires c = omega (arith, c.loop-place-test.true, c.count-place-end.ensures, (sound_ordered c.args.table.now c.args.file.now c.requires.0).few)

pub begin_of-end-requires : goal.begin_of-end-requires
begin_of-end-requires c = (sound_ordered c.args.table.now c.args.file.now c.requires.0).few

pub address_at-requires : goal.address_at-requires
address_at-requires c = omega (arith, c.loop-place-test.true, c.count-place-end.ensures, (sound_ordered c.args.table.now c.args.file.now c.requires.0).few)

pub overflow_sub-end : goal.overflow_sub-end
overflow_sub-end c =
    let a = c.args in
    let one : c.loop-place.place < count_of a.table.now = omega (arith, c.loop-place-test.true, c.count-place-end.ensures) in
    rises a.file.now a.table.now c.requires.0 a.out.now a.from.0 _ one _ _ _ c.address_at.ensures c.position_at-begin.ensures c.begin_of-end.ensures

pub data_of-data-requires : goal.data_of-data-requires
data_of-data-requires c =
    let a = c.args in
    let one : c.loop-place.place < count_of a.table.now = omega (arith, c.loop-place-test.true, c.count-place-end.ensures) in
    lies_in a.file.now a.table.now c.requires.0 a.out.now a.from.0 _ one _ _ _ c.address_at.ensures c.position_at-begin.ensures c.begin_of-end.ensures

pub returns-then-is_behind : goal.returns-then-is_behind
returns-then-is_behind c =
    let a = c.args in
    let one : c.loop-place.place < count_of a.table.now = omega (arith, c.loop-place-test.true, c.count-place-end.ensures) in
    let same : length c.lay.new.out ≡ length a.out.now = omega (arith, c.lay.auto.out, c.loop-place.invariant.0) in
    let reached = leb-true (a.from.0 + length c.lay.new.out) c.begin_of-end.result.0 (sym c.is_behind.ensures ∙ c.if-is_behind.true) in
    window_end a.file.now a.table.now c.requires.0 a.out.now a.from.0 _ one _ _ _ c.address_at.ensures c.position_at-begin.ensures c.begin_of-end.ensures
    _ (omega (arith, reached, same))
    (window_turn a.file.now a.table.now c.requires.0 a.out.now a.from.0 _ one _ _ _ c.address_at.ensures c.position_at-begin.ensures c.begin_of-end.ensures
    _ _ _ c.loop-place.invariant.1 c.data_of-data.ensures c.lay.ensures)

pub loop-place-preserved : goal.loop-place-preserved
loop-place-preserved c =
    let a = c.args in
    let one : c.loop-place.place < count_of a.table.now = omega (arith, c.loop-place-test.true, c.count-place-end.ensures) in (
      omega (arith, c.lay.auto.out, c.loop-place.invariant.0),
      window_turn a.file.now a.table.now c.requires.0 a.out.now a.from.0 _ one _ _ _ c.address_at.ensures c.position_at-begin.ensures c.begin_of-end.ensures
          _ _ _ c.loop-place.invariant.1 c.data_of-data.ensures c.lay.ensures,
    )
