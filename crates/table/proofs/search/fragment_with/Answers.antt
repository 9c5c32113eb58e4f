-- The positions rise, so the fragments that begin no later than a position come first.
use mathlib.Core.Path.{sym}
use borrow.Author.Rules.{rules}
use lib.Dec.{leb}
use Rattle.std.proofs.lemmas.List.Sorted.{IsPartitionPoint-from_clause}
use Rattle.table.proofs.Searches.{begins_of, as_many, parted, one_begun, last_begun}
use Rattle.table.proofs.search.fragment_with.Goals as goal
use Rattle.table.proofs.search.fragment_with.Goals.{After-partition_point-begun}

pub slice_bounds-listed-end : goal.slice_bounds-listed-end
slice_bounds-listed-end c = rw c.count.ensures (sym (as_many c.args.table.now _ c.places.ensures c.requires.0))

pub overflow_sub-result : goal.overflow_sub-result
overflow_sub-result c =
    let a = c.args in
    let p = parted a.table.now _ c.places.ensures c.requires.0 a.wanted.0 in
    let point = IsPartitionPoint-from_clause (λ place. leb (begins_of place) a.wanted.0) _ _ (rw c.count.ensures at c.partition_point-begun.ensures.partitioned) p (λ x r q k. search rules) in
    one_begun a.table.now _ c.places.ensures c.requires.0 a.wanted.0 _ c.requires.1 c.requires.2 (rw c.count.ensures at c.partition_point-begun.ensures.bound) point

pub returns : goal.returns
returns c =
    let a = c.args in
    let p = parted a.table.now _ c.places.ensures c.requires.0 a.wanted.0 in
    let point = IsPartitionPoint-from_clause (λ place. leb (begins_of place) a.wanted.0) _ _ (rw c.count.ensures at c.partition_point-begun.ensures.partitioned) p (λ x r q k. search rules) in
    last_begun a.table.now _ c.places.ensures c.requires.0 a.wanted.0 _ c.requires.1 c.requires.2 (rw c.count.ensures at c.partition_point-begun.ensures.bound) point
