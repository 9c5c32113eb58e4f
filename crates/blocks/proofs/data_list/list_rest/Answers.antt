use mathlib.Core.Path.{◌≡◌, refl, sym, ap, ◌∙◌}
use mathlib.Core.List.{List}
use Prim.Native.Nat.{ℕ, ◌+◌}
use lib.ListN.{get_or}
use native.Mathlib.Omega.{arith}
use Rattle.definitions.specs.Bytes.{u32_at}
use Rattle.definitions.specs.DataList.{rest_in, rest_count, flags_at}
use Rattle.blocks.proofs.Lists.{rest_cut, rest_read}
use Rattle.blocks.proofs.data_list.list_rest.Goals as goal

-- the rest that is counted is the one in the bytes
counted : (s : List ℕ) (links k n : ℕ) → k ≡ rest_count (get_or s (flags_at links) 0) n → n ≡ u32_at s (flags_at links + 4) → k ≡ rest_in s links
counted s links k n h e = h ∙ ap (rest_count (get_or s (flags_at links) 0)) e

pub returns-then-bytes-need : goal.returns-then-bytes-need
returns-then-bytes-need c = sym (rest_cut _ _ _ _ (counted c.args.bytes.now c.args.header.links_nr _ _ c.rest_count-rest.ensures.0 c.read_le-count.ensures) refl (omega arith) c.if-bytes-need.true)

pub returns : goal.returns
returns c =
    sym (rest_read _ _ _ _ (counted c.args.bytes.now c.args.header.links_nr _ _ c.rest_count-rest.ensures.0 c.read_le-count.ensures) refl _ _ _ c.read_le.ensures c.le_bytes.ensures.0 c.read_le-count.ensures (omega arith))
