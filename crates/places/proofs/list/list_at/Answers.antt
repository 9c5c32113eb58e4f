use mathlib.Core.Path.{sym, ap}
use native.Mathlib.Omega.{arith}
use lib.ListN.{length, length-drop}
use Rattle.places.proofs.Lists.{list_lies}
use Rattle.places.proofs.list.list_at.Goals as goal

-- the list lies in the file, so no sum of its fields wraps
pub agrees_with_itself-requires : goal.agrees_with_itself-requires
agrees_with_itself-requires c =
    let a = c.args in
    omega (arith, (list_lies _ _ (sym c.in_ok-list.ensures)).rest, ap length c.bytes_from.ensures, length-drop a.address.0 a.file.now)
