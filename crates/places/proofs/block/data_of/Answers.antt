use mathlib.Core.Path.{ap, ◌∙◌}
use mathlib.Core.List.{List}
use Prim.Native.Nat.{ℕ, ◌+◌, ◌-◌}
use lib.ListN.{take, drop}
use Rattle.places.proofs.Addresses.{part}
use Rattle.places.proofs.block.data_of.Goals as goal

pub returns : goal.returns
returns c =
    let a = c.args in
    ap (λ (s : List ℕ). take (24 + a.block.size - 24) (drop 24 s)) c.bytes_from-bytes.ensures
    ∙ part a.file.now a.block.address.0 24 a.block.size
