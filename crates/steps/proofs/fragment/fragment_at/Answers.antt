use mathlib.Core.Path.{refl}
use Rattle.places.proofs.Addresses.{header_inside}
use Rattle.steps.proofs.Steps.{the_link}
use Rattle.steps.proofs.fragment.fragment_at.Goals as goal

pub bytes_from-bytes-requires : goal.bytes_from-bytes-requires
bytes_from-bytes-requires c =
    let a = c.args in
    header_inside a.file.now a.place.list.address.0 (the_link a.file.now _ a.place c.requires.0 c.requires.1 refl).0

pub fragment_in-requires : goal.fragment_in-requires
fragment_in-requires c =
    (the_link _ _ _ c.requires.0 c.requires.1 c.bytes_from-bytes.ensures).1
