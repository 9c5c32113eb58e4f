-- Where a walk along a chain stands, and what it keeps of the list read last.
use Rattle.std.specs.Prelude.{◌≡◌, Bool, false, ℕ, ◌+◌, eqb, if◌then◌else◌}
use Rattle.definitions.specs.DataList.{DataList}
use Rattle.places.specs.declared.place.FileAddress.{FileAddress}
use Rattle.places.specs.declared.place.DataPosition.{DataPosition}
use Rattle.places.specs.declared.place.OpenList.{OpenList}
use Rattle.places.specs.declared.place.Place.{Place}

-- ---- a list that is read

-- what a walk keeps of the list d at an address
abbrev pub opened : FileAddress → DataList → OpenList
opened a d = record {
  address = a;
  links_at = d.links_at;
  links = d.links;
  flags = d.flags;
  rest_at = d.rest_at;
  next = record { 0 = d.next };
}

abbrev pub Opens : OpenList → DataList → Type 0
Opens l d = l ≡ opened l.address d

-- before the first list, which is at an address
abbrev pub unopened : FileAddress → OpenList
unopened a = record { address = record { 0 = 0 }; links_at = 0; links = 0; flags = 0; rest_at = 0; next = a }

-- ---- places

abbrev pub start_at : FileAddress → Place
start_at a = record { list = unopened a; lists = 0; fragments = 0; index = 0; position = record { 0 = 0 } }

abbrev pub further : DataPosition → ℕ → DataPosition
further q n = record { 0 = q.0 + n }

-- behind a fragment of n bytes
abbrev pub behind : Place → ℕ → Place
behind p n = record {
  list = p.list;
  lists = p.lists;
  fragments = p.fragments;
  index = p.index + 1;
  position = further p.position n;
}

-- in the next list, which is d
abbrev pub entered : Place → DataList → Place
entered p d = record {
  list = opened p.list.next d;
  lists = p.lists + 1;
  fragments = p.fragments + p.index;
  index = 0;
  position = p.position;
}

-- whether the list read last links no further one
abbrev pub ended : Place → Bool
ended p = if eqb p.lists 0 then false else eqb p.list.next.0 0
