-- The clause of a call, by what its contract says, `ended` and `clauses`, and not by `Kinds` and `Reads`.
use Rattle.std.specs.Prelude.{◌≡◌}
use contract.Lifetimes.{Lfts}
use contract.Monad.{fact}
use borrow.Fn.World.{World}
use denote.Triple.Entry.{Args, Res}
use denote.Triple.Clauses.{Ended, Clauses, Lasts, at_exit}

-- the clauses of a call in the world where it runs
abbrev pub ClausesIn : Ended → Type 2
ClausesIn T = (w : World) → Clauses w.𝓤 T

-- of the arguments a, the result y and the lent buffers b at exit the clause says P, and nothing else
abbrev pub Says : (T : Ended) → ClausesIn T → (κs : Lfts T.signature.lifetimes) (a : Args T.signature κs) → Res T.signature κs → Lasts T κs a → Type 0 → Type 2
Says T clauses κs a y b P = (w : World) (g : (clauses w κs a).ghost) → (clauses w κs a).ensures g y (at_exit T κs a b) ≡ fact w.𝓤 P
