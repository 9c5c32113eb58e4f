-- What the clause of a call allows, by its arguments and its result in their places.
use Rattle.std.specs.Prelude.{ℕ, List}
use contract.Lifetimes.{Lfts}
use Rattle.std.specs.Borrow.{Bor}
use denote.MutBor.{MutBor}
use denote.Triple.Clauses.{Lasts, at_exit}
use borrow.Fn.Kind.{ParamKind, ResultKind}
use borrow.Fn.Kinds.{Out, Dens, res_t, ended_of}

-- a lent slice: `now` is what it holds
abbrev pub Slice : Type 0
Slice = Bor (List ℕ)

-- a slice lent to be written: `now` is what it holds at entry
abbrev pub Room : Type 0
Room = MutBor (List ℕ)

-- a call with n lent references, parameters ps and result r: its clause `learnt` allows the result y with the contents b of
-- the lent buffers at exit
abbrev pub Allows : (n : ℕ) (ps : List (ParamKind n)) (r : ResultKind n) → Out n ps r → (κs : Lfts n) (a : Dens κs ps) → (res_t r κs).Denot → Lasts (ended_of n ps r) κs a → Type 0
Allows n ps r learnt κs a y b = learnt κs a y (at_exit (ended_of n ps r) κs a b)
