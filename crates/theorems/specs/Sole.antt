-- What each public call owes: its statement determines its reply and every lent byte afterwards.
-- Of each contract a module `Reads` is made, on which the proofs of its callers rest: `Asked` is what the call asks of its
-- caller, `ensures` is its clause, and `Learnt` is what the clause tells of arguments, result and lent buffers at exit.
use Rattle.std.specs.Prelude.{ℕ, ◌≡◌, List}
use contract.Lifetimes.{Lfts}
use contract.Monad.{fact}
use denote.Triple.Clauses.{Lasts, AtExit}
use borrow.Fn.Kind.{ParamKind, ResultKind}
use borrow.Fn.Kinds.{In, Out, Dens, res_t, ended_of}
use borrow.Fn.World.{World, Pr}
use Rattle.mf4.specs.Clauses.{Allows}

-- a call with n lent references, parameters ps and result r
module _ (n : ℕ) (ps : List (ParamKind n)) (r : ResultKind n) where
  abbrev pub Clause : Type 2
  Clause = (κs : Lfts n) → Dens κs ps → Unit {0} → (res_t r κs).Denot → AtExit (ended_of n ps r) κs → (w : World) → Pr w

  pub record Settled (asked : In n ps) (ensures : Clause) (learnt : Out n ps r) : Type 2 where
    -- nothing is asked of the caller
    pub free : (κs : Lfts n) (a : Dens κs ps) → asked κs a
    -- the clause is the plain fact `learnt`, and nothing else
    pub says : (κs : Lfts n) (a : Dens κs ps) (y : (res_t r κs).Denot) (e : AtExit (ended_of n ps r) κs) (w : World)
        → ensures κs a tt y e w ≡ fact w.𝓤 (learnt κs a y e)
    -- two results, each with the contents of every lent buffer at exit, that it allows are the same
    pub sole : (κs : Lfts n) (a : Dens κs ps) (y z : (res_t r κs).Denot) (b c : Lasts (ended_of n ps r) κs a)
        → Allows n ps r learnt κs a y b → Allows n ps r learnt κs a z c
        → (y ≡ z) × (b ≡ c)
