-- Two calls with one clause. Of each contract a module `Reads` is made: `Asked` is what a call asks of its caller, `ensures` is its
-- clause, and `Learnt` is what the clause tells of arguments, result and lent buffers at exit.
use Rattle.std.specs.Prelude.{ℕ, ◌≡◌, List}
use contract.Lifetimes.{Lfts}
use denote.Triple.Clauses.{AtExit}
use borrow.Fn.Kind.{ParamKind, ResultKind}
use borrow.Fn.Kinds.{In, Out, Dens, res_t, ended_of}
use borrow.Fn.World.{World, Pr}

-- calls with n lent references, parameters ps and result r
module _ (n : ℕ) (ps : List (ParamKind n)) (r : ResultKind n) where
  abbrev Clause : Type 2
  Clause = (κs : Lfts n) → Dens κs ps → Unit {0} → (res_t r κs).Denot → AtExit (ended_of n ps r) κs → (w : World) → Pr w

  pub record HandsOn (asked asked' : In n ps) (ensures ensures' : Clause) (learnt learnt' : Out n ps r) : Type 2 where
    pub asks : asked ≡ asked'
    pub says : ensures ≡ ensures'
    pub tells : learnt ≡ learnt'
