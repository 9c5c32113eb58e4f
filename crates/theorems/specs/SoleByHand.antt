-- What `Sole` asks of every call, of a contract as it is written: its statement determines its reply and every lent byte
-- afterwards.
use Rattle.std.specs.Prelude.{◌≡◌}
use contract.Lifetimes.{Lfts}
use contract.Notation.{connectives}
use borrow.Fn.World.{World}
use denote.Triple.Entry.{Args, Res}
use denote.Triple.Clauses.{Ended, Lasts}
use Rattle.mf4.specs.ByHand.{ClausesIn, Says}

module _ (T : Ended) where
  abbrev Lifetimes : Type 0
  Lifetimes = Lfts T.signature.lifetimes

  -- the fact that the clause is, of arguments, result and lent buffers at exit
  abbrev pub Fact : Type 1
  Fact = (κs : Lifetimes) (a : Args T.signature κs) → Res T.signature κs → Lasts T κs a → Type 0

  pub record SettledByHand (clauses : ClausesIn T) (learnt : Fact) : Type 2 where
    -- nothing is asked of the caller
    pub free : (w : World) (κs : Lifetimes) (a : Args T.signature κs) (g : (clauses w κs a).ghost) → (clauses w κs a).requires g ≡ (connectives w.𝓤).⊤ₛ
    -- the clause is the plain fact `learnt`, and nothing else
    pub says : (κs : Lifetimes) (a : Args T.signature κs) (y : Res T.signature κs) (b : Lasts T κs a) → Says T clauses κs a y b (learnt κs a y b)
    -- two results, each with the contents of every lent buffer at exit, that it allows are the same
    pub sole : (κs : Lifetimes) (a : Args T.signature κs) (y z : Res T.signature κs) (b c : Lasts T κs a)
        → learnt κs a y b → learnt κs a z c → (y ≡ z) × (b ≡ c)
