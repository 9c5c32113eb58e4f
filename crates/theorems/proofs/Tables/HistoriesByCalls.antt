-- A history of calls: each is what one of the library's calls, or one of those for C, replies and leaves by its own clause.
use mathlib.Core.Path.{◌≡◌, refl, sym, ap, ap₂, ◌∙◌}
use mathlib.Core.List.{List, []}
use Prim.Native.Nat.{ℕ}
use contract.Lifetimes.{Lfts}
use lib.ListN.{replicate}
use Rattle.std.specs.Prelude.{Result}
use Rattle.definitions.specs.Reply.{Reply, Outcome, answer}
use Rattle.definitions.specs.Chain.{id_dt, chain_of}
use Rattle.definitions.specs.Table.{opened, extended, shortened}
use Rattle.refusals.specs.declared.Refusal.{Refusal}
use Rattle.table.specs.Meaning.{change_reply}
use Rattle.replies.specs.declared.done.Mf4DoneReply.{Mf4DoneReply}
use Rattle.replies.proofs.ToldToC.{done_again}
use Rattle.mf4.specs.Clauses.{Slice, Room}
use Rattle.theorems.specs.Clauses.{OpensTable, ExtendsTable, ShortensTable}
use Rattle.theorems.specs.ClausesToC.{OpensTableC, ExtendsTableC, ShortensTableC}
use Rattle.theorems.specs.Histories.{Afresh, Operation, opens, extends, shortens, addresses_of, Runs}
use Rattle.theorems.proofs.Calls.Outcomes.{returned_buffer}
use Rattle.theorems.proofs.Tables.TableNumbers.{mf4_open_table_told, mf4_extend_table_told, mf4_shorten_table_told}
use Rattle.theorems.proofs.Tables.Histories.{Faithful, history, zeros_afresh, open_afresh}

-- a slice that holds these, and one that is lent to be written to
abbrev Holding : List ℕ → Type 0
Holding l = (s : Slice) × (s.now ≡ l)

abbrev Lent : List ℕ → Type 0
Lent l = (s : Room) × (s.now ≡ l)

-- a reply and a table that a call leaves, over the file f: of the library
abbrev pub ByCalls : List ℕ → Operation → List ℕ → Reply (Unit {0}) → List ℕ → Type 0
ByCalls f (opens start) w r v =
    (κs : Lfts 2) × (file : Holding f) × (table : Lent w) × (y : Result (Unit {0}) Refusal) × (change_reply y ≡ r) × OpensTable κs file.0 (record { 0 = start }) table.0 y v
ByCalls f (extends a) w r v =
    (κs : Lfts 2) × (file : Holding f) × (table : Lent w) × (y : Result (Unit {0}) Refusal) × (change_reply y ≡ r) × ExtendsTable κs file.0 (record { 0 = a }) table.0 y v
ByCalls f shortens w r v =
    (κs : Lfts 1) × (table : Lent w) × (y : Result (Unit {0}) Refusal) × (change_reply y ≡ r) × ShortensTable κs table.0 y v

-- and of C
abbrev pub ToC : List ℕ → Operation → List ℕ → Reply (Unit {0}) → List ℕ → Type 0
ToC f (opens start) w r v =
    (κs : Lfts 2) × (file : Holding f) × (table : Lent w) × (y : Mf4DoneReply) × (done_again y ≡ r) × OpensTableC κs file.0 start table.0 y v
ToC f (extends a) w r v =
    (κs : Lfts 2) × (file : Holding f) × (table : Lent w) × (y : Mf4DoneReply) × (done_again y ≡ r) × ExtendsTableC κs file.0 a table.0 y v
ToC f shortens w r v =
    (κs : Lfts 1) × (table : Lent w) × (y : Mf4DoneReply) × (done_again y ≡ r) × ShortensTableC κs table.0 y v

-- they do what the definitions say
replied : {y r : Reply (Unit {0})} (v : List ℕ) {o : Outcome (Unit {0})} → y ≡ r → record { reply = y; buffer = v } ≡ o → record { reply = r; buffer = v } ≡ o
replied v is e = ap (λ (x : Reply (Unit {0})). record { reply = x; buffer = v }) (sym is) ∙ e

pub calls_faithful : (f : List ℕ) → Faithful f (ByCalls f)
calls_faithful f (opens start) w v r c = replied v c.4 c.5 ∙ ap₂ (λ (g u : List ℕ). opened g start u) c.1.1 c.2.1
calls_faithful f (extends a) w v r c = replied v c.4 c.5 ∙ ap₂ (λ (g u : List ℕ). extended g a u) c.1.1 c.2.1
calls_faithful f shortens w v r c = replied v c.3 c.4 ∙ ap shortened c.1.1

told : {y r : Reply (Unit {0})} {v : List ℕ} {o : Outcome (Unit {0})} → y ≡ r → y ≡ o.reply → v ≡ o.buffer → record { reply = r; buffer = v } ≡ o
told {o = o} is e b = rw (sym is ∙ e, b) refl

pub c_faithful : (f : List ℕ) → Faithful f (ToC f)
c_faithful f (opens start) w v r c =
    told c.4 (mf4_open_table_told c.0 c.1.0 start c.2.0 c.3 v c.5) (returned_buffer c.5)
    ∙ ap₂ (λ (g u : List ℕ). opened g start u) c.1.1 c.2.1
c_faithful f (extends a) w v r c =
    told c.4 (mf4_extend_table_told c.0 c.1.0 a c.2.0 c.3 v c.5) (returned_buffer c.5)
    ∙ ap₂ (λ (g u : List ℕ). extended g a u) c.1.1 c.2.1
c_faithful f shortens w v r c =
    told c.3 (mf4_shorten_table_told c.0 c.1.0 c.2 v c.4) (returned_buffer c.4)
    ∙ ap shortened c.1.1

-- ---- so, of any calls in turn

module _ (f : List ℕ) (os : List Operation) (x ys : List ℕ) where
  -- from the table of zeros
  pub history_from_zeros : Runs (ByCalls f) f os (replicate 1026 0) [] x ys → Afresh f ys x
  history_from_zeros = history f (ByCalls f) (calls_faithful f) os (replicate 1026 0) [] x ys (zeros_afresh f)

  pub mf4_history_from_zeros : Runs (ToC f) f os (replicate 1026 0) [] x ys → Afresh f ys x
  mf4_history_from_zeros = history f (ToC f) (c_faithful f) os (replicate 1026 0) [] x ys (zeros_afresh f)

  -- and from a chain that was opened, whatever stood in the table w before
  module _ (start : ℕ) (w v : List ℕ) where
    pub history_from_open : ByCalls f (opens start) w (answer tt) v → Runs (ByCalls f) f os v (addresses_of (chain_of id_dt f start)) x ys → Afresh f ys x
    history_from_open c = history f (ByCalls f) (calls_faithful f) os v _ x ys (open_afresh f start w v (calls_faithful f (opens start) w v (answer tt) c))

    pub mf4_history_from_open : ToC f (opens start) w (answer tt) v → Runs (ToC f) f os v (addresses_of (chain_of id_dt f start)) x ys → Afresh f ys x
    mf4_history_from_open c = history f (ToC f) (c_faithful f) os v _ x ys (open_afresh f start w v (c_faithful f (opens start) w v (answer tt) c))
