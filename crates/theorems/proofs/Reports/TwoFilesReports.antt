-- Two files whose accepted chains join to the same bytes give the same report and, of buffers that hold the same bytes, leave the
-- same.
use Rattle.std.specs.Prelude.{if◌then◌else◌}
use mathlib.Core.Path.{◌≡◌, sym, ◌∙◌}
use mathlib.Core.List.{List}
use Prim.Native.Nat.{ℕ}
use lib.ListN.{length}
use borrow.Author.Tests.{le-ltb}
use Rattle.definitions.specs.Reply.{Outcome, refusal}
use Rattle.definitions.specs.Channel.{Channel, Group}
use Rattle.definitions.specs.Chain.{id_dt, bad_size}
use Rattle.definitions.specs.Report.{Report, report_on, reported}
use Rattle.theorems.proofs.Chains.AcceptedChains.{accepts}
use Rattle.theorems.proofs.Records.TwoFiles.{Joins}

-- what the definition gives on the joined bytes alone
abbrev pub report_in : List ℕ → ℕ → Group → Channel → List ℕ → Outcome Report
report_in j size g c out =
    if bad_size size (length out) then record { reply = refusal 15 0; buffer = out } else report_on j size g c out

pub report_of_joined : (f : List ℕ) (start : ℕ) (j : List ℕ) → Joins f start j → (size : ℕ) (g : Group) (c : Channel) (out : List ℕ)
    → reported f start size g c out ≡ report_in j size g c out
unfolding reported
report_of_joined f start j h size g c out = rw (le-ltb _ _ h.short, accepts id_dt f start h.blocks h.accepted, h.same)

pub same_report : (e f : List ℕ) (a b : ℕ) (j : List ℕ) → Joins e a j → Joins f b j → (size : ℕ) (g : Group) (c : Channel) (out : List ℕ)
    → reported e a size g c out ≡ reported f b size g c out
same_report e f a b j h i size g c out = report_of_joined e a j h size g c out ∙ sym (report_of_joined f b j i size g c out)
