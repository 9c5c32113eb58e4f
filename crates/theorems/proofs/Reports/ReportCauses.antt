-- Why there is no report, exactly, in the order of the tests.
use mathlib.Core.Bool.{not}
use mathlib.Core.List.{List}
use Prim.Native.Nat.{ℕ}
use lib.Dec.{ltb}
use lib.ListN.{length}
use Rattle.std.proofs.lemmas.Bool.Decides.{Decides-ltb}
use Rattle.definitions.specs.Channel.{Channel, Group, is_fixed_number, area_of}
use Rattle.definitions.specs.Chain.{id_dt, file_limit, chain_of, bad_size}
use Rattle.definitions.specs.Report.{report_on, reported}
use Rattle.theorems.specs.Refused.{RefusedExactly}
use Rattle.theorems.specs.ReportEnds.{report_refused}
use Rattle.theorems.proofs.Chains.ChainCauses.{chain_refused_law}
use Rattle.theorems.proofs.Fields.Causes.{area_refused_law}
use Rattle.theorems.proofs.Records.RecordCauses.{tests_size}
use Rattle.theorems.proofs.Calls.TestsInTurn.{tests_false, tested, going_on, made_of, together, tested_lent, going_on_lent}

pub reported_in_turn : (f : List ℕ) (start size : ℕ) (g : Group) (c : Channel) (out : List ℕ)
    → RefusedExactly (report_refused f start size out g c) (reported f start size g c out).reply
unfolding reported report_on
reported_in_turn f start size g c out =
    tested_lent (bad_size size (length out)) 15 0 out _
    (tested (bad_size size (length out)) 15 0 _ (tests_size size (length out))
    (together _ _ _
    (tested_lent (ltb file_limit (length f)) 7 0 out _
    (tested (ltb file_limit (length f)) 7 0 _ (Decides-ltb file_limit (length f))
    (going_on_lent (chain_of id_dt f start) _ out
    (going_on (chain_of id_dt f start) _ (chain_refused_law id_dt f start)
    (λ bs e. tested_lent (not (is_fixed_number c)) 33 0 out _
    (tested (not (is_fixed_number c)) 33 0 _ (tests_false (is_fixed_number c))
    (going_on_lent (area_of size g c) _ out (made_of _ (area_of size g c) (area_refused_law size g c)))))))))))
