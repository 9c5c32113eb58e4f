-- The ways through a report.
use Rattle.std.specs.Prelude.{if◌then◌else◌, Result, Ok}
use mathlib.Core.Path.{◌≡◌, refl, sym, ap, ◌∙◌}
use mathlib.Core.Bool.{Bool, true, false}
use mathlib.Core.List.{List, ◌++◌}
use Prim.Native.Nat.{ℕ, ◌/◌}
use lib.ListN.{length, take, drop}
use lib.Dec.{ltb}
use Rattle.definitions.specs.Reply.{Outcome, answer, refusal}
use Rattle.definitions.specs.Channel.{Channel, Group, is_fixed_number, area_of}
use Rattle.definitions.specs.Chain.{file_limit, id_dt, joined, chain_of, total_of, data_length, bad_size}
use Rattle.definitions.specs.Report.{Report, first_records, readings, report_of, last_record_in, report_on, reported}
use Rattle.refusals.specs.declared.Refusal.{Refusal}
use Rattle.places.proofs.Answers.{unfollowed}
use Rattle.records.proofs.Records.{data_whole, size_good}
use Rattle.tally.specs.Meaning.{report_meant}
use Rattle.tally.specs.declared.report.Report.{Report as Line}
use Rattle.report.specs.Meaning.{reported_by, InWords}
use Rattle.report.proofs.Lines.{last_in_front}

module _ (f : List ℕ) (start size : ℕ) (g : Group) (c : Channel) (out : List ℕ) where
  pub report_bad : bad_size size (length out) ≡ true → record { reply = refusal 15 0; buffer = out } ≡ reported f start size g c out
  unfolding reported
  report_bad b = rw b

  module _ (good : bad_size size (length out) ≡ false) where
    refused_by : (long : Bool) → ltb file_limit (length f) ≡ long → (n t : ℕ) → (if long then refusal 7 0 else total_of id_dt f start) ≡ refusal n t
        → record { reply = refusal n t; buffer = out } ≡ reported f start size g c out
    unfolding reported total_of
    refused_by true l n t e = rw (good, l) (cc)
    refused_by false l n t e = rw (good, l, unfollowed (chain_of id_dt f start) _ n t e)

    pub report_refused_law : (n t : ℕ) → data_length f start ≡ refusal n t → record { reply = refusal n t; buffer = out } ≡ reported f start size g c out
    unfolding data_length
    report_refused_law n t e = refused_by (ltb file_limit (length f)) refl n t e

    module _ (n : ℕ) (e : data_length f start ≡ answer n) where
      abbrev data_of : List ℕ
      data_of = joined f (data_whole f start n e).1

      -- a chain that is accepted
      by_data : reported f start size g c out ≡ report_on data_of size g c out
      unfolding reported
      by_data = let w = data_whole f start n e in rw (good, w.0, w.2)

      pub report_other : is_fixed_number c ≡ false → record { reply = refusal 33 0; buffer = out } ≡ reported f start size g c out
      unfolding report_on
      report_other h = sym (by_data ∙ rw h)

      module _ (fixed : is_fixed_number c ≡ true) where
        pub report_outside : (m t : ℕ) → area_of size g c ≡ refusal m t → record { reply = refusal m t; buffer = out } ≡ reported f start size g c out
        unfolding report_on
        report_outside m t h = sym (by_data ∙ rw (fixed, h))

        -- the line, and the last record in the front of the buffer
        pub report_line : area_of size g c ≡ answer tt → (k : ℕ) → k ≡ length data_of / size → (r : Report) (front : List ℕ)
            → r ≡ report_of (readings g c (first_records k size data_of)) → front ≡ last_record_in k size data_of (take size out)
            → record { reply = answer r; buffer = front ++ drop size out } ≡ reported f start size g c out
        unfolding report_on
        report_line h k ek r front er ef =
            let buffer : front ++ drop size out ≡ last_record_in k size data_of out =
            ap (λ (l : List ℕ). l ++ drop size out) ef ∙ last_in_front data_of size k out (size_good size (length out) good).1 in
            sym (by_data ∙ rw (fixed, h, sym ek, sym er, sym buffer))

-- the answer that holds the line
pub lined_back : (read : Result Line Refusal) (line : Line) {out : List ℕ} {o : Outcome Report} → (read ≡ Ok line) × InWords read
    → record { reply = answer (report_meant line); buffer = out } ≡ o → (reported_by read out ≡ o) × InWords read
lined_back read line {out} e eo = (ap (λ (x : Result Line Refusal). reported_by x out) e.0 ∙ eo, e.1)
