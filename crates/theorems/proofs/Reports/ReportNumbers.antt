-- Which numbers the refusals of a report have: 7, 15, the chain's own, 28, 29 and 33. So a reply of 0 is an answer, and a record
-- that has no value, or that there is not, refuses nothing: 16 and 18 to 22 are never given.
use mathlib.Core.Path.{◌≡◌, refl, sym, ◌∙◌}
use mathlib.Core.Bool.{Bool, true, false, ◌||◌, true≢false}
use mathlib.Core.List.{List}
use Prim.Native.Nat.{ℕ, zero, suc, ◌+◌, ◌<◌}
use native.Mathlib.Omega.{arith}
use lib.Dec.{eqb}
use Rattle.definitions.specs.Reply.{refusal}
use Rattle.definitions.specs.Channel.{Channel, Group}
use Rattle.definitions.specs.Chain.{id_dt}
use Rattle.definitions.specs.Report.{reported}
use Rattle.theorems.specs.ReportEnds.{report_refused}
use Rattle.theorems.proofs.Calls.CauseNumbers.{Within, within_one, within_else}
use Rattle.theorems.proofs.Calls.RefusalNumbers.{Numbered}
use Rattle.theorems.proofs.Chains.ChainNumbers.{is_of_chains, chain_within}
use Rattle.theorems.proofs.Reports.ReportCauses.{reported_in_turn}

abbrev pub is_of_reports : ℕ → Bool
is_of_reports n = is_of_chains n || (eqb n 7 || (eqb n 15 || (eqb n 28 || (eqb n 29 || eqb n 33))))

abbrev pub OfReports : ℕ → ℕ → Type 0
OfReports n t = is_of_reports n ≡ true

of_chains_too : (n : ℕ) → is_of_chains n ≡ true → is_of_reports n ≡ true
of_chains_too n h = rw h

module _ (f : List ℕ) (start size : ℕ) (g : Group) (c : Channel) (out : List ℕ) where
  report_within : Within is_of_reports (report_refused f start size out g c)
  report_within =
      within_else is_of_reports _ _ (within_one is_of_reports 15 0 _ refl)
      (within_else is_of_reports _ _
      (within_else is_of_reports _ _ (within_one is_of_reports 7 0 _ refl) (λ n t h. of_chains_too n (chain_within id_dt f start n t h)))
      (within_else is_of_reports _ _ (within_one is_of_reports 33 0 _ refl)
      (within_else is_of_reports _ _ (within_one is_of_reports 28 0 _ refl) (within_one is_of_reports 29 0 _ refl))))

  pub reported_numbered : Numbered OfReports (reported f start size g c out).reply
  reported_numbered n t e = report_within n t ((reported_in_turn f start size g c out).only n t e)

  -- ---- and no other

  pub never_given : (n t : ℕ) → is_of_reports n ≡ false → (reported f start size g c out).reply ≡ refusal n t → ⊥
  never_given n t h e = true≢false (sym (reported_numbered n t e) ∙ h)

  pub no_record_refusal : (t : ℕ) → (reported f start size g c out).reply ≡ refusal 16 t → ⊥
  no_record_refusal t = never_given 16 t refl

  -- 18 to 22
  pub no_field_refusal : (k t : ℕ) → k < 5 → (reported f start size g c out).reply ≡ refusal (18 + k) t → ⊥
  no_field_refusal zero t h = never_given 18 t refl
  no_field_refusal (suc zero) t h = never_given 19 t refl
  no_field_refusal (suc (suc zero)) t h = never_given 20 t refl
  no_field_refusal (suc (suc (suc zero))) t h = never_given 21 t refl
  no_field_refusal (suc (suc (suc (suc zero)))) t h = never_given 22 t refl
  no_field_refusal (suc (suc (suc (suc (suc k))))) t h = absurd (omega arith)
