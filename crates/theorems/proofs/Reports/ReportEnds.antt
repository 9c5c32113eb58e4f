-- A report ends in one of the ways of the table, whatever is given: it is made exactly where its conditions hold, and each refusal
-- is given exactly where all that it takes is so.
use mathlib.Core.Path.{◌≡◌, refl, sym, ap, ◌∙◌, subst}
use mathlib.Core.Bool.{Bool, true, false}
use mathlib.Core.List.{List}
use Prim.Native.Nat.{ℕ}
use lib.Dec.{ltb}
use lib.ListN.{length}
use borrow.Author.Tests.{ltb-true, ltb-false, lt-ltb, le-ltb}
use Rattle.definitions.specs.Reply.{Reply, Outcome, answer, refusal}
use Rattle.definitions.specs.Channel.{Channel, Group, is_fixed_number, area_of}
use Rattle.definitions.specs.Chain.{Block, id_dt, file_limit, joined, chain_of, bad_size}
use Rattle.definitions.specs.Report.{Report, report_on, reported}
use Rattle.definitions.proofs.Replies.{not_answered}
use Rattle.theorems.specs.Exactly.{Exactly, Joinable}
use Rattle.theorems.specs.Refused.{RefusedExactly}
use Rattle.theorems.specs.ReportEnds.{Sized, Reportable, line_left, Due, wrong_size, too_long, no_chain, no_number, no_area, ReportEnds, no_line, a_line}
use Rattle.theorems.proofs.Chains.AcceptedChains.{accepted, accepts}
use Rattle.theorems.proofs.Chains.ChainCauses.{chain_refused_law}
use Rattle.theorems.proofs.Fields.Causes.{area_refused_law}
use Rattle.theorems.proofs.Records.RecordCauses.{tests_size}
use Rattle.theorems.proofs.Calls.Answers.{size_passes, size_fits, area_exactly}

module _ (f : List ℕ) (start size : ℕ) (g : Group) (c : Channel) (out : List ℕ) where
  abbrev ended : Outcome Report
  ended = reported f start size g c out

  abbrev refusing : ℕ → ℕ → Outcome Report
  refusing n t = record { reply = refusal n t; buffer = out }

  -- ---- what each way gives

  on_chain : Sized size (length out) → (h : Joinable f start) → ended ≡ report_on (joined f h.blocks) size g c out
  unfolding reported
  on_chain sized h = rw (size_passes size (length out) sized, le-ltb _ _ h.short, accepts id_dt f start h.blocks h.accepted)

  abbrev joinable : Reportable f start size g c out → Joinable f start
  joinable h = record { short = h.short; blocks = h.blocks; accepted = h.accepted }

  pub reported_line : (h : Reportable f start size g c out) → ended ≡ line_left (joined f h.blocks) size g c out
  unfolding report_on
  reported_line h = on_chain h.sized (joinable h) ∙ rw (h.number, ((area_exactly size g c).answers h.area).1)

  pub reported_due : (n t : ℕ) → Due f start size g c out n t → ended ≡ refusing n t
  unfolding reported report_on
  reported_due n t (wrong_size en et h) = rw ((tests_size size (length out)).1 h, en, et)
  reported_due n t (too_long en et sized h) = rw (size_passes size (length out) sized, lt-ltb _ _ h, en, et)
  reported_due n t (no_chain sized short h) = rw (size_passes size (length out) sized, le-ltb _ _ short, (chain_refused_law id_dt f start).given n t h)
  reported_due n t (no_number en et sized h k) = on_chain sized h ∙ rw (k, en, et)
  reported_due n t (no_area sized h k a) = on_chain sized h ∙ rw (k, (area_refused_law size g c).given n t a)

  -- ---- and one of them it is

  abbrev Ends : Type 0
  Ends = ReportEnds f start size g c out ended

  due : (n t : ℕ) → Due f start size g c out n t → Ends
  due n t d = no_line n t d (reported_due n t d)

  module _ (sized : Sized size (length out)) where
    by_area : (h : Joinable f start) → is_fixed_number c ≡ true → (r : Reply (Unit {0})) → area_of size g c ≡ r → Ends
    by_area h k (refusal n t) e = due n t (no_area sized h k ((area_refused_law size g c).only n t e))
    by_area h k (answer u) e =
        let all : Reportable f start size g c out = record {
          sized = sized;
          short = h.short;
          blocks = h.blocks;
          accepted = h.accepted;
          number = k;
          area = (area_exactly size g c).only u e;
        } in
        a_line all (reported_line all)

    by_number : (h : Joinable f start) (b : Bool) → is_fixed_number c ≡ b → Ends
    by_number h true k = by_area h k (area_of size g c) refl
    by_number h false k = due 33 0 (no_number refl refl sized h k)

    by_chain : (r : Reply (List Block)) → chain_of id_dt f start ≡ r → (b : Bool) → ltb file_limit (length f) ≡ b → Ends
    by_chain r e true l = due 7 0 (too_long refl refl sized (ltb-true _ _ l))
    by_chain (refusal n t) e false l = due n t (no_chain sized (ltb-false _ _ l) ((chain_refused_law id_dt f start).only n t e))
    by_chain (answer bs) e false l =
        by_number (record { short = ltb-false _ _ l; blocks = bs; accepted = accepted id_dt f start bs e }) (is_fixed_number c) refl

  by_size : (b : Bool) → bad_size size (length out) ≡ b → Ends
  by_size true e = due 15 0 (wrong_size refl refl ((tests_size size (length out)).0 e))
  by_size false e = by_chain (size_fits size (length out) e) (chain_of id_dt f start) refl (ltb file_limit (length f)) refl

  pub reported_ends : Ends
  reported_ends = by_size (bad_size size (length out)) refl

  -- ---- so each is exact

  abbrev reply_of : Outcome Report → Reply Report
  reply_of o = o.reply

  pub reported_exactly : Exactly (Reportable f start size g c out) ended.reply
  reported_exactly = record { answers = λ h. (_, ap reply_of (reported_line h)); only = λ a e. answered a e reported_ends }
    where
      answered : (a : Report) → ended.reply ≡ answer a → Ends → Reportable f start size g c out
      answered a e (no_line n t d q) = not_answered a n t (sym (ap reply_of q) ∙ e)
      answered a e (a_line h q) = h

  pub reported_refused : RefusedExactly (Due f start size g c out) ended.reply
  reported_refused = record { given = λ n t d. ap reply_of (reported_due n t d); only = λ n t e. refused n t e reported_ends }
    where
      refused : (n t : ℕ) → ended.reply ≡ refusal n t → Ends → Due f start size g c out n t
      refused n t e (a_line h q) = not_answered _ n t (sym e ∙ ap reply_of q)
      refused n t e (no_line m u d q) =
          let same = sym (ap reply_of q) ∙ e in
          let en : m ≡ n = cc in
          let et : u ≡ t = cc in
          subst (λ (k : ℕ). Due f start size g c out k t) en (subst (Due f start size g c out m) et d)
