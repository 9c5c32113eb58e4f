-- What a report leaves of the buffer: where it is refused, every byte; where it is made, every byte behind one record. The front is
-- then the last record, and where there is no record nothing changes.
use mathlib.Core.Path.{◌≡◌, refl, sym, ap, ◌∙◌, subst}
use mathlib.Core.List.{List}
use Prim.Native.Nat.{ℕ, zero, suc, ◌*◌, ◌≤◌, ◌<◌}
use native.Mathlib.Omega.{arith}
use lib.ListN.{length, take, drop}
use Rattle.definitions.specs.Reply.{Reply, Outcome}
use Rattle.definitions.specs.Bytes.{span}
use Rattle.definitions.specs.Channel.{Channel, Group}
use Rattle.definitions.specs.Chain.{joined}
use Rattle.definitions.specs.Report.{Report, record_count, last_record_in, reported}
use Rattle.definitions.proofs.Replies.{not_answered}
use Rattle.words.proofs.Spans.{length_span}
use Rattle.theorems.specs.ReportEnds.{Reportable, ReportEnds, no_line, a_line}
use Rattle.theorems.proofs.Blocks.Rewritten.{front_of}
use Rattle.theorems.proofs.Calls.LeftAlone.{SameBehind, untouched, front_laid, Leaves}
use Rattle.theorems.proofs.Reports.RecordsRead.{inside}
use Rattle.theorems.proofs.Reports.ReportEnds.{reported_line, reported_ends}

-- ---- the last of n records

last_long : (n size : ℕ) (j : List ℕ) → n < record_count size j → length (span j (n * size) size) ≡ size
last_long n size j h = length_span j (n * size) size (inside size j n h)

last_behind : (n size : ℕ) (j out : List ℕ) → n ≤ record_count size j → size ≤ length out → SameBehind size out (last_record_in n size j out)
unfolding last_record_in
last_behind zero size j out h room = untouched size out out refl
last_behind (suc n) size j out h room = front_laid (span j (n * size) size) out size (last_long n size j h) room

last_front : (n size : ℕ) (j out : List ℕ) → n < record_count size j → take size (last_record_in (suc n) size j out) ≡ span j (n * size) size
unfolding last_record_in
last_front n size j out h = front_of (span j (n * size) size) (drop size out) size (last_long n size j h)

last_none : (n size : ℕ) (j out : List ℕ) → n ≡ 0 → last_record_in n size j out ≡ out
unfolding last_record_in
last_none n size j out e = rw e

-- ---- a report

module _ (f : List ℕ) (start size : ℕ) (g : Group) (c : Channel) (out : List ℕ) where
  abbrev ended : Outcome Report
  ended = reported f start size g c out

  abbrev leaves : Outcome Report → List ℕ
  leaves o = o.buffer

  abbrev replies : Outcome Report → Reply Report
  replies o = o.reply

  pub reported_leaves : Leaves (λ r. size) out ended
  reported_leaves = by (reported_ends f start size g c out)
    where
      by : ReportEnds f start size g c out ended → Leaves (λ r. size) out ended
      by (no_line n t d q) = record { refused = λ m u e. ap leaves q; answers = λ a e. not_answered a n t (sym (ap replies q) ∙ e) }
      by (a_line h q) = record {
        refused = λ m u e. not_answered _ m u (sym e ∙ ap replies q);
        answers = λ a e.
            subst (SameBehind size out) (sym (ap leaves q))
            (last_behind (record_count size (joined f h.blocks)) size (joined f h.blocks) out (omega arith) h.sized.2);
      }

  module _ (h : Reportable f start size g c out) where
    abbrev j : List ℕ
    j = joined f h.blocks

    -- the last record
    pub reported_front : (n : ℕ) → record_count size j ≡ suc n → take size ended.buffer ≡ span j (n * size) size
    reported_front n e =
        ap (λ (o : Outcome Report). take size o.buffer) (reported_line f start size g c out h)
        ∙ ap (λ (k : ℕ). take size (last_record_in k size j out)) e
        ∙ last_front n size j out (omega (arith, e))

    -- or no record
    pub reported_nothing : record_count size j ≡ 0 → ended.buffer ≡ out
    reported_nothing e = ap leaves (reported_line f start size g c out h) ∙ last_none (record_count size j) size j out e
