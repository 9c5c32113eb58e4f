-- How a report ends: when, with which reply, and what it leaves in the buffer; and why there is none. f is the file.
use Rattle.std.specs.Prelude.{◌≡◌, ◌⊎◌, true, false, List, ℕ, ◌+◌, ◌/◌, ◌^◌, ◌≤◌, ◌<◌, ltb, length}
use Rattle.std.specs.Int.Signed.{mag}
use Rattle.definitions.specs.Reply.{Outcome, answer, refusal}
use Rattle.definitions.specs.Channel.{Channel, Group, is_fixed_number}
use Rattle.definitions.specs.Chain.{Block, id_dt, file_limit, record_limit, joined}
use Rattle.definitions.specs.Accepted.{Accepted}
use Rattle.definitions.specs.Report.{Report, first_records, record_count, readings, points, report_of, last_record_in}
use Rattle.theorems.specs.Reports.{Ends}
use Rattle.theorems.specs.Exactly.{InArea, Joinable}
use Rattle.theorems.specs.Causes.{area_refused}
use Rattle.theorems.specs.Refused.{Cause, refused, ◌or_else◌}
use Rattle.theorems.specs.ChainCauses.{chain_refused}
use Rattle.theorems.specs.RecordCauses.{BadSize, length_refused}

-- ---- when there is one

abbrev pub Sized : ℕ → ℕ → Type 0
Sized size room = (0 < size) × (size ≤ record_limit) × (size ≤ room)

pub record Reportable (f : List ℕ) (start size : ℕ) (g : Group) (c : Channel) (out : List ℕ) : Type 0 where
  pub sized : Sized size (length out)
  pub short : length f ≤ file_limit
  pub blocks : List Block
  pub accepted : Accepted id_dt f start blocks
  pub number : is_fixed_number c ≡ true
  pub area : InArea size g c

-- the line of the joined data j
abbrev pub line_of : List ℕ → ℕ → Group → Channel → Report
line_of j size g c = report_of (readings g c (first_records (record_count size j) size j))

-- the answer, and the last record in the buffer's front
abbrev pub line_left : List ℕ → ℕ → Group → Channel → List ℕ → Outcome Report
line_left j size g c out = record { reply = answer (line_of j size g c); buffer = last_record_in (record_count size j) size j out }

-- what such a line says, of each number that it tells
pub record Tells (j : List ℕ) (size : ℕ) (g : Group) (c : Channel) (r : Report) : Type 0 where
  pub records : r.records ≡ length j / size
  -- every record is counted once
  pub counted : r.records ≡ r.valid + r.invalid + r.without_value
  pub all_or_none : (r.without_value ≡ 0) ⊎ (r.without_value ≡ r.records)
  -- there is a double exactly where not all valid ones are NaN, and then they are the outermost of all
  pub any : r.doubles.any ≡ ltb r.nan r.valid
  pub ends : r.doubles.any ≡ true → Ends (points 0 (readings g c (first_records (record_count size j) size j))) r.doubles
  -- from -2^127 to 2^127 - 1
  pub fits : mag r.sum < 2 ^ 127

-- ---- why there is none

-- in the order of the tests
abbrev pub report_refused : List ℕ → ℕ → ℕ → List ℕ → Group → Channel → Cause
report_refused f start size out g c =
    refused 15 0 (BadSize size (length out))
    or_else length_refused f start  -- 7, and the chain's own
    or_else refused 33 0 (is_fixed_number c ≡ false)
    or_else area_refused size g c  -- 28, 29

-- each with all that it takes
pub data Due (f : List ℕ) (start size : ℕ) (g : Group) (c : Channel) (out : List ℕ) (n t : ℕ) : Type 0 where
  wrong_size : n ≡ 15 → t ≡ 0 → BadSize size (length out) → Due f start size g c out n t
  too_long : n ≡ 7 → t ≡ 0 → Sized size (length out) → file_limit < length f → Due f start size g c out n t
  no_chain : Sized size (length out) → length f ≤ file_limit → chain_refused id_dt f start n t → Due f start size g c out n t
  no_number : n ≡ 33 → t ≡ 0 → Sized size (length out) → Joinable f start → is_fixed_number c ≡ false → Due f start size g c out n t
  -- 28, 29
  no_area : Sized size (length out) → Joinable f start → is_fixed_number c ≡ true → area_refused size g c n t → Due f start size g c out n t

-- ---- there is no third way

pub data ReportEnds (f : List ℕ) (start size : ℕ) (g : Group) (c : Channel) (out : List ℕ) (o : Outcome Report) : Type 0 where
  -- a refusal: the buffer is as it was
  no_line : (n t : ℕ) → Due f start size g c out n t → o ≡ record { reply = refusal n t; buffer = out } → ReportEnds f start size g c out o
  a_line : (h : Reportable f start size g c out) → o ≡ line_left (joined f h.blocks) size g c out → ReportEnds f start size g c out o
