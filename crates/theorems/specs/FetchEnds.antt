-- How a call that fetches a record and reads a field of it ends: when, with which reply, and what it leaves in the buffer.
use Rattle.std.specs.Prelude.{◌≡◌, List, ◌++◌, ℕ, drop}
use Rattle.definitions.specs.Reply.{Outcome, answer, refusal}
use Rattle.definitions.specs.Channel.{Channel, Group, ValidValue, bounded_value_of}
use Rattle.definitions.specs.Chain.{fetched}
use Rattle.theorems.specs.Exactly.{Fetchable, record_bytes}

-- a record that was fetched, in the front of its buffer
abbrev pub record_left : (f : List ℕ) (start k size : ℕ) (out : List ℕ) → Fetchable f start k size out → List ℕ
record_left f start k size out h = record_bytes f start k size out h ++ drop size out

pub data FetchEnds (f : List ℕ) (start k size : ℕ) (g : Group) (c : Channel) (out : List ℕ) (o : Outcome ValidValue) : Type 0 where
  -- the record's own refusal: the buffer is as it was
  no_record : (n t : ℕ) → (fetched f start k size out).reply ≡ refusal n t → o ≡ record { reply = refusal n t; buffer = out }
      → FetchEnds f start k size g c out o
  -- the field's own, read from the record's bytes alone: the record stays
  no_value : (h : Fetchable f start k size out) (n t : ℕ) → bounded_value_of (record_bytes f start k size out h) g c ≡ refusal n t
      → o ≡ record { reply = refusal n t; buffer = record_left f start k size out h } → FetchEnds f start k size g c out o
  -- an answer: the record stays too
  a_value : (h : Fetchable f start k size out) (v : ValidValue) → bounded_value_of (record_bytes f start k size out h) g c ≡ answer v
      → o ≡ record { reply = answer v; buffer = record_left f start k size out h } → FetchEnds f start k size g c out o
