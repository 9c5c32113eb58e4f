-- Two files whose accepted chains join to the same bytes have as much data, give the same records, and the same values in them.
use Rattle.std.specs.Prelude.{if◌then◌else◌}
use mathlib.Core.Path.{◌≡◌, sym, ap, ◌∙◌}
use mathlib.Core.Bool.{false}
use mathlib.Core.List.{List}
use Prim.Native.Nat.{ℕ, ◌+◌, ◌*◌, ◌≤◌}
use lib.ListN.{length}
use borrow.Author.Tests.{le-ltb}
use Rattle.definitions.specs.Reply.{Outcome, answer, refusal}
use Rattle.definitions.specs.Bytes.{span}
use Rattle.definitions.specs.Channel.{Channel, Group, ValidValue, record_length, bounded_value_of}
use Rattle.definitions.specs.Chain.{Block, id_dt, file_limit, joined, total, chain_of, total_of, data_length, bad_size, record_of, fetched, field_of, value_fetched}
use Rattle.definitions.specs.Accepted.{Accepted}
use Rattle.chain.proofs.Chains.{joined_length, chain_stands}
use Rattle.theorems.proofs.Chains.AcceptedChains.{accepts}
use Rattle.theorems.proofs.Calls.Answers.{size_fits, value_of_record, value_fetched_exactly}

-- a file within the limit of 7, with an accepted chain of blocks with that id that joins to j
pub record JoinsBy (id f : List ℕ) (start : ℕ) (j : List ℕ) : Type 0 where
  pub short : length f ≤ file_limit
  pub blocks : List Block
  pub accepted : Accepted id f start blocks
  pub same : joined f blocks ≡ j

-- of ##DT blocks
abbrev pub Joins : List ℕ → ℕ → List ℕ → Type 0
Joins = JoinsBy id_dt

-- what the definitions give on the joined bytes alone
abbrev pub record_in : List ℕ → ℕ → ℕ → List ℕ → Outcome (Unit {0})
record_in j k size out =
    if bad_size size (length out) then record { reply = refusal 15 0; buffer = out } else record_of j k size out

abbrev pub value_in : List ℕ → ℕ → ℕ → Group → Channel → List ℕ → Outcome ValidValue
value_in j k size group c out = field_of size group c (record_in j k size out)

module _ (f : List ℕ) (start : ℕ) (j : List ℕ) (h : Joins f start j) where
  -- every answer is the one on the joined bytes
  pub record_of_joined : (k size : ℕ) (out : List ℕ) → fetched f start k size out ≡ record_in j k size out
  unfolding fetched
  record_of_joined k size out = rw (le-ltb _ _ h.short, accepts id_dt f start h.blocks h.accepted, h.same)

  pub length_of_joined : data_length f start ≡ answer (length j)
  unfolding data_length total_of
  length_of_joined =
      let e : chain_of id_dt f start ≡ answer h.blocks = accepts id_dt f start h.blocks h.accepted in
      let n : total h.blocks ≡ length j = sym (joined_length f h.blocks (chain_stands id_dt f start h.blocks e).inside) ∙ ap length h.same in
      rw (le-ltb _ _ h.short, e, n)

  pub value_of_joined : (k size : ℕ) (group : Group) (c : Channel) (out : List ℕ)
      → value_fetched f start k size group c out ≡ value_in j k size group c out
  unfolding value_fetched
  value_of_joined k size group c out = ap (field_of size group c) (record_of_joined k size out)

  -- and of a record inside them, the field and its validity in the record's own bytes, 28 and 29 included
  pub value_on_joined : (k size : ℕ) (group : Group) (c : Channel) (out : List ℕ) → bad_size size (length out) ≡ false → k * size + size ≤ length j
      → (value_fetched f start k size group c out).reply ≡ bounded_value_of (span j (k * size) size) group c
  value_on_joined k size group c out fits inside =
      let sized = size_fits size (length out) fits in
      value_of_record f start k size out group c (record {
        some = sized.0;
        small = sized.1;
        room = sized.2;
        short = h.short;
        blocks = h.blocks;
        accepted = h.accepted;
        inside = rw h.same inside;
      })
      ∙ ap (λ (s : List ℕ). bounded_value_of (span s (k * size) size) group c) h.same

-- there is a value only where the record size is the group's sum
pub value_sized : (f : List ℕ) (start k size : ℕ) (group : Group) (c : Channel) (out : List ℕ) (v : ValidValue)
    → (value_fetched f start k size group c out).reply ≡ answer v → size ≡ record_length group
value_sized f start k size group c out v e = ((value_fetched_exactly f start k size out group c).only v e).area.long

-- so two such files are not told apart
module _ (f g : List ℕ) (a b : ℕ) (j : List ℕ) (h : Joins f a j) (i : Joins g b j) where
  pub same_record : (k size : ℕ) (out : List ℕ) → fetched f a k size out ≡ fetched g b k size out
  same_record k size out = record_of_joined f a j h k size out ∙ sym (record_of_joined g b j i k size out)

  pub same_value : (k size : ℕ) (group : Group) (c : Channel) (out : List ℕ)
      → value_fetched f a k size group c out ≡ value_fetched g b k size group c out
  same_value k size group c out =
      value_of_joined f a j h k size group c out ∙ sym (value_of_joined g b j i k size group c out)
