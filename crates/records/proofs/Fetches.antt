-- From a record that was fetched, or refused, to its field.
use Rattle.std.specs.Prelude.{if◌then◌else◌, Ok, Err}
use mathlib.Core.Path.{◌≡◌, refl, sym, ap, ◌∙◌}
use mathlib.Core.Bool.{Bool, true, false, ◌||◌}
use mathlib.Core.List.{List}
use Prim.Native.Nat.{ℕ, ◌≤◌}
use native.Mathlib.Omega.{arith}
use lib.ListN.{length, take}
use lib.Dec.{ltb, eqb}
use borrow.Author.Tests.{ltb-false}
use Rattle.definitions.specs.Reply.{Reply, Outcome, answer, refusal}
use Rattle.definitions.specs.Channel.{Channel, Group, ValidValue, bounded_value_of}
use Rattle.definitions.specs.Chain.{file_limit, record_limit, bad_size, fetched, field_of}
use Rattle.definitions.proofs.Replies.{not_answered}
use Rattle.refusals.specs.Meaning.{refused}
use Rattle.refusals.specs.declared.Refusal.{Refusal}
use Rattle.records.specs.Meaning.{fetched_by}

last_of : (p q : Bool) → p || q ≡ false → q ≡ false
last_of true q h = let z : ◌≡◌ {A = ℕ} 0 1 = cc in let no : ⊥ = omega arith in absurd no
last_of false q h = h

-- ---- a record that was fetched fits into the buffer

module _ (size : ℕ) (out : List ℕ) where
  by_size : (bad : Bool) (o : Outcome (Unit {0})) → bad_size size (length out) ≡ bad
      → (if bad then record { reply = refusal 15 0; buffer = out } else o).reply ≡ answer tt → (size ≤ length out) × (o.reply ≡ answer tt)
  by_size true o e h = not_answered tt 15 0 h
  by_size false o e h = (ltb-false (length out) size (last_of (eqb size 0 || ltb record_limit size) (ltb (length out) size) e), h)

  -- whatever is done behind the test of its size
  pub sized : (o : Outcome (Unit {0})) {u : Unit {0}} {left : List ℕ}
      → fetched_by (Ok u) left ≡ (if bad_size size (length out) then record { reply = refusal 15 0; buffer = out } else o)
      → (size ≤ length out) × (o.reply ≡ answer tt)
  sized o e = by_size (bad_size size (length out)) o refl (ap (λ (x : Outcome (Unit {0})). x.reply) (sym e))

-- and, fetched through a chain, its file is not too long
module _ (f : List ℕ) (start k size : ℕ) (out : List ℕ) where
  by_file : (long : Bool) (o : Outcome (Unit {0})) → ltb file_limit (length f) ≡ long
      → (if long then record { reply = refusal 7 0; buffer = out } else o).reply ≡ answer tt → length f ≤ file_limit
  by_file true o l h = not_answered tt 7 0 h
  by_file false o l h = ltb-false file_limit (length f) l

  pub fits : {u : Unit {0}} {left : List ℕ} → fetched_by (Ok u) left ≡ fetched f start k size out → size ≤ length out
  unfolding fetched
  fits e = (sized size out _ e).0

  pub short : {u : Unit {0}} {left : List ℕ} → fetched_by (Ok u) left ≡ fetched f start k size out → length f ≤ file_limit
  unfolding fetched
  short e = by_file (ltb file_limit (length f)) _ refl (sized size out _ e).1

-- ---- its field

module _ (size : ℕ) (g : Group) (c : Channel) (left : List ℕ) where
  -- the buffer is as the fetch left it, and a refusal of the record is the reply
  pub not_fetched : (x : Refusal) {o : Outcome (Unit {0})} → fetched_by (Err x) left ≡ o → record { reply = refused x; buffer = left } ≡ field_of size g c o
  not_fetched x e = ap (field_of size g c) e

  -- the field is read from the record alone
  pub fetched_then : {u : Unit {0}} {v : Reply ValidValue} {o : Outcome (Unit {0})} → fetched_by (Ok u) left ≡ o → v ≡ bounded_value_of (take size left) g c
      → record { reply = v; buffer = left } ≡ field_of size g c o
  fetched_then e ev = ap (λ (p : Reply ValidValue). record { reply = p; buffer = left }) ev ∙ ap (field_of size g c) e
