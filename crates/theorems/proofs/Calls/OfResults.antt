-- What the theorems about a reply say of the `Result` that a call of the library gives: once for all of these calls, by what a
-- `Result` replies. So `Ok` is given exactly where there is an answer, and `Err` with a refusal of these numbers, for these causes.
use mathlib.Core.Path.{◌≡◌, refl, sym, ap}
use Prim.Native.Nat.{ℕ}
use Rattle.std.specs.Prelude.{Result, Ok, Err}
use Rattle.definitions.proofs.Replies.{not_answered}
use Rattle.refusals.specs.Meaning.{refusal_number, told_of, replied}
use Rattle.refusals.specs.declared.Refusal.{Refusal}
use Rattle.theorems.specs.Exactly.{Exactly}
use Rattle.theorems.specs.Refused.{Cause, RefusedExactly}
use Rattle.theorems.proofs.Calls.RefusalNumbers.{Numbered}

-- `Ok` exactly where P holds
pub record OkExactly {A : Type 0} (P : Type 0) (y : Result A Refusal) : Type 0 where
  pub answers : P → (a : A) × (y ≡ Ok a)
  pub only : (a : A) → y ≡ Ok a → P

-- `Err` exactly where a refusal is due, and with that refusal
pub record ErrExactly {A : Type 0} (c : Cause) (y : Result A Refusal) : Type 0 where
  pub given : (n t : ℕ) → c n t → (why : Refusal) × (y ≡ Err why) × (refusal_number why ≡ n) × (told_of why ≡ t)
  pub only : (why : Refusal) → y ≡ Err why → c (refusal_number why) (told_of why)

module _ {A B : Type 0} (meant : A → B) where
  pub ok_exactly : {P : Type 0} (y : Result A Refusal) → Exactly P (replied meant y) → OkExactly P y
  ok_exactly (Ok a) h = record { answers = λ p. (a, refl); only = λ b e. h.only (meant a) refl }
  ok_exactly (Err why) h = record {
    answers = λ p. let x = h.answers p in not_answered x.0 (refusal_number why) (told_of why) x.1;
    only = λ b e. cc;
  }

  pub err_numbered : {P : ℕ → ℕ → Type 0} (y : Result A Refusal) → Numbered P (replied meant y) → (why : Refusal) → y ≡ Err why → P (refusal_number why) (told_of why)
  err_numbered y h why e = h (refusal_number why) (told_of why) (ap (replied meant) e)

  pub err_exactly : {c : Cause} (y : Result A Refusal) → RefusedExactly c (replied meant y) → ErrExactly c y
  err_exactly (Ok a) h = record { given = λ n t x. not_answered (meant a) n t (sym (h.given n t x)); only = λ why e. cc }
  err_exactly (Err r) h = record {
    given = λ n t x. let e = h.given n t x in (r, refl, cc, cc);
    only = λ why e. h.only (refusal_number why) (told_of why) (ap (replied meant) e);
  }
