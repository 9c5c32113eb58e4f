-- From a code to its type and back every code comes back. From a type to its code and back every type comes back, but an unknown
-- one that was made with the code of another, 0 to 16: it is read as that other type.
use Rattle.std.specs.Prelude.{if◌then◌else◌}
use mathlib.Core.Path.{◌≡◌, refl, sym, ap, ◌∙◌}
use mathlib.Core.Bool.{Bool, true, false}
use mathlib.Core.List.{List, [], ◌∷◌, map}
use Prim.Native.Nat.{ℕ, zero, suc, ◌+◌, ◌≤◌, ◌<◌}
use native.Mathlib.Omega.{arith}
use lib.ListN.{get_or, get_or-replicate, get_or-map}
use lib.Dec.{ltb}
use borrow.Author.Tests.{ltb-true, ltb-false}
use Rattle.definitions.specs.DataType.{DataType, unknown, coded, type_of, code_of, owns_code}
use Rattle.definitions.proofs.Types.{type_unknown, type_back_law}

-- n numbers from k on
counting : ℕ → ℕ → List ℕ
counting k zero = []
counting k (suc n) = k ∷ counting (suc k) n

counted : (n k i m : ℕ) → m ≡ k + i → get_or (counting k n) i m ≡ m
unfolding counting
counted zero k i m e = refl
counted (suc n) k zero m e = omega arith
counted (suc n) k (suc i) m e = counted n (suc k) i m (omega arith)

-- the table has the codes in their order
codes : map code_of coded ≡ counting 0 17
unfolding counting
codes = refl

pub code_back : (n : ℕ) → code_of (type_of n) ≡ n
code_back n = sym (get_or-map code_of coded n (unknown n)) ∙ ap (λ (l : List ℕ). get_or l n n) codes ∙ counted 17 0 n n (omega arith)

-- the type that a code stands for has that code for its own
pub code_owned : (n : ℕ) → owns_code (type_of n) ≡ true
code_owned n = by_size (ltb 16 n) refl
  where
    by_size : (b : Bool) → ltb 16 n ≡ b → owns_code (type_of n) ≡ true
    by_size true e = ap owns_code (type_unknown n (ltb-true _ _ e)) ∙ e
    by_size false e =
        let few : n ≤ 16 = ltb-false _ _ e in
        sym (get_or-map owns_code coded n (unknown n)) ∙ get_or-replicate 17 n true (ltb 16 n) (omega arith)

-- so no other type comes back than `Types.type_back_law` says
pub only_owned : (t : DataType) → type_of (code_of t) ≡ t → owns_code t ≡ true
only_owned t e = sym (ap owns_code e) ∙ code_owned (code_of t)

-- what reading makes of a type that was written by its code
abbrev pub type_written : DataType → DataType
type_written t = if owns_code t then t else type_of (code_of t)

pub type_written_law : (t : DataType) → type_of (code_of t) ≡ type_written t
type_written_law t = go (owns_code t) refl
  where
    go : (b : Bool) → owns_code t ≡ b → type_of (code_of t) ≡ (if b then t else type_of (code_of t))
    go true e = type_back_law t e
    go false e = refl

-- the exception: made with a code from 0 to 16, an unknown type goes back to it, and is read as its type, which is no unknown one
pub unknown_read : (n : ℕ) → n ≤ 16 → (type_of (code_of (unknown n)) ≡ type_of n) × ((m : ℕ) → type_of n ≡ unknown m → ⊥)
unknown_read n few = (
  refl,
  λ m e.
      let same : n ≡ m = sym (code_back n) ∙ ap code_of e in
      let above : 16 < m = ltb-true _ _ (sym (ap owns_code e) ∙ code_owned n) in
      omega arith,
)
