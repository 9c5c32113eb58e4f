-- Runs of stores, one after the other.
use mathlib.Core.Path.{◌≡◌, refl, sym, ap, ap₂, ◌∙◌}
use mathlib.Core.List.{List, [], ◌∷◌, ◌++◌}
use Prim.Native.Nat.{ℕ, suc, ◌+◌, ◌≤◌}
use native.Mathlib.Nat.{add-zero, zero-add}
use native.Mathlib.Omega.{arith}
use lib.ListN.{length, set, drop}
use lib.Seq.{sets, sets-eq}

-- a run goes on where it stopped
pub sets_append : (l : List ℕ) (i : ℕ) (xs ys : List ℕ) → sets l i (xs ++ ys) ≡ sets (sets l i xs) (i + length xs) ys
sets_append l i [] ys = rw add-zero
sets_append l i (x ∷ xs) ys =
    sets_append (set l i x) (suc i) xs ys ∙ ap (λ (k : ℕ). sets (sets (set l i x) (suc i) xs) k ys) (omega arith)

-- the same as a second store has it, right after the first
pub sets_then : (l : List ℕ) (i k : ℕ) (xs ys : List ℕ) → k ≡ i + length xs → sets (sets l i xs) k ys ≡ sets l i (xs ++ ys)
sets_then l i k xs ys e = ap (λ (j : ℕ). sets (sets l i xs) j ys) e ∙ sym (sets_append l i xs ys)

-- as buffers come out of one store after the other, of bytes as another law names them
pub stored_on : (l : List ℕ) (i k : ℕ) (xs ys : List ℕ) {a b stored : List ℕ} → stored ≡ ys → a ≡ sets l i xs → b ≡ sets a k stored → k ≡ i + length xs
    → b ≡ sets l i (xs ++ ys)
stored_on l i k xs ys es ea eb e = eb ∙ ap₂ (λ (o w : List ℕ). sets o k w) ea es ∙ sets_then l i k xs ys e

-- and from the front on
pub stored_then : (l xs ys : List ℕ) (k : ℕ) {a b : List ℕ} → a ≡ sets l 0 xs → b ≡ sets a k ys → k ≡ length xs → b ≡ sets l 0 (xs ++ ys)
stored_then l xs ys k ea eb e = stored_on l 0 k xs ys refl ea eb (omega arith)

-- a run from the front on leaves the bytes there, and the rest as it was
pub sets_front : (l bs : List ℕ) → length bs ≤ length l → sets l 0 bs ≡ bs ++ drop (length bs) l
sets_front l bs h = sets-eq bs l 0 (omega arith) ∙ ap (λ (k : ℕ). bs ++ drop k l) (zero-add (length bs))
