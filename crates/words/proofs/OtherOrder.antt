-- Words with their bytes in the other order.
use mathlib.Core.Path.{◌≡◌, refl, sym, ap, ap₂, ◌∙◌}
use mathlib.Core.List.{List, [], ◌∷◌, ◌++◌}
use Prim.Native.Nat.{ℕ, zero, suc, ◌+◌, ◌-◌, ◌*◌, ◌/◌, ◌%◌, ◌^◌, ◌≤◌}
use native.Mathlib.Nat.{div-one}
use Rattle.std.proofs.Math.Nat.{div-div-eq-div-mul, pow-suc}
use native.Mathlib.Omega.{arith}
use lib.ListN.{length}
use lib.Pow.{high, shr-shr}
use Rattle.std.specs.Int.{w64, byte_at, bytes_low_first, from_be_bytes, swap_bytes}
use Rattle.definitions.specs.Bytes.{big, le_of, number_of, le, span}
use Rattle.words.proofs.Numbers.{Bytes, append, below, length_le, bytes_le, back_le}
use Rattle.words.proofs.Spans.{length_span, bytes_span}

-- the library's bytes of a number, the lowest first, from one of them on
low_first : (k i x : ℕ) → bytes_low_first i k x ≡ le k (x / 256 ^ i)
unfolding le
low_first zero i x = refl
low_first (suc k) i x =
    ap₂ (λ (b : ℕ) (bs : List ℕ). b ∷ bs) (byte i x)
    (low_first k (suc i) x ∙ ap (λ (p : ℕ). le k (x / p)) (pow-suc 256 i) ∙ ap (le k) (sym (div-div-eq-div-mul x (256 ^ i) 256)))
  where
    byte : (i x : ℕ) → byte_at i x ≡ x / 256 ^ i % 256
    byte zero x = ap (λ (y : ℕ). y % 256) (sym (div-one x))
    byte (suc i) x = refl

eight_bytes : (a b c d e f g h : ℕ) → from_be_bytes w64 (a ∷ b ∷ c ∷ d ∷ e ∷ f ∷ g ∷ h ∷ []) ≡ number_of big (a ∷ b ∷ c ∷ d ∷ e ∷ f ∷ g ∷ h ∷ [])
unfolding le_of
eight_bytes a b c d e f g h = omega arith

-- the library's word with its bytes in the other order
pub library_swapped : (x : ℕ) → swap_bytes w64 x ≡ number_of big (le 8 x)
unfolding le
library_swapped x = ap (from_be_bytes w64) (low_first 8 0 x ∙ ap (le 8) (div-one x)) ∙ eight_bytes _ _ _ _ _ _ _ _

-- the bytes of a number are its lower n and those above
pub le_split : (n m x : ℕ) → le (n + m) x ≡ le n x ++ le m (x / 2 ^ (8 * n))
unfolding le
le_split zero m x = ap (λ (k : ℕ). le k x) {x = 0 + m} {y = m} (omega arith) ∙ ap (λ (y : ℕ). le m y) (sym (div-one x))
le_split (suc n) m x =
    ap (λ (k : ℕ). le k x) {x = suc n + m} {y = suc (n + m)} (omega arith)
    ∙ ap (λ (xs : List ℕ). x % 256 ∷ xs)
    (le_split n m (x / 256)
    ∙ ap (λ (y : ℕ). le n (x / 256) ++ le m y) (shr-shr x 8 (8 * n) ∙ ap (λ (k : ℕ). x / 2 ^ k) {x = 8 + 8 * n} {y = 8 * suc n} (omega arith)))

-- n bytes are the lower ones of a word that is their number
module _ (s : List ℕ) (p n : ℕ) {w : ℕ} (few : n ≤ 8) (bs : Bytes s) (inside : p + n ≤ length s) (ew : w ≡ le_of (span s p n)) where
  pub lower_bytes : le 8 w ≡ span s p n ++ le (8 - n) (w / 2 ^ (8 * n))
  lower_bytes =
      let bytes : le n w ≡ span s p n =
      ap (le n) ew ∙ ap (λ (k : ℕ). le k (le_of (span s p n))) (sym (length_span s p n inside)) ∙ back_le (span s p n) (bytes_span s p n bs) in
      ap (λ (k : ℕ). le k w) {x = 8} {y = n + (8 - n)} (omega arith) ∙ le_split n (8 - n) w ∙ ap (λ (xs : List ℕ). xs ++ le (8 - n) (w / 2 ^ (8 * n))) bytes

  -- and the upper ones when it is swapped
  pub in_other_order : {swapped r : ℕ} → swapped ≡ number_of big (le 8 w) → r ≡ swapped / 2 ^ (64 - 8 * n) → r ≡ number_of big (span s p n)
  in_other_order es er =
      let ys : List ℕ = le (8 - n) (w / 2 ^ (8 * n)) in
      let rest : length ys ≡ 8 - n = length_le (8 - n) (w / 2 ^ (8 * n)) in
      let e : 64 - 8 * n ≡ 8 * length ys = omega arith in
      er ∙ ap (λ (x : ℕ). x / 2 ^ (64 - 8 * n)) (es ∙ ap (number_of big) lower_bytes ∙ append big (span s p n) ys)
      ∙ ap (λ (k : ℕ). (number_of big (span s p n) * 2 ^ (8 * length ys) + number_of big ys) / 2 ^ k) e
      ∙ high (number_of big (span s p n)) (8 * length ys) (below big ys (bytes_le (8 - n) (w / 2 ^ (8 * n))))
