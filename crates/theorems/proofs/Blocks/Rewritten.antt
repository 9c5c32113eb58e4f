-- Numbers that are written and read again, and bytes that are read and written again.
use mathlib.Core.Path.{◌≡◌, refl, sym, ap, ap₂, ◌∙◌}
use mathlib.Core.List.{List, [], ◌∷◌, ◌++◌, append_assoc}
use Prim.Native.Nat.{ℕ, zero, suc, ◌+◌, ◌*◌, ◌^◌, ◌≤◌, ◌<◌}
use native.Mathlib.Nat.{zero-add, mod-eq_of_lt}
use native.Mathlib.Omega.{arith}
use lib.ListN.{length, get_or, take, length-append}
use lib.Seq.{take-append_seam}
use Rattle.definitions.specs.Bytes.{le_of, le, les, span, u64s_at}
use Rattle.words.proofs.Numbers.{Bytes, length_le, back_le}
use Rattle.words.proofs.Spans.{bytes_span, length_span, span_split}
use Rattle.words.proofs.Stores.{read_middle}

-- what stands at the front
pub front_of : (xs ys : List ℕ) (n : ℕ) → length xs ≡ n → take n (xs ++ ys) ≡ xs
front_of xs ys n l = ap (λ (k : ℕ). take k (xs ++ ys)) (sym l) ∙ take-append_seam xs ys

-- a number that was written at a place
pub number_read : (s front rest : List ℕ) (at n x : ℕ) → s ≡ front ++ le n x ++ rest → length front ≡ at → x < 2 ^ (8 * n) → le_of (span s at n) ≡ x
number_read s front rest at n x e l h = rw (e, sym l) (read_middle front rest n x ∙ mod-eq_of_lt h)

-- bytes that were read as a number
pub number_written : (s : List ℕ) (at n : ℕ) → Bytes s → at + n ≤ length s → le n (le_of (span s at n)) ≡ span s at n
number_written s at n b h =
    ap (λ (k : ℕ). le k (le_of (span s at n))) (sym (length_span s at n h)) ∙ back_le (span s at n) (bytes_span s at n b)

-- pieces of the bytes, one after the other
pub glue : (s : List ℕ) {x y : List ℕ} (a b c : ℕ) → c ≡ a → x ≡ span s 0 a → y ≡ span s c b → x ++ y ≡ span s 0 (a + b)
glue s a b c e ex ey =
    ap₂ (λ (x y : List ℕ). x ++ y) ex (ey ∙ ap (λ (k : ℕ). span s k b) (e ∙ sym (zero-add a))) ∙ sym (span_split s 0 a b)

-- every number has 64 bits, as the logic says it of a slice of them
abbrev pub Words : List ℕ → Type 0
Words xs = (i : ℕ) → get_or xs i 0 < 2 ^ 64

front_on : (front a b after : List ℕ) → front ++ (a ++ b) ++ after ≡ front ++ a ++ b ++ after
front_on front a b after = simp append_assoc

front_rest : (front a b after : List ℕ) → front ++ (a ++ b) ++ after ≡ front ++ a ++ (b ++ after)
front_rest front a b after = simp append_assoc

pub numbers_read : (xs s front after : List ℕ) (at : ℕ) → s ≡ front ++ les xs ++ after → length front ≡ at → Words xs → u64s_at s at (length xs) ≡ xs
unfolding les u64s_at
numbers_read [] s front after at e l w = refl
numbers_read (x ∷ xs) s front after at e l w =
    let more : length (front ++ le 8 x) ≡ at + 8 = omega (arith, length-append front (le 8 x), length_le 8 x) in
    ap₂ (λ (y : ℕ) (ys : List ℕ). y ∷ ys)
    (number_read s front (les xs ++ after) at 8 x (e ∙ front_rest front (le 8 x) (les xs) after) l (w 0))
    (numbers_read xs s (front ++ le 8 x) after (at + 8) (e ∙ front_on front (le 8 x) (les xs) after) more (λ i. w (suc i)))

pub numbers_written : (n : ℕ) (s : List ℕ) (at : ℕ) → Bytes s → at + n * 8 ≤ length s → les (u64s_at s at n) ≡ span s at (n * 8)
unfolding les u64s_at
numbers_written zero s at b h = refl
numbers_written (suc n) s at b h =
    let e : suc n * 8 ≡ 8 + n * 8 = omega arith in
    ap₂ (λ (x y : List ℕ). x ++ y) (number_written s at 8 b (omega arith)) (numbers_written n s (at + 8) b (omega arith))
    ∙ sym (ap (span s at) e ∙ span_split s at 8 (n * 8))
