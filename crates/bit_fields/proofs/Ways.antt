-- The ways to a field: r is what is cut from the word, or the word and the byte, that a way reads.
use mathlib.Core.Path.{◌≡◌, sym, ap, ap₂, ◌∙◌}
use mathlib.Core.List.{List}
use Prim.Native.Nat.{ℕ, ◌+◌, ◌-◌, ◌*◌, ◌/◌, ◌%◌, ◌^◌, ◌≤◌, ◌<◌}
use native.Mathlib.Omega.{arith}
use lib.ListN.{length, get_or}
use lib.Pow.{high, shr-shr}
use Rattle.definitions.specs.Bytes.{Order, little, big, number_of, le, span, bits, bytes_for, field_at}
use Rattle.words.specs.Sides.{lower, upper}
use Rattle.words.proofs.Numbers.{Bytes, length_le, bytes_le}
use Rattle.words.proofs.Spans.{split, more, span_below, span_whole}
use Rattle.bit_fields.proofs.Bits.{above}

-- of two spans that stand side by side, the lower one's bits stand below
module _ (o : Order) (s : List ℕ) (p n m offset count : ℕ) (room : p + n + m ≤ length s) where
  abbrev parts : (Order → List ℕ → List ℕ → List ℕ) → List ℕ
  parts part = part o (span s p n) (span s (p + n) m)

  of_lower : offset + count ≤ 8 * lower o n m → bits (number_of o (span s p (n + m))) offset count ≡ bits (number_of o (parts lower)) offset count
  of_lower ends = ap (λ (x : ℕ). bits x offset count) (split o s p n m room) ∙ above (number_of o (parts upper)) (number_of o (parts lower)) offset count (8 * lower o n m) ends

  lower_below : (o' : Order) → Bytes s → number_of o' (lower o' (span s p n) (span s (p + n) m)) < 2 ^ (8 * lower o' n m)
  lower_below little b = span_below little s p n b (omega arith)
  lower_below big b = span_below big s (p + n) m b room

  of_upper : Bytes s → bits (number_of o (span s p (n + m))) (8 * lower o n m + offset) count ≡ bits (number_of o (parts upper)) offset count
  of_upper b =
      ap (λ (x : ℕ). x % 2 ^ count)
      (sym (shr-shr (number_of o (span s p (n + m))) (8 * lower o n m) offset)
      ∙ ap (λ (x : ℕ). x / 2 ^ offset)
      (ap (λ (x : ℕ). x / 2 ^ (8 * lower o n m)) (split o s p n m room) ∙ high (number_of o (parts upper)) (8 * lower o n m) (lower_below o b)))

-- the field of the n bytes between a bytes before them and b after them: what weighs less is shifted out
inner : (o : Order) (s : List ℕ) (p a n b offset count : ℕ) → Bytes s → p + (a + (n + b)) ≤ length s → offset + count ≤ 8 * n
    → bits (number_of o (span s p (a + (n + b)))) (8 * lower o a b + offset) count ≡ bits (number_of o (span s (p + a) n)) offset count
inner little s p a n b offset count bs room ends =
    of_upper little s p a (n + b) offset count (omega arith) bs ∙ of_lower little s (p + a) n b offset count (omega arith) ends
inner big s p a n b offset count bs room ends =
    of_lower big s p a (n + b) (8 * b + offset) count (omega arith) (omega arith) ∙ of_upper big s (p + a) n b offset count (omega arith) bs

-- by a word's bytes, for the field at one of its bits
pub near : (o : Order) (word from count : ℕ) {r number : ℕ}
    → r ≡ bits number (8 * lower o (from / 8) (8 - from / 8 - bytes_for (from % 8) count) + from % 8) count → number ≡ number_of o (le 8 word)
    → from + count ≤ 64 → r ≡ field_at o (le 8 word) (from / 8) (from % 8) count
near o word from count er en to =
    let bs : List ℕ = le 8 word in
    let a : ℕ = from / 8 in
    let n : ℕ = bytes_for (from % 8) count in
    let b : ℕ = 8 - a - n in
    let whole : length bs ≡ a + (n + b) = length_le 8 word ∙ omega arith in
    er ∙ ap (λ (x : ℕ). bits x (8 * lower o a b + from % 8) count) (en ∙ ap (number_of o) (sym (span_whole bs) ∙ ap (span bs 0) whole))
    ∙ inner o bs 0 a n b (from % 8) count (bytes_le 8 word) (omega arith) (omega arith)
    ∙ ap (λ (p : ℕ). field_at o bs p (from % 8) count) {x = 0 + a} {y = a} (omega arith)

module _ (o : Order) (s : List ℕ) (p count : ℕ) {r word : ℕ} where
  -- by a word and the byte above it
  pub far : (offset : ℕ) {byte : ℕ} → r ≡ bits (byte * 2 ^ 64 + word) offset count → byte ≡ get_or s (upper o p (p + 8)) 0
      → word ≡ number_of o (span s (lower o p (p + 1)) 8) → bytes_for offset count ≡ 9 → p + 9 ≤ length s → r ≡ field_at o s p offset count
  far offset er eb ew en room =
      er ∙ ap (λ (x : ℕ). bits x offset count)
      (ap₂ (λ (x y : ℕ). x * 2 ^ 64 + y) eb ew ∙ sym (more o s p 8 (omega arith)) ∙ ap (λ (n : ℕ). number_of o (span s p n)) (sym en))

-- the bits below that field in the word: those of the bytes that weigh less, and those of its own first byte
pub low : (o : Order) (from count : ℕ) {below : ℕ} → from + count ≤ 64 → below ≡ lower o (from / 8) ((64 - from - count) / 8)
    → below * 8 + from % 8 ≡ 8 * lower o (from / 8) (8 - from / 8 - bytes_for (from % 8) count) + from % 8
low little from count h e = omega arith
low big from count h e = omega arith
