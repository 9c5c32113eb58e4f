-- Bytes that are read by fewer loads than there are bytes.
use mathlib.Core.Path.{◌≡◌, sym, ap, ap₂, ◌∙◌}
use mathlib.Core.List.{List, ◌++◌, append_assoc}
use Prim.Native.Nat.{ℕ, ◌+◌, ◌-◌, ◌*◌, ◌/◌, ◌%◌, ◌^◌, ◌≤◌}
use native.Mathlib.Omega.{arith}
use lib.ListN.{length}
use lib.Pow.{high, shl_exact}
use lib.Bits.{bit_or, or_shifted}
use Rattle.definitions.specs.Bytes.{little, le_of, number_of, le, span}
use Rattle.words.proofs.Numbers.{Bytes}
use Rattle.words.proofs.Spans.{length_span, span_middle, span_split, split, span_below}
use Rattle.words.proofs.OtherOrder.{lower_bytes}

-- n bytes by two loads of `size` bytes: the second ends with them, and what the first has too is shifted out of it
module _ (s : List ℕ) (at n size : ℕ) (bs : Bytes s) (room : at + n ≤ length s) (some : size ≤ n) (few : n ≤ 2 * size) (word : n ≤ 8) where
  abbrev twice : ℕ
  twice = 2 * size - n

  abbrev more : ℕ
  more = n - size

  rest : {second : ℕ} → second ≡ number_of little (span s (at + more) size) → second / 2 ^ (8 * twice) ≡ number_of little (span s (at + size) more)
  rest e =
      let parts : size ≡ twice + more = omega arith in
      let place : at + more + twice ≡ at + size = omega arith in
      ap (λ (x : ℕ). x / 2 ^ (8 * twice)) (e ∙ ap (λ (k : ℕ). number_of little (span s (at + more) k)) parts ∙ split little s (at + more) twice more (omega arith))
      ∙ high (number_of little (span s (at + more + twice) more)) (8 * twice) (span_below little s (at + more) twice bs (omega arith))
      ∙ ap (λ (p : ℕ). number_of little (span s p more)) place

  pub overlap : {second first r : ℕ} → second ≡ number_of little (span s (at + more) size) → first ≡ number_of little (span s at size)
      → r ≡ bit_or ((second / 2 ^ (8 * twice) * 2 ^ (8 * size)) % 2 ^ 64) first → r ≡ number_of little (span s at n)
  overlap {first = first} es ef er =
      let upper : ℕ = number_of little (span s (at + size) more) in
      let whole : n ≡ size + more = omega arith in
      er ∙ ap (λ (x : ℕ). bit_or ((x * 2 ^ (8 * size)) % 2 ^ 64) first) (rest es)
      ∙ ap (λ (x : ℕ). bit_or x first) (shl_exact (8 * more) (8 * size) 64 (span_below little s (at + size) more bs (omega arith)) (omega arith))
      ∙ or_shifted upper (8 * size) first (rw ef (span_below little s at size bs (omega arith)))
      ∙ ap (λ (x : ℕ). upper * 2 ^ (8 * size) + x) ef ∙ sym (split little s at size more (omega arith)) ∙ ap (λ (k : ℕ). number_of little (span s at k)) (sym whole)

-- a word that is the number of k bytes has each span of them
pub in_word : (s : List ℕ) (p k a n : ℕ) {w : ℕ} → k ≤ 8 → Bytes s → p + k ≤ length s → w ≡ le_of (span s p k) → a + n ≤ k
    → span (le 8 w) a n ≡ span s (p + a) n
in_word s p k a n {w} few bs room ew inside =
    let front : List ℕ = span s p a in
    let wanted : List ℕ = span s (p + a) n in
    let others : List ℕ = span s (p + a + n) (k - a - n) in
    let above : List ℕ = le (8 - k) (w / 2 ^ (8 * k)) in
    let parts : span s p k ≡ front ++ (wanted ++ others) =
    ap (span s p) {x = k} {y = a + (n + (k - a - n))} (omega arith) ∙ span_split s p a (n + (k - a - n))
    ∙ ap (λ (xs : List ℕ). front ++ xs) (span_split s (p + a) n (k - a - n)) in
    let whole : le 8 w ≡ front ++ wanted ++ (others ++ above) =
    lower_bytes s p k few bs room ew ∙ ap (λ (xs : List ℕ). xs ++ above) parts ∙ rw (append_assoc, append_assoc, append_assoc) in
    ap (λ (xs : List ℕ). span xs a n) whole
    ∙ ap₂ (λ (x y : ℕ). span (front ++ wanted ++ (others ++ above)) x y) (sym (length_span s p a (omega arith))) (sym (length_span s (p + a) n (omega arith)))
    ∙ span_middle front wanted (others ++ above)
