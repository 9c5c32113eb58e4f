-- The ways in which a field is replaced: the word, or the word and the byte, that a way stores.
use mathlib.Core.Path.{◌≡◌, refl, sym, ap, ap₂, ◌∙◌}
use mathlib.Core.List.{List, [], ◌∷◌}
use Prim.Native.Nat.{ℕ, suc, ◌+◌, ◌-◌, ◌*◌, ◌/◌, ◌%◌, ◌^◌, ◌≤◌, ◌<◌}
use native.Mathlib.Nat.{div-one, mod-lt}
use native.Mathlib.Numerals.{add-one}
use native.Mathlib.Omega.{arith}
use lib.ListN.{length, get_or, set}
use lib.Seq.{sets}
use Rattle.std.proofs.lemmas.List.{set_comm}
use lib.Pow.{pow_pos, shr_lt}
use Rattle.definitions.specs.Bytes.{Order, little, big, le, number_of, bytes_of, span, bits, bytes_for, with_bits, field_set}
use Rattle.definitions.proofs.Stores.{sets_then}
use Rattle.words.specs.Sides.{lower, upper}
use Rattle.words.proofs.Numbers.{Bytes, length_le}
use Rattle.words.proofs.Spans.{more, span_below}
use Rattle.bit_fields.proofs.Replaced.{stays_below, in_two}
use Rattle.words.proofs.BytesOf.{nine_bytes, with_top}

-- the high bits of x, of which there are as many as the field has above the word
pub high_fits : (offset count x : ℕ) → offset < 64 → 64 ≤ offset + count → x < 2 ^ count → x / 2 ^ (64 - offset) < 2 ^ (offset + count - 64)
high_fits offset count x ho hc hx =
    let e : count ≡ offset + count - 64 + (64 - offset) = omega arith in
    shr_lt (offset + count - 64) (64 - offset) (rw e at hx)

-- a byte with the high bits is a byte
pub high_byte : (byte offset count x : ℕ) → byte < 256 → offset < 8 → count ≤ 64 → 64 < offset + count → x < 2 ^ count
    → with_bits byte 0 (offset + count - 64) (x / 2 ^ (64 - offset)) < 256
high_byte byte offset count x hb ho hc he hx =
    stays_below byte 0 (offset + count - 64) (x / 2 ^ (64 - offset)) (high_fits offset count x (omega arith) (omega arith) hx) 8 (omega arith) hb

-- the low bits of x, as they are cut
pub low_cut : (offset x : ℕ) {r : ℕ} → r ≡ bits x 0 (64 - offset) → r ≡ x % 2 ^ (64 - offset)
low_cut offset x e = e ∙ ap (λ (y : ℕ). y % 2 ^ (64 - offset)) (div-one x)

module _ (o : Order) (s : List ℕ) (at offset count x : ℕ) where
  -- what is stored of the span's number with x put into it fits into the bytes
  pub near_below : {word r : ℕ} → Bytes s → at + bytes_for offset count ≤ length s → x < 2 ^ count → word ≡ number_of o (span s at (bytes_for offset count))
      → r ≡ with_bits word offset count x → r < 2 ^ (8 * bytes_for offset count)
  near_below {word} bs room fits ew er =
      rw er (stays_below word offset count x fits (8 * bytes_for offset count) (omega arith) (rw ew (span_below o s at (bytes_for offset count) bs room)))

  module _ {word byte w b : ℕ} (bs : Bytes s) (room : at + 9 ≤ length s) (starts : offset < 8) (few : count ≤ 64) (over : 64 < offset + count) (fits : x < 2 ^ count)
      (eword : word ≡ number_of o (span s (lower o at (at + 1)) 8)) (ebyte : byte ≡ get_or s (upper o at (at + 8)) 0)
      (ew : w ≡ with_bits word offset (64 - offset) (x % 2 ^ (64 - offset))) (eb : b ≡ with_bits byte 0 (offset + count - 64) (x / 2 ^ (64 - offset)))
    where
      all_nine : bytes_for offset count ≡ 9
      all_nine = omega arith

      word_below : word < 2 ^ 64
      word_below = rw eword (below o)
        where
          below : (o : Order) → number_of o (span s (lower o at (at + 1)) 8) < 2 ^ 64
          below little = span_below little s at 8 bs (omega arith)
          below big = span_below big s (at + 1) 8 bs (omega arith)

      -- the nine bytes' number with x in it
      far_number : with_bits (number_of o (span s at 9)) offset count x ≡ b * 2 ^ 64 + w
      far_number =
          ap (λ (y : ℕ). with_bits y offset count x) (more o s at 8 (omega arith) ∙ sym (ap₂ (λ (y z : ℕ). y * 2 ^ 64 + z) ebyte eword))
          ∙ in_two byte word offset count x 64 word_below (omega arith) (omega arith) ∙ sym (ap₂ (λ (y z : ℕ). y * 2 ^ 64 + z) eb ew)

      pub far_bytes : field_set o s at offset count x ≡ sets s at (with_top o (b ∷ []) (bytes_of o 8 w))
      far_bytes =
          ap (λ (n : ℕ). sets s at (bytes_of o n (with_bits (number_of o (span s at n)) offset count x))) all_nine
          ∙ ap (λ (y : ℕ). sets s at (bytes_of o 9 y)) far_number
          ∙ ap (sets s at)
          (nine_bytes o b w (rw eb (high_byte byte offset count x (rw ebyte (bs (upper o at (at + 8)))) starts few over fits))
          (rw ew (stays_below word offset (64 - offset) (x % 2 ^ (64 - offset)) (mod-lt x (pow_pos (64 - offset))) 64 (omega arith) word_below)))

-- a byte stored below others may as well be stored first
byte_first : (vs l : List ℕ) (i j b : ℕ) → i < j → set (sets l j vs) i b ≡ sets (set l i b) j vs
byte_first [] l i j b h = refl
byte_first (v ∷ vs) l i j b h =
    byte_first vs (set l j v) i (suc j) b (omega arith)
    ∙ ap (λ (x : List ℕ). sets x (suc j) vs) (set_comm l j i v b (λ e. omega arith))

-- the word, and then the byte above it
pub far_stored : (o : Order) (s : List ℕ) (at b w : ℕ) {t u : List ℕ} → t ≡ sets s (lower o at (at + 1)) (bytes_of o 8 w) → u ≡ set t (upper o at (at + 8)) b
    → u ≡ sets s at (with_top o (b ∷ []) (bytes_of o 8 w))
far_stored little s at b w et eu =
    eu ∙ ap (λ (l : List ℕ). set l (at + 8) b) et
    ∙ sets_then s at (at + 8) (le 8 w) (b ∷ []) (ap (λ (k : ℕ). at + k) (sym (length_le 8 w)))
far_stored big s at b w et eu =
    eu ∙ ap (λ (l : List ℕ). set l at b) et ∙ byte_first (bytes_of big 8 w) s at (at + 1) b (omega arith)
    ∙ ap (λ (k : ℕ). sets (set s at b) k (bytes_of big 8 w)) (add-one at)
