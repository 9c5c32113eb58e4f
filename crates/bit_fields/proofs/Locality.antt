-- A field is its own bits of the record, and nothing else of it.
use mathlib.Core.Path.{◌≡◌, sym, ap, ◌∙◌}
use mathlib.Core.Logic.{⊎_elim}
use mathlib.Core.List.{List, [], ◌∷◌, reverse, reverse-cons}
use lib.ListN.{length, get_or, length-reverse, get_or-append}
use lib.Seq.{get_or_at}
use Prim.Native.Nat.{ℕ, zero, suc, ◌+◌, ◌-◌, ◌*◌, ◌/◌, ◌%◌, ◌^◌, ◌≤◌, ◌<◌}
use native.Mathlib.Nat.{zero-div, not-suc-le-zero, le_of_suc-le-suc, eq-or-lt_of_le}
use native.Mathlib.Omega.{arith}
use lib.Pow.{shr-shr, high}
use Rattle.definitions.specs.Bytes.{Order, little, big, le_of, number_of, span, bit, bytes_for, byte_with, field_at}
use Rattle.words.proofs.Numbers.{Bytes, bytes_reverse}
use Rattle.words.proofs.Spans.{bytes_span, length_span, get_d_span}
use Rattle.bit_fields.proofs.Bits.{above, by_bits}

le_bit : (bs : List ℕ) (q r : ℕ) → r < 8 → Bytes bs → bit (le_of bs) (8 * q + r) ≡ bit (get_or bs q 0) r
unfolding le_of
le_bit [] q r hr h = ap (λ (x : ℕ). x % 2) (zero-div (2 ^ (8 * q + r)) ∙ sym (zero-div (2 ^ r)))
le_bit (b ∷ bs) zero r hr h =
    ap (λ (k : ℕ). bit (le_of bs * 256 + b) k) {x = 8 * 0 + r} {y = r} (omega arith) ∙ above (le_of bs) b r 1 8 (omega arith)
le_bit (b ∷ bs) (suc q) r hr h =
    ap (λ (k : ℕ). bit (le_of bs * 256 + b) k) {x = 8 * suc q + r} {y = 8 + (8 * q + r)} (omega arith)
    ∙ ap (λ (x : ℕ). x % 2) (sym (shr-shr (le_of bs * 256 + b) 8 (8 * q + r)) ∙ ap (λ (x : ℕ). x / 2 ^ (8 * q + r)) (high (le_of bs) 8 (h zero)))
    ∙ le_bit bs q r hr (λ i. h (suc i))

get_d_reverse : (bs : List ℕ) (q : ℕ) → q < length bs → get_or (reverse bs) q 0 ≡ get_or bs (length bs - 1 - q) 0
get_d_reverse [] q h = absurd (not-suc-le-zero h)
get_d_reverse (b ∷ bs) q h =
    ⊎_elim
    (λ e.
    let z : length (b ∷ bs) - 1 - q ≡ 0 = omega arith in
    rw (reverse-cons, z) (get_or_at (reverse bs) b [] 0 q (length-reverse bs ∙ sym e)))
    (λ l.
    let z : length (b ∷ bs) - 1 - q ≡ suc (length bs - 1 - q) = omega arith in
    rw (reverse-cons, z) (get_or-append (reverse bs) (b ∷ []) 0 q (rw length-reverse l) ∙ get_d_reverse bs q l))
    (eq-or-lt_of_le (le_of_suc-le-suc h))

-- the byte that holds bit k is among the n bytes
pub byte_inside : (o : Order) (n k : ℕ) → k < 8 * n → byte_with o n k < n
byte_inside little n k h = omega arith
byte_inside big n k h = omega arith

-- bit k of the number of some bytes is a bit of one of them
number_bit : (o : Order) (bs : List ℕ) (k : ℕ) → Bytes bs → k < 8 * length bs
    → bit (number_of o bs) k ≡ bit (get_or bs (byte_with o (length bs) k) 0) (k % 8)
number_bit little bs k b h =
    ap (bit (le_of bs)) {x = k} {y = 8 * (k / 8) + k % 8} (omega arith) ∙ le_bit bs (k / 8) (k % 8) (omega arith) b
number_bit big bs k b h =
    ap (bit (le_of (reverse bs))) {x = k} {y = 8 * (k / 8) + k % 8} (omega arith) ∙ le_bit (reverse bs) (k / 8) (k % 8) (omega arith) (bytes_reverse bs b)
    ∙ ap (λ (x : ℕ). bit x (k % 8)) (get_d_reverse bs (k / 8) (omega arith))

-- bit k of the n bytes of a record from `at` on, as the record has it
abbrev pub record_bit : Order → List ℕ → ℕ → ℕ → ℕ → ℕ
record_bit o s at n k = bit (get_or s (at + byte_with o n k) 0) (k % 8)

pub span_bit : (o : Order) (s : List ℕ) (at n k : ℕ) → Bytes s → at + n ≤ length s → k < 8 * n
    → bit (number_of o (span s at n)) k ≡ record_bit o s at n k
span_bit o s at n k b h l =
    let e : length (span s at n) ≡ n = length_span s at n h in
    number_bit o (span s at n) k (bytes_span s at n b) (omega arith)
    ∙ ap (λ (m : ℕ). bit (get_or (span s at n) (byte_with o m k) 0) (k % 8)) e
    ∙ ap (λ (x : ℕ). bit x (k % 8)) (get_d_span s at n (byte_with o n k) (byte_inside o n k l))

-- records that agree at a field's bits have the same field
pub locality : (o : Order) (s t : List ℕ) (at offset count : ℕ) → Bytes s → Bytes t
    → at + bytes_for offset count ≤ length s → at + bytes_for offset count ≤ length t
    → ((k : ℕ) → offset ≤ k → k < offset + count
    → record_bit o s at (bytes_for offset count) k ≡ record_bit o t at (bytes_for offset count) k)
    → field_at o s at offset count ≡ field_at o t at offset count
locality o s t at offset count bs bt hs ht same =
    let n : ℕ = bytes_for offset count in
    by_bits (number_of o (span s at n)) (number_of o (span t at n)) offset count
    (λ k lo hi. span_bit o s at n k bs hs (omega arith) ∙ same k lo hi ∙ sym (span_bit o t at n k bt ht (omega arith)))
