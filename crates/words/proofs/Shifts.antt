-- The machine's shifts, at a word of 64 bits.
use mathlib.Core.Path.{◌≡◌, sym, ap, ap₂, ◌∙◌}
use Prim.Native.Nat.{ℕ, ◌+◌, ◌-◌, ◌*◌, ◌/◌, ◌%◌, ◌^◌, ◌≤◌, ◌<◌}
use native.Mathlib.Nat.{mod-eq_of_lt, mul_assoc, lt_of_le_of_lt, div-one}
use native.Mathlib.Omega.{arith}
use lib.Pow.{pow-add, shl_exact, shl-shr, field, mod-mod-pow, shr_le}
use lib.Bits.{bit_or, or_shifted, or_shifted_r, or_shr, or_mod}
use Rattle.definitions.specs.Bytes.{bits}

-- x cut to its count low bits, by a shift up and down again
pub keep : (x count : ℕ) → count ≤ 64 → (x * 2 ^ (64 - count)) % 2 ^ 64 / 2 ^ (64 - count) ≡ x % 2 ^ count
keep x count h =
    let e : 64 ≡ count + (64 - count) = omega arith in
    ap (λ (j : ℕ). (x * 2 ^ (64 - count)) % 2 ^ j / 2 ^ (64 - count)) e ∙ field (x * 2 ^ (64 - count)) count (64 - count)
    ∙ ap (λ (y : ℕ). y % 2 ^ count) (shl-shr x (64 - count))

-- x % 2 ^ 64 has the count low bits of x
low_of : (x count : ℕ) → count ≤ 64 → x % 2 ^ 64 % 2 ^ count ≡ x % 2 ^ count
low_of x count h =
    let e : 64 ≡ (64 - count) + count = omega arith in
    ap (λ (j : ℕ). x % 2 ^ j % 2 ^ count) e ∙ mod-mod-pow x (64 - count) count

-- the word that starts at bit offset of byte * 2 ^ 64 + word, put together of the word's high bits and the byte's low ones
window : (byte word offset : ℕ) → byte < 256 → word < 2 ^ 64 → offset < 64
    → bit_or (word / 2 ^ offset) (((byte * 2 ^ 1) % 2 ^ 64 * 2 ^ (63 - offset)) % 2 ^ 64) ≡ (byte * 2 ^ 64 + word) / 2 ^ offset % 2 ^ 64
window byte word offset hb hw ho =
    let k : ℕ = 64 - offset in
    let up : (byte * 2 ^ 1) % 2 ^ 64 * 2 ^ (63 - offset) ≡ byte * 2 ^ k =
    ap (λ (x : ℕ). x * 2 ^ (63 - offset)) (shl_exact {a = byte} 8 1 64 hb (omega arith)) ∙ mul_assoc byte (2 ^ 1) (2 ^ (63 - offset))
    ∙ ap (λ (x : ℕ). byte * x) (sym (pow-add 2 1 (63 - offset)) ∙ ap (λ (x : ℕ). 2 ^ x) (omega arith)) in
    let down : byte * 2 ^ 64 / 2 ^ offset ≡ byte * 2 ^ k =
    ap (λ (x : ℕ). byte * x / 2 ^ offset) (ap (λ (x : ℕ). 2 ^ x) {x = 64} {y = k + offset} (omega arith) ∙ pow-add 2 k offset)
    ∙ ap (λ (x : ℕ). x / 2 ^ offset) (sym (mul_assoc byte (2 ^ k) (2 ^ offset))) ∙ shl-shr (byte * 2 ^ k) offset in
    sym
    (ap (λ (x : ℕ). x / 2 ^ offset % 2 ^ 64) (sym (or_shifted_r byte 64 word hw))
    ∙ ap (λ (x : ℕ). x % 2 ^ 64) (or_shr word (byte * 2 ^ 64) offset ∙ ap (bit_or (word / 2 ^ offset)) down)
    ∙ or_mod (word / 2 ^ offset) (byte * 2 ^ k) 64
    ∙ ap₂ (λ (x y : ℕ). bit_or x (y % 2 ^ 64)) (mod-eq_of_lt (lt_of_le_of_lt (shr_le word offset) hw)) (sym up))

-- the count low bits of that word
pub cut_window : (byte word offset count : ℕ) {r : ℕ} → byte < 256 → word < 2 ^ 64 → offset < 64 → count ≤ 64
    → r ≡ bits (bit_or (word / 2 ^ offset) (((byte * 2 ^ 1) % 2 ^ 64 * 2 ^ (63 - offset)) % 2 ^ 64)) 0 count
    → r ≡ bits (byte * 2 ^ 64 + word) offset count
cut_window byte word offset count hb hw ho hc e =
    e ∙ ap (λ (x : ℕ). x % 2 ^ count) (div-one _ ∙ window byte word offset hb hw ho) ∙ low_of ((byte * 2 ^ 64 + word) / 2 ^ offset) count hc

-- a byte put above a number of i bytes
pub byte_above : (b x i : ℕ) → b < 256 → i < 8 → x < 2 ^ (8 * i) → bit_or ((b * 2 ^ (8 * i)) % 2 ^ 64) x ≡ b * 2 ^ (8 * i) + x
byte_above b x i hb hi hx = ap (λ (y : ℕ). bit_or y x) (shl_exact 8 (8 * i) 64 hb (omega arith)) ∙ or_shifted b (8 * i) x hx
