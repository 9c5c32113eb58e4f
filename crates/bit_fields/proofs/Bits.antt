-- The bits of a number, and its fields.
use mathlib.Core.Path.{◌≡◌, sym, ap, ap₂, ◌∙◌}
use Prim.Native.Nat.{ℕ, zero, suc, ◌+◌, ◌-◌, ◌*◌, ◌/◌, ◌%◌, ◌^◌, ◌≤◌, ◌<◌}
use native.Mathlib.Nat.{mod-one, mod-lt, mul-add-mod_self_right}
use native.Mathlib.Numerals.{one-add}
use native.Mathlib.Omega.{arith}
use lib.Pow.{pow_pos, mod-pow-add, shr-shr, field, mod-mod-pow}
use Rattle.definitions.specs.Bytes.{bits, bit}

-- a field of count bits is below 2 ^ count
pub field_below : (x offset count : ℕ) → bits x offset count < 2 ^ count
field_below x offset count = mod-lt (x / 2 ^ offset) (pow_pos count)

-- a field that ends at bit m or below, by way of the number's m low bits
through : (x offset count m : ℕ) → offset + count ≤ m → bits x offset count ≡ x % 2 ^ m % 2 ^ (count + offset) / 2 ^ offset
through x offset count m h =
    let e : m ≡ m - (count + offset) + (count + offset) = omega arith in
    sym
    (ap (λ (k : ℕ). x % 2 ^ k % 2 ^ (count + offset) / 2 ^ offset) e
    ∙ ap (λ (z : ℕ). z / 2 ^ offset) (mod-mod-pow x (m - (count + offset)) (count + offset)) ∙ field x count offset)

-- a field is the same of two numbers that agree below its end
pub agree : (x y offset count m : ℕ) → offset + count ≤ m → x % 2 ^ m ≡ y % 2 ^ m → bits x offset count ≡ bits y offset count
agree x y offset count m h e =
    through x offset count m h ∙ ap (λ (z : ℕ). z % 2 ^ (count + offset) / 2 ^ offset) e ∙ sym (through y offset count m h)

-- so what stands above its end does not matter
pub above : (hi lo offset count m : ℕ) → offset + count ≤ m → bits (hi * 2 ^ m + lo) offset count ≡ bits lo offset count
above hi lo offset count m h = agree (hi * 2 ^ m + lo) lo offset count m h (mul-add-mod_self_right hi (2 ^ m) lo)

-- a field of one bit more: the bit above, and the field
field_suc : (x offset count : ℕ) → bits x offset (suc count) ≡ bit x (offset + count) * 2 ^ count + bits x offset count
field_suc x offset count =
    ap (λ (j : ℕ). x / 2 ^ offset % 2 ^ j) (sym (one-add count)) ∙ mod-pow-add (x / 2 ^ offset) 1 count
    ∙ ap (λ (z : ℕ). z % 2 * 2 ^ count + x / 2 ^ offset % 2 ^ count) (shr-shr x offset count)

-- a field is determined by its bits
pub by_bits : (x y offset count : ℕ) → ((k : ℕ) → offset ≤ k → k < offset + count → bit x k ≡ bit y k) → bits x offset count ≡ bits y offset count
by_bits x y offset zero h = mod-one (x / 2 ^ offset) ∙ sym (mod-one (y / 2 ^ offset))
by_bits x y offset (suc count) h =
    field_suc x offset count
    ∙ ap₂ (λ (b f : ℕ). b * 2 ^ count + f) (h (offset + count) (omega arith) (omega arith)) (by_bits x y offset count (λ k lo hi. h k lo (omega arith)))
    ∙ sym (field_suc y offset count)
