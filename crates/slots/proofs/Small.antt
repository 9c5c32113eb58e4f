-- The word of a number has 64 bits.
use Rattle.std.specs.Prelude.{if◌then◌else◌}
use mathlib.Core.Path.{◌≡◌, refl, sym}
use mathlib.Core.Bool.{Bool, true, false}
use mathlib.Core.List.{List}
use Prim.Native.Nat.{ℕ, ◌+◌, ◌-◌, ◌^◌, ◌≤◌, ◌<◌}
use native.Mathlib.Omega.{arith}
use lib.Dec.{ltb, eqb}
use lib.Pow.{pow_mono}
use lib.Ieee.{binary32, binary64, of_bits}
use lib.Ieee.Fits.{fits_widens}
use lib.Ieee.Bits.{of_bits-fits, to_bits-lt}
use borrow.Author.Tests.{ltb-true, ltb-false}
use Rattle.definitions.specs.Ieee754.{widened}
use Rattle.fields.specs.Form.{order_meant}
use Rattle.fields.specs.Known.{Fitting}
use Rattle.fields.specs.declared.form.Number.{Number}
use Rattle.fields.specs.declared.form.Number.TheVariants.{Unsigned, Signed, Float}
use Rattle.tally.specs.Words.{signed_zero}
use Rattle.slots.specs.Known.{SignBit}
use Rattle.slots.specs.Slots.{word_of, slot_word, Within}
use Rattle.slots.specs.declared.slot.Slot.{Slot}
use Rattle.slots.proofs.Signs.{sign_bit_law}
use Rattle.slots.proofs.Numbers.{slot_fits}

signed_small : (count x s sign : ℕ) → SignBit count sign → s ≡ sign → x < 2 ^ count → (t : Bool) → ltb x s ≡ t
    → (if t then x + signed_zero else x - s + (signed_zero - s)) < 2 ^ 64
signed_small count x s sign h es below true e = omega (arith, ltb-true x s e, h.most)
signed_small count x s sign h es below false e = omega (arith, ltb-false x s e, h.most, h.twice)

widened_small : (b : ℕ) → widened b < 2 ^ 64
widened_small b = to_bits-lt binary64 (of_bits binary32 b) (fits_widens (of_bits binary32 b) (of_bits-fits binary32 b))

float_small : (x : ℕ) → x < 2 ^ 64 → (t : Bool) → (if t then x else widened x) < 2 ^ 64
float_small x h true = h
float_small x h false = widened_small x

field_small : {number : Number} {count x : ℕ} → Fitting number count x → x < 2 ^ 64
field_small {number} {count} {x} h = let m : 2 ^ count ≤ 2 ^ 64 = pow_mono h.few in omega (arith, h.below)

word_small : (number : Number) (count x : ℕ) → Fitting number count x → word_of number count x < 2 ^ 64
word_small Unsigned count x h = field_small h
word_small Signed count x h =
    let b = sign_bit_law count h.some h.few in
    signed_small count x (2 ^ (count - 1)) _ b (sym b.is) h.below (ltb x (2 ^ (count - 1))) refl
word_small Float count x h = float_small x (field_small h) (eqb count 64)

pub slot_word_small : {size : ℕ} {w : Slot} → Within size w → (s : List ℕ) → slot_word w s < 2 ^ 64
slot_word_small {size} {w} h s = word_small w.number w.count _ (slot_fits h (order_meant w.big_endian) s refl)
