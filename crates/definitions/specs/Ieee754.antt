-- IEEE 754: patterns of doubles, over the values and the rounding of `lib.Ieee`.
use Rattle.std.specs.Prelude.{◌≡◌, ◌⊎◌, Bool, ℕ, ◌+◌, ◌-◌, ◌*◌, ◌%◌, ◌^◌, ◌≤◌, ℤ, eqb, if◌then◌else◌}
use Rattle.std.specs.Bool.{beq}
use Rattle.std.specs.Float.{binary32, binary64}
use Rattle.std.specs.Float.Ieee.{round, of_int, of_bits, to_bits}
use Rattle.std.specs.Float.Ieee.Exact.{HasValue}

-- the one NaN that stands for no value
abbrev pub nan_pattern : ℕ
nan_pattern = 0x7FF8000000000000

-- the pattern of the double nearest to an integer, of two the one with the even significand
abbrev pub double_of : ℤ → ℕ
double_of z = to_bits binary64 (of_int binary64 z)

-- the same for an integer given by its sign and its magnitude; a negative 0 gives -0
abbrev pub double_of_sign : Bool → ℕ → ℕ
double_of_sign negative n = to_bits binary64 (round binary64 negative n 1)

-- the pattern of the double with the value of a 32-bit pattern; any NaN becomes the one above
abbrev pub widened : ℕ → ℕ
widened b = to_bits binary64 (of_bits binary32 b)

-- back: the 32-bit pattern that has a double's value, where there is one; of the NaN above 0x7FC00000
abbrev pub narrowed : ℕ → ℕ
narrowed b = to_bits binary32 (of_bits binary64 b)

-- whether there is one: widening returns the same bits
abbrev pub narrows : ℕ → Bool
narrows b = eqb (widened (narrowed b)) b

-- Nearest, said over whole numbers. Every finite double is a whole number of 2^-1074, the smallest one above 0:
-- `HasValue x s a unit` says that the double x is +a of them, or -a where the sign s is true.
abbrev pub unit : ℕ
unit = 2 ^ 1074

-- how far apart two numbers are, each given by sign and magnitude
abbrev pub signed_distance : Bool → ℕ → Bool → ℕ → ℕ
signed_distance s a t b = if beq s t then a - b + (b - a) else a + b

-- r is the pattern of a double that is nearest to the integer of sign s and magnitude n: no double is nearer, and where
-- another is as near, the last digit of r is 0
pub record Nearest (s : Bool) (n r : ℕ) : Type 0 where
  pub size : ℕ
  pub value : HasValue (of_bits binary64 r) s size unit
  pub nearest : (b : ℕ) (t : Bool) (a : ℕ) → HasValue (of_bits binary64 b) t a unit → signed_distance s (n * unit) s size ≤ signed_distance s (n * unit) t a
  pub even : (b : ℕ) (t : Bool) (a : ℕ) → HasValue (of_bits binary64 b) t a unit → signed_distance s (n * unit) s size ≡ signed_distance s (n * unit) t a
      → (a ≡ size) ⊎ (r % 2 ≡ 0)
