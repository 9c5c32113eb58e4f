-- What the parts of a slot are known to be.
use Rattle.std.specs.Prelude.{◌≡◌, List, ℕ, ◌+◌, ◌-◌, ◌*◌, ◌^◌, ◌≤◌, ◌<◌, get_or, eqb}
use Rattle.definitions.specs.Bytes.{bit}
use Rattle.definitions.specs.Channel.{Channel, Group, record_length, valid_of}
use Rattle.tally.specs.Words.{signed_zero}

-- a record has a byte, the values are not all invalid, and a bit that tells is inside
pub record FlagAsked (g : Group) (c : Channel) : Type 0 where
  pub some : 1 ≤ record_length g
  pub fits : record_length g < 2 ^ 64
  pub clear : bit c.flags 0 ≡ 1 → ⊥
  pub inside : (bit c.flags 1 ≡ 0 → ⊥) → c.invalidation_bit < 8 * g.invalidation_bytes

-- the bit of the byte at `at` is clear in a record whose value is valid
pub record FlagOf (g : Group) (c : Channel) (at place : ℕ) : Type 0 where
  pub inside : at < record_length g
  pub low : place ≤ 8
  pub tells : (s : List ℕ) → ((i : ℕ) → get_or s i 0 < 256) → valid_of s g c ≡ eqb (bit (get_or s at 0) place) 0

-- the value of the highest of count bits
pub record SignBit (count sign : ℕ) : Type 0 where
  pub is : sign ≡ 2 ^ (count - 1)
  pub most : sign ≤ signed_zero
  pub twice : sign + sign ≡ 2 ^ count
