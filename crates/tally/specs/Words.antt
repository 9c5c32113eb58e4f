-- Numbers as words: what the word of a number stands for.
use Rattle.std.specs.Prelude.{◌≡◌, ℕ, ◌+◌, ◌-◌, ◌^◌, ◌≤◌, Bool, true, false, ℤ, pos, ◌-ℤ◌, from_bits, Float}
use Rattle.std.specs.Float.{binary64}
use Rattle.definitions.specs.Reply.{answer}
use Rattle.definitions.specs.Ieee754.{double_of}
use Rattle.definitions.specs.Channel.{Value, double_in}
use Rattle.definitions.specs.Report.{integer_in}
use Rattle.fields.specs.declared.form.Number.{Number}
use Rattle.fields.specs.declared.form.Number.TheVariants.{Unsigned, Signed, Float as float}

-- 0 as a signed integer of 64 bits, counted from the least one: 2^63
abbrev pub signed_zero : ℕ
signed_zero = 9223372036854775808

-- integers with a sign, or without
abbrev pub integer_kind : Bool → Number
integer_kind true = Signed
integer_kind false = Unsigned

-- of two integers a < b, that both are 2^53 at most away from 0: a double holds such a one
abbrev pub Exact : Bool → ℕ → ℕ → Type 0
Exact true a b = (signed_zero - 2 ^ 53 ≤ a) × (b ≤ signed_zero + 2 ^ 53)
Exact false a b = b ≤ 2 ^ 53

-- the integer of a word; a float has none, and adds nothing to a sum
abbrev pub integer_of : Number → ℕ → ℤ
integer_of Unsigned word = pos word
integer_of Signed word = pos word -ℤ pos signed_zero
integer_of float word = pos 0

-- the pattern of its double
abbrev pub pattern_of : Number → ℕ → ℕ
pattern_of Unsigned word = double_of (pos word)
pattern_of Signed word = double_of (pos word -ℤ pos signed_zero)
pattern_of float word = word

abbrev pub value_at : Number → ℕ → Float
value_at n word = from_bits binary64 (pattern_of n word)

-- a value that the word is
pub record Words (n : Number) (word : ℕ) (v : Value) : Type 0 where
  pub double : double_in (answer v) ≡ pattern_of n word
  pub integer : integer_in v ≡ integer_of n word
