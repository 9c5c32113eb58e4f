-- Validity reads at most one bit of the slice, and that only where the flags say so.
use Rattle.std.specs.Prelude.{if◌then◌else◌}
use mathlib.Core.Path.{◌≡◌, refl, ap, ap₂}
use mathlib.Core.Bool.{Bool, true, false}
use mathlib.Core.List.{List}
use Prim.Native.Nat.{ℕ, ◌+◌, ◌*◌, ◌/◌, ◌%◌, ◌^◌, ◌≤◌, ◌<◌}
use native.Mathlib.Nat.{mod-lt}
use native.Mathlib.Omega.{arith}
use lib.ListN.{length, get_or}
use lib.Dec.{eqb}
use borrow.Author.Tests.{eqb-false}
use Rattle.definitions.specs.Reply.{Reply, answer, and_then}
use Rattle.definitions.specs.Bytes.{bit}
use Rattle.definitions.specs.Channel.{Channel, Group, valid_of, record_length, has_invalidation_bit, area_of, bounded_valid_of}

-- the byte of the record with the invalidation bit, and that bit, which reads 0 beyond the slice
abbrev pub invalidation_byte : Group → Channel → ℕ
invalidation_byte g c = g.id_size + g.data_bytes + c.invalidation_bit / 8

abbrev pub invalidation_bit_in : List ℕ → Group → Channel → ℕ
invalidation_bit_in s g c = bit (get_or s (invalidation_byte g c) 0) (c.invalidation_bit % 8)

-- a bit that is not 1 is 0, and one that is not 0 is 1
bit_low : (n i : ℕ) → bit n i < 2
bit_low n i = mod-lt (n / 2 ^ i) (omega arith)

flags_tell : (c : Channel) → eqb (bit c.flags 0) 1 ≡ false → eqb (bit c.flags 1) 0 ≡ false → has_invalidation_bit c ≡ true
flags_tell c ea eb =
    let na = eqb-false (bit c.flags 0) 1 ea in
    let nb = eqb-false (bit c.flags 1) 0 eb in
    let a : bit c.flags 0 ≡ 0 = omega (arith, bit_low c.flags 0, na) in
    let b : bit c.flags 1 ≡ 1 = omega (arith, bit_low c.flags 1, nb) in
    rw (a, b)

pub one_bit : (s t : List ℕ) (g : Group) (c : Channel) → (has_invalidation_bit c ≡ true → invalidation_bit_in s g c ≡ invalidation_bit_in t g c)
    → valid_of s g c ≡ valid_of t g c
unfolding valid_of
one_bit s t g c e = go (eqb (bit c.flags 0) 1) (eqb (bit c.flags 1) 0) refl refl
  where
    go : (all none : Bool) → eqb (bit c.flags 0) 1 ≡ all → eqb (bit c.flags 1) 0 ≡ none
        → (if all then false else if none then true else eqb (invalidation_bit_in s g c) 0)
        ≡ (if all then false else if none then true else eqb (invalidation_bit_in t g c) 0)
    go true none ea en = refl
    go false true ea en = refl
    go false false ea en = ap (λ (b : ℕ). eqb b 0) (e (flags_tell c ea en))

-- where the invalidation bytes have an end, the length and that validity decide
pub bounded_alike : (s t : List ℕ) (g : Group) (c : Channel) → length s ≡ length t → valid_of s g c ≡ valid_of t g c → bounded_valid_of s g c ≡ bounded_valid_of t g c
unfolding bounded_valid_of
bounded_alike s t g c long same =
    ap₂ (λ (r : Reply (Unit {0})) (b : Bool). and_then r (λ u. answer b)) (ap (λ (n : ℕ). area_of n g c) long) same

-- a bit below the end stands in a byte of the area, behind the id and the data and before the record's end
pub bit_in_area : (g : Group) (c : Channel) → c.invalidation_bit < 8 * g.invalidation_bytes
    → (g.id_size + g.data_bytes ≤ invalidation_byte g c) × (invalidation_byte g c < record_length g)
bit_in_area g c h = (omega arith, omega (arith, h))
