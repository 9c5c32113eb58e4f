-- The bits of one record byte that belong to a field.
use mathlib.Core.Path.{◌≡◌, sym, ap, subst, ◌∙◌}
use Prim.Native.Nat.{ℕ, ◌+◌, ◌-◌, ◌*◌, ◌/◌, ◌%◌, ◌≤◌, ◌<◌, min}
use native.Mathlib.Omega.{arith}
use Rattle.definitions.specs.Bytes.{Order, little, big, bytes_for, byte_with}
use Rattle.definitions.specs.DataType.{order_of}
use Rattle.definitions.specs.Channel.{Channel, bit_place}
use Rattle.definitions.proofs.Shared.{Within}
use Rattle.overlaps.specs.Meaning.{InSpan, Covers, bits_of_byte}
use Rattle.overlaps.specs.declared.run.Run.{Run}

-- a bit k of byte m of the number is one of the run, and each of the run is a bit of that byte
in_run : (low count k m : ℕ) → k / 8 ≡ m → low ≤ k → k < low + count → (low - 8 * m ≤ k % 8) × (k % 8 < min (low + count - 8 * m) 8)
in_run low count k m e a b = (omega arith, omega arith)

of_run : (low count m t : ℕ) → low - 8 * m ≤ t → t < min (low + count - 8 * m) 8
    → (low ≤ 8 * m + t) × (8 * m + t < low + count) × ((8 * m + t) / 8 ≡ m) × ((8 * m + t) % 8 ≡ t)
of_run low count m t a b = (omega arith, omega arith, omega arith, omega arith)

-- which byte of the number stands in the record byte: byte i of a little-endian one, n - 1 - i of a big-endian one. p is the
-- place of bit k
little_byte : (start byte k p : ℕ) → p ≡ (start + k / 8) * 8 + k % 8 → start ≤ byte → p / 8 ≡ byte → k / 8 ≡ byte - start
little_byte start byte k p e f g = omega arith

big_byte : (start byte n q r p : ℕ) → r < 8 → p ≡ (start + (n - 1 - q)) * 8 + r → q < n → start ≤ byte → p / 8 ≡ byte → q ≡ n - 1 - (byte - start)
big_byte start byte n q r p l e h f g = omega arith

-- and where its bit t is then
little_place : (start byte q r t : ℕ) → start ≤ byte → q ≡ byte - start → r ≡ t → (start + q) * 8 + r ≡ byte * 8 + t
little_place start byte q r t f e h = omega arith

big_place : (start byte n q r t : ℕ) → start ≤ byte → byte - start < n → q ≡ n - 1 - (byte - start) → r ≡ t → (start + (n - 1 - q)) * 8 + r ≡ byte * 8 + t
big_place start byte n q r t f l e h = omega arith

below : (low count k : ℕ) → k < low + count → k / 8 < bytes_for low count
below low count k h = omega arith

low_bit : (k : ℕ) → k % 8 < 8
low_bit k = omega arith

module _ (c : Channel) (byte : ℕ) where
  abbrev start : ℕ
  start = c.byte_offset

  abbrev low : ℕ
  low = c.bit_offset

  abbrev count : ℕ
  count = c.bit_count

  pub little_run : {r : Run} → order_of c.data_type ≡ little → InSpan c byte → r ≡ bits_of_byte low (low + count) (byte - start) → Covers c byte r
  little_run order (f, _) er = subst (Covers c byte) (sym er) (record { there = there; all = all })
    where
      at : (k : ℕ) → bit_place c k ≡ (start + k / 8) * 8 + k % 8
      at k = ap (λ (o : Order). (start + byte_with o (bytes_for low count) k) * 8 + k % 8) order

      there : (t : ℕ) → low - 8 * (byte - start) ≤ t → t < min (low + count - 8 * (byte - start)) 8 → (k : ℕ) × (Within c k × (bit_place c k ≡ byte * 8 + t))
      there t a b =
          let w = of_run low count (byte - start) t a b in
          let k : ℕ = 8 * (byte - start) + t in
          (k, ((w.0, w.1), at k ∙ little_place start byte (k / 8) (k % 8) t f w.2 w.3))

      all : (k : ℕ) → Within c k → bit_place c k / 8 ≡ byte → (low - 8 * (byte - start) ≤ k % 8) × (k % 8 < min (low + count - 8 * (byte - start)) 8)
      all k w p = in_run low count k (byte - start) (little_byte start byte k (bit_place c k) (at k) f p) w.0 w.1

  pub big_run : {n : ℕ} {r : Run} → order_of c.data_type ≡ big → InSpan c byte → n ≡ bytes_for low count
      → r ≡ bits_of_byte low (low + count) (n - 1 - (byte - start)) → Covers c byte r
  big_run {n} order (f, g) en er = subst (Covers c byte) (sym er) (record { there = there; all = all })
    where
      inside : (m : ℕ) → m ≡ bytes_for low count → byte - start < m
      inside m em = omega arith

      at : (k : ℕ) → bit_place c k ≡ (start + (n - 1 - k / 8)) * 8 + k % 8
      at k =
          ap (λ (o : Order). (start + byte_with o (bytes_for low count) k) * 8 + k % 8) order
          ∙ ap (λ (x : ℕ). (start + (x - 1 - k / 8)) * 8 + k % 8) (sym en)

      there : (t : ℕ) → low - 8 * (n - 1 - (byte - start)) ≤ t → t < min (low + count - 8 * (n - 1 - (byte - start))) 8 → (k : ℕ) × (Within c k × (bit_place c k ≡ byte * 8 + t))
      there t a b =
          let w = of_run low count (n - 1 - (byte - start)) t a b in
          let k : ℕ = 8 * (n - 1 - (byte - start)) + t in
          (k, ((w.0, w.1), at k ∙ big_place start byte n (k / 8) (k % 8) t f (inside n en) w.2 w.3))

      all : (k : ℕ) → Within c k → bit_place c k / 8 ≡ byte → (low - 8 * (n - 1 - (byte - start)) ≤ k % 8) × (k % 8 < min (low + count - 8 * (n - 1 - (byte - start))) 8)
      all k w p =
          in_run low count k (n - 1 - (byte - start))
          (big_byte start byte n (k / 8) (k % 8) (bit_place c k) (low_bit k) (at k) (subst (λ (x : ℕ). k / 8 < x) (sym en) (below low count k w.1)) f p)
          w.0 w.1
