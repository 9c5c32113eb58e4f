-- A character that was read is spelt by the bytes it was read from: they are the encoding of its scalar value.
use Rattle.std.specs.Prelude.{if◌then◌else◌}
use mathlib.Core.Path.{◌≡◌, refl, ap, ◌∙◌}
use mathlib.Core.List.{List, [], ◌∷◌}
use mathlib.Core.Bool.{Bool, true, false, ◌&&◌}
use Prim.Native.Nat.{ℕ, zero, suc, ◌+◌, ◌-◌, ◌*◌, ◌/◌, ◌%◌, ◌≤◌, ◌<◌}
use native.Mathlib.Nat.{le_of_suc-le-suc}
use native.Mathlib.Omega.{arith}
use borrow.Author.Tests.{ltb-true, ltb-false, leb-true, le-ltb, lt-ltb}
use lib.Dec.{leb, ltb}
use lib.ListN.{length, get_or, take}
use Rattle.definitions.specs.Bytes.{Order, little, big}
use Rattle.definitions.specs.Unicode.{Encoding, latin1, utf8, utf16, within, is_scalar, utf8_of, utf16_of, unit_of, unit_bytes, encoded, scalar, damage, scalar_if, six_bits, utf8_two, utf8_three, utf8_four, utf8_char, utf16_char, char_of, char_at}
use Rattle.definitions.proofs.Replies.{both}
use Rattle.text.proofs.Tests.{damage_no, scalar_if_law, char_from}
use Rattle.text.proofs.Widths.{utf8_1, utf8_2, utf8_3, utf8_4, width_most, width_low}
use Rattle.text.proofs.Scalars.{low_scalar, high_scalar}

-- the character with the scalar value v and m bytes more is spelt by the first of the four bytes; as UTF-8 it takes at
-- most twice as many
pub record Spelt (e : Encoding) (a b c d v m : ℕ) : Type 0 where
  pub value : is_scalar v ≡ true
  pub few : m < 4
  pub grows : length (utf8_of v) ≤ 2 * suc m
  pub bytes : encoded e v ≡ take (suc m) (a ∷ b ∷ c ∷ d ∷ [])

-- ---- UTF-8

six_by : (p q : Bool) (b : ℕ) → (p ≡ true → 0x80 ≤ b) → ltb (if p && q then b - 0x80 else 64) 64 ≡ true → b ≡ 0x80 + (if p && q then b - 0x80 else 64)
six_by true true b f h = omega (arith, f refl)
six_by true false b f h = cc
six_by false q b f h = cc

six_back : (b : ℕ) → ltb (six_bits b) 64 ≡ true → (six_bits b < 64) × (b ≡ 0x80 + six_bits b)
unfolding six_bits
six_back b h = (ltb-true _ _ h, six_by (leb 0x80 b) (ltb b 0xC0) b (leb-true 0x80 b) h)

module _ (a b c d v m : ℕ) where
  two_spelt : 0xC0 ≤ a → a < 0xE0 → utf8_two a b ≡ scalar v m → Spelt utf8 a b c d v m
  unfolding utf8_two encoded
  two_spelt g l h =
      let f = scalar_if_law _ _ 1 v m h in
      let t = both _ _ f.0 in
      let x = six_back b t.0 in
      let k : 0x80 ≤ (a - 0xC0) * 64 + six_bits b = leb-true _ _ t.1 in
      let lo : 0x80 ≤ v = omega (arith, f.1) in
      let hi : v < 0x800 = omega (arith, f.1, x.0) in
      let p : 0xC0 + v / 64 ≡ a = omega (arith, f.1, x.0) in
      let q : 0x80 + v % 64 ≡ b = omega (arith, f.1, x.0, x.1) in
      record { value = low_scalar v (omega arith); few = omega (arith, f.2); grows = omega (arith, f.2, width_most v); bytes = rw f.2 (utf8_2 v lo hi ∙ cc) }

  three_spelt : 0xE0 ≤ a → a < 0xF0 → utf8_three a b c ≡ scalar v m → Spelt utf8 a b c d v m
  unfolding utf8_three encoded
  three_spelt g l h =
      let n : ℕ = (a - 0xE0) * 4096 + six_bits b * 64 + six_bits c in
      let f = scalar_if_law _ _ 2 v m h in
      let s = both (ltb (six_bits b) 64 && ltb (six_bits c) 64 && leb 0x800 n) (is_scalar n) f.0 in
      let t = both _ _ s.0 in
      let u = both _ _ t.0 in
      let x = six_back b u.0 in
      let y = six_back c u.1 in
      let k : 0x800 ≤ n = leb-true _ _ t.1 in
      let lo : 0x800 ≤ v = omega (arith, f.1) in
      let hi : v < 0x10000 = omega (arith, f.1, x.0, y.0) in
      let p : 0xE0 + v / 4096 ≡ a = omega (arith, f.1, x.0, y.0) in
      let q : 0x80 + v / 64 % 64 ≡ b = omega (arith, f.1, x.0, x.1, y.0) in
      let r : 0x80 + v % 64 ≡ c = omega (arith, f.1, y.0, y.1) in
      record { value = rw f.1 s.1; few = omega (arith, f.2); grows = omega (arith, f.2, width_most v); bytes = rw f.2 (utf8_3 v lo hi ∙ cc) }

  four_spelt : 0xF0 ≤ a → a < 0xF8 → utf8_four a b c d ≡ scalar v m → Spelt utf8 a b c d v m
  unfolding utf8_four encoded
  four_spelt g l h =
      let f = scalar_if_law _ _ 3 v m h in
      let w = both _ _ f.0 in
      let t = both _ _ w.0 in
      let u = both _ _ t.0 in
      let x = six_back b u.0 in
      let y = six_back c u.1 in
      let z = six_back d t.1 in
      let r = both _ _ w.1 in
      let k : 0x10000 ≤ (a - 0xF0) * 262144 + six_bits b * 4096 + six_bits c * 64 + six_bits d = leb-true _ _ r.0 in
      let n : (a - 0xF0) * 262144 + six_bits b * 4096 + six_bits c * 64 + six_bits d < 0x110000 = ltb-true _ _ r.1 in
      let lo : 0x10000 ≤ v = omega (arith, f.1) in
      let hi : v < 0x110000 = omega (arith, f.1) in
      let p : 0xF0 + v / 262144 ≡ a = omega (arith, f.1, x.0, y.0, z.0) in
      let q : 0x80 + v / 4096 % 64 ≡ b = omega (arith, f.1, x.0, x.1, y.0, z.0) in
      let r : 0x80 + v / 64 % 64 ≡ c = omega (arith, f.1, y.0, y.1, z.0) in
      let o : 0x80 + v % 64 ≡ d = omega (arith, f.1, z.0, z.1) in
      record { value = high_scalar v (omega arith) hi; few = omega (arith, f.2); grows = omega (arith, f.2, width_most v); bytes = rw f.2 (utf8_4 v lo ∙ cc) }

  one_spelt : a < 0x80 → scalar a 0 ≡ scalar v m → Spelt utf8 a b c d v m
  unfolding encoded
  one_spelt l h =
      let p : v ≡ a = cc in
      let q : m ≡ 0 = cc in
      record { value = rw p (low_scalar a (omega arith)); few = omega arith; grows = omega (arith, width_low v (omega arith)); bytes = rw (q, p) (utf8_1 a l) }

  -- the tests of the first byte, one after the other
  utf8_by : (p q r s t : Bool) → ltb a 0x80 ≡ p → ltb a 0xC0 ≡ q → ltb a 0xE0 ≡ r → ltb a 0xF0 ≡ s → ltb a 0xF8 ≡ t
      → (if p then scalar a 0 else if q then damage else if r then utf8_two a b else if s then utf8_three a b c else if t then utf8_four a b c d else damage) ≡ scalar v m
      → Spelt utf8 a b c d v m
  utf8_by true q r s t hp hq hr hs ht h = one_spelt (ltb-true _ _ hp) h
  utf8_by false true r s t hp hq hr hs ht h = absurd (damage_no v m h)
  utf8_by false false true s t hp hq hr hs ht h = two_spelt (ltb-false _ _ hq) (ltb-true _ _ hr) h
  utf8_by false false false true t hp hq hr hs ht h = three_spelt (ltb-false _ _ hr) (ltb-true _ _ hs) h
  utf8_by false false false false true hp hq hr hs ht h = four_spelt (ltb-false _ _ hs) (ltb-true _ _ ht) h
  utf8_by false false false false false hp hq hr hs ht h = absurd (damage_no v m h)

-- ---- UTF-16

pub unit_bytes_law : (o : Order) (a b : ℕ) (us : List ℕ) → a < 256 → b < 256 → unit_bytes o (unit_of o a b ∷ us) ≡ a ∷ b ∷ unit_bytes o us
unfolding unit_bytes
unit_bytes_law little a b us p q =
    let x : (a + b * 256) % 256 ≡ a = omega arith in
    let y : (a + b * 256) / 256 ≡ b = omega arith in
    cc
unit_bytes_law big a b us p q =
    let x : (a * 256 + b) / 256 ≡ a = omega arith in
    let y : (a * 256 + b) % 256 ≡ b = omega arith in
    cc

unit_below : (o : Order) (a b : ℕ) → a < 256 → b < 256 → unit_of o a b < 0x10000
unit_below little a b p q = omega arith
unit_below big a b p q = omega arith

pub utf16_1 : (c : ℕ) → c < 0x10000 → utf16_of c ≡ c ∷ []
unfolding utf16_of
utf16_1 c h = simp (lt-ltb c 0x10000 h)

pub utf16_2 : (c : ℕ) → 0x10000 ≤ c → utf16_of c ≡ (0xD800 + (c - 0x10000) / 1024) ∷ (0xDC00 + (c - 0x10000) % 1024) ∷ []
unfolding utf16_of
utf16_2 c h = simp (le-ltb c 0x10000 h)

module _ (o : Order) (a b c d v m : ℕ) (la : a < 256) (lb : b < 256) (lc : c < 256) (ld : d < 256) where
  unit_spelt : is_scalar (unit_of o a b) ≡ true → scalar (unit_of o a b) 1 ≡ scalar v m → Spelt (utf16 o) a b c d v m
  unfolding encoded unit_bytes
  unit_spelt i h =
      let p : v ≡ unit_of o a b = cc in
      let q : m ≡ 1 = cc in
      record {
        value = rw p i;
        few = omega arith;
        grows = omega (arith, width_most v);
        bytes = rw (q, p) (ap (unit_bytes o) (utf16_1 (unit_of o a b) (unit_below o a b la lb)) ∙ unit_bytes_law o a b [] la lb);
      }

  pair_spelt : (u w : ℕ) → u ≡ unit_of o a b → w ≡ unit_of o c d → 0xD800 ≤ u → u < 0xDC00
      → scalar_if (within 0xDC00 0xE000 w) (0x10000 + (u - 0xD800) * 1024 + (w - 0xDC00)) 3 ≡ scalar v m → Spelt (utf16 o) a b c d v m
  unfolding encoded unit_bytes
  pair_spelt u w eu ew lo hi h =
      let f = scalar_if_law _ _ 3 v m h in
      let t = both _ _ f.0 in
      let g : 0xDC00 ≤ w = leb-true _ _ t.0 in
      let k : w < 0xE000 = ltb-true _ _ t.1 in
      let x : 0x10000 ≤ v = omega (arith, f.1) in
      let y : v < 0x110000 = omega (arith, f.1) in
      let p : 0xD800 + (v - 0x10000) / 1024 ≡ u = omega (arith, f.1) in
      let q : 0xDC00 + (v - 0x10000) % 1024 ≡ w = omega (arith, f.1) in
      let us : utf16_of v ≡ unit_of o a b ∷ unit_of o c d ∷ [] = utf16_2 v x ∙ cc in
      record {
        value = high_scalar v (omega arith) y;
        few = omega (arith, f.2);
        grows = omega (arith, f.2, width_most v);
        bytes = rw f.2 (ap (unit_bytes o) us ∙ unit_bytes_law o a b (unit_of o c d ∷ []) la lb ∙ ap (λ (l : List ℕ). a ∷ b ∷ l) (unit_bytes_law o c d [] lc ld));
      }

  utf16_by : (p q r : Bool) → ltb (unit_of o a b) 0xD800 ≡ p → ltb (unit_of o a b) 0xDC00 ≡ q → ltb (unit_of o a b) 0xE000 ≡ r
      → (if p then scalar (unit_of o a b) 1 else if q then scalar_if (within 0xDC00 0xE000 (unit_of o c d)) (0x10000 + (unit_of o a b - 0xD800) * 1024 + (unit_of o c d - 0xDC00)) 3
      else if r then damage else scalar (unit_of o a b) 1) ≡ scalar v m
      → Spelt (utf16 o) a b c d v m
  utf16_by true q r hp hq hr h = unit_spelt (low_scalar _ (ltb-true _ _ hp)) h
  utf16_by false true r hp hq hr h = pair_spelt _ _ refl refl (ltb-false _ _ hp) (ltb-true _ _ hq) h
  utf16_by false false true hp hq hr h = absurd (damage_no v m h)
  utf16_by false false false hp hq hr h =
      unit_spelt (high_scalar _ (ltb-false _ _ hr) (omega (arith, unit_below o a b la lb))) h

-- ---- every encoding

-- a byte is below 256; UTF-8 needs no word of it, since it tests every byte
abbrev pub Byte : Encoding → ℕ → Type 0
Byte latin1 b = b < 256
Byte utf8 b = Unit {0}
Byte (utf16 o) b = b < 256

pub byte : (e : Encoding) (b : ℕ) → b < 256 → Byte e b
byte latin1 b h = h
byte utf8 b h = tt
byte (utf16 o) b h = h

pub char_spelt : (e : Encoding) (a b c d v m : ℕ) → Byte e a → Byte e b → Byte e c → Byte e d → char_of e a b c d ≡ scalar v m → Spelt e a b c d v m
unfolding char_of utf8_char utf16_char encoded
char_spelt latin1 a b c d v m ha hb hc hd h =
    let p : v ≡ a = cc in
    let q : m ≡ 0 = cc in
    record { value = rw p (low_scalar a (omega arith)); few = omega arith; grows = omega (arith, width_low v (omega arith)); bytes = rw (q, p) }
char_spelt utf8 a b c d v m ha hb hc hd h = utf8_by a b c d v m _ _ _ _ _ refl refl refl refl refl h
char_spelt (utf16 o) a b c d v m ha hb hc hd h = utf16_by o a b c d v m ha hb hc hd _ _ _ refl refl refl h

-- ---- in a text

-- n bytes from place k on, where a byte past the end reads 0
abbrev from : ℕ → ℕ → List ℕ → List ℕ
from k zero l = []
from k (suc n) l = get_or l k 0 ∷ from (suc k) n l

from_tail : (n k x : ℕ) (l : List ℕ) → from (suc k) n (x ∷ l) ≡ from k n l
from_tail zero k x l = refl
from_tail (suc n) k x l = ap (λ (t : List ℕ). get_or l k 0 ∷ t) (from_tail n (suc k) x l)

take_from : (m n : ℕ) (l : List ℕ) → m < n → m < length l → take (suc m) (from 0 n l) ≡ take (suc m) l
take_from m n [] p q = absurd (omega arith)
take_from m zero (x ∷ l) p q = absurd (omega arith)
take_from zero (suc n) (x ∷ l) p q = refl
take_from (suc m) (suc n) (x ∷ l) p q =
    ap (λ (t : List ℕ). x ∷ take (suc m) t) (from_tail n 0 x l)
    ∙ ap (λ (t : List ℕ). x ∷ t) (take_from m n l (le_of_suc-le-suc p) (le_of_suc-le-suc q))

pub text_spelt : (e : Encoding) (l : List ℕ) (v m : ℕ) → ((i : ℕ) → Byte e (get_or l i 0)) → char_at e l ≡ scalar v m
    → (is_scalar v ≡ true) × (m < length l) × (encoded e v ≡ take (suc m) l)
text_spelt e l v m known h =
    let f = char_from e l v m h in
    let s = char_spelt e (get_or l 0 0) (get_or l 1 0) (get_or l 2 0) (get_or l 3 0) v m (known 0) (known 1) (known 2) (known 3) f.0 in
    (s.value, f.1, s.bytes ∙ take_from m 4 l s.few f.1)
