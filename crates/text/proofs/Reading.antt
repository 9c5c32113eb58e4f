-- The encoding of a scalar value is read back as it, whatever follows.
use mathlib.Core.Path.{◌≡◌, refl, ap, ◌∙◌}
use mathlib.Core.List.{List, [], ◌∷◌, ◌++◌}
use mathlib.Core.Bool.{Bool, true, false}
use Prim.Native.Nat.{ℕ, suc, ◌+◌, ◌-◌, ◌*◌, ◌/◌, ◌%◌, ◌≤◌, ◌<◌}
use native.Mathlib.Omega.{arith}
use borrow.Author.Tests.{ltb-true, ltb-false, le-ltb, lt-ltb, le-leb}
use lib.Dec.{ltb}
use lib.ListN.{length, get_or, length-append}
use lib.Seq.{drop-append_seam}
use Rattle.definitions.specs.Bytes.{Order, little, big}
use Rattle.definitions.specs.Unicode.{Encoding, latin1, utf8, utf16, is_scalar, unit_of, unit_bytes, encoded, Char as Character, scalar, six_bits, utf8_two, utf8_three, utf8_four, utf8_char, utf16_char, char_of, char_at, chars}
use Rattle.text.proofs.Walk.{chars_skip}
use Rattle.text.proofs.Widths.{utf8_1, utf8_2, utf8_3, utf8_4, of_width}
use Rattle.text.proofs.Scalars.{scalar_range, scalar_below}
use Rattle.text.proofs.Spelling.{utf16_1, utf16_2}

-- ---- from the bytes of a character to the character of a text

-- the bytes a t are read as c, whatever follows
abbrev Reads : Encoding → ℕ → ℕ → List ℕ → Type 0
Reads e c a t = (s : List ℕ) → char_of e a (get_or (t ++ s) 0 0) (get_or (t ++ s) 1 0) (get_or (t ++ s) 2 0) ≡ scalar c (length t)

at_head : (e : Encoding) (c a : ℕ) (t s : List ℕ) → Reads e c a t → char_at e (a ∷ (t ++ s)) ≡ scalar c (length t)
unfolding char_at
at_head e c a t s h =
    let k : length t < suc (length (t ++ s)) = omega (arith, length-append t s) in
    rw (h s) (simp (lt-ltb _ _ k))

pub read_head : (e : Encoding) (c a : ℕ) (t s : List ℕ) → Reads e c a t → chars e 0 (a ∷ (t ++ s)) ≡ scalar c (length t) ∷ chars e 0 s
unfolding chars
read_head e c a t s h =
    rw (at_head e c a t s h)
    (ap (λ (l : List Character). scalar c (length t) ∷ l) (chars_skip e (length t) (t ++ s) ∙ ap (chars e 0) (drop-append_seam t s)))

-- ---- Latin-1

latin1_reads : (c : ℕ) → Reads latin1 c c []
unfolding char_of
latin1_reads c s = refl

-- ---- UTF-8

six_of : (x : ℕ) → x < 64 → six_bits (0x80 + x) ≡ x
unfolding six_bits
six_of x h =
    let lo : 0x80 ≤ 0x80 + x = omega arith in
    let hi : 0x80 + x < 0xC0 = omega arith in
    let e : 0x80 + x - 0x80 ≡ x = omega arith in
    simp (le-leb _ _ lo, lt-ltb _ _ hi, e)

one_reads : (c : ℕ) → c < 0x80 → Reads utf8 c c []
unfolding char_of utf8_char
one_reads c h s = simp (lt-ltb c 0x80 h)

two_reads : (c : ℕ) → 0x80 ≤ c → c < 0x800 → Reads utf8 c (0xC0 + c / 64) ((0x80 + c % 64) ∷ [])
unfolding char_of utf8_char utf8_two
two_reads c g h s =
    let a1 : 0x80 ≤ 0xC0 + c / 64 = omega arith in
    let a2 : 0xC0 ≤ 0xC0 + c / 64 = omega arith in
    let a3 : 0xC0 + c / 64 < 0xE0 = omega arith in
    let x : c % 64 < 64 = omega arith in
    let e : (0xC0 + c / 64 - 0xC0) * 64 + c % 64 ≡ c = omega arith in
    simp (le-ltb _ _ a1, le-ltb _ _ a2, lt-ltb _ _ a3, six_of _ x, lt-ltb _ _ x, e, le-leb _ _ g)

three_reads : (c : ℕ) → 0x800 ≤ c → c < 0x10000 → is_scalar c ≡ true → Reads utf8 c (0xE0 + c / 4096) ((0x80 + c / 64 % 64) ∷ (0x80 + c % 64) ∷ [])
unfolding char_of utf8_char utf8_three
three_reads c g h k s =
    let a1 : 0x80 ≤ 0xE0 + c / 4096 = omega arith in
    let a2 : 0xC0 ≤ 0xE0 + c / 4096 = omega arith in
    let a3 : 0xE0 ≤ 0xE0 + c / 4096 = omega arith in
    let a4 : 0xE0 + c / 4096 < 0xF0 = omega arith in
    let x : c / 64 % 64 < 64 = omega arith in
    let y : c % 64 < 64 = omega arith in
    let e : (0xE0 + c / 4096 - 0xE0) * 4096 + c / 64 % 64 * 64 + c % 64 ≡ c = omega arith in
    simp (le-ltb _ _ a1, le-ltb _ _ a2, le-ltb _ _ a3, lt-ltb _ _ a4, six_of _ x, six_of _ y, lt-ltb _ _ x, lt-ltb _ _ y, e, le-leb _ _ g, k)

four_reads : (c : ℕ) → 0x10000 ≤ c → c < 0x110000
    → Reads utf8 c (0xF0 + c / 262144) ((0x80 + c / 4096 % 64) ∷ (0x80 + c / 64 % 64) ∷ (0x80 + c % 64) ∷ [])
unfolding char_of utf8_char utf8_four
four_reads c g h s =
    let a1 : 0x80 ≤ 0xF0 + c / 262144 = omega arith in
    let a2 : 0xC0 ≤ 0xF0 + c / 262144 = omega arith in
    let a3 : 0xE0 ≤ 0xF0 + c / 262144 = omega arith in
    let a4 : 0xF0 ≤ 0xF0 + c / 262144 = omega arith in
    let a5 : 0xF0 + c / 262144 < 0xF8 = omega arith in
    let w : c / 4096 % 64 < 64 = omega arith in
    let x : c / 64 % 64 < 64 = omega arith in
    let y : c % 64 < 64 = omega arith in
    let e : (0xF0 + c / 262144 - 0xF0) * 262144 + c / 4096 % 64 * 4096 + c / 64 % 64 * 64 + c % 64 ≡ c = omega arith in
    simp (le-ltb _ _ a1, le-ltb _ _ a2, le-ltb _ _ a3, le-ltb _ _ a4, lt-ltb _ _ a5, six_of _ w, six_of _ x, six_of _ y, lt-ltb _ _ w, lt-ltb _ _ x, lt-ltb _ _ y, e, le-leb _ _ g, lt-ltb _ _ h)

-- ---- UTF-16

-- the two bytes of a unit, in either order
pub record Halves (o : Order) (u : ℕ) : Type 0 where
  pub first : ℕ
  pub second : ℕ
  pub unit : unit_of o first second ≡ u
  pub some : 0 < u → 0 < first + second
  pub bytes : (us : List ℕ) → unit_bytes o (u ∷ us) ≡ first ∷ second ∷ unit_bytes o us

pub halves : (o : Order) (u : ℕ) → Halves o u
unfolding unit_bytes
halves little u = record { first = u % 256; second = u / 256; unit = omega arith; some = λ h. omega arith; bytes = λ us. refl }
halves big u = record { first = u / 256; second = u % 256; unit = omega arith; some = λ h. omega arith; bytes = λ us. refl }

unit_char : (c w : ℕ) (p : Bool) → ltb c 0xD800 ≡ p → is_scalar c ≡ true → utf16_char c w ≡ scalar c 1
unfolding utf16_char
unit_char c w true hp i = simp hp
unit_char c w false hp i =
    let k : 0xE000 ≤ c = (scalar_range c i).1 (ltb-false _ _ hp) in
    let l : 0xDC00 ≤ c = omega arith in
    simp (hp, le-ltb _ _ l, le-ltb _ _ k)

pair_char : (c : ℕ) → 0x10000 ≤ c → c < 0x110000 → utf16_char (0xD800 + (c - 0x10000) / 1024) (0xDC00 + (c - 0x10000) % 1024) ≡ scalar c 3
unfolding utf16_char
pair_char c g h =
    let a1 : 0xD800 ≤ 0xD800 + (c - 0x10000) / 1024 = omega arith in
    let a2 : 0xD800 + (c - 0x10000) / 1024 < 0xDC00 = omega arith in
    let b1 : 0xDC00 ≤ 0xDC00 + (c - 0x10000) % 1024 = omega arith in
    let b2 : 0xDC00 + (c - 0x10000) % 1024 < 0xE000 = omega arith in
    let e : 0x10000 + (0xD800 + (c - 0x10000) / 1024 - 0xD800) * 1024 + (0xDC00 + (c - 0x10000) % 1024 - 0xDC00) ≡ c = omega arith in
    simp (le-ltb _ _ a1, lt-ltb _ _ a2, le-leb _ _ b1, lt-ltb _ _ b2, e)

unit_reads : (o : Order) (c : ℕ) (h : Halves o c) → is_scalar c ≡ true → Reads (utf16 o) c h.first (h.second ∷ [])
unfolding char_of
unit_reads o c h i s = rw h.unit (unit_char c _ _ refl i)

pair_reads : (o : Order) (c u w : ℕ) (h : Halves o u) (k : Halves o w) → utf16_char u w ≡ scalar c 3
    → Reads (utf16 o) c h.first (h.second ∷ k.first ∷ k.second ∷ [])
unfolding char_of
pair_reads o c u w h k e s = rw (h.unit, k.unit) e

-- ---- every encoding

-- the bytes of c, the first and the others, are read as c
pub record Heads (e : Encoding) (c : ℕ) : Type 0 where
  pub first : ℕ
  pub others : List ℕ
  pub bytes : encoded e c ≡ first ∷ others
  pub reads : Reads e c first others

heads_utf8 : (c : ℕ) → is_scalar c ≡ true → Heads utf8 c
unfolding encoded
heads_utf8 c i =
    of_width (Heads utf8) c
    (λ h. record { first = c; others = []; bytes = utf8_1 c h; reads = one_reads c h })
    (λ g h. record { first = 0xC0 + c / 64; others = (0x80 + c % 64) ∷ []; bytes = utf8_2 c g h; reads = two_reads c g h })
    (λ g h. record { first = 0xE0 + c / 4096; others = (0x80 + c / 64 % 64) ∷ (0x80 + c % 64) ∷ []; bytes = utf8_3 c g h; reads = three_reads c g h i })
    (λ g. record {
      first = 0xF0 + c / 262144;
      others = (0x80 + c / 4096 % 64) ∷ (0x80 + c / 64 % 64) ∷ (0x80 + c % 64) ∷ [];
      bytes = utf8_4 c g;
      reads = four_reads c g (scalar_below c i);
    })

heads_utf16 : (o : Order) (c : ℕ) (p : Bool) → ltb c 0x10000 ≡ p → is_scalar c ≡ true → Heads (utf16 o) c
unfolding encoded unit_bytes
heads_utf16 o c true hp i =
    let h : Halves o c = halves o c in
    record {
      first = h.first;
      others = h.second ∷ [];
      bytes = ap (unit_bytes o) (utf16_1 c (ltb-true _ _ hp)) ∙ h.bytes [];
      reads = unit_reads o c h i;
    }
heads_utf16 o c false hp i =
    let u : ℕ = 0xD800 + (c - 0x10000) / 1024 in
    let w : ℕ = 0xDC00 + (c - 0x10000) % 1024 in
    let h : Halves o u = halves o u in
    let k : Halves o w = halves o w in
    let l : 0x10000 ≤ c = ltb-false _ _ hp in
    record {
      first = h.first;
      others = h.second ∷ k.first ∷ k.second ∷ [];
      bytes = ap (unit_bytes o) (utf16_2 c l) ∙ h.bytes (w ∷ []) ∙ ap (λ (t : List ℕ). h.first ∷ h.second ∷ t) (k.bytes []);
      reads = pair_reads o c u w h k (pair_char c l (scalar_below c i));
    }

pub heads : (e : Encoding) (c : ℕ) → is_scalar c ≡ true → Heads e c
unfolding encoded
heads latin1 c i = record { first = c; others = []; bytes = refl; reads = latin1_reads c }
heads utf8 c i = heads_utf8 c i
heads (utf16 o) c i = heads_utf16 o c _ refl i

-- the encoding of c, whatever follows
pub read_back : (e : Encoding) (c : ℕ) (s : List ℕ) → is_scalar c ≡ true → (m : ℕ) × (chars e 0 (encoded e c ++ s) ≡ scalar c m ∷ chars e 0 s)
read_back e c s i =
    let h : Heads e c = heads e c i in
    (length h.others, rw h.bytes (read_head e c h.first h.others s h.reads))

pub latin1_read : (c : ℕ) (s : List ℕ) → chars latin1 0 (c ∷ s) ≡ scalar c 0 ∷ chars latin1 0 s
latin1_read c s = read_head latin1 c c [] s (latin1_reads c)
