-- The first character of what is left of a text, from its bytes as the code reads them.
use Rattle.std.specs.Prelude.{if◌then◌else◌}
use mathlib.Core.Path.{◌≡◌, refl, sym, ◌∙◌}
use mathlib.Core.List.{List}
use mathlib.Core.Bool.{Bool, true, false}
use Prim.Native.Nat.{ℕ, ◌+◌, ◌-◌, ◌*◌, ◌≤◌, ◌<◌}
use native.Mathlib.Nat.{add-zero}
use native.Mathlib.Omega.{arith}
use borrow.Author.Tests.{le-ltb, lt-ltb}
use lib.Dec.{ltb}
use lib.ListN.{length, get_or, drop, length-drop}
use lib.Seq.{get_or-drop}
use Rattle.definitions.specs.Bytes.{Order}
use Rattle.definitions.specs.Unicode.{Encoding, latin1, utf8, utf16, within, unit_of, Char as Character, scalar, damage, scalar_if, utf8_char, utf16_char, char_of, inside, char_at}
use Rattle.text.specs.Meaning.{read_as, char_meant}
use Rattle.text.specs.Parts.{Modest, CharRead}
use Rattle.std.specs.Prelude.{Option, None}
use Rattle.text.specs.declared.character.Scalar.{Scalar}
use Rattle.text.proofs.Tests.{of_inside}
use Rattle.text.proofs.Scalars.{scalar_below}
use Rattle.text.proofs.Spelling.{Spelt, Byte, char_spelt}

-- all elements are bytes
abbrev pub Bytes : List ℕ → Type 0
Bytes s = (i : ℕ) → get_or s i 0 < 256

-- the definition reads the first bytes of what is left, the code those at a place
at_place : (e : Encoding) (s : List ℕ) (at : ℕ)
    → inside (length s - at) (char_of e (get_or s at 0) (get_or s (at + 1) 0) (get_or s (at + 2) 0) (get_or s (at + 3) 0)) ≡ char_at e (drop at s)
unfolding char_at
at_place e s at = simp (length-drop, get_or-drop, add-zero)

pub modest_by : (e : Encoding) (n a b c d : ℕ) (r : Character) → Byte e a → Byte e b → Byte e c → Byte e d → inside n (char_of e a b c d) ≡ r → Modest r
modest_by e n a b c d (scalar v m) ha hb hc hd h =
    let s : Spelt e a b c d v m = char_spelt e a b c d v m ha hb hc hd (of_inside n (char_of e a b c d) v m h).0 in
    (scalar_below v s.value, s.grows)
modest_by e n a b c d damage ha hb hc hd h = tt

-- what the bytes at a place give is the first character there
read_at : (e : Encoding) (s : List ℕ) (at : ℕ) (r : Option Scalar) → ((i : ℕ) → Byte e (get_or s i 0))
    → char_meant r ≡ inside (length s - at) (char_of e (get_or s at 0) (get_or s (at + 1) 0) (get_or s (at + 2) 0) (get_or s (at + 3) 0)) → CharRead e (drop at s) r
read_at e s at r known f =
    record {
      same = f ∙ at_place e s at;
      modest = modest_by e (length s - at) _ _ _ _ (char_meant r) (known at) (known (at + 1)) (known (at + 2)) (known (at + 3)) (sym f);
    }

-- ---- one byte

pub read_latin1 : (s : List ℕ) (at : ℕ) → Bytes s → at < length s → CharRead latin1 (drop at s) (read_as (get_or s at 0) 0)
unfolding char_of
read_latin1 s at known h =
    let k : 0 < length s - at = omega arith in
    read_at latin1 s at (read_as (get_or s at 0) 0) known (simp (lt-ltb _ _ k))

pub read_ascii : (s : List ℕ) (at : ℕ) → at < length s → get_or s at 0 < 0x80 → CharRead utf8 (drop at s) (read_as (get_or s at 0) 0)
unfolding char_of utf8_char
read_ascii s at h l =
    let k : 0 < length s - at = omega arith in
    read_at utf8 s at (read_as (get_or s at 0) 0) (λ i. tt) (simp (lt-ltb _ _ l, lt-ltb _ _ k))

-- ---- four bytes of UTF-8

pub read_utf8 : (s : List ℕ) (at a b c d : ℕ) (q r : Option Scalar) → a ≡ get_or s at 0 → b ≡ get_or s (at + 1) 0 → c ≡ get_or s (at + 2) 0 → d ≡ get_or s (at + 3) 0
    → char_meant q ≡ utf8_char a b c d → char_meant r ≡ inside (length s - at) (char_meant q) → CharRead utf8 (drop at s) r
unfolding char_of
read_utf8 s at a b c d q r pa pb pc pd hq hr = read_at utf8 s at r (λ i. tt) (rw (hq, pa, pb, pc, pd) at hr)

-- ---- units of UTF-16

-- one below the surrogates
pub read_unit : (o : Order) (s : List ℕ) (at u : ℕ) → Bytes s → at + 1 < length s → u ≡ unit_of o (get_or s at 0) (get_or s (at + 1) 0) → u < 0xD800
    → CharRead (utf16 o) (drop at s) (read_as u 1)
unfolding char_of utf16_char
read_unit o s at u known h e l =
    let k : 1 < length s - at = omega arith in
    read_at (utf16 o) s at (read_as u 1) known (simp (sym e, lt-ltb _ _ l, lt-ltb _ _ k))

pub read_pair : (o : Order) (s : List ℕ) (at u w : ℕ) (q r : Option Scalar) → Bytes s
    → u ≡ unit_of o (get_or s at 0) (get_or s (at + 1) 0) → w ≡ unit_of o (get_or s (at + 2) 0) (get_or s (at + 2 + 1) 0)
    → char_meant q ≡ utf16_char u w → char_meant r ≡ inside (length s - at) (char_meant q) → CharRead (utf16 o) (drop at s) r
unfolding char_of
read_pair o s at u w q r known eu ew hq hr =
    let p : at + 2 + 1 ≡ at + 3 = omega arith in
    read_at (utf16 o) s at r known (rw (hq, eu, ew, p) at hr)

-- a pair does not end within three bytes, whatever its second unit is
short_by : (n : ℕ) (p q r t t' : Bool) (u x x' : ℕ) → ltb 3 n ≡ false
    → inside n (if p then scalar u 1 else if q then scalar_if t x 3 else if r then damage else scalar u 1)
    ≡ inside n (if p then scalar u 1 else if q then scalar_if t' x' 3 else if r then damage else scalar u 1)
short_by n true q r t t' u x x' k = refl
short_by n false true r true true u x x' k = simp k
short_by n false true r true false u x x' k = simp k
short_by n false true r false true u x x' k = simp k
short_by n false true r false false u x x' k = refl
short_by n false false r t t' u x x' k = refl

short_pair : (n u v w : ℕ) → n < 4 → inside n (utf16_char u v) ≡ inside n (utf16_char u w)
unfolding utf16_char
short_pair n u v w h =
    let k : n ≤ 3 = omega arith in
    short_by n (ltb u 0xD800) (ltb u 0xDC00) (ltb u 0xE000) (within 0xDC00 0xE000 v) (within 0xDC00 0xE000 w) u
    (0x10000 + (u - 0xD800) * 1024 + (v - 0xDC00)) (0x10000 + (u - 0xD800) * 1024 + (w - 0xDC00)) (le-ltb _ _ k)

pub read_short : (o : Order) (s : List ℕ) (at u w : ℕ) (q r : Option Scalar) → Bytes s → length s - at < 4
    → u ≡ unit_of o (get_or s at 0) (get_or s (at + 1) 0) → char_meant q ≡ utf16_char u w → char_meant r ≡ inside (length s - at) (char_meant q) → CharRead (utf16 o) (drop at s) r
unfolding char_of
read_short o s at u w q r known h eu hq hr = read_at (utf16 o) s at r known (rw (hq, eu) at hr ∙ short_pair (length s - at) _ w _ h)

-- half a unit is damage
half_by : (p q r t : Bool) (u x : ℕ) → inside 1 (if p then scalar u 1 else if q then scalar_if t x 3 else if r then damage else scalar u 1) ≡ damage
half_by true q r t u x = refl
half_by false true r true u x = refl
half_by false true r false u x = refl
half_by false false true t u x = refl
half_by false false false t u x = refl

half_char : (u v : ℕ) → inside 1 (utf16_char u v) ≡ damage
unfolding utf16_char
half_char u v = half_by (ltb u 0xD800) (ltb u 0xDC00) (ltb u 0xE000) (within 0xDC00 0xE000 v) u (0x10000 + (u - 0xD800) * 1024 + (v - 0xDC00))

pub read_half : (o : Order) (s : List ℕ) (at : ℕ) → length s ≡ at + 1 → CharRead (utf16 o) (drop at s) None
unfolding char_of
read_half o s at h =
    let l : length s - at ≡ 1 = omega arith in
    record { same = simp (l, half_char) at (at_place (utf16 o) s at); modest = tt }
