-- UTF-16, unit by unit, with what is left behind the last whole one.
use mathlib.Core.Path.{◌≡◌, refl}
use mathlib.Core.List.{List, ◌∷◌}
use mathlib.Core.Bool.{Bool, true, false}
use Prim.Native.Nat.{ℕ, ◌+◌, ◌≤◌, ◌<◌}
use native.Mathlib.Omega.{arith}
use borrow.Author.Tests.{ltb-true, ltb-false}
use lib.Dec.{ltb}
use lib.ListN.{length, get_or, drop}
use lib.Seq.{sets}
use Rattle.definitions.specs.Bytes.{Order}
use Rattle.definitions.specs.Unicode.{utf16, unit_of, utf8_of, damage, chars, chars_utf8}
use Rattle.text.specs.Meaning.{read_as}
use Rattle.text.specs.Parts.{CharRead}
use Rattle.std.specs.Prelude.{Option, None}
use Rattle.text.specs.declared.character.Scalar.{Scalar}
use Rattle.text.proofs.FirstChar.{Bytes, read_unit, read_half}
use Rattle.text.proofs.Walk.{rest, Turn, turn, damage_here, Measured, measured_turn, Wrote, wrote_turn, wrote_damage, wrote_end}

-- the turns of the passes, where a whole unit is left
pub unit_turn : (o : Order) (s : List ℕ) (at c m : ℕ) (r : Option Scalar) → at + 1 < length s → r ≡ read_as c m → CharRead (utf16 o) (drop at s) r → Turn (utf16 o) s at c m
unit_turn o s at c m r h q read = turn (utf16 o) s at c m r (omega arith) q read

-- a unit below the surrogates
pub low_turn : (o : Order) (s : List ℕ) (at u : ℕ) → Bytes s → at + 1 < length s → u ≡ unit_of o (get_or s at 0) (get_or s (at + 1) 0) → u < 0xD800 → Turn (utf16 o) s at u 1
low_turn o s at u known h e l = unit_turn o s at u 1 (read_as u 1) h refl (read_unit o s at u known h e l)

two_on : (at : ℕ) → at + 1 + 1 ≡ at + 2
two_on at = omega arith

pub low_measured : (o : Order) (s : List ℕ) (at n u w : ℕ) → Measured (utf16 o) s at n → Turn (utf16 o) s at u 1 → w ≡ length (utf8_of u) → Measured (utf16 o) s (at + 2) (n + w)
low_measured o s at n u w i t p = rw (two_on at) at (measured_turn (utf16 o) s at n u 1 w i t p)

pub low_wrote : (o : Order) (s out₀ out out' : List ℕ) (at n n' u : ℕ) → Wrote (utf16 o) s out₀ out at n → Turn (utf16 o) s at u 1
    → n' ≡ n + length (utf8_of u) → out' ≡ sets out n (utf8_of u) → Wrote (utf16 o) s out₀ out' (at + 2) n'
low_wrote o s out₀ out out' at n n' u i t p e = rw (two_on at) at (wrote_turn (utf16 o) s out₀ out out' at n n' u 1 i t p e)

pub unit_damage : (o : Order) (s : List ℕ) (at : ℕ) (r : Option Scalar) → at + 1 < length s → r ≡ None → CharRead (utf16 o) (drop at s) r
    → rest (utf16 o) s at ≡ damage ∷ rest (utf16 o) s (at + 1)
unit_damage o s at r h q read = damage_here (utf16 o) s at r (omega arith) q read

-- half a unit is all that is left
pub half_left : (o : Order) (s : List ℕ) (at : ℕ) → length s ≤ at + 1 → at < length s → rest (utf16 o) s at ≡ damage ∷ rest (utf16 o) s (at + 1)
half_left o s at g h = damage_here (utf16 o) s at None h refl (read_half o s at (omega arith))

units_by : (o : Order) (s out₀ out : List ℕ) (at n : ℕ) (p : Bool) → ltb at (length s) ≡ p → Wrote (utf16 o) s out₀ out at n → length s ≤ at + 1
    → out ≡ sets out₀ 0 (chars_utf8 (chars (utf16 o) 0 s))
units_by o s out₀ out at n true q i g =
    let h : at < length s = ltb-true _ _ q in
    wrote_end (utf16 o) s out₀ out (at + 1) n (wrote_damage (utf16 o) s out₀ out at n i h (half_left o s at g h)) g
units_by o s out₀ out at n false q i g = wrote_end (utf16 o) s out₀ out at n i (ltb-false _ _ q)

-- no whole unit is left, so nothing more is written
pub units_end : (o : Order) (s out₀ out : List ℕ) (at n : ℕ) → Wrote (utf16 o) s out₀ out at n → length s ≤ at + 1
    → out ≡ sets out₀ 0 (chars_utf8 (chars (utf16 o) 0 s))
units_end o s out₀ out at n i g = units_by o s out₀ out at n _ refl i g
