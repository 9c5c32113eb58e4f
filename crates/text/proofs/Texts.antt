-- What comes out of a text: its scalar values up to the first zero, as UTF-8.
use Rattle.std.specs.Prelude.{if◌then◌else◌}
use mathlib.Core.Path.{◌≡◌, refl, sym, ap, ◌∙◌}
use mathlib.Core.List.{List, [], ◌∷◌, ◌++◌, append-nil}
use mathlib.Core.Bool.{Bool, true, false, ◌&&◌}
use Prim.Native.Nat.{ℕ, ◌+◌, ◌<◌}
use native.Mathlib.Omega.{arith}
use borrow.Author.Tests.{eqb-true, eqb-false, ltb-true, ltb-false, ne_eqb}
use lib.Dec.{eqb, ltb}
use Rattle.definitions.specs.Bytes.{Order, little, big}
use Rattle.definitions.specs.Unicode.{Encoding, latin1, utf8, utf16, before_nul, before_zero_unit, stopped, is_scalar, utf8_of, utf16_of, unit_bytes, encoded, encoded_all, all_scalar, Char as Character, scalar, damage, chars, all_sound, chars_utf8, Text, text_from, text_of}
use Rattle.definitions.proofs.Replies.{both}
use Rattle.text.proofs.Widths.{utf8_1, utf8_2, utf8_3, utf8_4, of_width}
use Rattle.text.proofs.Spelling.{utf16_1, utf16_2}
use Rattle.text.proofs.Reading.{Halves, halves, latin1_read}
use Rattle.text.proofs.Wellformed.{values, spells_sound}

-- the text that is sound and has the scalar values cs
abbrev pub sound_text : List ℕ → Text
sound_text cs = record { bytes = encoded_all utf8 cs; damaged = false }

pub as_utf8 : (xs : List Character) → chars_utf8 xs ≡ encoded_all utf8 (values xs)
unfolding encoded_all encoded
as_utf8 [] = refl
as_utf8 (scalar c m ∷ xs) = ap (λ (l : List ℕ). utf8_of c ++ l) (as_utf8 xs)
as_utf8 (damage ∷ xs) = as_utf8 xs

from_sound : (e : Encoding) (xs : List Character) (cs : List ℕ) → (all_sound xs ≡ true) × (values xs ≡ cs) → text_from e xs ≡ sound_text cs
from_sound e xs cs (g, v) = rw (g, as_utf8 xs, v)

-- ---- Latin-1: every byte is its scalar value

pub latin1_sound : (s : List ℕ) → (all_sound (chars latin1 0 s) ≡ true) × (values (chars latin1 0 s) ≡ s)
unfolding chars
latin1_sound [] = (refl, refl)
latin1_sound (c ∷ s) =
    let w = latin1_sound s in
    (ap all_sound (latin1_read c s) ∙ w.0, ap values (latin1_read c s) ∙ ap (λ (l : List ℕ). c ∷ l) w.1)

pub latin1_utf8 : (s : List ℕ) → chars_utf8 (chars latin1 0 s) ≡ encoded_all utf8 s
latin1_utf8 s = as_utf8 (chars latin1 0 s) ∙ ap (encoded_all utf8) (latin1_sound s).1

pub latin1_text : (s : List ℕ) → text_of latin1 s ≡ sound_text (before_nul s)
unfolding text_of stopped
latin1_text s = from_sound latin1 (chars latin1 0 (before_nul s)) (before_nul s) (latin1_sound (before_nul s))

-- ---- any encoding: it stops at the scalar value 0

-- none of them is 0
abbrev pub Positive : List ℕ → Type 0
Positive [] = Unit {0}
Positive (b ∷ a) = (0 < b) × Positive a

positive_utf8 : (c : ℕ) → 0 < c → Positive (utf8_of c)
positive_utf8 c p =
    of_width (λ c. Positive (utf8_of c)) c
    (λ h. rw (utf8_1 c h) (p, tt))
    (λ g h. rw (utf8_2 c g h) (omega arith, (omega arith, tt)))
    (λ g h. rw (utf8_3 c g h) (omega arith, (omega arith, (omega arith, tt))))
    (λ g. rw (utf8_4 c g) (omega arith, (omega arith, (omega arith, (omega arith, tt)))))

positive_utf16 : (c : ℕ) (p : Bool) → ltb c 0x10000 ≡ p → 0 < c → Positive (utf16_of c)
positive_utf16 c true hp h = rw (utf16_1 c (ltb-true _ _ hp)) (h, tt)
positive_utf16 c false hp h = rw (utf16_2 c (ltb-false _ _ hp)) (omega arith, (omega arith, tt))

-- the rules keep what has no zero, whatever follows
keeps_bytes : (a s : List ℕ) → Positive a → before_nul (a ++ s) ≡ a ++ before_nul s
unfolding before_nul
keeps_bytes [] s p = refl
keeps_bytes (b ∷ a) s p =
    let z : b ≡ 0 → ⊥ = λ q. omega (arith, p.0) in
    rw (ne_eqb b 0 z) (ap (λ (l : List ℕ). b ∷ l) (keeps_bytes a s p.1))

positive_all : (cs : List ℕ) → Positive cs → before_nul cs ≡ cs
unfolding before_nul
positive_all cs p = ap before_nul (sym (append-nil cs)) ∙ keeps_bytes cs [] p ∙ append-nil cs

keeps_unit : (a b : ℕ) (s : List ℕ) → 0 < a + b → before_zero_unit (a ∷ b ∷ s) ≡ a ∷ b ∷ before_zero_unit s
unfolding before_zero_unit
keeps_unit a b s p = let z : a + b ≡ 0 → ⊥ = λ q. omega arith in simp (ne_eqb (a + b) 0 z)

keeps_units : (o : Order) (us s : List ℕ) → Positive us → before_zero_unit (unit_bytes o us ++ s) ≡ unit_bytes o us ++ before_zero_unit s
unfolding unit_bytes
keeps_units o [] s p = refl
keeps_units o (u ∷ us) s p =
    let h : Halves o u = halves o u in
    rw (h.bytes us)
    (keeps_unit h.first h.second (unit_bytes o us ++ s) (h.some p.0)
    ∙ ap (λ (l : List ℕ). h.first ∷ h.second ∷ l) (keeps_units o us s p.1))

keeps : (e : Encoding) (c : ℕ) (s : List ℕ) → 0 < c → stopped e (encoded e c ++ s) ≡ encoded e c ++ stopped e s
unfolding stopped encoded
keeps latin1 c s p = keeps_bytes (c ∷ []) s (p, tt)
keeps utf8 c s p = keeps_bytes (utf8_of c) s (positive_utf8 c p)
keeps (utf16 o) c s p = keeps_units o (utf16_of c) s (positive_utf16 c _ refl p)

zero_stops : (e : Encoding) (s : List ℕ) → stopped e (encoded e 0 ++ s) ≡ []
unfolding stopped encoded utf8_of utf16_of unit_bytes before_nul before_zero_unit
zero_stops latin1 s = refl
zero_stops utf8 s = refl
zero_stops (utf16 little) s = refl
zero_stops (utf16 big) s = refl

stopped_by : (e : Encoding) (c : ℕ) (cs : List ℕ) (p : Bool) → eqb c 0 ≡ p → stopped e (encoded_all e cs) ≡ encoded_all e (before_nul cs)
    → stopped e (encoded e c ++ encoded_all e cs) ≡ encoded_all e (if p then [] else c ∷ before_nul cs)
unfolding encoded_all
stopped_by e c cs true q ih = let z : c ≡ 0 = eqb-true c 0 q in rw z (zero_stops e (encoded_all e cs))
stopped_by e c cs false q ih =
    let z : c ≡ 0 → ⊥ = eqb-false c 0 q in
    keeps e c (encoded_all e cs) (omega arith) ∙ ap (λ (l : List ℕ). encoded e c ++ l) ih

stopped_encoded : (e : Encoding) (cs : List ℕ) → stopped e (encoded_all e cs) ≡ encoded_all e (before_nul cs)
unfolding encoded_all before_nul stopped before_zero_unit
stopped_encoded latin1 [] = refl
stopped_encoded utf8 [] = refl
stopped_encoded (utf16 o) [] = refl
stopped_encoded e (c ∷ cs) = stopped_by e c cs (eqb c 0) refl (stopped_encoded e cs)

scalar_front : (p : Bool) (c : ℕ) (cs ds : List ℕ) → (is_scalar c && all_scalar cs) ≡ true → (all_scalar cs ≡ true → all_scalar ds ≡ true)
    → all_scalar (if p then [] else c ∷ ds) ≡ true
unfolding all_scalar
scalar_front true c cs ds h f = refl
scalar_front false c cs ds h f = let i = both (is_scalar c) (all_scalar cs) h in rw i.0 (f i.1)

scalar_before : (cs : List ℕ) → all_scalar cs ≡ true → all_scalar (before_nul cs) ≡ true
unfolding all_scalar before_nul
scalar_before [] h = refl
scalar_before (c ∷ cs) h = scalar_front (eqb c 0) c cs (before_nul cs) h (scalar_before cs)

-- the encoding of scalar values comes out as them, up to the first zero
pub encoded_text : (e : Encoding) (cs : List ℕ) → all_scalar cs ≡ true → text_of e (encoded_all e cs) ≡ sound_text (before_nul cs)
unfolding text_of
encoded_text e cs h =
    rw (stopped_encoded e cs)
    (from_sound e (chars e 0 (encoded_all e (before_nul cs))) (before_nul cs)
    (spells_sound e (encoded_all e (before_nul cs)) (before_nul cs) (record { scalar = scalar_before cs h; bytes = refl })))

-- and as all of them where none is 0
pub encoded_whole : (e : Encoding) (cs : List ℕ) → all_scalar cs ≡ true → Positive cs → text_of e (encoded_all e cs) ≡ sound_text cs
encoded_whole e cs h p = encoded_text e cs h ∙ ap sound_text (positive_all cs p)
