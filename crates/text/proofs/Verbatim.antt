-- UTF-8 that is not damaged comes out as its own bytes, up to the first zero.
use Rattle.std.specs.Prelude.{if◌then◌else◌}
use mathlib.Core.Path.{◌≡◌, refl, sym, ◌∙◌}
use mathlib.Core.List.{List}
use mathlib.Core.Bool.{Bool, true, false}
use Prim.Native.Nat.{ℕ}
use native.Mathlib.Omega.{arith}
use Rattle.definitions.specs.Unicode.{utf8, before_nul, stopped, Char as Character, chars, all_sound, chars_utf8, placeholder, Text, text_of}
use Rattle.text.proofs.Wellformed.{utf8_spells}
use Rattle.text.proofs.Texts.{as_utf8}

if_undamaged : (t : Bool) (a b : List ℕ)
    → (if◌then◌else◌ {A = Text} t (record { bytes = a; damaged = false }) (record { bytes = b; damaged = true })).damaged ≡ false
    → (t ≡ true) × ((if◌then◌else◌ {A = Text} t (record { bytes = a; damaged = false }) (record { bytes = b; damaged = true })).bytes ≡ a)
if_undamaged true a b h = (refl, refl)
if_undamaged false a b h = absurd (let z : ◌≡◌ {A = ℕ} 0 1 = cc in omega arith)

pub utf8_whole : (s : List ℕ) → all_sound (chars utf8 0 s) ≡ true → chars_utf8 (chars utf8 0 s) ≡ s
utf8_whole s h = as_utf8 (chars utf8 0 s) ∙ sym (utf8_spells s h).bytes

pub utf8_verbatim : (s : List ℕ) → (text_of utf8 s).damaged ≡ false → (text_of utf8 s).bytes ≡ before_nul s
unfolding text_of stopped
utf8_verbatim s h =
    let xs : List Character = chars utf8 0 (before_nul s) in
    let f = if_undamaged (all_sound xs) (chars_utf8 xs) (placeholder utf8) h in
    f.1 ∙ utf8_whole (before_nul s) f.0
