-- The room that always suffices for a text: as UTF-8 it has at most twice the bytes that it is given in, or what the longest
-- placeholder takes.
use Rattle.std.specs.Prelude.{if◌then◌else◌}
use mathlib.Core.Path.{◌≡◌, refl, sym}
use mathlib.Core.List.{List, [], ◌∷◌, ◌++◌}
use mathlib.Core.Bool.{Bool, true, false}
use Prim.Native.Nat.{ℕ, zero, suc, ◌-◌, ◌*◌, ◌≤◌, max}
use native.Mathlib.Omega.{arith}
use lib.ListN.{length, get_or, take, length-append}
use Rattle.definitions.specs.Bytes.{little, big}
use Rattle.definitions.specs.Unicode.{Encoding, latin1, utf8, utf16, stopped, Char as Character, scalar, damage, char_at, more_of, chars, utf8_of, char_utf8, all_sound, chars_utf8, placeholder, Text, text_of}
use Rattle.text.specs.Parts.{Modest, as_is}
use Rattle.text.proofs.Tests.{inside_back}
use Rattle.text.proofs.Spelling.{byte}
use Rattle.text.proofs.FirstChar.{Bytes, modest_by}
use Rattle.encodings.proofs.Stopping.{stop_within, stop_kept}

-- for a text of n bytes
abbrev pub room : ℕ → ℕ
room n = max (2 * n) 17

module _ (e : Encoding) where
  char_modest : (s : List ℕ) → Bytes s → (r : Character) → char_at e s ≡ r → Modest r
  unfolding char_at
  char_modest s b r h =
      modest_by e (length s) _ _ _ _ r (byte e (get_or s 0 0) (b 0)) (byte e (get_or s 1 0) (b 1)) (byte e (get_or s 2 0) (b 2)) (byte e (get_or s 3 0) (b 3)) h

  -- a character, and what comes behind its bytes
  char_room : (x : ℕ) (s : List ℕ) (r : Character) → char_at e (x ∷ s) ≡ r → Modest r
      → ((k : ℕ) → length (chars_utf8 (chars e k s)) ≤ 2 * (length s - k))
      → length (char_utf8 r ++ chars_utf8 (chars e (more_of r) s)) ≤ 2 * (length (x ∷ s) - 0)
  char_room x s (scalar c m) h modest rest =
      omega (arith, length-append (utf8_of c) (chars_utf8 (chars e m s)), modest.1, inside_back e (x ∷ s) c m h, rest m)
  char_room x s damage h modest rest = omega (arith, rest 0)

  chars_room : (s : List ℕ) (k : ℕ) → Bytes s → length (chars_utf8 (chars e k s)) ≤ 2 * (length s - k)
  unfolding chars
  chars_room [] k b = omega arith
  chars_room (x ∷ s) (suc k) b = omega (arith, chars_room s k (λ i. b (suc i)))
  chars_room (x ∷ s) zero b =
      char_room x s (char_at e (x ∷ s)) refl (char_modest (x ∷ s) b _ refl) (λ k. chars_room s k (λ i. b (suc i)))

placeholder_room : (e : Encoding) → length (placeholder e) ≤ 17
unfolding placeholder
placeholder_room latin1 = omega arith
placeholder_room utf8 = omega arith
placeholder_room (utf16 little) = omega arith
placeholder_room (utf16 big) = omega arith

front_bytes : (n : ℕ) (s : List ℕ) → Bytes s → Bytes (take n s)
front_bytes zero s b i = omega arith
front_bytes (suc n) [] b i = omega arith
front_bytes (suc n) (x ∷ s) b zero = b zero
front_bytes (suc n) (x ∷ s) b (suc i) = front_bytes n s (λ j. b (suc j)) i

sound_or_not : (e : Encoding) (cs : List Character) (t : Bool) (n : ℕ) → length (chars_utf8 cs) ≤ 2 * n
    → length (if◌then◌else◌ {A = Text} t (as_is (chars_utf8 cs) false) (as_is (placeholder e) true)).bytes ≤ room n
sound_or_not e cs true n h = omega arith
sound_or_not e cs false n h = omega (arith, placeholder_room e)

pub text_room : (e : Encoding) (s : List ℕ) → Bytes s → length (text_of e s).bytes ≤ room (length s)
unfolding text_of
text_room e s b =
    let front : Bytes (stopped e s) = rw (sym (stop_kept e s _ refl)) (front_bytes (length (stopped e s)) s b) in
    let cs : List Character = chars e 0 (stopped e s) in
    sound_or_not e cs (all_sound cs) (length s) (omega (arith, chars_room e (stopped e s) 0 front, stop_within e s _ refl))
