-- What the public call replies and leaves, from what the passes found.
use Rattle.std.specs.Prelude.{if◌then◌else◌}
use mathlib.Core.Path.{◌≡◌, refl, sym, ap, ◌∙◌}
use mathlib.Core.List.{List}
use mathlib.Core.Bool.{Bool, true, false}
use Prim.Native.Nat.{ℕ, ◌≤◌, ◌<◌}
use native.Mathlib.Omega.{arith}
use borrow.Author.Tests.{le-ltb, lt-ltb}
use lib.ListN.{length}
use lib.Seq.{sets}
use Rattle.definitions.specs.Reply.{Outcome, answer, refusal, told}
use Rattle.definitions.specs.Unicode.{Encoding, latin1, utf8, stopped, Char as Character, chars, all_sound, chars_utf8, placeholder, Text, text_from, text_of, TextWritten, written_text, text_written}
use Rattle.text.specs.Parts.{size_of, as_is, whole_text}
use Rattle.std.specs.Prelude.{Some, None}
use Rattle.definitions.proofs.Stores.{sets_front}
use Rattle.text.proofs.Texts.{latin1_sound}
use Rattle.text.proofs.Verbatim.{utf8_whole}
use Rattle.text.proofs.Bytewise.{ascii_whole}

-- a text that fits, and one that does not
pub written_fits : (out₀ out : List ℕ) (t : Text) (n : ℕ) → n ≡ length t.bytes → n ≤ length out₀ → out ≡ sets out₀ 0 t.bytes
    → record { reply = answer (record { count = n; damaged = t.damaged }); buffer = out } ≡ written_text out₀ t
unfolding written_text
written_fits out₀ out t n e h o =
    let k : length t.bytes ≤ length out₀ = omega (arith, e) in
    simp (le-ltb _ _ k, o, e, sets_front out₀ t.bytes k)

pub written_small : (out : List ℕ) (t : Text) (n : ℕ) → n ≡ length t.bytes → n < 18446744073709551616 → length out < n
    → record { reply = refusal 6 n; buffer = out } ≡ written_text out t
unfolding written_text
written_small out t n e l h =
    let k : length out < length t.bytes = omega (arith, e) in
    let m : told (length t.bytes) ≡ n = omega (arith, e) in
    simp (lt-ltb _ _ k, m)

-- all of what stands before the stop, written, is what the call owes
pub stop_written : (out : List ℕ) (e : Encoding) (s t : List ℕ) (r : Outcome TextWritten) → t ≡ stopped e s → r ≡ written_text out (whole_text e t) → r ≡ text_written out e s
unfolding text_written text_of whole_text
stop_written out e s t r h w = w ∙ ap (λ (l : List ℕ). written_text out (text_from e (chars e 0 l))) h

-- a text by whether it is sound
sound_text_law : (e : Encoding) (s : List ℕ) → all_sound (chars e 0 s) ≡ true → whole_text e s ≡ as_is (chars_utf8 (chars e 0 s)) false
unfolding whole_text
sound_text_law e s g = simp g

broken_text : (e : Encoding) (s : List ℕ) → all_sound (chars e 0 s) ≡ false → whole_text e s ≡ as_is (placeholder e) true
unfolding whole_text
broken_text e s g = simp g

pub broken_written : (out : List ℕ) (e : Encoding) (s : List ℕ) (r : Outcome TextWritten) → all_sound (chars e 0 s) ≡ false
    → r ≡ written_text out (as_is (placeholder e) true) → r ≡ written_text out (whole_text e s)
broken_written out e s r g w = w ∙ ap (written_text out) (sym (broken_text e s g))

-- a sound text that is its own UTF-8 already
same_written : (out : List ℕ) (e : Encoding) (s : List ℕ) (r : Outcome TextWritten) → all_sound (chars e 0 s) ≡ true → chars_utf8 (chars e 0 s) ≡ s
    → r ≡ written_text out (as_is s false) → r ≡ written_text out (whole_text e s)
same_written out e s r g k w =
    w ∙ ap (λ (l : List ℕ). written_text out (as_is l false)) (sym k) ∙ ap (written_text out) (sym (sound_text_law e s g))

pub utf8_written : (out s : List ℕ) (r : Outcome TextWritten) → all_sound (chars utf8 0 s) ≡ true
    → r ≡ written_text out (as_is s false) → r ≡ written_text out (whole_text utf8 s)
utf8_written out s r g w = same_written out utf8 s r g (utf8_whole s g) w

pub ascii_written : (out s : List ℕ) (n : ℕ) (r : Outcome TextWritten) → n ≡ length (chars_utf8 (chars latin1 0 s)) → n ≡ length s
    → r ≡ written_text out (as_is s false) → r ≡ written_text out (whole_text latin1 s)
ascii_written out s n r k l w = same_written out latin1 s r (latin1_sound s).0 (ascii_whole s (sym k ∙ l)) w

-- a sound text by its size: it fits, or not
sized_fits : (out₀ out : List ℕ) (e : Encoding) (s : List ℕ) (n : ℕ) → all_sound (chars e 0 s) ≡ true → n ≡ length (chars_utf8 (chars e 0 s)) → n ≤ length out₀
    → out ≡ sets out₀ 0 (chars_utf8 (chars e 0 s)) → record { reply = answer (record { count = n; damaged = false }); buffer = out } ≡ written_text out₀ (whole_text e s)
sized_fits out₀ out e s n g k l o =
    written_fits out₀ out (as_is (chars_utf8 (chars e 0 s)) false) n k l o ∙ ap (written_text out₀) (sym (sound_text_law e s g))

sized_small : (out : List ℕ) (e : Encoding) (s : List ℕ) (n : ℕ) → all_sound (chars e 0 s) ≡ true → n ≡ length (chars_utf8 (chars e 0 s)) → n < 18446744073709551616
    → length out < n → record { reply = refusal 6 n; buffer = out } ≡ written_text out (whole_text e s)
sized_small out e s n g k l h =
    written_small out (as_is (chars_utf8 (chars e 0 s)) false) n k l h ∙ ap (written_text out) (sym (sound_text_law e s g))

pub latin1_fits : (out₀ out s : List ℕ) (n : ℕ) → n ≡ length (chars_utf8 (chars latin1 0 s)) → n ≤ length out₀ → out ≡ sets out₀ 0 (chars_utf8 (chars latin1 0 s))
    → record { reply = answer (record { count = n; damaged = false }); buffer = out } ≡ written_text out₀ (whole_text latin1 s)
latin1_fits out₀ out s n k l o = sized_fits out₀ out latin1 s n (latin1_sound s).0 k l o

pub latin1_small : (out s : List ℕ) (n : ℕ) → n ≡ length (chars_utf8 (chars latin1 0 s)) → n < 18446744073709551616 → length out < n
    → record { reply = refusal 6 n; buffer = out } ≡ written_text out (whole_text latin1 s)
latin1_small out s n k l h = sized_small out latin1 s n (latin1_sound s).0 k l h

-- what the first pass found
size_by : (b : Bool) (n x : ℕ) → Some n ≡ (if b then Some x else None) → (b ≡ true) × (n ≡ x)
size_by true n x h = (refl, cc)
size_by false n x h = (cc, cc)

damaged_by : (b : Bool) (x : ℕ) → None ≡ (if b then Some x else None) → b ≡ false
damaged_by true x h = cc
damaged_by false x h = refl

found_size : (cs : List Character) (n : ℕ) → Some n ≡ size_of cs → (all_sound cs ≡ true) × (n ≡ length (chars_utf8 cs))
unfolding size_of
found_size cs n h = size_by (all_sound cs) n (length (chars_utf8 cs)) h

pub found_room : (cs : List Character) (n room : ℕ) → Some n ≡ size_of cs → n ≤ room → length (chars_utf8 cs) ≤ room
found_room cs n room g l = omega (arith, (found_size cs n g).1)

found_damage : (cs : List Character) → None ≡ size_of cs → all_sound cs ≡ false
unfolding size_of
found_damage cs h = damaged_by (all_sound cs) (length (chars_utf8 cs)) h

pub out_damaged : (out : List ℕ) (e : Encoding) (s : List ℕ) (r : Outcome TextWritten) → None ≡ size_of (chars e 0 s)
    → r ≡ written_text out (as_is (placeholder e) true) → r ≡ written_text out (whole_text e s)
out_damaged out e s r g w = broken_written out e s r (found_damage (chars e 0 s) g) w

pub out_fits : (out₀ out : List ℕ) (e : Encoding) (s : List ℕ) (n : ℕ) → Some n ≡ size_of (chars e 0 s) → n ≤ length out₀
    → out ≡ sets out₀ 0 (chars_utf8 (chars e 0 s)) → record { reply = answer (record { count = n; damaged = false }); buffer = out } ≡ written_text out₀ (whole_text e s)
out_fits out₀ out e s n g l o = let f = found_size (chars e 0 s) n g in sized_fits out₀ out e s n f.0 f.1 l o

pub out_small : (out : List ℕ) (e : Encoding) (s : List ℕ) (n : ℕ) → Some n ≡ size_of (chars e 0 s) → n < 18446744073709551616 → length out < n
    → record { reply = refusal 6 n; buffer = out } ≡ written_text out (whole_text e s)
out_small out e s n g l h = let f = found_size (chars e 0 s) n g in sized_small out e s n f.0 f.1 l h
