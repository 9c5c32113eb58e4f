-- Characters of one byte: Latin-1, and ASCII, which is UTF-8 already.
use mathlib.Core.Path.{◌≡◌, refl, sym, ap, ◌∙◌}
use mathlib.Core.List.{List, [], ◌∷◌, ◌++◌}
use Prim.Native.Nat.{ℕ, ◌+◌, ◌/◌, ◌≤◌, ◌<◌}
use native.Mathlib.Nat.{add-zero}
use native.Mathlib.Omega.{arith}
use lib.ListN.{length, get_or, length-append}
use lib.Seq.{sets}
use Rattle.definitions.specs.Unicode.{latin1, utf8, utf8_of, encoded, encoded_all, chars, chars_utf8}
use Rattle.text.specs.Meaning.{read_as}
use Rattle.text.proofs.Widths.{width_some, width_one, width_byte}
use Rattle.text.proofs.FirstChar.{Bytes, read_latin1, read_ascii}
use Rattle.text.proofs.Walk.{Turn, turn, Checked, checked_turn, Measured, measured_turn, Wrote, wrote_turn}
use Rattle.text.proofs.Texts.{latin1_utf8}

pub byte_turn : (s : List ℕ) (at : ℕ) → Bytes s → at < length s → Turn latin1 s at (get_or s at 0) 0
byte_turn s at known h = turn latin1 s at (get_or s at 0) 0 (read_as (get_or s at 0) 0) h refl (read_latin1 s at known h)

pub byte_measured : (s : List ℕ) (at n : ℕ) → Bytes s → Measured latin1 s at n → at < length s → Measured latin1 s (at + 1) (n + (1 + get_or s at 0 / 128))
byte_measured s at n known i h =
    rw (add-zero (at + 1)) at (measured_turn latin1 s at n (get_or s at 0) 0 (1 + get_or s at 0 / 128) i (byte_turn s at known h) (width_byte (get_or s at 0) (known at)))

pub byte_wrote : (s out₀ out out' : List ℕ) (at n n' : ℕ) → Bytes s → Wrote latin1 s out₀ out at n → at < length s
    → n' ≡ n + length (utf8_of (get_or s at 0)) → out' ≡ sets out n (utf8_of (get_or s at 0)) → Wrote latin1 s out₀ out' (at + 1) n'
byte_wrote s out₀ out out' at n n' known i h p o =
    rw (add-zero (at + 1)) at (wrote_turn latin1 s out₀ out out' at n n' (get_or s at 0) 0 i (byte_turn s at known h) p o)

-- ---- ASCII

-- in UTF-8 it is a character alone
pub ascii_checked : (s : List ℕ) (at : ℕ) → Checked utf8 s at → at < length s → get_or s at 0 < 0x80 → Checked utf8 s (at + 1)
ascii_checked s at i h l =
    rw (add-zero (at + 1)) at (checked_turn utf8 s at (get_or s at 0) 0 i (turn utf8 s at (get_or s at 0) 0 (read_as (get_or s at 0) 0) h refl (read_ascii s at h l)))

-- in Latin-1: each takes a byte at least, so as many bytes as scalar values are the scalar values themselves
grows : (cs : List ℕ) → length cs ≤ length (encoded_all utf8 cs)
unfolding encoded_all encoded
grows [] = omega arith
grows (c ∷ cs) = omega (arith, length-append (utf8_of c) (encoded_all utf8 cs), width_some c, grows cs)

same_length : (cs : List ℕ) → length (encoded_all utf8 cs) ≡ length cs → encoded_all utf8 cs ≡ cs
unfolding encoded_all encoded
same_length [] h = refl
same_length (c ∷ cs) h =
    let k : length (utf8_of c ++ encoded_all utf8 cs) ≡ length (utf8_of c) + length (encoded_all utf8 cs) = length-append (utf8_of c) (encoded_all utf8 cs) in
    let w : length (utf8_of c) ≡ 1 = omega (arith, width_some c, grows cs) in
    let v : length (encoded_all utf8 cs) ≡ length cs = omega arith in
    ap (λ (l : List ℕ). l ++ encoded_all utf8 cs) (width_one c w) ∙ ap (λ (l : List ℕ). c ∷ l) (same_length cs v)

pub ascii_whole : (s : List ℕ) → length (chars_utf8 (chars latin1 0 s)) ≡ length s → chars_utf8 (chars latin1 0 s) ≡ s
ascii_whole s h = latin1_utf8 s ∙ same_length s (ap length (sym (latin1_utf8 s)) ∙ h)
