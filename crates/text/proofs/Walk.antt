-- The characters of a text, one after the other, as the passes go over them.
use mathlib.Core.Path.{◌≡◌, refl, sym, ap, ◌∙◌}
use mathlib.Core.List.{List, [], ◌∷◌}
use mathlib.Core.Bool.{true, false}
use Prim.Native.Nat.{ℕ, zero, suc, ◌+◌, ◌*◌, ◌≤◌, ◌<◌}
use native.Mathlib.Nat.{add-zero}
use native.Mathlib.Omega.{arith}
use lib.ListN.{length, get_or, drop, length-drop, length-append, drop_of_length-le}
use lib.Seq.{sets, length-sets, drop-drop, drop-cons}
use Rattle.definitions.specs.Unicode.{Encoding, Char as Character, scalar, damage, char_at, more_of, chars, all_sound, chars_utf8, utf8_of}
use Rattle.text.specs.Meaning.{read_as, char_meant}
use Rattle.text.specs.Parts.{Modest, CharRead, size_of}
use Rattle.std.specs.Prelude.{Option, Some, None}
use Rattle.text.specs.declared.character.Scalar.{Scalar}
use Rattle.text.proofs.Tests.{inside_back}
use Rattle.definitions.proofs.Stores.{sets_append}

-- bytes that belong to the character before are passed over
pub chars_skip : (e : Encoding) (k : ℕ) (s : List ℕ) → chars e k s ≡ chars e 0 (drop k s)
unfolding chars
chars_skip e zero s = refl
chars_skip e (suc k) [] = refl
chars_skip e (suc k) (x ∷ s) = chars_skip e k s

chars_cons : (e : Encoding) (x : ℕ) (s l : List ℕ) → l ≡ x ∷ s → chars e 0 l ≡ char_at e l ∷ chars e 0 (drop (more_of (char_at e l)) s)
unfolding chars
chars_cons e x s l h = rw h (ap (λ (cs : List Character). char_at e (x ∷ s) ∷ cs) (chars_skip e (more_of (char_at e (x ∷ s))) s))

-- what is left of the text at a place
abbrev pub rest : Encoding → List ℕ → ℕ → List Character
rest e s at = chars e 0 (drop at s)

-- one character, and what is left after it
rest_step : (e : Encoding) (s : List ℕ) (at : ℕ) (r : Character) → at < length s → r ≡ char_at e (drop at s) → rest e s at ≡ r ∷ rest e s (at + 1 + more_of r)
rest_step e s at r h q =
    let k : suc at + more_of r ≡ at + 1 + more_of r = omega arith in
    chars_cons e (get_or s at 0) (drop (suc at) s) (drop at s) (drop-cons s at 0 h)
    ∙ rw (← q) (ap (λ (l : List ℕ). r ∷ chars e 0 l) (drop-drop (more_of r) (suc at) s ∙ ap (λ (n : ℕ). drop n s) k))

rest_end : (e : Encoding) (s : List ℕ) (at : ℕ) → length s ≤ at → rest e s at ≡ []
unfolding chars
rest_end e s at h = ap (chars e 0) (drop_of_length-le s h)

-- what a turn of any pass knows of the character that it read
pub record Turn (e : Encoding) (s : List ℕ) (at c m : ℕ) : Type 0 where
  pub inside : at + 1 + m ≤ length s
  pub below : c < 0x110000
  pub grows : length (utf8_of c) ≤ 2 * suc m
  pub step : rest e s at ≡ scalar c m ∷ rest e s (at + 1 + m)
  pub size : length (chars_utf8 (rest e s at)) ≡ length (utf8_of c) + length (chars_utf8 (rest e s (at + 1 + m)))

pub turn : (e : Encoding) (s : List ℕ) (at c m : ℕ) (r : Option Scalar) → at < length s → r ≡ read_as c m → CharRead e (drop at s) r → Turn e s at c m
turn e s at c m r h q read =
    let same : scalar c m ≡ char_at e (drop at s) = sym (ap char_meant q) ∙ read.same in
    let modest : Modest (scalar c m) = rw q at read.modest in
    let l : m < length (drop at s) = inside_back e (drop at s) c m (sym same) in
    let st : rest e s at ≡ scalar c m ∷ rest e s (at + 1 + m) = rest_step e s at (scalar c m) h same in
    record {
      inside = omega (arith, length-drop at s);
      below = modest.0;
      grows = modest.1;
      step = st;
      size = ap length (ap chars_utf8 st) ∙ length-append (utf8_of c) (chars_utf8 (rest e s (at + 1 + m)));
    }

-- and of a damaged one
pub damage_here : (e : Encoding) (s : List ℕ) (at : ℕ) (r : Option Scalar) → at < length s → r ≡ None → CharRead e (drop at s) r → rest e s at ≡ damage ∷ rest e s (at + 1)
damage_here e s at r h q read =
    rest_step e s at damage h (sym (ap char_meant q) ∙ read.same) ∙ ap (λ (k : ℕ). damage ∷ rest e s k) (add-zero (at + 1))

-- a pass that looks for damage: there is none before at
pub record Checked (e : Encoding) (s : List ℕ) (at : ℕ) : Type 0 where
  pub reached : at ≤ length s
  pub same : all_sound (rest e s at) ≡ all_sound (chars e 0 s)

pub checked_turn : (e : Encoding) (s : List ℕ) (at c m : ℕ) → Checked e s at → Turn e s at c m → Checked e s (at + 1 + m)
checked_turn e s at c m i t = record { reached = t.inside; same = sym (ap all_sound t.step) ∙ i.same }

pub checked_sound : (e : Encoding) (s : List ℕ) (at : ℕ) → Checked e s at → length s ≤ at → true ≡ all_sound (chars e 0 s)
checked_sound e s at i h = sym (ap all_sound (rest_end e s at h)) ∙ i.same

pub checked_damage : (e : Encoding) (s : List ℕ) (at : ℕ) → Checked e s at → rest e s at ≡ damage ∷ rest e s (at + 1) → false ≡ all_sound (chars e 0 s)
checked_damage e s at i q = sym (ap all_sound q) ∙ i.same

-- a pass that measures: n bytes are counted of what stands before at
pub record Measured (e : Encoding) (s : List ℕ) (at n : ℕ) : Type 0 where
  pub checked : Checked e s at
  pub bound : n ≤ 2 * at
  pub count : n + length (chars_utf8 (rest e s at)) ≡ length (chars_utf8 (chars e 0 s))

pub measured_turn : (e : Encoding) (s : List ℕ) (at n c m w : ℕ) → Measured e s at n → Turn e s at c m → w ≡ length (utf8_of c) → Measured e s (at + 1 + m) (n + w)
measured_turn e s at n c m w i t p =
    record {
      checked = checked_turn e s at c m i.checked t;
      bound = omega (arith, i.bound, t.grows);
      count = omega (arith, i.count, t.size);
    }

pub measured_size : (e : Encoding) (s : List ℕ) (at n : ℕ) → Measured e s at n → length s ≤ at → n ≡ length (chars_utf8 (chars e 0 s))
measured_size e s at n i h = omega (arith, i.count, ap length (ap chars_utf8 (rest_end e s at h)))

pub measured_sound : (e : Encoding) (s : List ℕ) (at n : ℕ) → Measured e s at n → length s ≤ at → Some n ≡ size_of (chars e 0 s)
unfolding size_of
measured_sound e s at n i h = simp (sym (checked_sound e s at i.checked h), measured_size e s at n i h)

pub measured_damage : (e : Encoding) (s : List ℕ) (at n : ℕ) → Measured e s at n → rest e s at ≡ damage ∷ rest e s (at + 1) → None ≡ size_of (chars e 0 s)
unfolding size_of
measured_damage e s at n i q = simp (sym (checked_damage e s at i.checked q))

-- a pass that writes: writing what is left at n makes the buffer what the whole text makes of it
pub record Wrote (e : Encoding) (s out₀ out : List ℕ) (at n : ℕ) : Type 0 where
  pub reached : at ≤ length s
  pub long : length out ≡ length out₀
  pub count : n + length (chars_utf8 (rest e s at)) ≡ length (chars_utf8 (chars e 0 s))
  pub same : sets out n (chars_utf8 (rest e s at)) ≡ sets out₀ 0 (chars_utf8 (chars e 0 s))

-- the character at hand fits
pub wrote_room : (e : Encoding) (s out₀ out : List ℕ) (at n c m : ℕ) → Wrote e s out₀ out at n → Turn e s at c m
    → length (chars_utf8 (chars e 0 s)) ≤ length out₀ → n + length (utf8_of c) ≤ length out
wrote_room e s out₀ out at n c m i t l = omega (arith, i.count, i.long, t.size)

pub wrote_turn : (e : Encoding) (s out₀ out out' : List ℕ) (at n n' c m : ℕ) → Wrote e s out₀ out at n → Turn e s at c m
    → n' ≡ n + length (utf8_of c) → out' ≡ sets out n (utf8_of c) → Wrote e s out₀ out' (at + 1 + m) n'
wrote_turn e s out₀ out out' at n n' c m i t p o =
    record {
      reached = t.inside;
      long = ap length o ∙ length-sets out n (utf8_of c) ∙ i.long;
      count = omega (arith, i.count, t.size);
      same = rw (o, p) (sym (sets_append out n (utf8_of c) (chars_utf8 (rest e s (at + 1 + m))))) ∙ ap (sets out n) (sym (ap chars_utf8 t.step)) ∙ i.same;
    }

pub wrote_damage : (e : Encoding) (s out₀ out : List ℕ) (at n : ℕ) → Wrote e s out₀ out at n → at < length s → rest e s at ≡ damage ∷ rest e s (at + 1)
    → Wrote e s out₀ out (at + 1) n
wrote_damage e s out₀ out at n i h q =
    let rs : chars_utf8 (rest e s at) ≡ chars_utf8 (rest e s (at + 1)) = ap chars_utf8 q in
    record {
      reached = omega arith;
      long = i.long;
      count = omega (arith, i.count, ap length rs);
      same = ap (sets out n) (sym rs) ∙ i.same;
    }

pub wrote_end : (e : Encoding) (s out₀ out : List ℕ) (at n : ℕ) → Wrote e s out₀ out at n → length s ≤ at → out ≡ sets out₀ 0 (chars_utf8 (chars e 0 s))
wrote_end e s out₀ out at n i h = ap (λ (cs : List Character). sets out n (chars_utf8 cs)) (sym (rest_end e s at h)) ∙ i.same
