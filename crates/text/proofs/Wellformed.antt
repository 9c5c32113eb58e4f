-- A text is read without damage just where it is the encoding of scalar values, and it is read as those.
use mathlib.Core.Path.{◌≡◌, refl, sym, ap, ◌∙◌}
use mathlib.Core.List.{List, [], ◌∷◌, ◌++◌}
use mathlib.Core.Bool.{true, ◌&&◌}
use Prim.Native.Nat.{ℕ, zero, suc, ◌≤◌, ◌<◌}
use native.Mathlib.Nat.{le_of_suc-le-suc}
use native.Mathlib.Omega.{arith}
use lib.ListN.{length, get_or, take}
use Rattle.definitions.specs.Unicode.{Encoding, utf8, is_scalar, encoded_all, all_scalar, Spells, Char as Character, scalar, damage, char_at, more_of, chars, is_sound, all_sound}
use Rattle.definitions.proofs.Replies.{both}
use Rattle.text.proofs.Spelling.{Byte, byte, text_spelt}
use Rattle.text.proofs.Reading.{read_back}

-- the scalar values that were read
abbrev pub values : List Character → List ℕ
values [] = []
values (scalar c m ∷ cs) = c ∷ values cs
values (damage ∷ cs) = values cs

-- ---- the encoding of scalar values is sound, and is read as them

encoded_sound : (e : Encoding) (cs : List ℕ) → all_scalar cs ≡ true
    → (all_sound (chars e 0 (encoded_all e cs)) ≡ true) × (values (chars e 0 (encoded_all e cs)) ≡ cs)
unfolding all_scalar encoded_all chars
encoded_sound e [] h = (refl, refl)
encoded_sound e (c ∷ cs) h =
    let i = both (is_scalar c) (all_scalar cs) h in
    let r = read_back e c (encoded_all e cs) i.0 in
    let w = encoded_sound e cs i.1 in
    (ap all_sound r.1 ∙ w.0, ap values r.1 ∙ ap (λ (l : List ℕ). c ∷ l) w.1)

pub spells_sound : (e : Encoding) (s cs : List ℕ) → Spells e s cs → (all_sound (chars e 0 s) ≡ true) × (values (chars e 0 s) ≡ cs)
spells_sound e s cs w = rw w.bytes (encoded_sound e cs w.scalar)

-- ---- what is sound is the encoding of the scalar values read

-- all bytes of s are known as such
abbrev Known : Encoding → List ℕ → Type 0
Known e s = (i : ℕ) → Byte e (get_or s i 0)

-- after k bytes of the character before
record Spelled (e : Encoding) (s : List ℕ) (k : ℕ) : Type 0 where
  scalars : all_scalar (values (chars e k s)) ≡ true
  again : take k s ++ encoded_all e (values (chars e k s)) ≡ s

turn : (e : Encoding) (x : ℕ) (s : List ℕ) (r : Character) → Known e (x ∷ s) → char_at e (x ∷ s) ≡ r
    → ((k : ℕ) → k ≤ length s → all_sound (chars e k s) ≡ true → Spelled e s k)
    → (is_sound r && all_sound (chars e (more_of r) s)) ≡ true
    → (all_scalar (values (r ∷ chars e (more_of r) s)) ≡ true) × (encoded_all e (values (r ∷ chars e (more_of r) s)) ≡ x ∷ s)
unfolding all_scalar encoded_all
turn e x s (scalar v m) known q ih g =
    let f = text_spelt e (x ∷ s) v m known q in
    let w : Spelled e s m = ih m (le_of_suc-le-suc f.1) g in
    (rw f.0 w.scalars, rw f.2 (ap (λ (l : List ℕ). x ∷ l) w.again))
turn e x s damage known q ih g = absurd (let z : ◌≡◌ {A = ℕ} 0 1 = cc in omega arith)

spelled : (e : Encoding) (s : List ℕ) (k : ℕ) → Known e s → k ≤ length s → all_sound (chars e k s) ≡ true → Spelled e s k
unfolding chars all_scalar encoded_all
spelled e [] zero known h g = record { scalars = refl; again = refl }
spelled e [] (suc k) known h g = absurd (omega arith)
spelled e (x ∷ s) (suc k) known h g =
    let w : Spelled e s k = spelled e s k (λ i. known (suc i)) (le_of_suc-le-suc h) g in
    record { scalars = w.scalars; again = ap (λ (l : List ℕ). x ∷ l) w.again }
spelled e (x ∷ s) zero known h g =
    let t = turn e x s (char_at e (x ∷ s)) known refl (λ k l. spelled e s k (λ i. known (suc i)) l) g in
    record { scalars = t.0; again = t.1 }

sound_spells : (e : Encoding) (s : List ℕ) → ((i : ℕ) → Byte e (get_or s i 0)) → all_sound (chars e 0 s) ≡ true → Spells e s (values (chars e 0 s))
sound_spells e s known g =
    let w : Spelled e s 0 = spelled e s 0 known (omega arith) g in
    record { scalar = w.scalars; bytes = sym w.again }

-- for a list of bytes, and for UTF-8 of any list
pub bytes_spell : (e : Encoding) (s : List ℕ) → ((i : ℕ) → get_or s i 0 < 256) → all_sound (chars e 0 s) ≡ true → Spells e s (values (chars e 0 s))
bytes_spell e s below g = sound_spells e s (λ i. byte e (get_or s i 0) (below i)) g

pub utf8_spells : (s : List ℕ) → all_sound (chars utf8 0 s) ≡ true → Spells utf8 s (values (chars utf8 0 s))
utf8_spells s g = sound_spells utf8 s (λ i. tt) g
