-- The stop rules: what they keep stands at the front, and how the scans find where it ends.
use Rattle.std.specs.Prelude.{if◌then◌else◌, Some, None, cond, not, position}
use Rattle.std.specs.List.{position_or_len}
use Rattle.std.specs.Option.{unwrap_or}
use Rattle.std.specs.Simd.{first_chunks}
use Rattle.std.proofs.lemmas.List.Recursion.{is_position_or_len}
use Rattle.std.proofs.lemmas.List.Sums.{prefix_len-le-length}
use mathlib.Core.Path.{◌≡◌, refl, sym, ap, ◌∙◌}
use mathlib.Core.List.{List, [], ◌∷◌}
use mathlib.Core.Bool.{Bool, true, false, ◌&&◌}
use Prim.Native.Nat.{ℕ, zero, suc, ◌+◌, ◌*◌, ◌/◌, ◌≤◌}
use native.Mathlib.Nat.{zero-add}
use native.Mathlib.Omega.{arith}
use borrow.Author.Tests.{ltb-false, ne_eqb}
use lib.Dec.{eqb, ltb}
use lib.ListN.{length, get_or, take}
use Rattle.definitions.specs.Unicode.{Encoding, latin1, utf8, utf16, before_nul, before_zero_unit, stopped}

-- t is the front of s
record Front (s t : List ℕ) : Type 0 where
  shorter : length t ≤ length s
  front : take (length t) s ≡ t

front_none : (s : List ℕ) → Front s []
front_none s = record { shorter = omega arith; front = refl }

front_cons : (b : ℕ) (s t : List ℕ) → Front s t → Front (b ∷ s) (b ∷ t)
front_cons b s t f = record { shorter = omega (arith, f.shorter); front = ap (λ (l : List ℕ). b ∷ l) f.front }

front_if : (p : Bool) (s t u : List ℕ) → Front s t → Front s u → Front s (if p then t else u)
front_if true s t u f g = f
front_if false s t u f g = g

front_nul : (s : List ℕ) → Front s (before_nul s)
unfolding before_nul
front_nul [] = front_none []
front_nul (b ∷ s) = front_if (eqb b 0) (b ∷ s) [] (b ∷ before_nul s) (front_none (b ∷ s)) (front_cons b s (before_nul s) (front_nul s))

front_unit : (s : List ℕ) → Front s (before_zero_unit s)
unfolding before_zero_unit
front_unit [] = front_none []
front_unit (a ∷ []) = front_none (a ∷ [])
front_unit (a ∷ b ∷ s) =
    front_if (eqb (a + b) 0) (a ∷ b ∷ s) [] (a ∷ b ∷ before_zero_unit s) (front_none (a ∷ b ∷ s))
    (front_cons a (b ∷ s) (b ∷ before_zero_unit s) (front_cons b s (before_zero_unit s) (front_unit s)))

stopped_front : (e : Encoding) (s : List ℕ) → Front s (stopped e s)
unfolding stopped
stopped_front latin1 s = front_nul s
stopped_front utf8 s = front_nul s
stopped_front (utf16 o) s = front_unit s

-- where the text stops, as a number
pub stop_within : (e : Encoding) (s : List ℕ) (n : ℕ) → n ≡ length (stopped e s) → n ≤ length s
stop_within e s n h = omega (arith, (stopped_front e s).shorter)

pub stop_kept : (e : Encoding) (s : List ℕ) (n : ℕ) → n ≡ length (stopped e s) → take n s ≡ stopped e s
stop_kept e s n h = rw h (stopped_front e s).front

-- ---- the scans: what the library's search finds, or the end, is where the text stops

module _ {X : Type 0} (p : X → Bool) (xs : List X) where
  by_length : (t : Bool) → ltb (position_or_len p xs) (length xs) ≡ t
      → unwrap_or (cond t (Some (position_or_len p xs)) None) (length xs) ≡ position_or_len p xs
  by_length true e = refl
  by_length false e =
      let past : length xs ≤ position_or_len p xs = ltb-false _ _ e in
      let within : position_or_len p xs ≤ length xs = prefix_len-le-length (λ x. not (p x)) xs in
      omega arith

  pub first_or_end : unwrap_or (position p xs) (length xs) ≡ position_or_len p xs
  first_or_end = by_length (ltb (position_or_len p xs) (length xs)) refl

nul_next : (t : Bool) (b : ℕ) (s : List ℕ) → length (if t then [] else b ∷ s) ≡ cond t 0 (1 + length s)
nul_next true b s = refl
nul_next false b s = omega arith

pub first_nul : (s : List ℕ) → length (before_nul s) ≡ position_or_len (λ byte. eqb byte 0) s
unfolding before_nul
first_nul s = is_position_or_len (λ t. length (before_nul t)) (λ byte. eqb byte 0) refl (λ b t. nul_next (eqb b 0) b (before_nul t)) s

-- a unit is zero where both its bytes are
abbrev pub is_zero_unit : List ℕ → Bool
is_zero_unit unit = eqb (get_or unit 0 0) 0 && eqb (get_or unit 1 0) 0

both_zero : (a b : ℕ) → eqb (a + b) 0 ≡ (eqb a 0 && eqb b 0)
both_zero zero b = rw zero-add
both_zero (suc a) b = ne_eqb (suc a + b) 0 (λ e. omega arith) ∙ ap (λ (t : Bool). t && eqb b 0) (sym (ne_eqb (suc a) 0 (λ e. omega arith)))

unit_next : (t : Bool) (a b n : ℕ) (s : List ℕ) → n * 2 ≡ length s → cond (not t) (1 + n) 0 * 2 ≡ length (if t then [] else a ∷ b ∷ s)
unit_next true a b n s e = refl
unit_next false a b n s e = omega arith

pub first_unit : (s : List ℕ) → position_or_len is_zero_unit (first_chunks 2 (length s / 2) s) * 2 ≡ length (before_zero_unit s)
unfolding before_zero_unit
first_unit [] = refl
first_unit (a ∷ []) = refl
first_unit (a ∷ b ∷ s) =
    let more : length (a ∷ b ∷ s) / 2 ≡ suc (length s / 2) = omega arith in
    rw (more, both_zero) (unit_next (eqb a 0 && eqb b 0) a b (position_or_len is_zero_unit (first_chunks 2 (length s / 2) s)) (before_zero_unit s) (first_unit s))
