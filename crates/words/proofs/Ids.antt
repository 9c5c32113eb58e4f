-- Four bytes are those of an id where the two words are the same.
use mathlib.Core.Path.{◌≡◌, refl, sym, ap, ap₂, ◌∙◌}
use mathlib.Core.Bool.{Bool, true, false}
use mathlib.Core.List.{List}
use Prim.Native.Nat.{ℕ, zero, suc, ◌+◌, ◌≤◌, ◌<◌}
use native.Mathlib.Nat.{add-zero}
use native.Mathlib.Omega.{arith}
use lib.ListN.{length, get_or}
use lib.Seq.{ext_get_or}
use lib.Dec.{eqb}
use borrow.Author.Tests.{eq-eqb, ne_eqb, eqb-true}
use Rattle.definitions.specs.Bytes.{le_of, span, u32_at, id_at}
use Rattle.definitions.proofs.Replies.{both}
use Rattle.words.proofs.Numbers.{Bytes, one_number}
use Rattle.words.proofs.Spans.{bytes_span, length_span, get_d_span}

-- a test that holds just where the numbers are equal
eqb_is : (x y : ℕ) (t : Bool) → (t ≡ true → x ≡ y) → (x ≡ y → t ≡ true) → eqb x y ≡ t
eqb_is x y true f g = eq-eqb x y (f refl)
eqb_is x y false f g = ne_eqb x y (λ e. let h : false ≡ true = g e in let z : ◌≡◌ {A = ℕ} 0 1 = cc in omega arith)

each_of_four : (P : ℕ → Type 0) → P 0 → P 1 → P 2 → P 3 → (i : ℕ) → i < 4 → P i
each_of_four P a b c d zero h = a
each_of_four P a b c d (suc zero) h = b
each_of_four P a b c d (suc (suc zero)) h = c
each_of_four P a b c d (suc (suc (suc zero))) h = d
each_of_four P a b c d (suc (suc (suc (suc i)))) h = let no : ⊥ = omega arith in absurd no

module _ (s id : List ℕ) (at : ℕ) (room : at + 4 ≤ length s) (whole : 0 + 4 ≤ length id) where
  same_length : length (span s at 4) ≡ length (span id 0 4)
  same_length = length_span s at 4 room ∙ sym (length_span id 0 4 whole)

  -- the same four bytes, one by one, and as spans
  abbrev Same : ℕ → Type 0
  Same i = get_or s (at + i) 0 ≡ get_or id (0 + i) 0

  to_spans : ((i : ℕ) → i < 4 → Same i) → span s at 4 ≡ span id 0 4
  to_spans h =
      ext_get_or 0 (span s at 4) (span id 0 4) same_length
      (λ i l.
      let m : i < 4 = omega (arith, length_span s at 4 room) in
      get_d_span s at 4 i m ∙ h i m ∙ sym (get_d_span id 0 4 i m))

  of_spans : span s at 4 ≡ span id 0 4 → (i : ℕ) → i < 4 → Same i
  of_spans e i l = sym (get_d_span s at 4 i l) ∙ ap (λ (bs : List ℕ). get_or bs i 0) e ∙ get_d_span id 0 4 i l

  from_tests : id_at s at id ≡ true → (i : ℕ) → i < 4 → Same i
  from_tests h =
      let p = both _ _ h in
      let q = both _ _ p.0 in
      let r = both _ _ q.0 in
      each_of_four Same (rw add-zero (eqb-true _ _ r.0)) (eqb-true _ _ r.1) (eqb-true _ _ q.1) (eqb-true _ _ p.1)

  to_tests : ((i : ℕ) → i < 4 → Same i) → id_at s at id ≡ true
  to_tests h =
      let a : get_or s at 0 ≡ get_or id 0 0 = rw add-zero at (h 0 (omega arith)) in
      rw (eq-eqb _ _ a, eq-eqb _ _ (h 1 (omega arith)), eq-eqb _ _ (h 2 (omega arith)), eq-eqb _ _ (h 3 (omega arith)))

  pub id_words : {x y : ℕ} → Bytes s → Bytes id → x ≡ u32_at s at → y ≡ u32_at id 0 → eqb x y ≡ id_at s at id
  id_words {x} {y} b c ex ey =
      ap₂ eqb ex ey
      ∙ eqb_is (u32_at s at) (u32_at id 0) (id_at s at id)
      (λ t. ap le_of (to_spans (from_tests t)))
      (λ e. to_tests (of_spans (one_number (span s at 4) (span id 0 4) (bytes_span s at 4 b) (bytes_span id 0 4 c) same_length e)))
