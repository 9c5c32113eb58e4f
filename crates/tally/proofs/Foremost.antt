-- One point more behind the others: it comes first only where it is before the one that did.
use Rattle.std.specs.Prelude.{if◌then◌else◌}
use Rattle.std.proofs.Common.{◌≡◌, Bool, true, false, List, [], ◌∷◌, ◌++◌, sym, refl, ap, ◌∙◌, true≢false}
use lib.Ieee.{Float, lt, is_nan}
use Rattle.definitions.specs.Report.{Point, last_point, foremost, smallest, largest}
use Rattle.tally.proofs.Ordered.{below_through, above_through, lt_asym}

-- a point is no NaN
abbrev pub Numeral : Point → Type 0
Numeral p = is_nan p.value ≡ false

unfoldable pub Numerals : List Point → Type 0
Numerals [] = Unit {0}
Numerals (p ∷ ps) = Numeral p × Numerals ps

pub last_more : (p : Point) (ps : List Point) (q : Point) → last_point p (ps ++ q ∷ []) ≡ q
unfolding last_point
last_more p [] q = refl
last_more p (r ∷ rs) q = last_more r rs q

module _ (before : Float → Float → Bool)
    (asym : (x y : Float) → before x y ≡ true → before y x ≡ false)
    (through : (x y s : Float) → is_nan x ≡ false → is_nan y ≡ false → is_nan s ≡ false → before y s ≡ true → before x s ≡ false → before y x ≡ true) where
  -- of an earlier one and a later one
  abbrev earliest : Point → Point → Point
  earliest p q = if before q.value p.value then q else p

  foremost_numeral : (p : Point) (ps : List Point) → Numeral p → Numerals ps → Numeral (foremost before p ps)
  unfolding foremost Numerals
  foremost_numeral p [] a b = a
  foremost_numeral p (q ∷ qs) a b = go (before (foremost before q qs).value p.value) (foremost_numeral q qs b.0 b.1)
    where
      go : (t : Bool) → Numeral (foremost before q qs) → Numeral (if t then foremost before q qs else p)
      go true n = n
      go false n = a

  module _ (p f q : Point) (np : Numeral p) (nf : Numeral f) (nq : Numeral q) where
    before_both : before q.value f.value ≡ true → before f.value p.value ≡ true → before q.value p.value ≡ true
    before_both h k = through p.value q.value f.value np nq nf h (asym f.value p.value k)

    before_neither : before q.value f.value ≡ false → before f.value p.value ≡ false → before q.value p.value ≡ false
    before_neither h k = go (before q.value p.value) refl
      where
        go : (t : Bool) → before q.value p.value ≡ t → t ≡ false
        go false e = refl
        go true e = absurd (true≢false (sym (through f.value q.value p.value nf nq np e k) ∙ h))

    -- p, then f, then q
    regrouped : (s t : Bool) → before q.value f.value ≡ s → before f.value p.value ≡ t → earliest p (earliest f q) ≡ earliest (earliest p f) q
    regrouped true true h k = rw (h, k) (rw (h, before_both h k) refl)
    regrouped true false h k = rw (h, k) refl
    regrouped false true h k = rw (h, k) (rw h refl)
    regrouped false false h k = rw (h, k) (rw (before_neither h k) refl)

  more : (p : Point) (ps : List Point) (q : Point) → Numeral p → Numerals ps → Numeral q
      → foremost before p (ps ++ q ∷ []) ≡ earliest (foremost before p ps) q
  unfolding foremost Numerals
  more p [] q np ns nq = refl
  more p (r ∷ rs) q np ns nq =
      ap (earliest p) (more r rs q ns.0 ns.1 nq)
      ∙ regrouped p (foremost before r rs) q np (foremost_numeral r rs ns.0 ns.1) nq (before q.value (foremost before r rs).value) (before (foremost before r rs).value p.value) refl refl

module _ (p : Point) (ps : List Point) (q : Point) (np : Numeral p) (ns : Numerals ps) (nq : Numeral q) where
  pub smallest_more : smallest p (ps ++ q ∷ []) ≡ if lt q.value (smallest p ps).value then q else smallest p ps
  smallest_more = more lt lt_asym below_through p ps q np ns nq

  pub largest_more : largest p (ps ++ q ∷ []) ≡ if lt (largest p ps).value q.value then q else largest p ps
  largest_more = more (λ a b. lt b a) (λ x y. lt_asym y x) above_through p ps q np ns nq
