-- The outermost of the points, and one more behind them, as a tally keeps them.
use Rattle.std.specs.Prelude.{if◌then◌else◌}
use Rattle.std.proofs.Common.{◌≡◌, ℕ, suc, ◌+◌, ◌≤◌, Bool, true, false, eqb, List, [], ◌∷◌, ◌++◌, refl, ap, ◌∙◌, add-one, arith, ne_eqb}
use lib.Dec.{eqb-suc-suc}
use lib.Ieee.{lt}
use Rattle.definitions.specs.Report.{Point, Outermost, foremost, last_point, outermost}
use Rattle.fields.specs.declared.form.Number.{Number}
use Rattle.tally.specs.Words.{value_at}
use Rattle.tally.specs.declared.tally.Mark.{Mark}
use Rattle.tally.specs.declared.tally.Tally.{Tally}
use Rattle.tally.specs.Tallies.{smaller_mark, larger_mark, nan_tally, marked_tally, point_at, outermost_in}
use Rattle.tally.proofs.Foremost.{Numeral, Numerals, last_more, smallest_more, largest_more}

abbrev smaller : Point → Point → Point
smaller p q = if lt q.value p.value then q else p

abbrev larger : Point → Point → Point
larger p q = if lt p.value q.value then q else p

-- with one point more
abbrev pub with_point : Outermost → Point → Outermost
with_point o q =
    if o.any
    then record { any = true; first = o.first; last = q; smallest = smaller o.smallest q; largest = larger o.largest q }
    else record { any = true; first = q; last = q; smallest = q; largest = q }

pub outermost_more : (ps : List Point) (q : Point) → Numerals ps → Numeral q → outermost (ps ++ q ∷ []) ≡ with_point (outermost ps) q
unfolding outermost Numerals foremost last_point
outermost_more [] q ns nq = refl
outermost_more (p ∷ ps) q ns nq = rw (last_more p ps q, smallest_more p ps q ns.0 ns.1 nq, largest_more p ps q ns.0 ns.1 nq) refl

-- ---- the marks of a tally

chosen : (n : Number) (earlier later : Mark) (t : Bool) → point_at n (if t then later else earlier) ≡ if t then point_at n later else point_at n earlier
chosen n earlier later true = refl
chosen n earlier later false = refl

module _ (n : Number) (earlier later : Mark) where
  smaller_point : point_at n (smaller_mark n earlier later) ≡ smaller (point_at n earlier) (point_at n later)
  smaller_point = chosen n earlier later (lt (value_at n later.word) (value_at n earlier.word))

  larger_point : point_at n (larger_mark n earlier later) ≡ larger (point_at n earlier) (point_at n later)
  larger_point = chosen n earlier later (lt (value_at n earlier.word) (value_at n later.word))

one_more_differs : (valid nan : ℕ) → nan ≤ valid → valid + 1 ≡ nan → ⊥
one_more_differs valid nan l e = omega arith

module _ (n : Number) (t : Tally) (word : ℕ) (l : t.nan ≤ t.valid) where
  abbrev mark : Mark
  mark = record { number = t.records; word = word }

  any : eqb (t.valid + 1) t.nan ≡ false
  any = ne_eqb (t.valid + 1) t.nan (one_more_differs t.valid t.nan l)

  marked_go : (b : Bool) → eqb t.valid t.nan ≡ b → outermost_in n (marked_tally n t word) ≡ with_point (outermost_in n t) (point_at n mark)
  marked_go true e = rw (any, e) refl
  marked_go false e = rw (any, e) (rw (smaller_point n t.smallest mark, larger_point n t.largest mark) refl)

  pub marked_outermost : outermost_in n (marked_tally n t word) ≡ with_point (outermost_in n t) (point_at n mark)
  marked_outermost = marked_go (eqb t.valid t.nan) refl

pub nan_outermost : (n : Number) (t : Tally) → outermost_in n (nan_tally t) ≡ outermost_in n t
nan_outermost n t = rw both refl
  where
    both : eqb (t.valid + 1) (t.nan + 1) ≡ eqb t.valid t.nan
    both = ap (λ (x : ℕ). eqb x (t.nan + 1)) (add-one t.valid) ∙ ap (eqb (suc t.valid)) (add-one t.nan) ∙ eqb-suc-suc t.valid t.nan
