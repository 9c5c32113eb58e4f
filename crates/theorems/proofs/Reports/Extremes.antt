-- The smallest and the largest double, said at once: it is one of the doubles, comes before each earlier one, and no later one
-- comes before it; and there is no second such point. So it is no greater (no less) than any, and no earlier one is level with it.
use Rattle.std.specs.Prelude.{if◌then◌else◌}
use mathlib.Core.Path.{◌≡◌, refl, sym, ap, subst, ◌∙◌}
use mathlib.Core.Bool.{Bool, true, false, not, ◌&&◌, true≢false, false≢true}
use mathlib.Core.List.{List, [], ◌∷◌, ◌++◌}
use Prim.Native.Nat.{ℕ, ◌+◌}
use native.Mathlib.Omega.{arith}
use lib.Dec.{ltb}
use lib.ListN.{length}
use borrow.Author.Tests.{lt-ltb, le-ltb}
use lib.Ieee.{Float, lt, is_nan}
use Rattle.definitions.specs.Reply.{Reply}
use Rattle.definitions.specs.Channel.{ValidValue}
use Rattle.definitions.specs.Report.{Point, count, is_valid, double_read, is_valid_nan, points, last_point, foremost, smallest, largest, outermost, report_of}
use Rattle.tally.proofs.Ordered.{Le, not_lt_le, below_through, above_through, lt_asym}
use Rattle.theorems.specs.Reports.{All, NoNan, Foremost, above, Level, Ends}
use Rattle.theorems.proofs.Reports.Counts.{valid_counted}

-- ---- all of a list

module _ (P : Point → Type 0) where
  all_right : (xs ys : List Point) → All P (xs ++ ys) → All P ys
  all_right [] ys a = a
  all_right (x ∷ xs) ys a = all_right xs ys a.1

  all_left : (xs ys : List Point) → All P (xs ++ ys) → All P xs
  all_left [] ys a = tt
  all_left (x ∷ xs) ys a = (a.0, all_left xs ys a.1)

  all_both : (xs ys : List Point) → All P xs → All P ys → All P (xs ++ ys)
  all_both [] ys a b = b
  all_both (x ∷ xs) ys a b = (a.0, all_both xs ys a.1 b)

all_map : (P Q : Point → Type 0) → ((x : Point) → NoNan x → P x → Q x) → (xs : List Point) → All NoNan xs → All P xs → All Q xs
all_map P Q f [] n a = tt
all_map P Q f (x ∷ xs) n a = (f x n.0 a.0, all_map P Q f xs n.1 a.1)

-- ---- none of the doubles is a NaN

module _ (k : ℕ) (x : Float) (ps : List Point) (rest : All NoNan ps) where
  no_nan_in : (valid nan : Bool) → is_nan x ≡ nan → All NoNan (if valid && not nan then record { number = k; value = x } ∷ ps else ps)
  no_nan_in true false e = (e, rest)
  no_nan_in true true e = rest
  no_nan_in false nan e = rest

pub none_is_nan : (k : ℕ) (xs : List (Reply ValidValue)) → All NoNan (points k xs)
unfolding points
none_is_nan k [] = tt
none_is_nan k (x ∷ xs) =
    no_nan_in k (double_read x) (points (k + 1) xs) (none_is_nan (k + 1) xs) (is_valid x) (is_nan (double_read x)) refl

-- ---- over an order

module _ (before : Float → Float → Bool)
    (asym : (x y : Float) → before x y ≡ true → before y x ≡ false)
    (through : (x y s : Float) → is_nan x ≡ false → is_nan y ≡ false → is_nan s ≡ false → before y s ≡ true → before x s ≡ false → before y x ≡ true) where
  -- what does not come before r, where r does not come before p, does not come before p
  unbeaten_by : (r p x : Float) → is_nan r ≡ false → is_nan p ≡ false → is_nan x ≡ false → before r p ≡ false → before x r ≡ false → before x p ≡ false
  unbeaten_by r p x nr np nx h k = go (before x p) refl
    where
      go : (b : Bool) → before x p ≡ b → b ≡ false
      go true e = sym (through r x p nr nx np e h) ∙ k
      go false e = refl

  module _ (p r : Point) (ps : List Point) (e : Foremost before ps r) (all : All NoNan ps) (np : NoNan p) where
    parts : All NoNan (e.earlier ++ r ∷ e.later)
    parts = subst (All NoNan) e.one all

    nr : NoNan r
    nr = (all_right NoNan e.earlier (r ∷ e.later) parts).0

    behind : before r.value p.value ≡ true → Foremost before (p ∷ ps) r
    behind h = record {
      earlier = p ∷ e.earlier;
      later = e.later;
      one = ap (λ (l : List Point). p ∷ l) e.one;
      beats = (h, e.beats);
      unbeaten = e.unbeaten;
    }

    abbrev Unbeaten : Point → Type 0
    Unbeaten x = before x.value p.value ≡ false

    none_before : before r.value p.value ≡ false → All Unbeaten (e.earlier ++ r ∷ e.later)
    none_before h =
        all_both Unbeaten e.earlier (r ∷ e.later)
        (all_map _ Unbeaten (λ x n b. unbeaten_by r.value p.value x.value nr np n h (asym r.value x.value b)) e.earlier
        (all_left NoNan e.earlier (r ∷ e.later) parts) e.beats) (
          h,
          all_map _ Unbeaten (λ x n b. unbeaten_by r.value p.value x.value nr np n h b) e.later
              (all_right NoNan e.earlier (r ∷ e.later) parts).1 e.unbeaten,
        )

    in_front : before r.value p.value ≡ false → Foremost before (p ∷ ps) p
    in_front h = record {
      earlier = [];
      later = ps;
      one = refl;
      beats = tt;
      unbeaten = subst (All Unbeaten) (sym e.one) (none_before h);
    }

    one_more : (b : Bool) → before r.value p.value ≡ b → Foremost before (p ∷ ps) (if b then r else p)
    one_more true h = behind h
    one_more false h = in_front h

  foremost_is : (p : Point) (ps : List Point) → All NoNan (p ∷ ps) → Foremost before (p ∷ ps) (foremost before p ps)
  unfolding foremost
  foremost_is p [] a = record {
    earlier = [];
    later = [];
    one = refl;
    beats = tt;
    unbeaten = tt;
  }
  foremost_is p (q ∷ qs) a =
      let r = foremost before q qs in
      one_more p r (q ∷ qs) (foremost_is q qs a.1) a.1 a.0 (before r.value p.value) refl

  -- ---- no second one

  abbrev head_or : Point → List Point → Point
  head_or d [] = d
  head_or d (x ∷ xs) = x

  abbrev tail_of : List Point → List Point
  tail_of [] = []
  tail_of (x ∷ xs) = xs

  -- q comes before p, and stands behind it
  clash : (p q : Point) (xs ys : List Point) → before q.value p.value ≡ true → All (λ x. before x.value p.value ≡ false) (xs ++ q ∷ ys) → p ≡ q
  clash p q xs ys h a =
      absurd (true≢false (sym h ∙ (all_right (λ x. before x.value p.value ≡ false) xs (q ∷ ys) a).0))

  sole_at : (p q : Point) (es fs ls ks : List Point) → es ++ p ∷ ls ≡ fs ++ q ∷ ks
      → All (λ x. before p.value x.value ≡ true) es → All (λ x. before x.value p.value ≡ false) ls
      → All (λ x. before q.value x.value ≡ true) fs → All (λ x. before x.value q.value ≡ false) ks
      → p ≡ q
  sole_at p q [] [] ls ks i a b c d = ap (head_or p) i
  sole_at p q [] (f ∷ fs) ls ks i a b c d =
      clash p q fs ks (subst (λ (z : Point). before q.value z.value ≡ true) (sym (ap (head_or p) i)) c.0)
      (subst (All (λ x. before x.value p.value ≡ false)) (ap tail_of i) b)
  sole_at p q (e ∷ es) [] ls ks i a b c d =
      sym (clash q p es ls (subst (λ (z : Point). before p.value z.value ≡ true) (ap (head_or p) i) a.0)
      (subst (All (λ x. before x.value q.value ≡ false)) (sym (ap tail_of i)) d))
  sole_at p q (e ∷ es) (f ∷ fs) ls ks i a b c d =
      sole_at p q es fs ls ks (ap tail_of i) a.1 b c.1 d

  sole : (ps : List Point) (p q : Point) → Foremost before ps p → Foremost before ps q → p ≡ q
  sole ps p q e f =
      sole_at p q e.earlier f.earlier e.later f.later (sym e.one ∙ f.one) e.beats e.unbeaten f.beats f.unbeaten

  -- ---- none comes before it

  itself : (x : Float) → before x x ≡ false
  itself x = go (before x x) refl
    where
      go : (b : Bool) → before x x ≡ b → b ≡ false
      go true e = sym e ∙ asym x x e
      go false e = refl

  module _ (ps : List Point) (p : Point) (e : Foremost before ps p) (all : All NoNan ps) where
    abbrev NotBefore : Point → Type 0
    NotBefore x = before x.value p.value ≡ false

    cut : All NoNan (e.earlier ++ p ∷ e.later)
    cut = subst (All NoNan) e.one all

    own : NoNan p
    own = (all_right NoNan e.earlier (p ∷ e.later) cut).0

    first_of_all : All NotBefore ps
    first_of_all =
        subst (All NotBefore) (sym e.one)
        (all_both NotBefore e.earlier (p ∷ e.later)
        (all_map _ NotBefore (λ x n b. asym p.value x.value b) e.earlier (all_left NoNan e.earlier (p ∷ e.later) cut) e.beats)
        (itself p.value, e.unbeaten))

-- ---- the smallest

pub smallest_is : (p : Point) (ps : List Point) → All NoNan (p ∷ ps) → Foremost lt (p ∷ ps) (smallest p ps)
smallest_is = foremost_is lt lt_asym below_through

pub smallest_sole : (ps : List Point) (p q : Point) → Foremost lt ps p → Foremost lt ps q → p ≡ q
smallest_sole = sole lt lt_asym below_through

-- no greater than any
pub smallest_least : (ps : List Point) (p : Point) → Foremost lt ps p → All NoNan ps → All (λ x. Le p.value x.value) ps
smallest_least ps p e all =
    all_map _ _ (λ x n b. not_lt_le x.value p.value n (own lt lt_asym below_through ps p e all) b) ps all
    (first_of_all lt lt_asym below_through ps p e all)

-- ---- the largest

above_asym : (x y : Float) → above x y ≡ true → above y x ≡ false
above_asym x y = lt_asym y x

pub largest_is : (p : Point) (ps : List Point) → All NoNan (p ∷ ps) → Foremost above (p ∷ ps) (largest p ps)
largest_is = foremost_is above above_asym above_through

pub largest_sole : (ps : List Point) (p q : Point) → Foremost above ps p → Foremost above ps q → p ≡ q
largest_sole = sole above above_asym above_through

-- no less than any
pub largest_greatest : (ps : List Point) (p : Point) → Foremost above ps p → All NoNan ps → All (λ x. Le x.value p.value) ps
largest_greatest ps p e all =
    all_map _ _ (λ x n b. not_lt_le p.value x.value (own above above_asym above_through ps p e all) n b) ps all
    (first_of_all above above_asym above_through ps p e all)

-- ---- no earlier one is level

pub smallest_earliest : (ps : List Point) (p : Point) (e : Foremost lt ps p) → All NoNan ps → All (λ x. Level x p → ⊥) e.earlier
smallest_earliest ps p e all =
    all_map (λ x. lt p.value x.value ≡ true) (λ x. Level x p → ⊥) (λ x n b l. true≢false (sym b ∙ l.1)) e.earlier
    (all_left NoNan e.earlier (p ∷ e.later) (cut lt lt_asym below_through ps p e all)) e.beats

pub largest_earliest : (ps : List Point) (p : Point) (e : Foremost above ps p) → All NoNan ps → All (λ x. Level x p → ⊥) e.earlier
largest_earliest ps p e all =
    all_map (λ x. lt x.value p.value ≡ true) (λ x. Level x p → ⊥) (λ x n b l. true≢false (sym b ∙ l.0)) e.earlier
    (all_left NoNan e.earlier (p ∷ e.later) (cut above above_asym above_through ps p e all)) e.beats

-- ---- in a report

-- the last of p and those behind it, with all that stand in front of it
last_is : (p : Point) (ps : List Point) → (front : List Point) × (p ∷ ps ≡ front ++ last_point p ps ∷ [])
unfolding last_point
last_is p [] = ([], refl)
last_is p (q ∷ qs) = let r = last_is q qs in (p ∷ r.0, ap (λ (l : List Point). p ∷ l) r.1)

some : (ps : List Point) → (outermost ps).any ≡ true → All NoNan ps → Ends ps (outermost ps)
unfolding outermost
some [] e a = absurd (false≢true e)
some (p ∷ ps) e a = record {
  first = (ps, refl);
  last = last_is p ps;
  smallest = smallest_is p ps a;
  largest = largest_is p ps a;
}

-- where there is any double
pub report_ends : (xs : List (Reply ValidValue)) → (report_of xs).doubles.any ≡ true → Ends (points 0 xs) (report_of xs).doubles
unfolding report_of
report_ends xs any = some (points 0 xs) any (none_is_nan 0 xs)

-- and there is, exactly where not all of the valid ones are NaN
any_by : (ps : List Point) (nan valid : ℕ) → nan + length ps ≡ valid → (outermost ps).any ≡ ltb nan valid
unfolding outermost
any_by [] nan valid e = sym (le-ltb nan valid (omega (arith, e)))
any_by (p ∷ ps) nan valid e = sym (lt-ltb nan valid (omega (arith, e)))

pub report_any : (xs : List (Reply ValidValue)) → (report_of xs).doubles.any ≡ ltb (report_of xs).nan (report_of xs).valid
unfolding report_of
report_any xs = any_by (points 0 xs) (count is_valid_nan xs) (count is_valid xs) (valid_counted 0 xs)
