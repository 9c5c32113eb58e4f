-- Records visited in turn, for every state and every visit.
use mathlib.Core.Path.{◌≡◌, refl, sym, ap, ap₂, ◌∙◌}
use mathlib.Core.List.{List, [], ◌++◌, append_assoc, append-nil}
use Prim.Native.Nat.{ℕ, zero, suc, ◌+◌, ◌-◌, ◌*◌, ◌/◌, ◌≤◌, ◌<◌}
use native.Mathlib.Omega.{arith}
use native.Mathlib.Nat.{suc-mul, add-mul, zero-mul, add-suc, mul-add-div_right, div-eq_of_lt, lt-div-mul-add, div-mul-le_self}
use native.Mathlib.Numerals.{add-one}
use lib.ListN.{length, take, drop, length-append, length-drop, take-append-drop, drop_of_length-le}
use lib.Seq.{take_all, take-append-le, drop-append-le, drop-append-add, take_at, length-take-le}
use Rattle.definitions.specs.Bytes.{span}
use Rattle.records.specs.Window.{overwritten}
use Rattle.report.specs.Visits.{seen, Held}

module _ {S : Type 0} (v : S → List ℕ → S) (size : ℕ) where
  -- ---- one record more

  pub seen_none : (s : S) (l : List ℕ) → s ≡ seen v size s l 0
  unfolding seen
  seen_none s l = refl

  pub seen_turn : (s t u : S) (l r : List ℕ) (k : ℕ) → t ≡ seen v size s l k → r ≡ span l (k * size) size → u ≡ v t r → u ≡ seen v size s l (k + 1)
  unfolding seen
  seen_turn s t u l r k et er eu = eu ∙ ap₂ v et er ∙ sym (ap (seen v size s l) (add-one k))

  -- one record alone
  pub seen_one : (s t : S) (l : List ℕ) → length l ≡ size → t ≡ seen v size s l 1 → t ≡ v s l
  unfolding seen
  seen_one s t l e et = et ∙ ap (v s) (ap (λ (i : ℕ). span l i size) (zero-mul size) ∙ take_all size l (omega arith))

  -- ---- more bytes

  -- what stands behind k records is not seen
  seen_prefix : (s : S) (x l : List ℕ) (k : ℕ) → k * size ≤ length x → seen v size s (x ++ l) k ≡ seen v size s x k
  unfolding seen
  seen_prefix s x l zero h = refl
  seen_prefix s x l (suc k) h =
      let e : suc k * size ≡ k * size + size = suc-mul k size in
      let r : k * size ≤ length x = omega arith in
      let m : size ≤ length (drop (k * size) x) = omega (arith, length-drop (k * size) x) in
      ap₂ v (seen_prefix s x l k r)
      (ap (take size) (drop-append-le (k * size) x l r) ∙ take-append-le size (drop (k * size) x) l m)

  -- m whole records, and then n more
  seen_append : (s : S) (x l : List ℕ) (m : ℕ) → length x ≡ m * size → (n : ℕ) → seen v size s (x ++ l) (m + n) ≡ seen v size (seen v size s x m) l n
  unfolding seen
  seen_append s x l m h zero =
      let z : m + 0 ≡ m = omega arith in
      ap (seen v size s (x ++ l)) z ∙ seen_prefix s x l m (omega arith)
  seen_append s x l m h (suc n) =
      let e : (m + n) * size ≡ length x + n * size = add-mul m n size ∙ ap (λ (i : ℕ). i + n * size) (sym h) in
      ap (seen v size s (x ++ l)) (add-suc m n)
      ∙ ap₂ v (seen_append s x l m h n)
      (ap (λ (i : ℕ). take size (drop i (x ++ l))) e ∙ ap (take size) (drop-append-add x l (n * size)))

  -- ---- a reader's states

  pub held_start : 0 < size → (s : S) (buf : List ℕ) → Held v size s [] buf s 0
  unfolding seen
  held_start z s buf = record {
    k = 0;
    state = refl;
    long = sym (ap (λ (i : ℕ). i + 0) (zero-mul size));
    small = z;
    kept = sym (drop_of_length-le {A = ℕ} [] {i = 0 * size} (omega arith));
  }

  module _ (s t u : S) (j buf part buf' : List ℕ) (fill fill' : ℕ) where
    -- a part is read behind what was read
    pub held_turn : Held v size s j buf t fill → Held v size t (take fill buf ++ part) buf' u fill' → Held v size s (j ++ part) buf' u fill'
    held_turn a b =
        let x : List ℕ = take (a.k * size) j in
        let l : List ℕ = take fill buf ++ part in
        let c : a.k * size ≤ length j = omega (arith, a.long) in
        let lx : length x ≡ a.k * size = length-take-le (a.k * size) j c in
        let whole : j ++ part ≡ x ++ l =
        ap (λ (i : List ℕ). i ++ part) (sym (take-append-drop (a.k * size) j)) ∙ append_assoc x (drop (a.k * size) j) part ∙ ap (λ (i : List ℕ). x ++ (i ++ part)) (sym a.kept) in
        let front : seen v size s j a.k ≡ seen v size s x a.k =
        ap (λ (i : List ℕ). seen v size s i a.k) (sym (take-append-drop (a.k * size) j)) ∙ seen_prefix s x (drop (a.k * size) j) a.k (omega arith) in
        let e : (a.k + b.k) * size ≡ length x + b.k * size = add-mul a.k b.k size ∙ ap (λ (i : ℕ). i + b.k * size) (sym lx) in
        let ll : length (x ++ l) ≡ length x + length l = length-append x l in
        let lb : length l ≡ b.k * size + fill' = b.long in
        record {
          k = a.k + b.k;
          state = b.state ∙ ap (λ (i : S). seen v size i l b.k) (a.state ∙ front) ∙ sym (seen_append s x l a.k lx b.k) ∙ ap (λ (i : List ℕ). seen v size s i (a.k + b.k)) (sym whole);
          long = ap length whole ∙ omega arith;
          small = b.small;
          kept = b.kept ∙ sym (ap₂ (λ (i : ℕ) (y : List ℕ). drop i y) e whole ∙ drop-append-add x l (b.k * size));
        }

  -- a part that begins with a record
  held_whole : 0 < size → (s t : S) (l buf : List ℕ) (n fill : ℕ) → n ≡ length l / size → t ≡ seen v size s l n → fill ≡ length l - n * size
      → take fill buf ≡ drop (n * size) l → Held v size s l buf t fill
  held_whole z s t l buf n fill en et ef ek =
      let a : n * size ≤ length l = rw en (div-mul-le_self (length l) size) in
      let b : length l < n * size + size = rw en (lt-div-mul-add {a = length l} {b = size} z) in
      record { k = n; state = et; long = omega arith; small = omega arith; kept = ek }

  -- a part that does not fill the record up
  held_more : (s : S) (l buf : List ℕ) (fill : ℕ) → length l ≡ fill → fill < size → take fill buf ≡ l → Held v size s l buf s fill
  unfolding seen
  held_more s l buf fill e z h = record { k = 0; state = refl; long = omega (arith, zero-mul size); small = z; kept = h ∙ ap (λ (i : ℕ). drop i l) (sym (zero-mul size)) }

  -- one record, and no more
  held_one : 0 < size → (s t : S) (l buf : List ℕ) → t ≡ v s l → length l ≡ size → Held v size s l buf t 0
  unfolding seen
  held_one z s t l buf et e =
      let whole : span l (0 * size) size ≡ l = ap (λ (i : ℕ). span l i size) (zero-mul size) ∙ take_all size l (omega arith) in
      record {
        k = 1;
        state = et ∙ ap (v s) (sym whole);
        long = omega arith;
        small = z;
        kept = sym (drop_of_length-le l {i = 1 * size} (omega arith));
      }

  -- all is read
  pub held_end : 0 < size → (s t : S) (j buf : List ℕ) (fill : ℕ) → Held v size s j buf t fill → t ≡ seen v size s j (length j / size)
  held_end z s t j buf fill a =
      let d : length j / size ≡ a.k = ap (λ (i : ℕ). i / size) a.long ∙ mul-add-div_right z a.k fill ∙ ap (λ (i : ℕ). a.k + i) (div-eq_of_lt a.small) ∙ omega arith in
      a.state ∙ ap (seen v size s j) (sym d)

  -- no more records than bytes
  pub held_few : 0 < size → (s t : S) (j buf : List ℕ) (fill : ℕ) → (h : Held v size s j buf t fill) → h.k ≤ length j
  held_few z s t j buf fill a =
      let m : a.k * 1 ≤ a.k * size = native.Mathlib.Nat.mul-le-mul_left a.k z in
      omega (arith, a.long)

-- ---- what a copy leaves in the buffer

-- the front of d, and c behind it
overwritten_take : (d : List ℕ) (g : ℕ) (c : List ℕ) → g + length c ≤ length d → take (g + length c) (overwritten d g c) ≡ take g d ++ c
unfolding overwritten
overwritten_take d g c h =
    let e : take (length d - g) c ≡ c = take_all (length d - g) c (omega arith) in
    let lt : length (take g d) ≡ g = length-take-le g d (omega arith) in
    let lc : length (take g d ++ c) ≡ g + length c = length-append (take g d) c ∙ ap (λ (i : ℕ). i + length c) lt in
    ap (λ (i : List ℕ). take (g + length c) (take g d ++ i ++ drop (g + length c) d)) e
    ∙ take_at (take g d ++ c) (drop (g + length c) d) (g + length c) lc

-- where c goes as far as d or further
overwritten_full : (d : List ℕ) (g : ℕ) (c : List ℕ) → length d ≤ g + length c → overwritten d g c ≡ take g d ++ take (length d - g) c
unfolding overwritten
overwritten_full d g c h =
    ap (λ (i : List ℕ). take g d ++ take (length d - g) c ++ i) (drop_of_length-le d {i = g + length c} h)
    ∙ append-nil (take g d ++ take (length d - g) c)

-- ---- a part is fed

module _ {S : Type 0} (v : S → List ℕ → S) (size : ℕ) where
  pub whole_fed : (s t : S) (part buf buf' tail : List ℕ) (n end : ℕ) → 0 < size → length buf ≡ size → n ≡ length part / size → end ≡ n * size
      → t ≡ seen v size s part n → tail ≡ drop end part → buf' ≡ overwritten buf 0 tail → Held v size s part buf' t (length part - end)
  whole_fed s t part buf buf' tail n end z lb en ee et el eb =
      let b : length part < n * size + size = rw en (lt-div-mul-add {a = length part} {b = size} z) in
      let ld : length tail ≡ length part - end = ap length el ∙ length-drop end part in
      let m : length part - end ≡ 0 + length tail = omega arith in
      let front : take (length part - end) buf' ≡ drop end part =
      ap (λ (i : ℕ). take i buf') m ∙ ap (take (0 + length tail)) eb ∙ overwritten_take buf 0 tail (omega arith) ∙ el in
      held_whole v size z s t part buf' n (length part - end) en et (ap (λ (i : ℕ). length part - i) ee) (front ∙ ap (λ (i : ℕ). drop i part) ee)

  pub more_fed : (s : S) (buf buf' part : List ℕ) (fill : ℕ) → length buf ≡ size → fill < size → length part < size - fill
      → buf' ≡ overwritten buf fill part → Held v size s (take fill buf ++ part) buf' s (fill + length part)
  more_fed s buf buf' part fill lb lf lp h =
      let lt : length (take fill buf) ≡ fill = length-take-le fill buf (omega arith) in
      held_more v size s (take fill buf ++ part) buf' (fill + length part)
      (length-append (take fill buf) part ∙ ap (λ (i : ℕ). i + length part) lt) (omega arith)
      (ap (take (fill + length part)) h ∙ overwritten_take buf fill part (omega arith))

  pub cut_fed : (s t u : S) (buf buf₁ buf₂ part rest : List ℕ) (fill fill' : ℕ) → 0 < size → length buf ≡ size → fill < size → size - fill ≤ length part
      → buf₁ ≡ overwritten buf fill part → length buf₁ ≡ size → t ≡ v s buf₁ → rest ≡ drop (size - fill) part → Held v size t rest buf₂ u fill'
      → Held v size s (take fill buf ++ part) buf₂ u fill'
  cut_fed s t u buf buf₁ buf₂ part rest fill fill' z lb lf lp h l₁ e er g =
      let full : buf₁ ≡ take fill buf ++ take (size - fill) part =
      h ∙ overwritten_full buf fill part (omega arith) ∙ ap (λ (i : ℕ). take fill buf ++ take (i - fill) part) lb in
      let whole : buf₁ ++ rest ≡ take fill buf ++ part =
      ap₂ (λ (i x : List ℕ). i ++ x) full er ∙ append_assoc (take fill buf) (take (size - fill) part) (drop (size - fill) part)
      ∙ ap (λ (i : List ℕ). take fill buf ++ i) (take-append-drop (size - fill) part) in
      let r : Held v size s (buf₁ ++ rest) buf₂ u fill' =
      held_turn v size s t u buf₁ [] rest buf₂ 0 fill' (held_one v size z s t buf₁ [] e l₁) g in
      rw whole at r

-- what a slice from `at` on has
pub rest_is : (l : List ℕ) (at : ℕ) → take (length l - at) (drop at l) ≡ drop at l
rest_is l at = take_all (length l - at) (drop at l) (omega (arith, length-drop at l))
