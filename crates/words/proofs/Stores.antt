-- Runs of stores: numbers put into a buffer, and read back or out of one.
use mathlib.Core.Path.{◌≡◌, refl, sym, ap, ap₂, ◌∙◌}
use mathlib.Core.List.{List, ◌++◌, append_assoc, append-nil}
use Prim.Native.Nat.{ℕ, suc, ◌+◌, ◌-◌, ◌*◌, ◌/◌, ◌%◌, ◌^◌, ◌≤◌, ◌<◌}
use native.Mathlib.Numerals.{add-one}
use native.Mathlib.Omega.{arith}
use lib.ListN.{length, take, drop, drop_of_length-le, set, get_or, length-append}
use lib.Seq.{sets, sets-eq, length-sets, drop-cons, take_at, drop_at, drop-drop, length-take-le}
use Rattle.definitions.specs.Bytes.{le_of, le, les, span, u64_at, u64s_at}
use Rattle.definitions.proofs.Stores.{sets_append, sets_then, sets_front}
use Rattle.words.proofs.Numbers.{length_le, length_u64s, le_back}
use Rattle.words.proofs.Spans.{span_middle}
use Rattle.words.proofs.OtherOrder.{le_split}

-- a turn of the loop that stores one byte after another
pub turn_byte : (out : List ℕ) (at i n w : ℕ) → i < n
    → sets (set out (at + i) (w % 256)) (at + (i + 1)) (le (n - (i + 1)) (w / 256)) ≡ sets out (at + i) (le (n - i) w)
unfolding le
turn_byte out at i n w h =
    let e : n - i ≡ suc (n - (i + 1)) = omega arith in
    let f : at + (i + 1) ≡ suc (at + i) = omega arith in
    rw (e, f)

-- a turn of the loop that stores one number after another
pub turn_number : (out xs : List ℕ) (at i : ℕ) {next : List ℕ} → i < length xs → next ≡ sets out (at + i * 8) (le 8 (get_or xs i 0))
    → sets next (at + (i + 1) * 8) (les (drop (i + 1) xs)) ≡ sets out (at + i * 8) (les (drop i xs))
unfolding les
turn_number out xs at i h new =
    let x : ℕ = get_or xs i 0 in
    let e : at + (i + 1) * 8 ≡ at + i * 8 + length (le 8 x) = omega (arith, length_le 8 x) in
    rw (new, e, add-one, drop-cons xs i 0) (sym (sets_append out (at + i * 8) (le 8 x) (les (drop (suc i) xs))))

-- a turn of the loop that reads one number after another
pub turn_read : (s numbers : List ℕ) (at i n x : ℕ) → i < n → x ≡ u64_at s (at + i * 8)
    → sets (set numbers i x) (i + 1) (u64s_at s (at + (i + 1) * 8) (n - (i + 1))) ≡ sets numbers i (u64s_at s (at + i * 8) (n - i))
unfolding u64s_at
turn_read s numbers at i n x h ex =
    let e : n - i ≡ suc (n - (i + 1)) = omega arith in
    let f : at + (i + 1) * 8 ≡ at + i * 8 + 8 = omega arith in
    rw (e, f, add-one, ex)

-- a number for every place
sets_all : (l xs : List ℕ) → length xs ≡ length l → sets l 0 xs ≡ xs
sets_all l xs e =
    let none : length l ≤ length xs = omega arith in
    sets_front l xs (omega arith) ∙ ap (λ (r : List ℕ). xs ++ r) (drop_of_length-le l none) ∙ append-nil xs

-- before the first turn all numbers are left
pub none_read : (s numbers : List ℕ) (at : ℕ) → sets numbers 0 (u64s_at s (at + 0 * 8) (length numbers - 0)) ≡ u64s_at s at (length numbers)
none_read s numbers at =
    let start : at + 0 * 8 ≡ at = omega arith in
    let all : length numbers - 0 ≡ length numbers = omega arith in
    rw (start, all) (sets_all numbers (u64s_at s at (length numbers)) (length_u64s (length numbers) s at))

-- what was stored is there
pub span_sets : (l bs : List ℕ) (at : ℕ) → at + length bs ≤ length l → span (sets l at bs) at (length bs) ≡ bs
span_sets l bs at h =
    rw (sets-eq bs l at h, append_assoc, drop_at (take at l) (bs ++ drop (at + length bs) l) at (length-take-le at l (omega arith)))
    (take_at bs (drop (at + length bs) l) (length bs) refl)

-- and reads back as the number that was put
pub read_back : (l : List ℕ) (at n x : ℕ) → at + n ≤ length l → le_of (span (sets l at (le n x)) at n) ≡ x % 2 ^ (8 * n)
read_back l at n x h =
    let e : length (le n x) ≡ n = length_le n x in
    ap le_of (ap (span (sets l at (le n x)) at) (sym e) ∙ span_sets l (le n x) at (omega arith)) ∙ le_back n x

-- the same of a number between other bytes
pub read_middle : (front rest : List ℕ) (n x : ℕ) → le_of (span (front ++ le n x ++ rest) (length front) n) ≡ x % 2 ^ (8 * n)
read_middle front rest n x =
    let s : List ℕ = front ++ le n x ++ rest in
    ap le_of (ap (span s (length front)) (sym (length_le n x)) ∙ span_middle front (le n x) rest) ∙ le_back n x

-- a second run over the first
module _ (l xs ys : List ℕ) (i : ℕ) (fewer : length xs ≤ length ys) (room : i + length ys ≤ length l) where
  first : sets l i xs ≡ take i l ++ xs ++ drop (i + length xs) l
  first = sets-eq xs l i (omega arith)

  front : length (take i l) ≡ i
  front = length-take-le i l (omega arith)

  before_both : take i (sets l i xs) ≡ take i l
  before_both = ap (take i) (first ∙ append_assoc (take i l) xs (drop (i + length xs) l)) ∙ take_at (take i l) (xs ++ drop (i + length xs) l) i front

  behind_both : drop (i + length ys) (sets l i xs) ≡ drop (i + length ys) l
  behind_both =
      let more : ℕ = length ys - length xs in
      let e : i + length ys ≡ i + length xs + more = omega arith in
      let behind : drop (i + length xs) (sets l i xs) ≡ drop (i + length xs) l =
      ap (drop (i + length xs)) first
      ∙ drop_at (take i l ++ xs) (drop (i + length xs) l) (i + length xs) (length-append (take i l) xs ∙ ap (λ (k : ℕ). k + length xs) front) in
      rw e (sym (drop-drop more (i + length xs) (sets l i xs)) ∙ ap (drop more) behind ∙ drop-drop more (i + length xs) l)

  pub sets_again : sets (sets l i xs) i ys ≡ sets l i ys
  sets_again =
      sets-eq ys (sets l i xs) i (rw (length-sets l i xs) room)
      ∙ ap₂ (λ (a b : List ℕ). a ++ ys ++ b) before_both behind_both ∙ sym (sets-eq ys l i room)

-- n bytes by two stores of `size` bytes, of which the second ends with them
pub stored_twice : (l : List ℕ) (at n size x : ℕ) {once twice : List ℕ} → size ≤ n → n ≤ 2 * size → at + n ≤ length l
    → once ≡ sets l at (le size x) → twice ≡ sets once (at + (n - size)) (le size (x / 2 ^ (8 * (n - size)))) → twice ≡ sets l at (le n x)
stored_twice l at n size x some few room eo et =
    let more : ℕ = n - size in
    let both : ℕ = 2 * size - n in
    let y : ℕ = x / 2 ^ (8 * more) in
    let done : List ℕ = sets l at (le more x) in
    let first : le size x ≡ le more x ++ le both y = ap (λ (k : ℕ). le k x) {x = size} {y = more + both} (omega arith) ∙ le_split more both x in
    let whole : le n x ≡ le more x ++ le size y = ap (λ (k : ℕ). le k x) {x = n} {y = more + size} (omega arith) ∙ le_split more size x in
    let there : at + more ≡ at + length (le more x) = omega (arith, length_le more x) in
    et
    ∙ ap (λ (o : List ℕ). sets o (at + more) (le size y))
    (eo ∙ ap (sets l at) first ∙ sym (sets_then l at (at + more) (le more x) (le both y) there))
    ∙ sets_again done (le both y) (le size y) (at + more) (omega (arith, length_le both y, length_le size y))
    (omega (arith, length-sets l at (le more x), length_le size y))
    ∙ sets_then l at (at + more) (le more x) (le size y) there ∙ ap (sets l at) (sym whole)
