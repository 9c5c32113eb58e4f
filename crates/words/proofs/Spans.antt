-- Spans of a list of bytes, and the numbers that they stand for.
use mathlib.Core.Path.{◌≡◌, refl, sym, ap, ◌∙◌}
use mathlib.Core.List.{List, [], ◌∷◌, ◌++◌, append_assoc}
use Prim.Native.Nat.{ℕ, zero, suc, ◌+◌, ◌-◌, ◌*◌, ◌^◌, ◌≤◌, ◌<◌}
use native.Mathlib.Omega.{arith}
use lib.ListN.{length, take, drop, get_or, length-take, length-drop}
use lib.Seq.{drop-cons, get_or-drop, get_or-take, drop-drop, take_all, take-add, take-append_seam, drop-append_seam}
use Rattle.definitions.specs.Bytes.{Order, little, big, le_of, number_of, span}
use Rattle.words.specs.Sides.{lower, upper}
use Rattle.words.proofs.Numbers.{Bytes, append, below}

bytes_take : (n : ℕ) (xs : List ℕ) → Bytes xs → Bytes (take n xs)
bytes_take zero xs h i = omega arith
bytes_take (suc n) [] h i = omega arith
bytes_take (suc n) (x ∷ xs) h zero = h zero
bytes_take (suc n) (x ∷ xs) h (suc i) = bytes_take n xs (λ j. h (suc j)) i

bytes_drop : (n : ℕ) (xs : List ℕ) → Bytes xs → Bytes (drop n xs)
bytes_drop n xs h i = rw get_or-drop (h (n + i))

pub bytes_span : (s : List ℕ) (p n : ℕ) → Bytes s → Bytes (span s p n)
bytes_span s p n h = bytes_take n (drop p s) (bytes_drop p s h)

pub length_span : (s : List ℕ) (p n : ℕ) → p + n ≤ length s → length (span s p n) ≡ n
length_span s p n h = simp (length-take, length-drop) (omega arith)

pub get_d_span : (s : List ℕ) (p n i : ℕ) → i < n → get_or (span s p n) i 0 ≡ get_or s (p + i) 0
get_d_span s p n i h = rw (get_or-take, get_or-drop)

pub span_one : (s : List ℕ) (p : ℕ) → p < length s → span s p 1 ≡ get_or s p 0 ∷ []
span_one s p h = rw (drop-cons s p 0)

pub span_whole : (s : List ℕ) → span s 0 (length s) ≡ s
span_whole [] = refl
span_whole (x ∷ s) = ap (λ (xs : List ℕ). x ∷ xs) (span_whole s)

-- the bytes from a place to the end
pub span_rest : (s : List ℕ) (p : ℕ) → span s p (length s - p) ≡ drop p s
span_rest s p = take_all (length s - p) (drop p s) (omega (arith, length-drop p s))

-- bytes between others
pub span_middle : (front bs rest : List ℕ) → span (front ++ bs ++ rest) (length front) (length bs) ≡ bs
span_middle front bs rest = rw (append_assoc, drop-append_seam, take-append_seam)

-- a span of n + m bytes is its two parts
pub span_split : (s : List ℕ) (p n m : ℕ) → span s p (n + m) ≡ span s p n ++ span s (p + n) m
span_split s p n m = rw (take-add, drop-drop)

lower_length : (o : Order) (s : List ℕ) (p n m : ℕ) → p + n + m ≤ length s → length (lower o (span s p n) (span s (p + n) m)) ≡ lower o n m
lower_length little s p n m h = length_span s p n (omega arith)
lower_length big s p n m h = length_span s (p + n) m h

-- and so is its number
pub split : (o : Order) (s : List ℕ) (p n m : ℕ) → p + n + m ≤ length s
    → number_of o (span s p (n + m))
    ≡ number_of o (upper o (span s p n) (span s (p + n) m)) * 2 ^ (8 * lower o n m) + number_of o (lower o (span s p n) (span s (p + n) m))
split o s p n m h =
    let x : List ℕ = span s p n in
    let y : List ℕ = span s (p + n) m in
    ap (number_of o) (span_split s p n m) ∙ append o x y
    ∙ ap (λ (k : ℕ). number_of o (upper o x y) * 2 ^ (8 * k) + number_of o (lower o x y)) (lower_length o s p n m h)

-- n bytes are below 2 ^ (8 * n)
pub span_below : (o : Order) (s : List ℕ) (p n : ℕ) → Bytes s → p + n ≤ length s → number_of o (span s p n) < 2 ^ (8 * n)
span_below o s p n b h = rw (length_span s p n h) at (below o (span s p n) (bytes_span s p n b))

-- the number of a span, with its bound
pub bounded : (o : Order) (s : List ℕ) (p n : ℕ) {w : ℕ} → Bytes s → p + n ≤ length s → w ≡ number_of o (span s p n)
    → (w ≡ number_of o (span s p n)) × (w < 2 ^ (8 * n))
bounded o s p n b h e = (e, rw e (span_below o s p n b h))

span_byte : (o : Order) (s : List ℕ) (p : ℕ) → p < length s → number_of o (span s p 1) ≡ get_or s p 0
unfolding le_of
span_byte little s p h = rw (span_one s p h) (omega arith)
span_byte big s p h = rw (span_one s p h) (omega arith)

-- one byte more, above the others: the last, or the first
pub more : (o : Order) (s : List ℕ) (p n : ℕ) → p + n < length s
    → number_of o (span s p (n + 1)) ≡ get_or s (upper o p (p + n)) 0 * 2 ^ (8 * n) + number_of o (span s (lower o p (p + 1)) n)
more little s p n h = rw (split little s p n 1 (omega arith), span_byte little s (p + n) h)
more big s p n h =
    let e : n + 1 ≡ 1 + n = omega arith in
    rw (e, split big s p 1 n (omega arith), span_byte big s p (omega arith))

-- a turn of a loop that reads a byte above the number w of those before it
pub turn : (o : Order) (s : List ℕ) (p n : ℕ) {w r : ℕ} → p + n < length s → w ≡ number_of o (span s (lower o p (p + 1)) n)
    → r ≡ get_or s (upper o p (p + n)) 0 * 2 ^ (8 * n) + w → r ≡ number_of o (span s p (n + 1))
turn o s p n h ew er = er ∙ ap (λ (x : ℕ). get_or s (upper o p (p + n)) 0 * 2 ^ (8 * n) + x) ew ∙ sym (more o s p n h)
