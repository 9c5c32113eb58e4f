-- The bytes of a number in either order.
use mathlib.Core.Path.{◌≡◌, sym, ap, ap₂, ◌∙◌}
use mathlib.Core.List.{List, [], ◌∷◌, ◌++◌, reverse, reverse-append, reverse-reverse}
use Prim.Native.Nat.{ℕ, ◌+◌, ◌-◌, ◌*◌, ◌/◌, ◌%◌, ◌^◌, ◌≤◌, ◌<◌}
use native.Mathlib.Nat.{mod-eq_of_lt}
use native.Mathlib.Omega.{arith}
use lib.ListN.{length, take, length-append, length-reverse}
use lib.Seq.{take_at}
use lib.Arith.{digits_lt}
use Rattle.definitions.specs.Bytes.{Order, little, big, le_of, number_of, le, bytes_of}
use Rattle.words.proofs.Numbers.{Bytes, append, bytes_append, bytes_cons, bytes_reverse, length_le, bytes_le, le_back, back_le, one_number}
use Rattle.words.proofs.OtherOrder.{le_split}
use Rattle.words.proofs.Shifts.{keep}

pub length_of : (o : Order) (n x : ℕ) → length (bytes_of o n x) ≡ n
length_of little n x = length_le n x
length_of big n x = length-reverse (le n x) ∙ length_le n x

pub bytes_of_law : (o : Order) (n x : ℕ) → Bytes (bytes_of o n x)
bytes_of_law little n x = bytes_le n x
bytes_of_law big n x = bytes_reverse (le n x) (bytes_le n x)

-- a number that fits into n bytes is theirs
le_same : (n x : ℕ) → x < 2 ^ (8 * n) → le_of (le n x) ≡ x
le_same n x h = le_back n x ∙ mod-eq_of_lt h

pub number_back_law : (o : Order) (n x : ℕ) → x < 2 ^ (8 * n) → number_of o (bytes_of o n x) ≡ x
number_back_law little n x h = le_same n x h
number_back_law big n x h = ap le_of (reverse-reverse (le n x)) ∙ le_same n x h

-- the lowest bytes are the first ones
le_front : (n m x : ℕ) → take n (le (n + m) x) ≡ le n x
le_front n m x = ap (take n) (le_split n m x) ∙ take_at (le n x) (le m (x / 2 ^ (8 * n))) n (length_le n x)

-- n bytes at the top of a word are the lower ones of the swapped word
pub turned_round : (n x : ℕ) {top swapped : ℕ} → n ≤ 8 → x < 2 ^ (8 * n) → top ≡ (x * 2 ^ (64 - 8 * n)) % 2 ^ 64 → swapped ≡ number_of big (le 8 top)
    → le n swapped ≡ bytes_of big n x
turned_round n x {top} {swapped} few fits et es =
    let m : ℕ = 8 - n in
    let above : top / 2 ^ (8 * m) ≡ x =
    ap (λ (k : ℕ). top / 2 ^ k) {x = 8 * m} {y = 64 - 8 * n} (omega arith) ∙ ap (λ (y : ℕ). y / 2 ^ (64 - 8 * n)) et ∙ keep x (8 * n) (omega arith) ∙ mod-eq_of_lt fits in
    let parts : le 8 top ≡ le m top ++ le n x =
    ap (λ (k : ℕ). le k top) {x = 8} {y = m + n} (omega arith) ∙ le_split m n top ∙ ap (λ (y : ℕ). le m top ++ le n y) above in
    let round : reverse (le 8 top) ≡ bytes_of big n x ++ reverse (le m top) = ap reverse parts ∙ reverse-append (le m top) (le n x) in
    let eight : length (reverse (le 8 top)) ≡ 8 = length-reverse (le 8 top) ∙ length_le 8 top in
    let again : le 8 swapped ≡ reverse (le 8 top) =
    ap₂ le (sym eight) es ∙ back_le (reverse (le 8 top)) (bytes_reverse (le 8 top) (bytes_le 8 top)) in
    sym (le_front n m swapped) ∙ ap (λ (k : ℕ). take n (le k swapped)) {x = n + m} {y = 8} (omega arith) ∙ ap (take n) (again ∙ round)
    ∙ take_at (bytes_of big n x) (reverse (le m top)) n (length_of big n x)

-- ---- nine bytes

-- some bytes, and those that weigh more at their end
abbrev pub with_top : Order → List ℕ → List ℕ → List ℕ
with_top little top bs = bs ++ top
with_top big top bs = top ++ bs

single : (b : ℕ) → le_of (b ∷ []) ≡ b
unfolding le_of
single b = omega arith

-- eight bytes and one more that weighs most
nine : (byte word : ℕ) → byte < 256 → word < 2 ^ 64 → le 9 (byte * 2 ^ 64 + word) ≡ le 8 word ++ (byte ∷ [])
nine byte word hb hw =
    one_number (le 9 (byte * 2 ^ 64 + word)) (le 8 word ++ (byte ∷ [])) (bytes_le 9 (byte * 2 ^ 64 + word))
    (bytes_append (le 8 word) (byte ∷ []) (bytes_le 8 word) (bytes_cons byte [] hb (λ i. omega arith)))
    (length_le 9 (byte * 2 ^ 64 + word) ∙ sym (length-append (le 8 word) (byte ∷ []) ∙ ap (λ (k : ℕ). k + 1) (length_le 8 word)))
    (le_same 9 (byte * 2 ^ 64 + word) (digits_lt {q = byte} {m = 2 ^ 8} {r = word} {c = 2 ^ 64} hb hw)
    ∙ sym
    (append little (le 8 word) (byte ∷ []) ∙ ap₂ (λ (k y : ℕ). le_of (byte ∷ []) * 2 ^ (8 * k) + y) (length_le 8 word) (le_same 8 word hw)
    ∙ ap (λ (y : ℕ). y * 2 ^ 64 + word) (single byte)))

pub nine_bytes : (o : Order) (byte word : ℕ) → byte < 256 → word < 2 ^ 64
    → bytes_of o 9 (byte * 2 ^ 64 + word) ≡ with_top o (byte ∷ []) (bytes_of o 8 word)
nine_bytes little byte word hb hw = nine byte word hb hw
nine_bytes big byte word hb hw = ap reverse (nine byte word hb hw) ∙ reverse-append (le 8 word) (byte ∷ [])
