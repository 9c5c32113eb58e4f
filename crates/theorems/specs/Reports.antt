-- What is said of a report, at once and without its recursion.
use Rattle.std.specs.Prelude.{◌≡◌, Bool, true, false, List, [], ◌∷◌, ◌++◌, ℕ, ◌+◌, ◌^◌, ◌≤◌, ◌<◌, length, get_or, Float}
use Rattle.std.specs.Int.Signed.{mag}
use Rattle.std.specs.Float.Ieee.{lt, is_nan}
use Rattle.definitions.specs.Reply.{Reply, answer, refusal}
use Rattle.definitions.specs.Channel.{Value, ValidValue, unsigned, signed, double, text, bytes, sample, stream, unknown_value}
use Rattle.definitions.specs.Report.{Point, Outermost, is_valid, double_read}

abbrev pub All : {A : Type 0} → (A → Type 0) → List A → Type 0
All P [] = Unit {0}
All P (x ∷ xs) = P x × All P xs

-- ---- the doubles

-- p is what a record gave: its number, and its double, which is valid and no NaN. The first record has number k
pub record Gives (k : ℕ) (xs : List (Reply ValidValue)) (p : Point) : Type 0 where
  pub place : ℕ
  pub one : place < length xs
  pub number : p.number ≡ k + place
  pub valid : is_valid (get_or xs place (refusal 0 0)) ≡ true
  pub value : p.value ≡ double_read (get_or xs place (refusal 0 0))

-- p is one of ps
pub record Among (ps : List Point) (p : Point) : Type 0 where
  pub earlier : List Point
  pub later : List Point
  pub one : ps ≡ earlier ++ p ∷ later

-- in the order of the records, from record k on
abbrev pub Ascending : ℕ → List Point → Type 0
Ascending k [] = Unit {0}
Ascending k (p ∷ ps) = (k ≤ p.number) × Ascending (p.number + 1) ps

-- ---- the outermost of them

abbrev pub NoNan : Point → Type 0
NoNan p = is_nan p.value ≡ false

-- p is one of ps; it comes before each earlier one, and no later one comes before it
pub record Foremost (before : Float → Float → Bool) (ps : List Point) (p : Point) : Type 0 where
  pub earlier : List Point
  pub later : List Point
  pub one : ps ≡ earlier ++ p ∷ later
  pub beats : All (λ x. before p.value x.value ≡ true) earlier
  pub unbeaten : All (λ x. before x.value p.value ≡ false) later

-- the order in which the largest is foremost
abbrev pub above : Float → Float → Bool
above a b = lt b a

-- neither is below the other: as numbers they are the same, and 0 and -0 are
abbrev pub Level : Point → Point → Type 0
Level p q = (lt p.value q.value ≡ false) × (lt q.value p.value ≡ false)

-- the outermost of ps
pub record Ends (ps : List Point) (o : Outermost) : Type 0 where
  pub first : (behind : List Point) × (ps ≡ o.first ∷ behind)
  pub last : (front : List Point) × (ps ≡ front ++ o.last ∷ [])
  pub smallest : Foremost lt ps o.smallest
  pub largest : Foremost above ps o.largest

-- ---- the sum

-- an integer has at most 64 bits
abbrev pub Small : Value → Type 0
Small (unsigned n) = n < 2 ^ 64
Small (signed z) = mag z < 2 ^ 63
Small (double x pattern) = Unit {0}
Small (text at n) = Unit {0}
Small (bytes at n) = Unit {0}
Small (sample at n) = Unit {0}
Small (stream at n) = Unit {0}
Small unknown_value = Unit {0}

abbrev pub SmallRead : Reply ValidValue → Type 0
SmallRead (answer v) = Small v.value
SmallRead (refusal n t) = Unit {0}
