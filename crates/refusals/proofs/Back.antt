-- The meaning is one-to-one: from its number and what it tells the refusal comes back.
use mathlib.Core.Path.{◌≡◌, refl, sym, ap, ap₂, ◌∙◌}
use mathlib.Core.List.{List, [], ◌∷◌}
use Prim.Native.Nat.{ℕ}
use native.Mathlib.Omega.{arith}
use lib.ListN.{get_or}
use Rattle.std.specs.Prelude.{Result, Ok, Err}
use Rattle.definitions.specs.Reply.{Reply, answer, refusal}
use Rattle.definitions.proofs.Replies.{one_by}
use Rattle.refusals.specs.Meaning.{refusal_number, told_of, replied}
use Rattle.refusals.specs.declared.Refusal.{Refusal}
use Rattle.refusals.specs.declared.Refusal.TheVariants.{TooFewBytes, OtherId, NoLinks, UnwritableList, NoRoom, FileTooLong, TooManyLists, TooManyFragments, ListDisagrees, NoBlockThere, BadDataBlock, UntrueDeclaration, BadRecordSize, NoSuchRecord, TooFewLinks, NoBits, BadBitOffset, IntegerTooWide, FieldOutside, BadFloatWidth, PayloadOutside, DoesNotFit, OtherKind, TooManyChannels, NoFixedNumber, OtherLength, BitOutside, TableFull, TableEmpty, BadTable, NoNumberChannel, NoPosition}

-- the refusals by their numbers, where they tell t; no refusal has 0, 1, 14 or 34
abbrev pub numbered : ℕ → List Refusal
numbered t =
    OtherId ∷ OtherId ∷ TooFewBytes t ∷ OtherId ∷ NoLinks ∷ UnwritableList ∷ NoRoom t ∷ FileTooLong ∷ TooManyLists
    ∷ TooManyFragments ∷ ListDisagrees ∷ NoBlockThere ∷ BadDataBlock ∷ UntrueDeclaration ∷ OtherId ∷ BadRecordSize
    ∷ NoSuchRecord ∷ TooFewLinks ∷ NoBits ∷ BadBitOffset ∷ IntegerTooWide ∷ FieldOutside t ∷ BadFloatWidth ∷ PayloadOutside
    ∷ DoesNotFit ∷ OtherKind ∷ TooManyChannels ∷ NoFixedNumber t ∷ OtherLength ∷ BitOutside
    ∷ TableFull ∷ TableEmpty ∷ BadTable ∷ NoNumberChannel ∷ OtherId ∷ NoPosition ∷ []

abbrev pub refusal_of : ℕ → ℕ → Refusal
refusal_of n t = get_or (numbered t) n OtherId

pub back : (r : Refusal) → refusal_of (refusal_number r) (told_of r) ≡ r
back (TooFewBytes n) = refl
back OtherId = refl
back NoLinks = refl
back UnwritableList = refl
back (NoRoom n) = refl
back FileTooLong = refl
back TooManyLists = refl
back TooManyFragments = refl
back ListDisagrees = refl
back NoBlockThere = refl
back BadDataBlock = refl
back UntrueDeclaration = refl
back BadRecordSize = refl
back NoSuchRecord = refl
back TooFewLinks = refl
back NoBits = refl
back BadBitOffset = refl
back IntegerTooWide = refl
back (FieldOutside n) = refl
back BadFloatWidth = refl
back PayloadOutside = refl
back DoesNotFit = refl
back OtherKind = refl
back TooManyChannels = refl
back (NoFixedNumber place) = refl
back OtherLength = refl
back BitOutside = refl
back TableFull = refl
back TableEmpty = refl
back BadTable = refl
back NoNumberChannel = refl
back NoPosition = refl

pub one : (a b : Refusal) → refusal_number a ≡ refusal_number b → told_of a ≡ told_of b → a ≡ b
one a b p q = sym (back a) ∙ ap₂ refusal_of p q ∙ back b

-- a number that is no refusal's in that list has none
unnumbered : (n : ℕ) → ((t : ℕ) → refusal_of n t ≡ OtherId) → (n ≡ 3 → ⊥) → (r : Refusal) → refusal_number r ≡ n → ⊥
unnumbered n none other r e =
    other (sym e ∙ ap refusal_number (sym (back r) ∙ ap (λ (m : ℕ). refusal_of m (told_of r)) e ∙ none (told_of r)))

-- 1 and 14 were given once, and no refusal has their numbers
pub given_no_more : (r : Refusal) → (refusal_number r ≡ 1 → ⊥) × (refusal_number r ≡ 14 → ⊥)
given_no_more r = (unnumbered 1 (λ t. refl) (λ e. omega arith) r, unnumbered 14 (λ t. refl) (λ e. omega arith) r)

-- ---- answers of the library: a reply gives the answer back, where what an answer means gives it back

abbrev pub result_of : {A B : Type 0} → (B → A) → Reply B → Result A Refusal
result_of given (answer b) = Ok (given b)
result_of given (refusal n t) = Err (refusal_of n t)

result_back : {A B : Type 0} (meant : A → B) (given : B → A) → ((a : A) → given (meant a) ≡ a)
    → (r : Result A Refusal) → result_of given (replied meant r) ≡ r
result_back meant given law (Ok a) = ap Ok (law a)
result_back meant given law (Err r) = ap Err (back r)

pub replied_one : {A B : Type 0} (meant : A → B) (given : B → A) → ((a : A) → given (meant a) ≡ a)
    → (r s : Result A Refusal) → replied meant r ≡ replied meant s → r ≡ s
replied_one meant given law = one_by (replied meant) (result_of given) (result_back meant given law)
