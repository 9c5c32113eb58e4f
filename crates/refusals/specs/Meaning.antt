-- Which number each refusal has by the rules, and what it tells.
use Rattle.std.specs.Prelude.{ℕ, Result, Ok, Err}
use Rattle.definitions.specs.Reply.{Reply, answer, refusal}
use Rattle.refusals.specs.declared.Refusal.{Refusal}
use Rattle.refusals.specs.declared.Refusal.TheVariants.{TooFewBytes, OtherId, NoLinks, UnwritableList, NoRoom, FileTooLong, TooManyLists, TooManyFragments, ListDisagrees, NoBlockThere, BadDataBlock, UntrueDeclaration, BadRecordSize, NoSuchRecord, TooFewLinks, NoBits, BadBitOffset, IntegerTooWide, FieldOutside, BadFloatWidth, PayloadOutside, DoesNotFit, OtherKind, TooManyChannels, NoFixedNumber, OtherLength, BitOutside, TableFull, TableEmpty, BadTable, NoNumberChannel, NoPosition}

abbrev pub refusal_number : Refusal → ℕ
refusal_number (TooFewBytes n) = 2
refusal_number OtherId = 3
refusal_number NoLinks = 4
refusal_number UnwritableList = 5
refusal_number (NoRoom n) = 6
refusal_number FileTooLong = 7
refusal_number TooManyLists = 8
refusal_number TooManyFragments = 9
refusal_number ListDisagrees = 10
refusal_number NoBlockThere = 11
refusal_number BadDataBlock = 12
refusal_number UntrueDeclaration = 13
refusal_number BadRecordSize = 15
refusal_number NoSuchRecord = 16
refusal_number TooFewLinks = 17
refusal_number NoBits = 18
refusal_number BadBitOffset = 19
refusal_number IntegerTooWide = 20
refusal_number (FieldOutside n) = 21
refusal_number BadFloatWidth = 22
refusal_number PayloadOutside = 23
refusal_number DoesNotFit = 24
refusal_number OtherKind = 25
refusal_number TooManyChannels = 26
refusal_number (NoFixedNumber place) = 27
refusal_number OtherLength = 28
refusal_number BitOutside = 29
refusal_number TableFull = 30
refusal_number TableEmpty = 31
refusal_number BadTable = 32
refusal_number NoNumberChannel = 33
refusal_number NoPosition = 35

abbrev pub told_of : Refusal → ℕ
told_of (TooFewBytes n) = n
told_of OtherId = 0
told_of NoLinks = 0
told_of UnwritableList = 0
told_of (NoRoom n) = n
told_of FileTooLong = 0
told_of TooManyLists = 0
told_of TooManyFragments = 0
told_of ListDisagrees = 0
told_of NoBlockThere = 0
told_of BadDataBlock = 0
told_of UntrueDeclaration = 0
told_of BadRecordSize = 0
told_of NoSuchRecord = 0
told_of TooFewLinks = 0
told_of NoBits = 0
told_of BadBitOffset = 0
told_of IntegerTooWide = 0
told_of (FieldOutside n) = n
told_of BadFloatWidth = 0
told_of PayloadOutside = 0
told_of DoesNotFit = 0
told_of OtherKind = 0
told_of TooManyChannels = 0
told_of (NoFixedNumber place) = place
told_of OtherLength = 0
told_of BitOutside = 0
told_of TableFull = 0
told_of TableEmpty = 0
told_of BadTable = 0
told_of NoNumberChannel = 0
told_of NoPosition = 0

abbrev pub refused : {A : Type 0} → Refusal → Reply A
refused r = refusal (refusal_number r) (told_of r)

-- what an answer of the library replies: an answer as it is meant, and a refusal with its number
abbrev pub replied : {A B : Type 0} → (A → B) → Result A Refusal → Reply B
replied meant (Ok a) = answer (meant a)
replied meant (Err r) = refused r
