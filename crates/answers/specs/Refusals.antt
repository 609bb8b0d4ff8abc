-- The refusals (document 01, "Answer numbers": the table's first and third column; document 02, 9/14, 11/14, 12/14).
--     number_of r    the number that a refusal is given under; 0 is acceptance and no refusal
--     value_of r     what it returns besides: "nothing" is 0
use Rattle.std.specs.Prelude.{ℕ}
use Rattle.answers.specs.declared.Refusal.{Refusal}
use Rattle.answers.specs.declared.Refusal.TheVariants.{Short, BadLength, WrongCheck, NoRoom, BadContent, BadWord, NoSync, UnknownTail, BadPlace, OutOfRange, UnknownCi, ShortBody, NoSuchChannel, UsedUp, BadStore, UnknownVersion, NotHeld, Unsure, NumbersUsedUp, StoreFull, TooLong, UnknownCode, NotCode, TooFar}

abbrev pub number_of : Refusal → ℕ
number_of Short = 1
number_of BadLength = 2
number_of (WrongCheck block) = 3
number_of NoRoom = 4
number_of BadContent = 5
number_of (BadWord word) = 6
number_of (NoSync tried) = 7
number_of (UnknownTail place) = 8
number_of BadPlace = 9
number_of OutOfRange = 10
number_of UnknownCi = 11
number_of ShortBody = 12
number_of NoSuchChannel = 13
number_of (UsedUp tried) = 14
number_of BadStore = 17
number_of UnknownVersion = 18
number_of NotHeld = 19
number_of Unsure = 20
number_of NumbersUsedUp = 21
number_of StoreFull = 22
number_of TooLong = 23
number_of UnknownCode = 24
number_of NotCode = 25
number_of TooFar = 26

abbrev pub value_of : Refusal → ℕ
value_of Short = 0
value_of BadLength = 0
value_of (WrongCheck block) = block
value_of NoRoom = 0
value_of BadContent = 0
value_of (BadWord word) = word
value_of (NoSync tried) = tried
value_of (UnknownTail place) = place
value_of BadPlace = 0
value_of OutOfRange = 0
value_of UnknownCi = 0
value_of ShortBody = 0
value_of NoSuchChannel = 0
value_of (UsedUp tried) = tried
value_of BadStore = 0
value_of UnknownVersion = 0
value_of NotHeld = 0
value_of Unsure = 0
value_of NumbersUsedUp = 0
value_of StoreFull = 0
value_of TooLong = 0
value_of UnknownCode = 0
value_of NotCode = 0
value_of TooFar = 0
