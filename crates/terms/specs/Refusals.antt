-- Why a call is turned down, and under which number: "Turned down, in checking order", and the numbers that later requests add.
use Rattle.std.specs.Prelude.{ℕ}
use Rattle.terms.specs.declared.Refusal.{Refusal}
use Rattle.terms.specs.declared.Refusal.TheVariants.{WrongSize, Unsound, NotAtHand, UnknownKind, WrongLength, NoRadio, Reversed, OnAlready, NotOn, NoRoom, ShortBuffer, NoFix, TooEarly, NoWatch, BadLine}

abbrev pub number_of : Refusal → ℕ
number_of WrongSize = 1
number_of Unsound = 2
number_of NotAtHand = 3
number_of UnknownKind = 4
number_of WrongLength = 5
number_of NoRadio = 6
number_of Reversed = 7
number_of OnAlready = 8
number_of NotOn = 9
number_of NoRoom = 10
number_of ShortBuffer = 11
number_of NoFix = 12
number_of TooEarly = 13
number_of NoWatch = 14
number_of BadLine = 15
