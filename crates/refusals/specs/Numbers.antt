-- The paper's number of each refusal (documents 01 and 02; 101 to 110 are of the programs), and that of an answer.
--   number_of     a refusal's number
--   number_in     an answer's number: 0 where nothing is refused
-- Assumes nothing: these are definitions.
use Rattle.std.specs.Prelude.{ℕ, Result, Ok, Err}
use Rattle.refusals.specs.declared.Refusal.{Refusal}
use Rattle.refusals.specs.declared.Refusal.TheVariants.{BadLine, BadModuleCount, TooManyPairs, UnknownModule, PairedWithItself, BytesFollow, BadMembers, ShareTooLarge, LoadTooLarge, NamedTwice, ListFull, BufferTooShort, HeadDisagrees, NotHeld, BadEdgeLine, BadEdgeCount, BadStopCount, TooManyStops, NoPair, BadLeastSize, BadSheetLine, BadGroupSize, BadMember, BadCoreNumber, AnotherPair, SheetGoesOn, BadRatio, BadCore, FileTooLong, BadArgument}

-- the number of each case
abbrev pub number_of : Refusal → ℕ
number_of BadLine = 1
number_of BadModuleCount = 2
number_of TooManyPairs = 3
number_of UnknownModule = 4
number_of PairedWithItself = 5
number_of BytesFollow = 6
number_of BadMembers = 7
number_of ShareTooLarge = 8
number_of LoadTooLarge = 9
number_of NamedTwice = 10
number_of ListFull = 11
number_of BufferTooShort = 12
number_of HeadDisagrees = 13
number_of NotHeld = 14
number_of BadEdgeLine = 16
number_of BadEdgeCount = 17
number_of BadStopCount = 18
number_of TooManyStops = 19
number_of NoPair = 20
number_of BadLeastSize = 21
number_of BadSheetLine = 101
number_of BadGroupSize = 102
number_of BadMember = 103
number_of BadCoreNumber = 104
number_of AnotherPair = 105
number_of SheetGoesOn = 106
number_of BadRatio = 107
number_of BadCore = 108
number_of FileTooLong = 109
number_of BadArgument = 110

-- an answer's number: 0 where nothing is refused
abbrev pub number_in : {A : Type 0} → Result A Refusal → ℕ
number_in (Ok a) = 0
number_in (Err r) = number_of r
