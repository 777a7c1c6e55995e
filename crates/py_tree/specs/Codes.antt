-- How reports print the refusal codes.
use Rattle.std.specs.Prelude.{ℕ, ◌/◌, ◌%◌, List, ◌∷◌, ◌++◌}
use Rattle.std.specs.Fmt.{decimal}
use Rattle.py_tree.specs.declared.code.Code.{Code}
use Rattle.py_tree.specs.declared.code.Code.TheVariants.{BadEncoding, FileTooLarge, TabIndentation, BadToken, NoForm, BadIndentation, MisplacedForm, TooDeep, IntegerTooLarge, MisplacedMarker, NotBuilt, BadBase, MemberClash, NoSuchModule, RefusedImport, ImportCycle, NoSuchName, BoundTwice, PlainImport, LateImport, SpecialName, TypeMismatch, UnboundArguments, NoSuchMember, BadOverride, PrimitiveMisuse, UnknownType, Effect, ForeignWrite, UnknownValue, UncaughtException, FuelSpent}

-- the letter of the phases that give the code: text, names and imports, types, body
abbrev pub letter_of : Code → ℕ
letter_of BadEncoding = 69
letter_of FileTooLarge = 69
letter_of TabIndentation = 69
letter_of BadToken = 69
letter_of NoForm = 69
letter_of BadIndentation = 69
letter_of MisplacedForm = 69
letter_of TooDeep = 69
letter_of IntegerTooLarge = 69
letter_of MisplacedMarker = 69
letter_of NotBuilt = 69
letter_of BadBase = 78
letter_of MemberClash = 78
letter_of NoSuchModule = 78
letter_of RefusedImport = 78
letter_of ImportCycle = 78
letter_of NoSuchName = 78
letter_of BoundTwice = 78
letter_of PlainImport = 78
letter_of LateImport = 78
letter_of SpecialName = 78
letter_of TypeMismatch = 84
letter_of UnboundArguments = 84
letter_of NoSuchMember = 84
letter_of BadOverride = 84
letter_of PrimitiveMisuse = 84
letter_of UnknownType = 84
letter_of Effect = 83
letter_of ForeignWrite = 83
letter_of UnknownValue = 83
letter_of UncaughtException = 83
letter_of FuelSpent = 83

-- the number of the code
abbrev pub number_of : Code → ℕ
number_of BadEncoding = 1
number_of FileTooLarge = 2
number_of TabIndentation = 3
number_of BadToken = 4
number_of NoForm = 5
number_of BadIndentation = 6
number_of MisplacedForm = 7
number_of TooDeep = 8
number_of IntegerTooLarge = 9
number_of MisplacedMarker = 10
number_of NotBuilt = 99
number_of BadBase = 10
number_of MemberClash = 11
number_of NoSuchModule = 12
number_of RefusedImport = 13
number_of ImportCycle = 14
number_of NoSuchName = 15
number_of BoundTwice = 16
number_of PlainImport = 17
number_of LateImport = 18
number_of SpecialName = 19
number_of TypeMismatch = 20
number_of UnboundArguments = 21
number_of NoSuchMember = 22
number_of BadOverride = 23
number_of PrimitiveMisuse = 24
number_of UnknownType = 25
number_of Effect = 30
number_of ForeignWrite = 31
number_of UnknownValue = 32
number_of UncaughtException = 33
number_of FuelSpent = 34

-- the letter, and the number in two digits
abbrev pub printed : Code → List ℕ
printed code = letter_of code ∷ decimal (number_of code / 10) ++ decimal (number_of code % 10)
