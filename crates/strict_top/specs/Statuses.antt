-- The statuses as numbers.
use Rattle.std.specs.Prelude.{ℕ}
use Rattle.strict_top.specs.declared.status.Status.{Status}
use Rattle.strict_top.specs.declared.status.Status.TheVariants.{Done, Raised, Refused, BadWords, FolderFault, SinkFault, OutOfMemory, TooLarge}

-- the exit status of a program
abbrev pub number_of : Status → ℕ
number_of Done = 0
number_of Raised = 1
number_of Refused = 2
number_of BadWords = 3
number_of FolderFault = 4
number_of SinkFault = 5
number_of OutOfMemory = 6
number_of TooLarge = 7
