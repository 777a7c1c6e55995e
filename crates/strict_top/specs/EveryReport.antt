-- What is told has a report, as it has no two. Whether a file's text has a reading isn't decided here, so existence is said by double
-- negation.
use Rattle.std.specs.Prelude.{ℕ, List}
use Rattle.outside.specs.Files.{Told}
use Rattle.py_lexer.specs.EveryText.{HasSome}
use Rattle.strict_top.specs.Runs.{IsReport, IsTold}

abbrev pub EveryReport : Type 0
EveryReport = (words : List (List ℕ)) (told : List ℕ → Told) → IsTold words told → HasSome (IsReport words told)
