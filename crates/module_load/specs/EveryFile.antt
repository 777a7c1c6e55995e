-- Each file has a state, as it has no two. Whether its text has a reading isn't decided here, so existence is said by double negation.
use Rattle.std.specs.Prelude.{ℕ, List}
use Rattle.py_lexer.specs.EveryText.{HasSome}
use Rattle.module_load.specs.Preparing.{Prepares}

abbrev pub EveryFile : Type 0
EveryFile = (bytes : List ℕ) → HasSome (Prepares bytes)
