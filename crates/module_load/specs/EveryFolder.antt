-- Each folder has sources. Whether a file's text has a reading isn't decided here, so existence is said by double negation.
use Rattle.std.specs.Prelude.{List}
use Rattle.py_lexer.specs.EveryText.{HasSome}
use Rattle.module_load.specs.Folders.{File, IsSources}

abbrev pub EveryFolder : Type 0
EveryFolder = (files : List File) → HasSome (IsSources files)
