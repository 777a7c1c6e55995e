-- No definition of the language: the syntax that references stand for.
use Rattle.std.specs.Prelude.{List, map}
use Rattle.std.specs.Borrow.{Bor}
use Rattle.py_tree.specs.Syntax.{Text, Statement}
use Rattle.py_tree.specs.Joined.{statement_of}
use Rattle.py_tree.specs.declared.statement.Stmt.{Stmt}

abbrev pub seen : List (Bor Stmt) → List Statement
seen all = map (λ s. statement_of s.now) all

abbrev pub spellings : List (Bor Text) → List Text
spellings words = map (λ w. w.now) words
