-- The modules that the imports of a module's top part name.
use Rattle.std.specs.Prelude.{List, [], ◌∷◌, map}
use Rattle.std.specs.List.{flat_map}
use Rattle.py_tree.specs.Syntax as x
use Rattle.py_tree.specs.Syntax.{Statement, Statements}
use Rattle.py_tree.specs.TopPart.{top_imports}
use Rattle.py_tree.specs.declared.statement.Import.{Import}
use Rattle.import_graph.specs.declared.imports.ImportRow.{ImportRow}

-- the modules that a statement names, and for `from` the names that it takes
abbrev pub rows_of : Statement → List ImportRow
rows_of (x.On line (x.Imports names)) = map (λ (i : Import). record { line = line; «module» = i.name; names = [] }) names
rows_of (x.On line (x.From from names)) = record { line = line; «module» = from; names = map (λ (i : Import). i.name) names } ∷ []
rows_of statement = []

abbrev pub import_rows : Statements → List ImportRow
import_rows body = flat_map rows_of (top_imports body)
