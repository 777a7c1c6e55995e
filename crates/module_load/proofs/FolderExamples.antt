-- What the imports of some modules name.
use Rattle.std.proofs.Common.{◌≡◌, ℕ, List, [], ◌∷◌, None, codes, refl}
use Rattle.py_tree.specs.Syntax as x
use Rattle.py_tree.specs.Syntax.{Text, Statement}
use Rattle.py_tree.specs.Joined.{statements}
use Rattle.py_tree.specs.declared.statement.Import.{Import}
use Rattle.import_graph.specs.declared.rows.DirectImport.{DirectImport}
use Rattle.module_load.specs.Sources.{plain, tree}
use Rattle.module_load.specs.Folders.{direct_imports}

abbrev name : Text → Import
name text = record { name = text; alias = None }

-- import TEXT
abbrev import : ℕ → Text → Statement
import line text = x.On line (x.Imports (name text ∷ []))

abbrev to : ℕ → ℕ → DirectImport
to line number = record { line = line; «module» = number }

abbrev folder : List Text
folder = codes "a" ∷ codes "b" ∷ codes "a" ∷ []

-- import __strict__, import b, and from a import X: each line with its number, and the first of two of one name
each_by_its_line : direct_imports folder (tree (statements (import 1 (codes "__strict__") ∷ import 2 (codes "b") ∷ x.On 4 (x.From (codes "a") (name (codes "X") ∷ [])) ∷ []))) ≡ to 2 1 ∷ to 4 0 ∷ []
each_by_its_line = refl

-- below the top part
below : direct_imports folder (tree (statements (import 1 (codes "a") ∷ x.On 2 x.Pass ∷ import 3 (codes "b") ∷ []))) ≡ to 1 0 ∷ []
below = refl

without_a_marker : direct_imports folder plain ≡ []
without_a_marker = refl
