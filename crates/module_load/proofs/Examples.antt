-- What the definitions give for some modules, lines and files.
use Rattle.std.proofs.Common.{◌≡◌, ℕ, List, [], ◌∷◌, length, Option, Some, None, true, false, codes, refl, arith}
use Rattle.py_tree.specs.Syntax as x
use Rattle.py_tree.specs.Syntax.{Text, Statement}
use Rattle.py_tree.specs.Joined.{statements}
use Rattle.py_tree.specs.declared.code.Code.TheVariants.{FileTooLarge}
use Rattle.py_tree.specs.declared.fault.Fault.{Fault}
use Rattle.py_tree.specs.declared.statement.Import.{Import}
use Rattle.py_lexer.specs.declared.token.LogicalLine.{LogicalLine}
use Rattle.py_lexer.specs.Marker.{IsFirstMarker}
use Rattle.py_lexer.proofs.FirstMarkers.{first_marker_is}
use Rattle.py_phrases.specs.Tokens as t
use Rattle.py_phrases.specs.Grammar.{Tokens}
use Rattle.py_expr.specs.Forms as form
use Rattle.py_expr.specs.Lines as l
use Rattle.py_expr.specs.LineAnswers.{IsFault}
use Rattle.py_blocks.specs.Rows.{Row}
use Rattle.module_load.specs.Markers.{is_marked}
use Rattle.module_load.specs.Sources.{plain, faulty}
use Rattle.module_load.specs.Preparing.{fault, Forms, no_line, a_line, FirstFault, here, later, Prepares, too_large, unmarked}

-- ---- markers

abbrev import_of : Text → Option Text → Import
import_of name alias = record { name = name; alias = alias }

abbrev strict : Statement
strict = x.On 3 (x.Imports (import_of (codes "__strict__") None ∷ []))

abbrev annotations : Statement
annotations = x.On 2 (x.From (codes "__future__") (import_of (codes "annotations") None ∷ []))

abbrev other : Statement
other = x.On 4 (x.Imports (import_of (codes "b") None ∷ []))

abbrev docstring : Statement
docstring = x.On 1 (x.Eval (x.Str (codes "Shapes.")))

in_place : is_marked (statements (docstring ∷ annotations ∷ strict ∷ other ∷ strict ∷ [])) ≡ true
in_place = refl

behind_another_import : is_marked (statements (other ∷ strict ∷ [])) ≡ false
behind_another_import = refl

below_the_top_part : is_marked (statements (x.On 1 x.Pass ∷ strict ∷ [])) ≡ false
below_the_top_part = refl

-- import __strict__ as s
with_an_alias : is_marked (statements (x.On 1 (x.Imports (import_of (codes "__strict__") (Some (codes "s")) ∷ [])) ∷ strict ∷ [])) ≡ false
with_an_alias = refl

-- import __static__, b
beside_another_name : is_marked (statements (x.On 1 (x.Imports (import_of (codes "__static__") None ∷ import_of (codes "b") None ∷ [])) ∷ [])) ≡ false
beside_another_name = refl

-- ---- lines

abbrev line : ℕ → Tokens → LogicalLine
line n tokens = record { indent = 0; line = n; tokens = tokens }

abbrev pass_row : ℕ → Row
pass_row n = record { indent = 0; line = n; form = form.Simple x.Pass }

pass_spelled : l.Line (t.pass_ ∷ []) (form.Simple x.Pass)
pass_spelled = l.a_statement l.a_pass

-- pass, and pass
two_rows : Forms (line 1 (t.pass_ ∷ []) ∷ line 3 (t.pass_ ∷ []) ∷ []) (pass_row 1 ∷ pass_row 3 ∷ [])
two_rows = a_line pass_spelled (omega arith) (a_line pass_spelled (omega arith) no_line)

-- a line at fault behind one that spells a form, whatever follows it
second_line : (tokens : Tokens) (f : Fault) (more : List LogicalLine) → IsFault tokens 2 f → FirstFault (line 1 (t.pass_ ∷ []) ∷ line 2 tokens ∷ more) f
second_line tokens f more why = later pass_spelled (omega arith) (here why)

-- ---- files

-- X = 1
no_marker : Prepares (codes "X = 1") plain
no_marker = unmarked (omega arith) (first_marker_is (codes "X = 1") None refl)

greatest_file : (bytes : List ℕ) → length bytes ≡ 1048576 → IsFirstMarker bytes None → Prepares bytes plain
greatest_file bytes size none = unmarked (omega arith) none

one_byte_more : (bytes : List ℕ) → length bytes ≡ 1048577 → Prepares bytes (faulty (fault 1 FileTooLarge))
one_byte_more bytes size = too_large (omega arith)
