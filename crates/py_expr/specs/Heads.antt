-- No definition of the language: what is known of the head of a block that was read.
use Rattle.std.specs.Prelude.{◌≡◌, ℕ, max, List, ◌∷◌, Option, Some, None}
use Rattle.py_tree.specs.Syntax.{Text, Expression, Param, Target}
use Rattle.py_tree.specs.Nesting.{nesting}
use Rattle.py_tree.specs.Joined.{expression_of, maybe_of, target_of}
use Rattle.py_tree.specs.declared.expression.Expr.{Expr}
use Rattle.py_tree.specs.declared.expression.Param as tree_param
use Rattle.py_tree.specs.declared.expression.Target as tree_target
use Rattle.py_lexer.specs.declared.token.Token.TheVariants as token
use Rattle.py_lexer.specs.declared.token.Keyword.{Keyword}
use Rattle.py_lexer.specs.declared.token.Keyword.TheVariants as word
use Rattle.py_expr.specs.declared.form.Head as tree
use Rattle.py_expr.specs.declared.found.Found.{Found}
use Rattle.py_expr.specs.declared.head.Tested.{Tested}
use Rattle.py_expr.specs.declared.head.Tested.TheVariants as tested
use Rattle.py_phrases.specs.declared.phrase.Built.{Built}
use Rattle.py_phrases.specs.declared.phrase.Built.TheVariants.{Shallow}
use Rattle.py_phrases.specs.Tokens as t
use Rattle.py_phrases.specs.Grammar.{Tokens, E, Spells}
use Rattle.py_phrases.specs.Ends.{IsEnd}
use Rattle.py_expr.specs.LineEnds.{Anything}
use Rattle.py_expr.specs.Lines.{HeadAt}
use Rattle.py_expr.specs.Depth.{maybe_nesting, params_nesting, head_nesting}
use Rattle.py_expr.specs.Forms as form
use Rattle.py_expr.specs.Forms.{Head, head_of, params_of}
use Rattle.py_expr.specs.Readings.{IsBuilt, IsFound, FoundAt}
use Rattle.py_phrases.specs.Targets.{target_nesting}

-- behind its word
abbrev pub HeadBehind : Keyword → Tokens → Tokens → Head → Type 0
HeadBehind w s r h = HeadAt (token.Word w ∷ s) r h

abbrev pub FoundBehind : Keyword → Tokens → Option (Found tree.Head) → Type 0
FoundBehind w s found = FoundAt (HeadBehind w) Anything head_of head_nesting s found

-- behind `def`, a name and `(`
abbrev pub DefBehind : Text → Tokens → Tokens → Head → Type 0
DefBehind name s r h = HeadAt (t.def_ ∷ token.Name name ∷ t.left_paren ∷ s) r h

-- the words of the heads that have a test
abbrev pub test_word : Tested → Keyword
test_word tested.If = word.If
test_word tested.Elif = word.Elif
test_word tested.While = word.While

abbrev pub test_form : Tested → Expression → Head
test_form tested.If e = form.If e
test_form tested.Elif e = form.Elif e
test_form tested.While e = form.While e

-- the head that has no parts, exactly where `:` follows
abbrev pub IsBare : {T : Type 0} → T → Tokens → Option (Found T) → Type 0
IsBare head s None = (r : Tokens) → s ≡ t.colon ∷ r → ⊥
IsBare head s (Some found) = (found.built ≡ Shallow head) × (s ≡ t.colon ∷ found.rest.now)

-- a head is built of what was built of its one expression
abbrev pub MakesHead : (Expression → Head) → Built Expr → Built tree.Head → Type 0
MakesHead make e head = (y : Expression) → IsBuilt expression_of nesting y e → IsBuilt head_of head_nesting (make y) head

-- the parts of a `for`
abbrev pub loop_of : tree_target.Target × Expr → Target × Expression
loop_of parts = (target_of parts.0, expression_of parts.1)

abbrev pub loop_nesting : Target × Expression → ℕ
loop_nesting parts = max (target_nesting parts.0) (nesting parts.1)

abbrev pub MakesFor : Built (tree_target.Target × Expr) → Built tree.Head → Type 0
MakesFor parts head = (g : Target) (e : Expression) → IsBuilt loop_of loop_nesting (g, e) parts → IsBuilt head_of head_nesting (form.For g e) head

abbrev pub MakesDef : Text → Built (List tree_param.Param) → Built (Option Expr) → Built tree.Head → Type 0
MakesDef name params result head =
    (ps : List Param) (k : Option Expression) → IsBuilt params_of params_nesting ps params → IsBuilt maybe_of maybe_nesting k result → IsBuilt head_of head_nesting (form.Def name ps k) head

abbrev pub MakesClass : Text → Built (Option Expr) → Built tree.Head → Type 0
MakesClass name base head = (b : Option Expression) → IsBuilt maybe_of maybe_nesting b base → IsBuilt head_of head_nesting (form.Class name b) head

-- behind `except` and an expression
abbrev pub ExceptBehind : Built Expr → Tokens → Option (Found tree.Head) → Type 0
ExceptBehind matches rest found = (s : Tokens) → IsFound (Spells E) (IsEnd E) expression_of nesting s matches rest → FoundBehind word.Except s found
