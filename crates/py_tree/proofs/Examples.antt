-- What the definitions give for some trees.
use Rattle.std.proofs.Common.{◌≡◌, refl, true, false, [], ◌∷◌, None, codes}
use Rattle.py_tree.specs.Syntax as x
use Rattle.py_tree.specs.Syntax.{Expression, Statement, Statements}
use Rattle.py_tree.specs.Nesting.{nesting}
use Rattle.py_tree.specs.Literals.{greatest_int, fits}
use Rattle.py_tree.specs.Lawful.{lawful}
use Rattle.py_tree.specs.TopPart.{top_imports, below_top_part}
use Rattle.py_tree.specs.Order.{parts, of_scope, wholes, whole}
use Rattle.py_tree.specs.declared.operator.UnaryOp.TheVariants.{Minus}
use Rattle.py_tree.specs.declared.operator.BinaryOp.TheVariants.{Sub}

abbrev named : Expression
named = x.Name (codes "a")

abbrev alone : Statement → Statements
alone s = x.more_statements s x.end_of_statements

abbrev one : Expression → x.Expressions
one e = x.more_expressions e x.end_of_expressions

-- nesting: a part counts once, grouping isn't in the tree

a_name : nesting named ≡ 1
a_name = refl

no_items : nesting (x.Tuple x.end_of_expressions) ≡ 1
no_items = refl

-- a - 1 - 1
to_the_left : nesting (x.Binary Sub (x.Binary Sub named (x.Int 1)) (x.Int 1)) ≡ 3
to_the_left = refl

-- a(a, a=(-a,))
a_keyword_counts :
    nesting (x.Call named (one named) (x.more_keywords (x.Named (codes "a") (x.Tuple (one (x.Unary Minus named)))) x.end_of_keywords)) ≡ 4
a_keyword_counts = refl

-- literals

the_greatest : fits (x.Listed (one (x.Int greatest_int))) ≡ true
the_greatest = refl

one_more : fits (x.Listed (one (x.Int 9223372036854775808))) ≡ false
one_more = refl

-- lawful modules

-- while a: break
a_loop : lawful (alone (x.On 1 (x.While named (alone (x.On 2 x.Break))))) ≡ true
a_loop = refl

-- if a: break
no_loop : lawful (alone (x.On 1 (x.If (x.more_branches (x.Tested 1 named (alone (x.On 2 x.Break))) x.end_of_branches) x.end_of_statements))) ≡ false
no_loop = refl

-- an if without a branch
no_branch : lawful (alone (x.On 1 (x.If x.end_of_branches x.end_of_statements))) ≡ false
no_branch = refl

-- def a(): return
a_return : lawful (alone (x.On 1 (x.Def (x.Defined (codes "a") [] None (alone (x.On 1 (x.Return None))))))) ≡ true
a_return = refl

-- class a: a docstring may only come first
a_docstring :
    lawful (alone (x.On 1 (x.Class (x.Classed (codes "a") None (alone (x.On 2 (x.Eval (x.Str (codes "a"))))))))) ≡ true
a_docstring = refl

a_late_docstring :
    lawful (alone (x.On 1 (x.Class (x.Classed (codes "a") None (x.more_statements (x.On 2 x.Pass) (alone (x.On 3 (x.Eval (x.Str (codes "a")))))))))) ≡ false
a_late_docstring = refl

-- the order of the text

-- 1 if a else 2
before_its_test : parts (x.Cond named (x.Int 1) (x.Int 2)) ≡ x.Int 1 ∷ named ∷ x.Int 2 ∷ []
before_its_test = refl

-- while a: break, and then pass
abbrev loop_and_pass : Statements
loop_and_pass = x.more_statements (x.On 1 (x.While named (alone (x.On 2 x.Break)))) (alone (x.On 3 x.Pass))

its_statements : of_scope loop_and_pass ≡ x.On 1 (x.While named (alone (x.On 2 x.Break))) ∷ x.On 2 x.Break ∷ x.On 3 x.Pass ∷ []
its_statements = refl

-- if a: 1 elif 2: 3, on the lines 1 to 4
an_elif :
    wholes (alone (x.On 1 (x.If (x.more_branches (x.Tested 1 named (alone (x.On 2 (x.Eval (x.Int 1))))) (x.more_branches (x.Tested 3 (x.Int 2) (alone (x.On 4 (x.Eval (x.Int 3))))) x.end_of_branches)) x.end_of_statements)))
    ≡ whole 1 named ∷ whole 2 (x.Int 1) ∷ whole 3 (x.Int 2) ∷ whole 4 (x.Int 3) ∷ []
an_elif = refl

-- the top part

-- a text, an import, pass, and an import on the lines 1 to 4
a_late_import : Statements
a_late_import = x.more_statements (x.On 3 x.Pass) (alone (x.On 4 (x.Imports [])))

its_top_part : top_imports (x.more_statements (x.On 1 (x.Eval (x.Str (codes "a")))) (x.more_statements (x.On 2 (x.From (codes "a") [])) a_late_import)) ≡ x.On 2 (x.From (codes "a") []) ∷ []
unfolding a_late_import
its_top_part = refl

below_it : below_top_part (x.more_statements (x.On 1 (x.Eval (x.Str (codes "a")))) (x.more_statements (x.On 2 (x.From (codes "a") [])) a_late_import)) ≡ a_late_import
unfolding a_late_import
below_it = refl

-- a text that isn't first is no docstring
no_docstring : top_imports (x.more_statements (x.On 1 x.Pass) (alone (x.On 2 (x.Imports [])))) ≡ []
no_docstring = refl
