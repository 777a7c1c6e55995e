-- The abstract syntax that a tree of the program stands for.
use Rattle.std.specs.Prelude.{List, [], ◌∷◌, map, Option, Some, None}
use Rattle.py_tree.specs.Syntax as x
use Rattle.py_tree.specs.Syntax.{Expression, Expressions, Pairs, Keywords, Statement, Statements, Branches, Clauses, Kind}
use Rattle.py_tree.specs.declared.expression.Expr.{Expr}
use Rattle.py_tree.specs.declared.expression.Pair.{Pair}
use Rattle.py_tree.specs.declared.expression.Keyword.{Keyword}
use Rattle.py_tree.specs.declared.expression.Param.{Param}
use Rattle.py_tree.specs.declared.expression.Target.{Target}
use Rattle.py_tree.specs.declared.expression.Target.TheVariants as target
use Rattle.py_tree.specs.declared.expression.Expr.TheOpen as E
use Rattle.py_tree.specs.declared.expression.Expr.TheFolds.{fold-Expr, fold-Pair, fold-Keyword}
use Rattle.py_tree.specs.declared.statement.Stmt.{Stmt}
use Rattle.py_tree.specs.declared.statement.StmtKind.{StmtKind}
use Rattle.py_tree.specs.declared.statement.Branch.{Branch}
use Rattle.py_tree.specs.declared.statement.Clause.{Clause}
use Rattle.py_tree.specs.declared.statement.Function.{Function}
use Rattle.py_tree.specs.declared.statement.ClassDef.{ClassDef}
use Rattle.py_tree.specs.declared.statement.Module.{Module}
use Rattle.py_tree.specs.declared.statement.StmtKind.TheOpen as S
use Rattle.py_tree.specs.declared.statement.StmtKind.TheFolds.{fold-Stmt, fold-StmtKind, fold-Branch, fold-ClassDef, fold-Clause, fold-Function}

-- lists of parts

abbrev pub expressions : List Expression → Expressions
expressions [] = x.end_of_expressions
expressions (e ∷ es) = x.more_expressions e (expressions es)

abbrev pub pairs : List x.Pair → Pairs
pairs [] = x.end_of_pairs
pairs (p ∷ ps) = x.more_pairs p (pairs ps)

abbrev pub keywords : List x.Keyword → Keywords
keywords [] = x.end_of_keywords
keywords (k ∷ ks) = x.more_keywords k (keywords ks)

abbrev pub statements : List Statement → Statements
statements [] = x.end_of_statements
statements (s ∷ ss) = x.more_statements s (statements ss)

abbrev pub branches : List x.Branch → Branches
branches [] = x.end_of_branches
branches (b ∷ bs) = x.more_branches b (branches bs)

abbrev pub clauses : List x.Clause → Clauses
clauses [] = x.end_of_clauses
clauses (c ∷ cs) = x.more_clauses c (clauses cs)

-- expressions: one layer over the syntax of its parts, and then whole

-- a call stands for its expression
abbrev pub call_step : E.Call-F Expression Expression x.Keyword x.Pair → Expression
call_step c = x.Call c.callee (expressions c.args) (keywords c.keys)

abbrev pub expr_step : E.Expr-F Expression Expression x.Keyword x.Pair → Expression
expr_step E.Nil = x.Nil
expr_step E.True = x.True
expr_step E.False = x.False
expr_step (E.Int n) = x.Int n
expr_step (E.Str text) = x.Str text
expr_step (E.Name name) = x.Name name
expr_step (E.Tuple items) = x.Tuple (expressions items)
expr_step (E.List items) = x.Listed (expressions items)
expr_step (E.Dict items) = x.Dict (pairs items)
expr_step (E.Unary op e) = x.Unary op e
expr_step (E.Binary op a b) = x.Binary op a b
expr_step (E.Compare op a b) = x.Compare op a b
expr_step (E.Is negated left right) = x.Is negated left right
expr_step (E.Not e) = x.Not e
expr_step (E.And a b) = x.And a b
expr_step (E.Or a b) = x.Or a b
expr_step (E.Cond test then other) = x.Cond test then other
expr_step (E.Attr e name) = x.Attr e name
expr_step (E.Index e i) = x.Index e i
expr_step (E.Call call) = call

abbrev pub keyword_step : E.Keyword-F Expression Expression x.Keyword x.Pair → x.Keyword
keyword_step k = x.Named k.name k.value

abbrev pub pair_step : E.Pair-F Expression Expression x.Keyword x.Pair → x.Pair
pair_step p = x.Paired p.key p.value

abbrev pub expression_of : Expr → Expression
expression_of = fold-Expr Expression Expression x.Keyword x.Pair expr_step call_step keyword_step pair_step

abbrev pub keyword_of : Keyword → x.Keyword
keyword_of = fold-Keyword Expression Expression x.Keyword x.Pair expr_step call_step keyword_step pair_step

abbrev pub pair_of : Pair → x.Pair
pair_of = fold-Pair Expression Expression x.Keyword x.Pair expr_step call_step keyword_step pair_step

abbrev pub expressions_of : List Expr → Expressions
expressions_of es = expressions (map expression_of es)

abbrev pub pairs_of : List Pair → Pairs
pairs_of ps = pairs (map pair_of ps)

abbrev pub keywords_of : List Keyword → Keywords
keywords_of ks = keywords (map keyword_of ks)

abbrev pub maybe_of : Option Expr → Option Expression
maybe_of None = None
maybe_of (Some e) = Some (expression_of e)

abbrev pub param_of : Param → x.Param
param_of p = record { name = p.name; kind = maybe_of p.kind; default = maybe_of p.default }

abbrev pub target_of : Target → x.Target
target_of (target.Name name) = x.ToName name
target_of (target.Attr e name) = x.ToAttr (expression_of e) name
target_of (target.Index e i) = x.ToIndex (expression_of e) (expression_of i)
target_of (target.Names names) = x.ToNames names

-- statements: one layer over the syntax of its parts, and then whole

abbrev pub kind_step : S.StmtKind-F Kind x.Branch x.ClassDef x.Clause x.Function Statement → Kind
kind_step S.Pass = x.Pass
kind_step S.Break = x.Break
kind_step S.Continue = x.Continue
kind_step (S.Return value) = x.Return (maybe_of value)
kind_step (S.Raise value) = x.Raise (maybe_of value)
kind_step (S.Import names) = x.Imports names
kind_step (S.From «module» names) = x.From «module» names
kind_step (S.Eval e) = x.Eval (expression_of e)
kind_step (S.Assign t e) = x.Assign (target_of t) (expression_of e)
kind_step (S.Annotate t kind value) = x.Annotate (target_of t) (expression_of kind) (maybe_of value)
kind_step (S.Augment t op e) = x.Augment (target_of t) op (expression_of e)
kind_step (S.If tested orelse) = x.If (branches tested) (statements orelse)
kind_step (S.While test body) = x.While (expression_of test) (statements body)
kind_step (S.For t e body) = x.For (target_of t) (expression_of e) (statements body)
kind_step (S.Try body handlers) = x.Try (statements body) (clauses handlers)
kind_step (S.Def function) = x.Def function
kind_step (S.Class class) = x.Class class

abbrev pub branch_step : S.Branch-F Kind x.Branch x.ClassDef x.Clause x.Function Statement → x.Branch
branch_step b = x.Tested b.line (expression_of b.test) (statements b.body)

abbrev pub class_step : S.ClassDef-F Kind x.Branch x.ClassDef x.Clause x.Function Statement → x.ClassDef
class_step c = x.Classed c.name (maybe_of c.base) (statements c.body)

abbrev pub clause_step : S.Clause-F Kind x.Branch x.ClassDef x.Clause x.Function Statement → x.Clause
clause_step c = x.Except (maybe_of c.matches) c.bind (statements c.body)

abbrev pub function_step : S.Function-F Kind x.Branch x.ClassDef x.Clause x.Function Statement → x.Function
function_step f = x.Defined f.name (map param_of f.params) (maybe_of f.result) (statements f.body)

abbrev pub statement_step : S.Stmt-F Kind x.Branch x.ClassDef x.Clause x.Function Statement → Statement
statement_step s = x.On s.line s.kind

abbrev pub kind_of : StmtKind → Kind
kind_of = fold-StmtKind Kind x.Branch x.ClassDef x.Clause x.Function Statement kind_step branch_step class_step clause_step function_step statement_step

abbrev pub branch_of : Branch → x.Branch
branch_of = fold-Branch Kind x.Branch x.ClassDef x.Clause x.Function Statement kind_step branch_step class_step clause_step function_step statement_step

abbrev pub class_of : ClassDef → x.ClassDef
class_of = fold-ClassDef Kind x.Branch x.ClassDef x.Clause x.Function Statement kind_step branch_step class_step clause_step function_step statement_step

abbrev pub clause_of : Clause → x.Clause
clause_of = fold-Clause Kind x.Branch x.ClassDef x.Clause x.Function Statement kind_step branch_step class_step clause_step function_step statement_step

abbrev pub function_of : Function → x.Function
function_of = fold-Function Kind x.Branch x.ClassDef x.Clause x.Function Statement kind_step branch_step class_step clause_step function_step statement_step

abbrev pub statement_of : Stmt → Statement
statement_of = fold-Stmt Kind x.Branch x.ClassDef x.Clause x.Function Statement kind_step branch_step class_step clause_step function_step statement_step

abbrev pub statements_of : List Stmt → Statements
statements_of ss = statements (map statement_of ss)

abbrev pub branches_of : List Branch → Branches
branches_of bs = branches (map branch_of bs)

abbrev pub clauses_of : List Clause → Clauses
clauses_of cs = clauses (map clause_of cs)

-- a module is its body
abbrev pub module_of : Module → Statements
module_of m = statements_of m.body
