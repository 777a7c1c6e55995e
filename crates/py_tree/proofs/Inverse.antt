-- Each piece of the abstract syntax is that of a tree of the program, by induction on the syntax.
use Rattle.std.proofs.Common.{◌≡◌, List, [], ◌∷◌, map, Option, Some, None, refl, ◌∙◌}
use Rattle.py_tree.specs.Syntax as x
use Rattle.py_tree.specs.Syntax.{Expression, Expressions, Pairs, Keywords, Kind, Statement, Statements, Branches, Clauses}
use Rattle.py_tree.specs.Joined.{expr_step, call_step, keyword_step, pair_step, expression_of, keyword_of, pair_of, expressions_of, pairs_of, keywords_of, maybe_of, param_of, target_of}
use Rattle.py_tree.specs.Joined.{kind_step, branch_step, class_step, clause_step, function_step, statement_step, kind_of, branch_of, class_of, clause_of, function_of, statement_of, statements_of, branches_of, clauses_of, module_of}
use Rattle.py_tree.specs.declared.expression.Expr.{Expr, roll-Expr}
use Rattle.py_tree.specs.declared.expression.Expr.TheOpen as E
use Rattle.py_tree.specs.declared.expression.Expr.TheFolds.{map-Expr, fold-Call, fold-roll-Expr, fold-roll-Call, fold-roll-Keyword, fold-roll-Pair}
use Rattle.py_tree.specs.declared.expression.Call.{Call, roll-Call}
use Rattle.py_tree.specs.declared.expression.Keyword.{Keyword, roll-Keyword}
use Rattle.py_tree.specs.declared.expression.Pair.{Pair, roll-Pair}
use Rattle.py_tree.specs.declared.expression.Param.{Param}
use Rattle.py_tree.specs.declared.expression.Target.{Target}
use Rattle.py_tree.specs.declared.expression.Target.TheVariants as target
use Rattle.py_tree.specs.declared.statement.Stmt.{Stmt, roll-Stmt}
use Rattle.py_tree.specs.declared.statement.StmtKind.{StmtKind, roll-StmtKind}
use Rattle.py_tree.specs.declared.statement.StmtKind.TheOpen as S
use Rattle.py_tree.specs.declared.statement.StmtKind.TheFolds.{map-StmtKind, fold-roll-StmtKind, fold-roll-Branch, fold-roll-ClassDef, fold-roll-Clause, fold-roll-Function, fold-roll-Stmt}
use Rattle.py_tree.specs.declared.statement.Branch.{Branch, roll-Branch}
use Rattle.py_tree.specs.declared.statement.Clause.{Clause, roll-Clause}
use Rattle.py_tree.specs.declared.statement.Function.{Function, roll-Function}
use Rattle.py_tree.specs.declared.statement.ClassDef.{ClassDef, roll-ClassDef}
use Rattle.py_tree.specs.declared.statement.Module.{Module}

-- ---- one layer of a tree, whose parts are trees

abbrev call_of : Call → Expression
call_of = fold-Call Expression Expression x.Keyword x.Pair expr_step call_step keyword_step pair_step

expression_made : {e : Expression} (layer : E.Expr-F Expr Call Keyword Pair)
    → expr_step (map-Expr Expr Call Keyword Pair Expression Expression x.Keyword x.Pair expression_of call_of keyword_of pair_of layer) ≡ e
    → (tree : Expr) × (expression_of tree ≡ e)
expression_made layer same = (roll-Expr layer, fold-roll-Expr Expression Expression x.Keyword x.Pair expr_step call_step keyword_step pair_step layer ∙ same)

call_made : (layer : E.Call-F Expr Call Keyword Pair) → call_of (roll-Call layer) ≡ x.Call (expression_of layer.callee) (expressions_of layer.args) (keywords_of layer.keys)
call_made = fold-roll-Call Expression Expression x.Keyword x.Pair expr_step call_step keyword_step pair_step

keyword_made : (layer : E.Keyword-F Expr Call Keyword Pair) → keyword_of (roll-Keyword layer) ≡ x.Named layer.name (expression_of layer.value)
keyword_made = fold-roll-Keyword Expression Expression x.Keyword x.Pair expr_step call_step keyword_step pair_step

pair_made : (layer : E.Pair-F Expr Call Keyword Pair) → pair_of (roll-Pair layer) ≡ x.Paired (expression_of layer.key) (expression_of layer.value)
pair_made = fold-roll-Pair Expression Expression x.Keyword x.Pair expr_step call_step keyword_step pair_step

kind_made : {k : Kind} (layer : S.StmtKind-F StmtKind Branch ClassDef Clause Function Stmt)
    → kind_step (map-StmtKind StmtKind Branch ClassDef Clause Function Stmt Kind x.Branch x.ClassDef x.Clause x.Function Statement kind_of branch_of class_of clause_of function_of statement_of layer) ≡ k
    → (tree : StmtKind) × (kind_of tree ≡ k)
kind_made layer same = (roll-StmtKind layer, fold-roll-StmtKind Kind x.Branch x.ClassDef x.Clause x.Function Statement kind_step branch_step class_step clause_step function_step statement_step layer ∙ same)

branch_made : (layer : S.Branch-F StmtKind Branch ClassDef Clause Function Stmt) → branch_of (roll-Branch layer) ≡ x.Tested layer.line (expression_of layer.test) (statements_of layer.body)
branch_made = fold-roll-Branch Kind x.Branch x.ClassDef x.Clause x.Function Statement kind_step branch_step class_step clause_step function_step statement_step

class_made : (layer : S.ClassDef-F StmtKind Branch ClassDef Clause Function Stmt) → class_of (roll-ClassDef layer) ≡ x.Classed layer.name (maybe_of layer.base) (statements_of layer.body)
class_made = fold-roll-ClassDef Kind x.Branch x.ClassDef x.Clause x.Function Statement kind_step branch_step class_step clause_step function_step statement_step

clause_made : (layer : S.Clause-F StmtKind Branch ClassDef Clause Function Stmt) → clause_of (roll-Clause layer) ≡ x.Except (maybe_of layer.matches) layer.bind (statements_of layer.body)
clause_made = fold-roll-Clause Kind x.Branch x.ClassDef x.Clause x.Function Statement kind_step branch_step class_step clause_step function_step statement_step

function_made : (layer : S.Function-F StmtKind Branch ClassDef Clause Function Stmt)
    → function_of (roll-Function layer) ≡ x.Defined layer.name (map param_of layer.params) (maybe_of layer.result) (statements_of layer.body)
function_made = fold-roll-Function Kind x.Branch x.ClassDef x.Clause x.Function Statement kind_step branch_step class_step clause_step function_step statement_step

statement_made : (layer : S.Stmt-F StmtKind Branch ClassDef Clause Function Stmt) → statement_of (roll-Stmt layer) ≡ x.On layer.line (kind_of layer.kind)
statement_made = fold-roll-Stmt Kind x.Branch x.ClassDef x.Clause x.Function Statement kind_step branch_step class_step clause_step function_step statement_step

-- ---- expressions

mutual
  expression_tree : (e : Expression) → (tree : Expr) × (expression_of tree ≡ e)
  expression_tree x.Nil = expression_made E.Nil refl
  expression_tree x.True = expression_made E.True refl
  expression_tree x.False = expression_made E.False refl
  expression_tree (x.Int n) = expression_made (E.Int n) refl
  expression_tree (x.Str text) = expression_made (E.Str text) refl
  expression_tree (x.Name name) = expression_made (E.Name name) refl
  expression_tree (x.Tuple items) = let es = expression_trees items in expression_made (E.Tuple es.0) (λ i. x.Tuple (es.1 i))
  expression_tree (x.Listed items) = let es = expression_trees items in expression_made (E.List es.0) (λ i. x.Listed (es.1 i))
  expression_tree (x.Dict items) = let ps = pair_trees items in expression_made (E.Dict ps.0) (λ i. x.Dict (ps.1 i))
  expression_tree (x.Unary op e) = let a = expression_tree e in expression_made (E.Unary op a.0) (λ i. x.Unary op (a.1 i))
  expression_tree (x.Binary op d e) = let a = expression_tree d in let b = expression_tree e in expression_made (E.Binary op a.0 b.0) (λ i. x.Binary op (a.1 i) (b.1 i))
  expression_tree (x.Compare op d e) = let a = expression_tree d in let b = expression_tree e in expression_made (E.Compare op a.0 b.0) (λ i. x.Compare op (a.1 i) (b.1 i))
  expression_tree (x.Is negated left right) = let a = expression_tree left in expression_made (E.Is negated a.0 right) (λ i. x.Is negated (a.1 i) right)
  expression_tree (x.Not e) = let a = expression_tree e in expression_made (E.Not a.0) (λ i. x.Not (a.1 i))
  expression_tree (x.And d e) = let a = expression_tree d in let b = expression_tree e in expression_made (E.And a.0 b.0) (λ i. x.And (a.1 i) (b.1 i))
  expression_tree (x.Or d e) = let a = expression_tree d in let b = expression_tree e in expression_made (E.Or a.0 b.0) (λ i. x.Or (a.1 i) (b.1 i))
  expression_tree (x.Cond test then other) =
      let a = expression_tree test in
      let b = expression_tree then in
      let c = expression_tree other in
      expression_made (E.Cond a.0 b.0 c.0) (λ i. x.Cond (a.1 i) (b.1 i) (c.1 i))
  expression_tree (x.Attr e name) = let a = expression_tree e in expression_made (E.Attr a.0 name) (λ i. x.Attr (a.1 i) name)
  expression_tree (x.Index d e) = let a = expression_tree d in let b = expression_tree e in expression_made (E.Index a.0 b.0) (λ i. x.Index (a.1 i) (b.1 i))
  expression_tree (x.Call callee args keys) =
      let a = expression_tree callee in
      let es = expression_trees args in
      let ks = keyword_trees keys in
      let layer : E.Call-F Expr Call Keyword Pair = record { callee = a.0; args = es.0; keys = ks.0 } in
      expression_made (E.Call (roll-Call layer)) (call_made layer ∙ λ i. x.Call (a.1 i) (es.1 i) (ks.1 i))

  expression_trees : (es : Expressions) → (trees : List Expr) × (expressions_of trees ≡ es)
  expression_trees x.end_of_expressions = ([], refl)
  expression_trees (x.more_expressions e es) = let a = expression_tree e in let b = expression_trees es in (a.0 ∷ b.0, λ i. x.more_expressions (a.1 i) (b.1 i))

  pair_tree : (p : x.Pair) → (tree : Pair) × (pair_of tree ≡ p)
  pair_tree (x.Paired key value) =
      let a = expression_tree key in
      let b = expression_tree value in
      let layer : E.Pair-F Expr Call Keyword Pair = record { key = a.0; value = b.0 } in
      (roll-Pair layer, pair_made layer ∙ λ i. x.Paired (a.1 i) (b.1 i))

  pair_trees : (ps : Pairs) → (trees : List Pair) × (pairs_of trees ≡ ps)
  pair_trees x.end_of_pairs = ([], refl)
  pair_trees (x.more_pairs p ps) = let a = pair_tree p in let b = pair_trees ps in (a.0 ∷ b.0, λ i. x.more_pairs (a.1 i) (b.1 i))

  keyword_tree : (k : x.Keyword) → (tree : Keyword) × (keyword_of tree ≡ k)
  keyword_tree (x.Named name value) =
      let a = expression_tree value in
      let layer : E.Keyword-F Expr Call Keyword Pair = record { name = name; value = a.0 } in
      (roll-Keyword layer, keyword_made layer ∙ λ i. x.Named name (a.1 i))

  keyword_trees : (ks : Keywords) → (trees : List Keyword) × (keywords_of trees ≡ ks)
  keyword_trees x.end_of_keywords = ([], refl)
  keyword_trees (x.more_keywords k ks) = let a = keyword_tree k in let b = keyword_trees ks in (a.0 ∷ b.0, λ i. x.more_keywords (a.1 i) (b.1 i))

maybe_tree : (m : Option Expression) → (tree : Option Expr) × (maybe_of tree ≡ m)
maybe_tree None = (None, refl)
maybe_tree (Some e) = let a = expression_tree e in (Some a.0, λ i. Some (a.1 i))

param_trees : (ps : List x.Param) → (trees : List Param) × (map param_of trees ≡ ps)
param_trees [] = ([], refl)
param_trees (p ∷ ps) =
    let kind = maybe_tree p.kind in
    let default = maybe_tree p.default in
    let rest = param_trees ps in
    (record { name = p.name; kind = kind.0; default = default.0 } ∷ rest.0, λ i. record { name = p.name; kind = kind.1 i; default = default.1 i } ∷ rest.1 i)

target_tree : (t : x.Target) → (tree : Target) × (target_of tree ≡ t)
target_tree (x.ToName name) = (target.Name name, refl)
target_tree (x.ToAttr e name) = let a = expression_tree e in (target.Attr a.0 name, λ i. x.ToAttr (a.1 i) name)
target_tree (x.ToIndex d e) = let a = expression_tree d in let b = expression_tree e in (target.Index a.0 b.0, λ i. x.ToIndex (a.1 i) (b.1 i))
target_tree (x.ToNames names) = (target.Names names, refl)

-- ---- statements

mutual
  kind_tree : (k : Kind) → (tree : StmtKind) × (kind_of tree ≡ k)
  kind_tree x.Pass = kind_made S.Pass refl
  kind_tree x.Break = kind_made S.Break refl
  kind_tree x.Continue = kind_made S.Continue refl
  kind_tree (x.Return value) = let a = maybe_tree value in kind_made (S.Return a.0) (λ i. x.Return (a.1 i))
  kind_tree (x.Raise value) = let a = maybe_tree value in kind_made (S.Raise a.0) (λ i. x.Raise (a.1 i))
  kind_tree (x.Imports names) = kind_made (S.Import names) refl
  kind_tree (x.From name names) = kind_made (S.From name names) refl
  kind_tree (x.Eval e) = let a = expression_tree e in kind_made (S.Eval a.0) (λ i. x.Eval (a.1 i))
  kind_tree (x.Assign t e) = let a = target_tree t in let b = expression_tree e in kind_made (S.Assign a.0 b.0) (λ i. x.Assign (a.1 i) (b.1 i))
  kind_tree (x.Annotate t kind value) =
      let a = target_tree t in
      let b = expression_tree kind in
      let c = maybe_tree value in
      kind_made (S.Annotate a.0 b.0 c.0) (λ i. x.Annotate (a.1 i) (b.1 i) (c.1 i))
  kind_tree (x.Augment t op e) = let a = target_tree t in let b = expression_tree e in kind_made (S.Augment a.0 op b.0) (λ i. x.Augment (a.1 i) op (b.1 i))
  kind_tree (x.If tested orelse) = let a = branch_trees tested in let b = statement_trees orelse in kind_made (S.If a.0 b.0) (λ i. x.If (a.1 i) (b.1 i))
  kind_tree (x.While test body) = let a = expression_tree test in let b = statement_trees body in kind_made (S.While a.0 b.0) (λ i. x.While (a.1 i) (b.1 i))
  kind_tree (x.For t e body) =
      let a = target_tree t in
      let b = expression_tree e in
      let c = statement_trees body in
      kind_made (S.For a.0 b.0 c.0) (λ i. x.For (a.1 i) (b.1 i) (c.1 i))
  kind_tree (x.Try body handlers) = let a = statement_trees body in let b = clause_trees handlers in kind_made (S.Try a.0 b.0) (λ i. x.Try (a.1 i) (b.1 i))
  kind_tree (x.Def function) = let a = function_tree function in kind_made (S.Def a.0) (λ i. x.Def (a.1 i))
  kind_tree (x.Class class) = let a = class_tree class in kind_made (S.Class a.0) (λ i. x.Class (a.1 i))

  statement_tree : (s : Statement) → (tree : Stmt) × (statement_of tree ≡ s)
  statement_tree (x.On line kind) =
      let a = kind_tree kind in
      let layer : S.Stmt-F StmtKind Branch ClassDef Clause Function Stmt = record { line = line; kind = a.0 } in
      (roll-Stmt layer, statement_made layer ∙ λ i. x.On line (a.1 i))

  statement_trees : (ss : Statements) → (trees : List Stmt) × (statements_of trees ≡ ss)
  statement_trees x.end_of_statements = ([], refl)
  statement_trees (x.more_statements s ss) = let a = statement_tree s in let b = statement_trees ss in (a.0 ∷ b.0, λ i. x.more_statements (a.1 i) (b.1 i))

  branch_tree : (b : x.Branch) → (tree : Branch) × (branch_of tree ≡ b)
  branch_tree (x.Tested line test body) =
      let a = expression_tree test in
      let b = statement_trees body in
      let layer : S.Branch-F StmtKind Branch ClassDef Clause Function Stmt = record { line = line; test = a.0; body = b.0 } in
      (roll-Branch layer, branch_made layer ∙ λ i. x.Tested line (a.1 i) (b.1 i))

  branch_trees : (bs : Branches) → (trees : List Branch) × (branches_of trees ≡ bs)
  branch_trees x.end_of_branches = ([], refl)
  branch_trees (x.more_branches b bs) = let a = branch_tree b in let c = branch_trees bs in (a.0 ∷ c.0, λ i. x.more_branches (a.1 i) (c.1 i))

  clause_tree : (c : x.Clause) → (tree : Clause) × (clause_of tree ≡ c)
  clause_tree (x.Except matches bind body) =
      let a = maybe_tree matches in
      let b = statement_trees body in
      let layer : S.Clause-F StmtKind Branch ClassDef Clause Function Stmt = record { matches = a.0; bind = bind; body = b.0 } in
      (roll-Clause layer, clause_made layer ∙ λ i. x.Except (a.1 i) bind (b.1 i))

  clause_trees : (cs : Clauses) → (trees : List Clause) × (clauses_of trees ≡ cs)
  clause_trees x.end_of_clauses = ([], refl)
  clause_trees (x.more_clauses c cs) = let a = clause_tree c in let b = clause_trees cs in (a.0 ∷ b.0, λ i. x.more_clauses (a.1 i) (b.1 i))

  function_tree : (f : x.Function) → (tree : Function) × (function_of tree ≡ f)
  function_tree (x.Defined name params result body) =
      let ps = param_trees params in
      let a = maybe_tree result in
      let b = statement_trees body in
      let layer : S.Function-F StmtKind Branch ClassDef Clause Function Stmt = record { name = name; params = ps.0; result = a.0; body = b.0 } in
      (roll-Function layer, function_made layer ∙ λ i. x.Defined name (ps.1 i) (a.1 i) (b.1 i))

  class_tree : (c : x.ClassDef) → (tree : ClassDef) × (class_of tree ≡ c)
  class_tree (x.Classed name base body) =
      let a = maybe_tree base in
      let b = statement_trees body in
      let layer : S.ClassDef-F StmtKind Branch ClassDef Clause Function Stmt = record { name = name; base = a.0; body = b.0 } in
      (roll-ClassDef layer, class_made layer ∙ λ i. x.Classed name (a.1 i) (b.1 i))

pub module_tree : (body : Statements) → (tree : Module) × (module_of tree ≡ body)
module_tree body = let made = statement_trees body in (record { body = made.0 }, made.1)
