-- That no integer literal is above the greatest `int`.
use Rattle.std.specs.Prelude.{ℕ, Bool, true, ◌&&◌, List, [], ◌∷◌, Option, Some, None, nat_le}
use Rattle.py_tree.specs.Syntax as x
use Rattle.py_tree.specs.Syntax.{Expression, Expressions, Pairs, Keywords, Param, Target, Kind, Statements, Branches, Clauses, Function, ClassDef}

abbrev pub greatest_int : ℕ
greatest_int = 9223372036854775807

abbrev mutual
  pub fits : Expression → Bool
  fits (x.Int n) = nat_le n greatest_int
  fits (x.Tuple items) = all_fit items
  fits (x.Listed items) = all_fit items
  fits (x.Dict items) = pairs_fit items
  fits (x.Unary op e) = fits e
  fits (x.Binary op a b) = fits a && fits b
  fits (x.Compare op a b) = fits a && fits b
  fits (x.Is negated e right) = fits e
  fits (x.Not e) = fits e
  fits (x.And a b) = fits a && fits b
  fits (x.Or a b) = fits a && fits b
  fits (x.Cond test then other) = fits test && (fits then && fits other)
  fits (x.Attr e name) = fits e
  fits (x.Index e i) = fits e && fits i
  fits (x.Call callee args keys) = fits callee && (all_fit args && keywords_fit keys)
  fits _ = true

  pub all_fit : Expressions → Bool
  all_fit x.end_of_expressions = true
  all_fit (x.more_expressions e rest) = fits e && all_fit rest

  pub pairs_fit : Pairs → Bool
  pairs_fit x.end_of_pairs = true
  pairs_fit (x.more_pairs (x.Paired key value) rest) = (fits key && fits value) && pairs_fit rest

  pub keywords_fit : Keywords → Bool
  keywords_fit x.end_of_keywords = true
  keywords_fit (x.more_keywords (x.Named name value) rest) = fits value && keywords_fit rest

abbrev pub maybe_fits : Option Expression → Bool
maybe_fits None = true
maybe_fits (Some e) = fits e

abbrev pub params_fit : List Param → Bool
params_fit [] = true
params_fit (p ∷ ps) = (maybe_fits p.kind && maybe_fits p.default) && params_fit ps

abbrev pub target_fits : Target → Bool
target_fits (x.ToName name) = true
target_fits (x.ToAttr e name) = fits e
target_fits (x.ToIndex e i) = fits e && fits i
target_fits (x.ToNames names) = true

abbrev mutual
  pub kind_fits : Kind → Bool
  kind_fits (x.Return value) = maybe_fits value
  kind_fits (x.Raise value) = maybe_fits value
  kind_fits (x.Eval e) = fits e
  kind_fits (x.Assign t e) = target_fits t && fits e
  kind_fits (x.Annotate t kind value) = target_fits t && (fits kind && maybe_fits value)
  kind_fits (x.Augment t op e) = target_fits t && fits e
  kind_fits (x.If tested orelse) = branches_fit tested && statements_fit orelse
  kind_fits (x.While test body) = fits test && statements_fit body
  kind_fits (x.For t e body) = target_fits t && (fits e && statements_fit body)
  kind_fits (x.Try body handlers) = statements_fit body && clauses_fit handlers
  kind_fits (x.Def function) = function_fits function
  kind_fits (x.Class class) = class_fits class
  kind_fits _ = true

  pub statements_fit : Statements → Bool
  statements_fit x.end_of_statements = true
  statements_fit (x.more_statements (x.On line kind) rest) = kind_fits kind && statements_fit rest

  pub branches_fit : Branches → Bool
  branches_fit x.end_of_branches = true
  branches_fit (x.more_branches (x.Tested line test body) rest) = (fits test && statements_fit body) && branches_fit rest

  pub clauses_fit : Clauses → Bool
  clauses_fit x.end_of_clauses = true
  clauses_fit (x.more_clauses (x.Except matches bind body) rest) = (maybe_fits matches && statements_fit body) && clauses_fit rest

  pub function_fits : Function → Bool
  function_fits (x.Defined name params result body) = params_fit params && (maybe_fits result && statements_fit body)

  pub class_fits : ClassDef → Bool
  class_fits (x.Classed name base body) = maybe_fits base && statements_fit body
