-- What stands in a module, in the order of the text.
use Rattle.std.specs.Prelude.{ℕ, List, [], ◌∷◌, ◌++◌, Option, Some, None}
use Rattle.py_tree.specs.Syntax as x
use Rattle.py_tree.specs.Syntax.{Expression, Expressions, Pairs, Keywords, Param, Target, Statement, Kind, Statements, Branches, Clauses, Function, ClassDef}

-- the parts of an expression, theirs among them, each before its own
abbrev mutual
  pub parts : Expression → List Expression
  parts (x.Tuple items) = all_parts items
  parts (x.Listed items) = all_parts items
  parts (x.Dict items) = pairs_parts items
  parts (x.Unary op e) = e ∷ parts e
  parts (x.Binary op a b) = a ∷ parts a ++ b ∷ parts b
  parts (x.Compare op a b) = a ∷ parts a ++ b ∷ parts b
  parts (x.Is negated e right) = e ∷ parts e
  parts (x.Not e) = e ∷ parts e
  parts (x.And a b) = a ∷ parts a ++ b ∷ parts b
  parts (x.Or a b) = a ∷ parts a ++ b ∷ parts b
  parts (x.Cond test then other) = then ∷ parts then ++ test ∷ parts test ++ other ∷ parts other
  parts (x.Attr e name) = e ∷ parts e
  parts (x.Index e i) = e ∷ parts e ++ i ∷ parts i
  parts (x.Call callee args keys) = callee ∷ parts callee ++ all_parts args ++ keywords_parts keys
  parts _ = []

  -- the expressions and their parts
  pub all_parts : Expressions → List Expression
  all_parts x.end_of_expressions = []
  all_parts (x.more_expressions e rest) = e ∷ parts e ++ all_parts rest

  pub pairs_parts : Pairs → List Expression
  pairs_parts x.end_of_pairs = []
  pairs_parts (x.more_pairs (x.Paired key value) rest) = key ∷ parts key ++ value ∷ parts value ++ pairs_parts rest

  pub keywords_parts : Keywords → List Expression
  keywords_parts x.end_of_keywords = []
  keywords_parts (x.more_keywords (x.Named name value) rest) = value ∷ parts value ++ keywords_parts rest

-- the statements of a block and of the blocks in it, each before its own blocks; the bodies of defs and classes are other scopes
abbrev mutual
  pub of_scope : Statements → List Statement
  of_scope x.end_of_statements = []
  of_scope (x.more_statements (x.On line kind) rest) = x.On line kind ∷ in_blocks kind ++ of_scope rest

  pub in_blocks : Kind → List Statement
  in_blocks (x.If tested orelse) = in_branches tested ++ of_scope orelse
  in_blocks (x.While test body) = of_scope body
  in_blocks (x.For t e body) = of_scope body
  in_blocks (x.Try body handlers) = of_scope body ++ in_clauses handlers
  in_blocks _ = []

  pub in_branches : Branches → List Statement
  in_branches x.end_of_branches = []
  in_branches (x.more_branches (x.Tested line test body) rest) = of_scope body ++ in_branches rest

  pub in_clauses : Clauses → List Statement
  in_clauses x.end_of_clauses = []
  in_clauses (x.more_clauses (x.Except matches bind body) rest) = of_scope body ++ in_clauses rest

-- an expression that is no part of another, with the line at which a fault in it is reported: that of its statement, and for a
-- condition that of its `if` or `elif`
pub record Whole : Type 0 where
  pub line : ℕ
  pub expression : Expression

abbrev pub whole : ℕ → Expression → Whole
whole line e = record { line = line; expression = e }

abbrev pub maybe_whole : ℕ → Option Expression → List Whole
maybe_whole line None = []
maybe_whole line (Some e) = whole line e ∷ []

abbrev pub in_params : ℕ → List Param → List Whole
in_params line [] = []
in_params line (p ∷ ps) = maybe_whole line p.kind ++ maybe_whole line p.default ++ in_params line ps

abbrev pub in_target : ℕ → Target → List Whole
in_target line (x.ToName name) = []
in_target line (x.ToAttr e name) = whole line e ∷ []
in_target line (x.ToIndex e i) = whole line e ∷ whole line i ∷ []
in_target line (x.ToNames names) = []

-- all expressions of a block that are no parts of others, those in the bodies of defs and classes among them
abbrev mutual
  pub wholes : Statements → List Whole
  wholes x.end_of_statements = []
  wholes (x.more_statements (x.On line kind) rest) = kind_wholes line kind ++ wholes rest

  pub kind_wholes : ℕ → Kind → List Whole
  kind_wholes line (x.Return value) = maybe_whole line value
  kind_wholes line (x.Raise value) = maybe_whole line value
  kind_wholes line (x.Eval e) = whole line e ∷ []
  kind_wholes line (x.Assign t e) = in_target line t ++ whole line e ∷ []
  kind_wholes line (x.Annotate t kind value) = in_target line t ++ whole line kind ∷ maybe_whole line value
  kind_wholes line (x.Augment t op e) = in_target line t ++ whole line e ∷ []
  kind_wholes line (x.If tested orelse) = branches_wholes tested ++ wholes orelse
  kind_wholes line (x.While test body) = whole line test ∷ wholes body
  kind_wholes line (x.For t e body) = in_target line t ++ whole line e ∷ wholes body
  kind_wholes line (x.Try body handlers) = wholes body ++ clauses_wholes line handlers
  kind_wholes line (x.Def (x.Defined name params result body)) = in_params line params ++ maybe_whole line result ++ wholes body
  kind_wholes line (x.Class (x.Classed name base body)) = maybe_whole line base ++ wholes body
  kind_wholes line _ = []

  pub branches_wholes : Branches → List Whole
  branches_wholes x.end_of_branches = []
  branches_wholes (x.more_branches (x.Tested line test body) rest) = whole line test ∷ wholes body ++ branches_wholes rest

  pub clauses_wholes : ℕ → Clauses → List Whole
  clauses_wholes line x.end_of_clauses = []
  clauses_wholes line (x.more_clauses (x.Except matches bind body) rest) = maybe_whole line matches ++ wholes body ++ clauses_wholes line rest
