-- The uses of static names: of each name in an expression, in the order of the text, that is a static name there, with the line at which a
-- fault in it is reported.
use Rattle.std.specs.Prelude.{ℕ, List, [], ◌∷◌, ◌++◌, Option, Some, None}
use Rattle.std.specs.List.{flat_map}
use Rattle.py_tree.specs.Syntax as x
use Rattle.py_tree.specs.Syntax.{Expression, Expressions, Pairs, Keywords, Param, Target, Kind, Statements, Branches, Clauses, Function, ClassDef}
use Rattle.symbols.specs.declared.binding.Binding.{Binding}
use Rattle.symbols.specs.declared.binding.StaticName.{StaticName}
use Rattle.symbols.specs.declared.resolved.ModuleKind.{ModuleKind}
use Rattle.symbols.specs.declared.static_use.StaticUse.{StaticUse}
use Rattle.symbols.specs.Bindings.{bindings}
use Rattle.symbols.specs.ModuleKinds.{module_kind}
use Rattle.symbols.specs.SpecialNames.{Context, context_in, in_class_body, in_function_body, static_of}

abbrev pub use_at : ℕ → Option StaticName → List StaticUse
use_at line None = []
use_at line (Some name) = record { line = line; name = name } ∷ []

-- in an expression
abbrev mutual
  pub uses : Context → ℕ → Expression → List StaticUse
  uses c line (x.Name name) = use_at line (static_of c name)
  uses c line (x.Tuple items) = uses_in_all c line items
  uses c line (x.Listed items) = uses_in_all c line items
  uses c line (x.Dict items) = uses_in_pairs c line items
  uses c line (x.Unary op e) = uses c line e
  uses c line (x.Binary op a b) = uses c line a ++ uses c line b
  uses c line (x.Compare op a b) = uses c line a ++ uses c line b
  uses c line (x.Is negated e right) = uses c line e
  uses c line (x.Not e) = uses c line e
  uses c line (x.And a b) = uses c line a ++ uses c line b
  uses c line (x.Or a b) = uses c line a ++ uses c line b
  uses c line (x.Cond test value other) = uses c line value ++ (uses c line test ++ uses c line other)
  uses c line (x.Attr e name) = uses c line e
  uses c line (x.Index e i) = uses c line e ++ uses c line i
  uses c line (x.Call callee args keys) = uses c line callee ++ (uses_in_all c line args ++ uses_in_keywords c line keys)
  uses c line _ = []

  pub uses_in_all : Context → ℕ → Expressions → List StaticUse
  uses_in_all c line x.end_of_expressions = []
  uses_in_all c line (x.more_expressions e rest) = uses c line e ++ uses_in_all c line rest

  pub uses_in_pairs : Context → ℕ → Pairs → List StaticUse
  uses_in_pairs c line x.end_of_pairs = []
  uses_in_pairs c line (x.more_pairs (x.Paired key value) rest) = uses c line key ++ (uses c line value ++ uses_in_pairs c line rest)

  pub uses_in_keywords : Context → ℕ → Keywords → List StaticUse
  uses_in_keywords c line x.end_of_keywords = []
  uses_in_keywords c line (x.more_keywords (x.Named name value) rest) = uses c line value ++ uses_in_keywords c line rest

abbrev pub maybe_uses : Context → ℕ → Option Expression → List StaticUse
maybe_uses c line None = []
maybe_uses c line (Some e) = uses c line e

-- ---- statements

abbrev pub target_uses : Context → ℕ → Target → List StaticUse
target_uses c line (x.ToAttr e name) = uses c line e
target_uses c line (x.ToIndex e i) = uses c line e ++ uses c line i
target_uses c line t = []

abbrev pub pair_uses : Context → ℕ → Target → Expression → List StaticUse
pair_uses c line t e = target_uses c line t ++ uses c line e

abbrev pub param_uses : Context → ℕ → Param → List StaticUse
param_uses c line p = maybe_uses c line p.kind ++ maybe_uses c line p.default

abbrev pub signature_uses : Context → ℕ → List Param → Option Expression → List StaticUse
signature_uses c line params result = flat_map (param_uses c line) params ++ maybe_uses c line result

-- of a block and of the blocks in it, the bodies of defs and classes among them
abbrev mutual
  pub block_uses : Context → Statements → List StaticUse
  block_uses c x.end_of_statements = []
  block_uses c (x.more_statements (x.On line kind) rest) = statement_uses c line kind ++ block_uses c rest

  pub statement_uses : Context → ℕ → Kind → List StaticUse
  statement_uses c line (x.Return value) = maybe_uses c line value
  statement_uses c line (x.Raise value) = maybe_uses c line value
  statement_uses c line (x.Eval e) = uses c line e
  statement_uses c line (x.Assign t e) = pair_uses c line t e
  statement_uses c line (x.Annotate t kind value) = pair_uses c line t kind ++ maybe_uses c line value
  statement_uses c line (x.Augment t op e) = pair_uses c line t e
  statement_uses c line (x.If tested orelse) = branches_uses c tested ++ block_uses c orelse
  statement_uses c line (x.While test body) = uses c line test ++ block_uses c body
  statement_uses c line (x.For t e body) = pair_uses c line t e ++ block_uses c body
  statement_uses c line (x.Try body handlers) = block_uses c body ++ clauses_uses c line handlers
  statement_uses c line (x.Def f) = function_uses c line f
  statement_uses c line (x.Class class) = class_uses c line class
  statement_uses c line _ = []

  pub branches_uses : Context → Branches → List StaticUse
  branches_uses c x.end_of_branches = []
  branches_uses c (x.more_branches (x.Tested line test body) rest) = uses c line test ++ (block_uses c body ++ branches_uses c rest)

  -- a clause has the line of its `try`
  pub clauses_uses : Context → ℕ → Clauses → List StaticUse
  clauses_uses c line x.end_of_clauses = []
  clauses_uses c line (x.more_clauses (x.Except matches name body) rest) = maybe_uses c line matches ++ (block_uses c body ++ clauses_uses c line rest)

  -- the signature stands outside the function
  pub function_uses : Context → ℕ → Function → List StaticUse
  function_uses c line (x.Defined name params result body) = signature_uses c line params result ++ block_uses (in_function_body c params body) body

  pub class_uses : Context → ℕ → ClassDef → List StaticUse
  class_uses c line (x.Classed name base body) = maybe_uses c line base ++ block_uses (in_class_body c) body

-- of a module
abbrev pub uses_with : ModuleKind → List Binding → Statements → List StaticUse
uses_with kind bs body = block_uses (context_in kind bs) body

abbrev pub static_uses : Statements → List StaticUse
static_uses body = uses_with (module_kind body) (bindings body) body
