-- The code of expressions, and the place behind it where it begins at a place.
use Rattle.std.specs.Prelude.{ℕ, suc, pos, ◌+◌, true, false, List, [], ◌∷◌, ◌++◌, codes, Option, Some, None}
use Rattle.py_tree.specs.Syntax as x
use Rattle.py_tree.specs.Syntax.{Text, Expression, Expressions, Pairs, Keywords}
use Rattle.py_values.specs.declared.exception.ExcKind.TheVariants as kind
use Rattle.symbols.specs.declared.binding.StaticName.{StaticName}
use Rattle.symbols.specs.declared.binding.StaticName.TheVariants as static
use Rattle.py_meaning.specs.Expressions.{Form, Plain, Super, Static}
use Rattle.bytecode.specs.declared.instr.Cell.{Cell}
use Rattle.bytecode.specs.declared.instr.Handler.{Handler}
use Rattle.bytecode.specs.declared.instr.Instr.TheVariants as i
use Rattle.bytecode.specs.declared.instr.Shape.{Shape}
use Rattle.compile_plain.specs.Names.{Names, load, form_in}
use Rattle.compile_plain.specs.Cells.{cell}

-- ---- parts

abbrev pub count : Expressions → ℕ
count x.end_of_expressions = 0
count (x.more_expressions e rest) = suc (count rest)

abbrev pub count_pairs : Pairs → ℕ
count_pairs x.end_of_pairs = 0
count_pairs (x.more_pairs p rest) = suc (count_pairs rest)

abbrev pub keyword_names : Keywords → List Text
keyword_names x.end_of_keywords = []
keyword_names (x.more_keywords (x.Named name e) rest) = name ∷ keyword_names rest

abbrev pub shape : Expressions → Keywords → Shape
shape args keys = record { positional = count args; keywords = keyword_names keys }

-- ---- calls, by their forms

-- the receiver and its test stand before the arguments, in a class; outside of one there is nothing to call
abbrev pub base_end : Option ℕ → ℕ → ℕ → ℕ
base_end None pc end = pc + 1
base_end (Some n) pc end = end + 1

abbrev pub static_end : StaticName → ℕ → ℕ
static_end static.Int64 end = end
static_end static.CBool end = end
static_end static.Cast end = end
static_end other end = end + 1

-- by the ends of the arguments behind the callee, of those behind the receiver, and of the last one alone
abbrev pub call_end : Form → Option ℕ → ℕ → ℕ → ℕ → ℕ → ℕ
call_end Plain class pc plain base last = plain + 1
call_end (Super name) class pc plain base last = base_end class pc base
call_end (Static name) class pc plain base last = static_end name last

abbrev pub base_code : Names → Handler → Option ℕ → Text → Shape → List Cell → List Cell
base_code names h None name s arguments = cell h (i.Fail kind.TypeError) ∷ []
base_code names h (Some n) name s arguments =
    cell h (load names (codes "self")) ∷ (cell h (i.IsReceiver name) ∷ (arguments ++ cell h (i.CallBase name s) ∷ []))

abbrev pub static_code : Handler → StaticName → List Cell
static_code h static.Int64 = []
static_code h static.CBool = []
static_code h static.Cast = []
static_code h other = cell h i.Box ∷ []

abbrev pub call_code : Names → Handler → Form → Shape → List Cell → List Cell → List Cell → List Cell
call_code names h Plain s plain base last = plain ++ cell h (i.Call s) ∷ []
call_code names h (Super name) s plain base last = base_code names h names.class name s base
call_code names h (Static name) s plain base last = last ++ static_code h name

-- ---- ends

abbrev mutual
  pub expr_end : Names → ℕ → Expression → ℕ
  expr_end names pc (x.Tuple es) = exprs_end names pc es + 1
  expr_end names pc (x.Listed es) = exprs_end names pc es + 1
  expr_end names pc (x.Dict ps) = pairs_end names pc ps + 1
  expr_end names pc (x.Unary operator e) = expr_end names pc e + 1
  expr_end names pc (x.Binary operator e d) = expr_end names (expr_end names pc e) d + 1
  expr_end names pc (x.Compare operator e d) = expr_end names (expr_end names pc e) d + 1
  expr_end names pc (x.Is negated e constant) = expr_end names pc e + 1
  expr_end names pc (x.Not e) = expr_end names pc e + 1
  expr_end names pc (x.And e d) = expr_end names (expr_end names pc e + 1) d
  expr_end names pc (x.Or e d) = expr_end names (expr_end names pc e + 1) d
  expr_end names pc (x.Cond test then' other) = expr_end names (expr_end names (expr_end names pc test + 1) then' + 1) other
  expr_end names pc (x.Attr e name) = expr_end names pc e + 1
  expr_end names pc (x.Index e d) = expr_end names (expr_end names pc e) d + 1
  expr_end names pc (x.Call callee args keys) =
      call_end (form_in names callee) names.class pc
      (keywords_end names (exprs_end names (expr_end names pc callee) args) keys)
      (keywords_end names (exprs_end names (pc + 1 + 1) args) keys)
      (last_end names pc args)
  expr_end names pc e = pc + 1

  pub exprs_end : Names → ℕ → Expressions → ℕ
  exprs_end names pc x.end_of_expressions = pc
  exprs_end names pc (x.more_expressions e rest) = exprs_end names (expr_end names pc e) rest

  pub last_end : Names → ℕ → Expressions → ℕ
  last_end names pc x.end_of_expressions = pc + 1
  last_end names pc (x.more_expressions e x.end_of_expressions) = expr_end names pc e
  last_end names pc (x.more_expressions e (x.more_expressions d rest)) = last_end names pc (x.more_expressions d rest)

  pub pairs_end : Names → ℕ → Pairs → ℕ
  pairs_end names pc x.end_of_pairs = pc
  pairs_end names pc (x.more_pairs (x.Paired key value) rest) = pairs_end names (expr_end names (expr_end names pc key) value) rest

  pub keywords_end : Names → ℕ → Keywords → ℕ
  keywords_end names pc x.end_of_keywords = pc
  keywords_end names pc (x.more_keywords (x.Named name e) rest) = keywords_end names (expr_end names pc e) rest

-- ---- code

abbrev mutual
  pub expr_code : Names → Handler → ℕ → Expression → List Cell
  expr_code names h pc x.Nil = cell h i.Nil ∷ []
  expr_code names h pc x.True = cell h (i.Truth true) ∷ []
  expr_code names h pc x.False = cell h (i.Truth false) ∷ []
  expr_code names h pc (x.Int n) = cell h (i.Int (pos n)) ∷ []
  expr_code names h pc (x.Str text) = cell h (i.Str text) ∷ []
  expr_code names h pc (x.Name name) = cell h (load names name) ∷ []
  expr_code names h pc (x.Tuple es) = exprs_code names h pc es ++ cell h (i.Tuple (count es)) ∷ []
  expr_code names h pc (x.Listed es) = exprs_code names h pc es ++ cell h (i.List (count es)) ∷ []
  expr_code names h pc (x.Dict ps) = pairs_code names h pc ps ++ cell h (i.Dict (count_pairs ps)) ∷ []
  expr_code names h pc (x.Unary operator e) = expr_code names h pc e ++ cell h (i.Unary operator) ∷ []
  expr_code names h pc (x.Binary operator e d) = expr_code names h pc e ++ (expr_code names h (expr_end names pc e) d ++ cell h (i.Binary operator) ∷ [])
  expr_code names h pc (x.Compare operator e d) = expr_code names h pc e ++ (expr_code names h (expr_end names pc e) d ++ cell h (i.Compare operator) ∷ [])
  expr_code names h pc (x.Is negated e constant) = expr_code names h pc e ++ cell h (i.Is negated constant) ∷ []
  expr_code names h pc (x.Not e) = expr_code names h pc e ++ cell h i.Not ∷ []
  expr_code names h pc (x.And e d) =
      let first = expr_end names pc e + 1 in
      expr_code names h pc e ++ (cell h (i.KeepUnless (expr_end names first d)) ∷ expr_code names h first d)
  expr_code names h pc (x.Or e d) =
      let first = expr_end names pc e + 1 in
      expr_code names h pc e ++ (cell h (i.KeepIf (expr_end names first d)) ∷ expr_code names h first d)
  expr_code names h pc (x.Cond test then' other) =
      let first = expr_end names pc test + 1 in
      let second = expr_end names first then' + 1 in
      expr_code names h pc test ++ (cell h (i.JumpUnless second) ∷ (expr_code names h first then' ++ (cell h (i.Jump (expr_end names second other)) ∷ expr_code names h second other)))
  expr_code names h pc (x.Attr e name) = expr_code names h pc e ++ cell h (i.GetAttribute name) ∷ []
  expr_code names h pc (x.Index e d) = expr_code names h pc e ++ (expr_code names h (expr_end names pc e) d ++ cell h i.GetItem ∷ [])
  expr_code names h pc (x.Call callee args keys) =
      let behind = expr_end names pc callee in
      call_code names h (form_in names callee) (shape args keys)
      (expr_code names h pc callee ++ (exprs_code names h behind args ++ keywords_code names h (exprs_end names behind args) keys))
      (exprs_code names h (pc + 1 + 1) args ++ keywords_code names h (exprs_end names (pc + 1 + 1) args) keys)
      (last_code names h pc args)

  pub exprs_code : Names → Handler → ℕ → Expressions → List Cell
  exprs_code names h pc x.end_of_expressions = []
  exprs_code names h pc (x.more_expressions e rest) = expr_code names h pc e ++ exprs_code names h (expr_end names pc e) rest

  -- of the last one alone
  pub last_code : Names → Handler → ℕ → Expressions → List Cell
  last_code names h pc x.end_of_expressions = cell h i.Nil ∷ []
  last_code names h pc (x.more_expressions e x.end_of_expressions) = expr_code names h pc e
  last_code names h pc (x.more_expressions e (x.more_expressions d rest)) = last_code names h pc (x.more_expressions d rest)

  pub pairs_code : Names → Handler → ℕ → Pairs → List Cell
  pairs_code names h pc x.end_of_pairs = []
  pairs_code names h pc (x.more_pairs (x.Paired key value) rest) =
      let second = expr_end names pc key in
      expr_code names h pc key ++ (expr_code names h second value ++ pairs_code names h (expr_end names second value) rest)

  pub keywords_code : Names → Handler → ℕ → Keywords → List Cell
  keywords_code names h pc x.end_of_keywords = []
  keywords_code names h pc (x.more_keywords (x.Named name e) rest) = expr_code names h pc e ++ keywords_code names h (expr_end names pc e) rest
