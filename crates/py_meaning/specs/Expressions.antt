-- What an expression does.
use Rattle.std.specs.Prelude.{pos, true, false, if◌then◌else◌, List, [], ◌∷◌, ◌++◌, length, Option, Some, None}
use Rattle.py_tree.specs.Syntax as x
use Rattle.py_tree.specs.Syntax.{Text, Expression, Expressions, Pairs, Keywords}
use Rattle.py_values.specs.declared.builtin.Builtin.{Builtin}
use Rattle.atom_ops.specs.Operators as op
use Rattle.symbols.specs.declared.binding.StaticName.{StaticName}
use Rattle.symbols.specs.declared.binding.StaticName.TheVariants as static
use Rattle.symbols.specs.SpecialNames.{is_super, module_context}
use Rattle.gradual_types.specs.declared.py_type.PyType.TheVariants.{Dynamic, Int64, CBool}
use Rattle.gradual_types.specs.Values as v
use Rattle.gradual_types.specs.Values.{Value}
use Rattle.py_meaning.specs.Acts.{Act, ◌>>=◌, ◌>>◌, give, pay, tick, choose}
use Rattle.py_meaning.specs.Modules.{World, Setting, ModuleText, text_of}
use Rattle.py_meaning.specs.Looks as seen
use Rattle.py_meaning.specs.Looks.{Seen, look, type_error, make}
use Rattle.py_meaning.specs.Operands.{operand, by_table, truth, opposite, binary}
use Rattle.py_meaning.specs.Comparisons.{comparison}
use Rattle.py_meaning.specs.Boundaries.{Origin, From, pass, origin_of}
use Rattle.py_meaning.specs.Names.{is_local, read_name}
use Rattle.py_meaning.specs.Attributes.{get_attribute}
use Rattle.py_meaning.specs.Subscripts.{get_item}
use Rattle.py_meaning.specs.Arguments.{Argument, has_keyword, positional, with_receiver}
use Rattle.py_meaning.specs.Calls.{Oracle, enter, construct, super_call, boxed}
use Rattle.py_meaning.specs.Builtins.{builtin_result}
use Rattle.py_meaning.specs.Methods.{ask_for, method_result, put_pairs}

-- ---- calls

abbrev pub called_builtin : World → Builtin → List Argument → Act Value
called_builtin w b args = ask_for w b None >> choose (has_keyword args) (type_error w) (builtin_result w b (positional args))

abbrev pub called_method : World → Value → Builtin → List Argument → Act Value
called_method w receiver b args = ask_for w b (Some receiver) >> choose (has_keyword args) (type_error w) (method_result w receiver b (positional args))

abbrev pub called_bound : Setting → Oracle → Value → Value → List Argument → Act Value
called_bound c call receiver (v.Function m n) args = enter c call m n (with_receiver receiver args)
called_bound c call receiver (v.BuiltIn b) args = called_method c.world receiver b args
called_bound c call receiver other args = type_error c.world

-- a call of what was looked at, behind its fuel of 1
abbrev pub called : Setting → Oracle → List Argument → Seen → Act Value
called c call args (seen.Function m n) = enter c call m n args
called c call args (seen.Bound receiver method) = called_bound c call receiver method args
called c call args (seen.Class class) = construct c call class args
called c call args (seen.BuiltIn b) = called_builtin c.world b args
called c call args other = type_error c.world

-- ---- which call it is, by what is written

pub data Form : Type 0 where
  Plain : Form
  Super : Text → Form  -- super().NAME(..)
  Static : StaticName → Form  -- int64(E), cbool(E), box(E), cast(E, E)

-- the static name that a name is in the module, where no local hides it
abbrev pub static_name : Setting → Text → Option StaticName
static_name c name = if is_local c name then None else in_text (text_of c.world c.scope.«module») where
  in_text : Option ModuleText → Option StaticName
  in_text None = None
  in_text (Some t) = (module_context t.tree).statics name

abbrev pub form_of_static : Option StaticName → Form
form_of_static (Some static.Int64) = Static static.Int64
form_of_static (Some static.CBool) = Static static.CBool
form_of_static (Some static.Box) = Static static.Box
form_of_static (Some static.Cast) = Static static.Cast
form_of_static other = Plain

abbrev pub form_of : Setting → Expression → Form
form_of c (x.Attr e name) = if is_super e then Super name else Plain
form_of c (x.Name name) = form_of_static (static_name c name)
form_of c e = Plain

-- such a call is no call: it begins none and costs nothing
abbrev pub converted : Setting → StaticName → Origin → Value → Act Value
converted c static.Int64 origin value = pass c origin Int64 value
converted c static.CBool origin value = pass c origin CBool value
converted c static.Cast origin value = pass c origin Dynamic value
converted c other origin value = give (boxed value)

-- the last argument alone is evaluated there
abbrev pub last_origin : Setting → Expressions → Origin
last_origin c x.end_of_expressions = From Dynamic
last_origin c (x.more_expressions e x.end_of_expressions) = origin_of c e
last_origin c (x.more_expressions e rest) = last_origin c rest

-- the callee comes before its arguments, and the call's fuel of 1 behind them
abbrev pub call_by : Setting → Oracle → Form → Act Value → Act (List Argument) → Act Value → Origin → Act Value
call_by c call Plain callee arguments last origin = do
  f ← callee
  args ← arguments
  tick
  a ← look c.world f
  called c call args a
call_by c call (Super name) callee arguments last origin = super_call c call name arguments
call_by c call (Static name) callee arguments last origin = last >>= converted c name origin

-- the positional arguments, and then those by keyword
abbrev pub in_turn : Act (List Argument) → Act (List Argument) → Act (List Argument)
in_turn first next = do
  args ← first
  keys ← next
  give (args ++ keys)

-- ---- displays

abbrev pub filled : World → List (Value × Value) → Value → Act Value
filled w pairs (v.Object h n) = put_pairs w h n pairs >> give (v.Object h n)
filled w pairs other = give other

-- a dictionary is made before its pairs are put
abbrev pub made_dict : World → List (Value × Value) → Act Value
made_dict w pairs = pay (length pairs) >> make w (v.Mapped []) >>= filled w pairs

-- ---- expressions, from left to right

abbrev mutual
  pub eval : Setting → Oracle → Expression → Act Value
  eval c call x.Nil = give v.Nil
  eval c call x.True = give (v.Truth true)
  eval c call x.False = give (v.Truth false)
  eval c call (x.Int n) = give (v.Int (pos n))
  eval c call (x.Str text) = give (v.Points text)
  eval c call (x.Name name) = read_name c name
  eval c call (x.Tuple es) = do
    vs ← eval_all c call es
    pay (length vs)
    give (v.Tuple (v.values vs))
  eval c call (x.Listed es) = do
    vs ← eval_all c call es
    pay (length vs)
    make c.world (v.Listed vs)
  eval c call (x.Dict ps) = do
    pairs ← eval_pairs c call ps
    made_dict c.world pairs
  eval c call (x.Unary operator e) = do
    value ← eval c call e
    a ← look c.world value
    by_table c.world (op.Unary operator (operand a))
  eval c call (x.Binary operator e d) = do
    left ← eval c call e
    right ← eval c call d
    binary c.world operator left right
  eval c call (x.Compare operator e d) = do
    left ← eval c call e
    right ← eval c call d
    comparison c.world operator left right
  eval c call (x.Is negated e constant) = do
    value ← eval c call e
    a ← look c.world value
    by_table c.world (op.Is negated (operand a) constant)
  eval c call (x.Not e) = do
    value ← eval c call e
    opposite c.world value
  eval c call (x.And e d) = do
    left ← eval c call e
    holds ← truth c.world left
    choose holds (eval c call d) (give left)
  eval c call (x.Or e d) = do
    left ← eval c call e
    holds ← truth c.world left
    choose holds (give left) (eval c call d)
  eval c call (x.Cond test then' other) = do
    value ← eval c call test
    holds ← truth c.world value
    choose holds (eval c call then') (eval c call other)
  eval c call (x.Attr e name) = do
    object ← eval c call e
    get_attribute c.world object name
  eval c call (x.Index e i) = do
    object ← eval c call e
    index ← eval c call i
    get_item c.world object index
  eval c call (x.Call callee args keys) =
      call_by c call (form_of c callee) (eval c call callee) (in_turn (eval_arguments c call args) (eval_keywords c call keys)) (eval_last c call args) (last_origin c args)

  pub eval_all : Setting → Oracle → Expressions → Act (List Value)
  eval_all c call x.end_of_expressions = give []
  eval_all c call (x.more_expressions e rest) = do
    value ← eval c call e
    values ← eval_all c call rest
    give (value ∷ values)

  pub eval_last : Setting → Oracle → Expressions → Act Value
  eval_last c call x.end_of_expressions = give v.Nil
  eval_last c call (x.more_expressions e x.end_of_expressions) = eval c call e
  eval_last c call (x.more_expressions e (x.more_expressions d rest)) = eval_last c call (x.more_expressions d rest)

  pub eval_pairs : Setting → Oracle → Pairs → Act (List (Value × Value))
  eval_pairs c call x.end_of_pairs = give []
  eval_pairs c call (x.more_pairs (x.Paired key value) rest) = do
    k ← eval c call key
    a ← eval c call value
    pairs ← eval_pairs c call rest
    give ((k, a) ∷ pairs)

  pub eval_arguments : Setting → Oracle → Expressions → Act (List Argument)
  eval_arguments c call x.end_of_expressions = give []
  eval_arguments c call (x.more_expressions e rest) = do
    value ← eval c call e
    args ← eval_arguments c call rest
    give (record { name = None; value = value; origin = origin_of c e } ∷ args)

  pub eval_keywords : Setting → Oracle → Keywords → Act (List Argument)
  eval_keywords c call x.end_of_keywords = give []
  eval_keywords c call (x.more_keywords (x.Named name e) rest) = do
    value ← eval c call e
    args ← eval_keywords c call rest
    give (record { name = Some name; value = value; origin = origin_of c e } ∷ args)
