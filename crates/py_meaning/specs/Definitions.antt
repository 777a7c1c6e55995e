-- What a `def` and a class statement do.
use Rattle.std.specs.Prelude.{ℕ, suc, ◌==◌, Bool, true, false, ◌&&◌, List, [], ◌∷◌, Option, Some, None}
use Rattle.std.specs.List.{position}
use Rattle.std.specs.Option.{option_map}
use Rattle.std.specs.Str.{bytes_eq}
use Rattle.py_tree.specs.Syntax as x
use Rattle.py_tree.specs.Syntax.{Text, Expression, Param, Kind, Statements, Function, ClassDef}
use Rattle.py_values.specs.declared.class_id.ClassId.TheVariants as id
use Rattle.gradual_types.specs.declared.facts.Signature.{Signature}
use Rattle.gradual_types.specs.Values as v
use Rattle.gradual_types.specs.Values.{Value}
use Rattle.gradual_types.specs.States.{with_default}
use Rattle.py_meaning.specs.Acts.{Act, Gives, ◌>>=◌, ◌>>◌, give, done, tick}
use Rattle.py_meaning.specs.Modules.{Setting, ModuleText, FunctionIn, KnownFunction, functions, function_of, text_of, written_name}
use Rattle.py_meaning.specs.Boundaries.{pass, origin_of}
use Rattle.py_meaning.specs.Names.{set_name}
use Rattle.py_meaning.specs.Calls.{Oracle, type_at}
use Rattle.py_meaning.specs.Expressions.{eval}

-- in the module's own body the line is that of the statement that is under way
abbrev pub set_line : Setting → ℕ → Act (Unit {0})
set_line c line = in_scope c.scope.locals where
  in_scope : Option (List Text) → Act (Unit {0})
  in_scope None = λ s. Gives (record s { line = line }) tt
  in_scope (Some names) = done

-- ---- `def`

abbrev pub same_place : Option ℕ → Option ℕ → Bool
same_place None None = true
same_place (Some m) (Some n) = m == n
same_place a b = false

abbrev pub is_function : Option ℕ → Text → FunctionIn → Bool
is_function class name f = same_place class f.class && bytes_eq name (written_name f.function)

-- the number of the function of that name, in that class or in none
abbrev pub function_number : Setting → Option ℕ → Text → Option ℕ
function_number c class name = in_text (text_of c.world c.scope.«module») where
  in_text : Option ModuleText → Option ℕ
  in_text None = None
  in_text (Some t) = position (is_function class name) (functions t.tree)

abbrev pub set_default : ℕ → ℕ → Value → Act (Unit {0})
set_default function param value = λ s. Gives (record s { defaults = with_default function param value s.defaults }) tt

-- each default passes to its parameter before the next is evaluated
abbrev pub set_defaults : Setting → Oracle → ℕ → Signature → ℕ → List Param → Act (Unit {0})
set_defaults c call function signature i [] = done
set_defaults c call function signature i (p ∷ ps) = one p.default >> set_defaults c call function signature (suc i) ps where
  one : Option Expression → Act (Unit {0})
  one None = done
  one (Some e) = eval c call e >>= λ value. pass c (origin_of c e) (type_at signature.params i) value >>= set_default function i

abbrev pub set_all_defaults : Setting → Oracle → List Param → ℕ → Option KnownFunction → Act (Unit {0})
set_all_defaults c call params n None = done
set_all_defaults c call params n (Some f) = set_defaults c call n f.signature 0 params

-- the function of that number, once its defaults are set
abbrev pub define : Setting → Oracle → List Param → Option ℕ → Act (Option Value)
define c call params None = give None
define c call params (Some n) = set_all_defaults c call params n (function_of c.world c.scope.«module» n) >> give (Some (v.Function c.scope.«module» n))

abbrev pub defined : Setting → Oracle → Option ℕ → Function → Act (Option Value)
defined c call class (x.Defined name params result body) = define c call params (function_number c class name)

abbrev pub def_statement : Setting → Oracle → Function → Act (Unit {0})
def_statement c call f = defined c call None f >>= set_name c (written_name f)

-- ---- `class`

abbrev pub class_number : Setting → Text → Option ℕ
class_number c name = in_text (text_of c.world c.scope.«module») where
  in_text : Option ModuleText → Option ℕ
  in_text None = None
  in_text (Some t) = position (λ class. bytes_eq name class.name) t.facts.classes

abbrev pub class_value : Setting → ℕ → Value
class_value c n = v.Class (id.User c.scope.«module» n)

abbrev pub member : Setting → Oracle → Option ℕ → Kind → Act (Unit {0})
member c call class (x.Def f) = defined c call class f >> done
member c call class other = done

-- each statement of its body is begun, in order
abbrev pub members : Setting → Oracle → Option ℕ → Statements → Act (Unit {0})
members c call class x.end_of_statements = done
members c call class (x.more_statements (x.On line kind) rest) = set_line c line >> tick >> member c call class kind >> members c call class rest

abbrev pub read_base : Setting → Oracle → Option Expression → Act (Unit {0})
read_base c call None = done
read_base c call (Some e) = eval c call e >> done

-- the base is read, the body is executed, and then the name is bound
abbrev pub class_statement : Setting → Oracle → ClassDef → Act (Unit {0})
class_statement c call (x.Classed name base body) = do
  read_base c call base
  members c call (class_number c name) body
  set_name c name (option_map (class_value c) (class_number c name))
