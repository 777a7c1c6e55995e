-- What steps meet is met by calls, where the oracles that answer them meet it.
use Rattle.std.specs.Prelude.{ℕ, suc, nat_lt, ◌&&◌, not, List, [], ◌∷◌, length, drop, slice_set, codes, Option, Some, None}
use Rattle.std.specs.Str.{bytes_eq}
use Rattle.py_tree.specs.Syntax.{Text}
use Rattle.py_values.specs.declared.builtin.Builtin.{Builtin}
use Rattle.py_values.specs.declared.class_id.ClassId.{ClassId}
use Rattle.py_values.specs.declared.class_id.ClassId.TheVariants as id
use Rattle.py_values.specs.declared.exception.ExcKind.TheVariants as kind
use Rattle.gradual_types.specs.declared.facts.Signature.{Signature}
use Rattle.gradual_types.specs.Values as v
use Rattle.gradual_types.specs.Values.{Value}
use Rattle.gradual_types.specs.States.{default_of}
use Rattle.py_meaning.specs.Acts.{Act}
use Rattle.py_meaning.specs.Modules.{World, Scope, KnownFunction, function_of}
use Rattle.py_meaning.specs.Classes.{Found, slots_of, line_of, first_method, method_of, is_exception}
use Rattle.py_meaning.specs.Looks as seen
use Rattle.py_meaning.specs.Looks.{Seen}
use Rattle.py_meaning.specs.Arguments.{Argument, Given, bound, has_keyword, positional, with_receiver}
use Rattle.py_meaning.specs.Calls.{Oracle, defaults_of, type_at, default_value, pass_given, params_of, begun, entered, enter, enter_method, args_value, new_slots, unless_none, takes_no_argument, initialized, construct, is_instance, found_or_init, put_args, unreached, reached, super_of, super_call}
use Rattle.py_meaning.specs.Expressions.{called_builtin, called_method, called_bound, called}
use Rattle.py_meaning.proofs.Steps.{Steps, Ticked, Both, Kept, at, seq, chosen, raises, errs, or_raises, looks, may_write_kept}
use Rattle.py_meaning.proofs.StepsOfNames.{passes, reads}
use Rattle.py_meaning.proofs.StepsOfMethods.{method_results, asks_for}
use Rattle.py_meaning.proofs.StepsOfBuiltins as builtins

module _ {w : World} (q : Steps w) where
  -- ---- what is done without a call

  pub defaults : (k : Scope) (m n i : ℕ) → Kept q (default_value (at w k) m n i)
  defaults k m n i = q.at_state (λ s. or_raises q kind.TypeError (default_of n i (defaults_of w m s)))

  pub passes_given : (k : Scope) (m n : ℕ) (signature : Signature) (i : ℕ) (given : Given) → Kept q (pass_given (at w k) m n signature i given)
  passes_given k m n signature i [] = q.gives []
  passes_given k m n signature i (Some a ∷ given) = q.bind (passes q k a.origin (type_at signature.params i) a.value) (λ value. q.bind (passes_given k m n signature (suc i) given) (λ values. q.gives (value ∷ values)))
  passes_given k m n signature i (None ∷ given) = q.bind (defaults k m n i) (λ value. q.bind (passes_given k m n signature (suc i) given) (λ values. q.gives (value ∷ values)))

  pub nones : (a : Seen) → Kept q (unless_none w a)
  nones seen.Nil = q.gives tt
  nones _ = errs q

  pub no_arguments : (args : List Argument) → Kept q (takes_no_argument w args)
  no_arguments [] = q.gives tt
  no_arguments (a ∷ args) = errs q

  pub finds_method : (name : Text) (f : Found) → Kept q (found_or_init w name f)
  finds_method name (Some f) = q.gives _
  finds_method name None = chosen q (bytes_eq name (codes "__init__")) (q.gives None) (raises q kind.AttributeError)

  pub puts_args : (object : Value) (args : List Argument) (a : Seen) → Kept q (put_args w object args a)
  puts_args object args (seen.Instance h n class slots) =
      q.bind (may_write_kept q h) (λ a. q.bind (chosen q (has_keyword args) (errs q) (q.gives tt)) (λ b.
      q.bind (q.writes h n (v.Instance class (slice_set slots 0 (Some (args_value args))))) (λ c. q.gives v.Nil)))
  puts_args object args other = errs q

  pub reaches_none : (class : ClassId) (object : Value) (args : List Argument) → Kept q (unreached w class object args)
  reaches_none class object args = chosen q (is_exception w class) (q.bind (looks q object) (puts_args object args)) (seq q (no_arguments args) (q.gives v.Nil))

  pub builtins_called : (b : Builtin) (args : List Argument) → Kept q (called_builtin w b args)
  builtins_called b args = seq q (asks_for q b None) (chosen q (has_keyword args) (errs q) (builtins.results q b (positional args)))

  pub methods_called : (receiver : Value) (b : Builtin) (args : List Argument) → Kept q (called_method w receiver b args)
  methods_called receiver b args = seq q (asks_for q b (Some receiver)) (chosen q (has_keyword args) (errs q) (method_results q receiver b (positional args)))

  -- ---- functions and classes

  module _ {call call' : Oracle} (hc : (m n : ℕ) (values : List Value) → Both q (call m n values) (call' m n values)) (k : Scope) where
    pub begins : (m n : ℕ) (signature : Signature) (given : Option Given) → Both q (begun (at w k) call m n signature given) (begun (at w k) call' m n signature given)
    begins m n signature None = errs q
    begins m n signature (Some given) =
        q.bind (passes_given k m n signature 0 given) (λ values. q.at_state (λ s. chosen q (nat_lt s.depth 256) (hc m n values) (raises q kind.RecursionError)))

    pub enters_known : (m n : ℕ) (args : List Argument) (f : Option KnownFunction) → Both q (entered (at w k) call m n args f) (entered (at w k) call' m n args f)
    enters_known m n args None = errs q
    enters_known m n args (Some f) = begins m n f.signature (bound (params_of f.function) args)

    pub enters : (m n : ℕ) (args : List Argument) → Both q (enter (at w k) call m n args) (enter (at w k) call' m n args)
    enters m n args = enters_known m n args (function_of w m n)

    pub enters_method : (f : ℕ × ℕ) (receiver : Value) (args : List Argument) → Both q (enter_method (at w k) call f receiver args) (enter_method (at w k) call' f receiver args)
    enters_method f receiver args = enters f.0 f.1 (with_receiver receiver args)

    pub initializes : (object : Value) (class : ClassId) (args : List Argument) (f : Found)
        → Both q (initialized (at w k) call object class args f) (initialized (at w k) call' object class args f)
    initializes object class args (Some f) = q.bind (enters_method f object args) (λ answer. q.bind (looks q answer) nones)
    initializes object class args None = chosen q (is_exception w class && not (has_keyword args)) (q.gives tt) (no_arguments args)

    pub constructs : (class : ClassId) (args : List Argument) → Both q (construct (at w k) call class args) (construct (at w k) call' class args)
    constructs class args =
        q.bind (q.pays (length (slots_of w class))) (λ a. q.bind (q.makes (v.Instance class (new_slots w class args))) (λ object.
        q.bind (initializes object class args (method_of w class (codes "__init__"))) (λ b. q.gives object)))

    pub reaches : (class : ClassId) (object : Value) (args : List Argument) (f : Found) → Both q (reached (at w k) call class object args f) (reached (at w k) call' class object args f)
    reaches class object args (Some f) = enters_method f object args
    reaches class object args None = reaches_none class object args

    pub bounds_called : (receiver method : Value) (args : List Argument) → Both q (called_bound (at w k) call receiver method args) (called_bound (at w k) call' receiver method args)
    bounds_called receiver (v.Function m n) args = enters m n (with_receiver receiver args)
    bounds_called receiver (v.BuiltIn b) args = methods_called receiver b args
    bounds_called receiver _ args = errs q

    pub calls : (args : List Argument) (a : Seen) → Both q (called (at w k) call args a) (called (at w k) call' args a)
    calls args (seen.Function m n) = enters m n args
    calls args (seen.Bound receiver method) = bounds_called receiver method args
    calls args (seen.Class class) = constructs class args
    calls args (seen.BuiltIn b) = builtins_called b args
    calls args _ = errs q

-- ---- `super().NAME(..)`

module _ {w : World} {p q : Steps w} (t : Ticked p q) {call call' : Oracle} (hc : (m n : ℕ) (values : List Value) → Both p (call m n values) (call' m n values)) (k : Scope)
    (name : Text) {arguments arguments' : Act (List Argument)} (ha : Both q arguments arguments') where
  pub supers_of : (class : ClassId) → Both q (super_of (at w k) call name arguments class) (super_of (at w k) call' name arguments' class)
  supers_of class =
      q.bind (reads q k (codes "self")) (λ self. q.bind (looks q self) (λ object. q.bind (chosen q (is_instance w class object) (q.gives tt) (errs q)) (λ a.
      q.bind (finds_method q name (first_method w name (drop 1 (line_of w class)))) (λ found. q.bind ha (λ args. t.by (reaches p hc k class self args found))))))

  pub supers_in : (class : Option ℕ) → Both q (super_call (at w (record k { class = class })) call name arguments) (super_call (at w (record k { class = class })) call' name arguments')
  supers_in None = errs q
  supers_in (Some n) = supers_of (id.User k.«module» n)

  pub supers : Both q (super_call (at w k) call name arguments) (super_call (at w k) call' name arguments')
  supers = supers_in k.class
