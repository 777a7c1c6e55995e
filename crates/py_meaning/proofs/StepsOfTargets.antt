-- What steps meet is met by assignments, imports, definitions and the taking of exceptions.
use Rattle.std.specs.Prelude.{ℕ, suc, ◌==◌, List, [], ◌∷◌, length, Option, Some, None}
use Rattle.std.specs.Option.{option_map}
use Rattle.py_tree.specs.Syntax as x
use Rattle.py_tree.specs.Syntax.{Text, Expression, Target, Param, Kind, Statements, Function, ClassDef}
use Rattle.py_tree.specs.declared.operator.BinaryOp.{BinaryOp}
use Rattle.py_tree.specs.declared.operator.BinaryOp.TheVariants.{Add}
use Rattle.py_tree.specs.declared.statement.Import.{Import}
use Rattle.py_values.specs.declared.exception.ExcKind.TheVariants as kind
use Rattle.py_values.specs.declared.value.Home.{Home}
use Rattle.symbols.specs.Bindings.{alias_or, is_marker_import}
use Rattle.gradual_types.specs.declared.facts.Signature.{Signature}
use Rattle.gradual_types.specs.declared.py_type.PyType.TheVariants.{Dynamic}
use Rattle.gradual_types.specs.Values as v
use Rattle.gradual_types.specs.Values.{Value}
use Rattle.py_meaning.specs.Acts.{Act, Raised, Flow}
use Rattle.py_meaning.specs.Modules.{World, Scope, KnownFunction, function_of, written_name}
use Rattle.py_meaning.specs.Classes.{is_exception}
use Rattle.py_meaning.specs.Looks as seen
use Rattle.py_meaning.specs.Looks.{Seen}
use Rattle.py_meaning.specs.Boundaries.{Origin, From, origin_of, type_of_name}
use Rattle.py_meaning.specs.Calls.{Oracle, type_at}
use Rattle.py_meaning.specs.Targets.{assign_name, assign_all, unpack, assign, list_place, extended, augmented, augment}
use Rattle.py_meaning.specs.Exceptions.{raised_by, raised_again, exception_classes, classes_in, takes, bind_some, in_clause}
use Rattle.py_meaning.specs.Definitions.{function_number, set_defaults, set_all_defaults, define, defined, def_statement, class_number, class_value, member, members, read_base, class_statement}
use Rattle.py_meaning.specs.Imports.{module_named, import_modules, binds_nothing, taken, import_members}
use Rattle.py_meaning.proofs.Steps.{Steps, Ticked, Both, Kept, at, seq, chosen, raises, errs, looks, may_write_kept}
use Rattle.py_meaning.proofs.StepsOfOperators.{binaries}
use Rattle.py_meaning.proofs.StepsOfNames.{passes, reads, gets_attribute, sets_attribute, gets_item, sets_item}
use Rattle.py_meaning.proofs.StepsOfLoops.{gathers}
use Rattle.py_meaning.proofs.StepsOfMethods.{appends}
use Rattle.py_meaning.proofs.StepsOfBuiltins.{looks_all}
use Rattle.py_meaning.proofs.StepsOfCalls.{constructs}
use Rattle.py_meaning.proofs.StepsOfExpressions.{evals}

-- ---- what calls nothing

module _ {w : World} (q : Steps w) where
  pub assigns_name : (k : Scope) (name : Text) (origin : Origin) (value : Value) → Kept q (assign_name (at w k) name origin value)
  assigns_name k name origin value = q.bind (passes q k origin (type_of_name (at w k) name) value) (λ passed. q.binds (at w k) name (Some passed))

  pub assigns_all : (k : Scope) (names : List Text) (values : List Value) → Kept q (assign_all (at w k) names values)
  assigns_all k (name ∷ names) (value ∷ values) = seq q (assigns_name k name (From Dynamic) value) (assigns_all k names values)
  assigns_all k [] values = q.gives tt
  assigns_all k (name ∷ names) [] = q.gives tt

  pub unpacks : (k : Scope) (names : List Text) (value : Value) → Kept q (unpack (at w k) names value)
  unpacks k names value = q.bind (gathers q value) (λ values. chosen q (length values == length names) (assigns_all k names values) (raises q kind.ValueError))

  pub extends_kept : (old value : Value) (operator : BinaryOp) (place : Option (Home × ℕ)) → Kept q (extended w old value operator place)
  extends_kept old value Add (Some place) = seq q (q.bind (seq q (may_write_kept q place.0) (gathers q value)) (appends q place.0 place.1)) (q.gives old)
  extends_kept old value operator _ = binaries q operator old value

  pub augments_value : (operator : BinaryOp) (old value : Value) → Kept q (augmented w operator old value)
  augments_value operator old value = q.at_state (λ s. extends_kept old value operator (list_place w old s))

  -- ---- exceptions

  pub raises_again : (e : Option Value) → Kept q (raised_again w e)
  raises_again None = errs q
  raises_again (Some e) = q.halts (Raised e)

  pub finds_classes : (as' : List Seen) → Kept q (exception_classes w as')
  finds_classes [] = q.gives []
  finds_classes (seen.Class class ∷ rest) = q.bind (chosen q (is_exception w class) (q.gives tt) (errs q)) (λ a. q.bind (finds_classes rest) (λ classes. q.gives _))
  finds_classes (_ ∷ rest) = errs q

  pub reads_classes : (a : Seen) → Kept q (classes_in w a)
  reads_classes (seen.Tuple vs) = q.bind (looks_all q vs) finds_classes
  reads_classes a = finds_classes (a ∷ [])

  pub takes_kept : (matches e : Value) → Kept q (takes w matches e)
  takes_kept matches e = q.bind (looks q matches) (λ a. q.bind (reads_classes a) (λ classes. q.bind (looks q e) (λ exception. q.gives _)))

  pub binds_some : (k : Scope) (name : Option Text) (e : Value) → Kept q (bind_some (at w k) name e)
  binds_some k None e = q.gives tt
  binds_some k (Some name) e = assigns_name k name (From Dynamic) e

  pub clauses_kept : (k : Scope) (name : Option Text) (e : Value) {body body' : Act Flow} → Both q body body' → Both q (in_clause (at w k) name e body) (in_clause (at w k) name e body')
  clauses_kept k name e h = q.unbinds (at w k) name (seq q (binds_some k name e) h)

  -- ---- imports

  pub imports_modules : (k : Scope) (is : List Import) → Kept q (import_modules (at w k) is)
  imports_modules k [] = q.gives tt
  imports_modules k (i ∷ is) =
      seq q (chosen q (is_marker_import i) (q.gives tt) (q.binds (at w k) (alias_or i.alias i.name) (option_map v.Module (module_named w i.name)))) (imports_modules k is)

  pub imports_members : (k : Scope) (from : Text) (is : List Import) → Kept q (import_members (at w k) from is)
  imports_members k from [] = q.gives tt
  imports_members k from (i ∷ is) =
      seq q (chosen q (binds_nothing from) (q.gives tt) (q.binds (at w k) (alias_or i.alias i.name) (taken w from i.name))) (imports_members k from is)

-- ---- what evaluates

module _ {w : World} {p q : Steps w} (t : Ticked p q) {call call' : Oracle} (hc : (m n : ℕ) (values : List Value) → Both p (call m n values) (call' m n values)) (k : Scope) where
  pub assigns : (target : Target) (origin : Origin) (value : Value) → Both q (assign (at w k) call target origin value) (assign (at w k) call' target origin value)
  assigns (x.ToName name) origin value = assigns_name q k name origin value
  assigns (x.ToNames names) origin value = unpacks q k names value
  assigns (x.ToAttr e name) origin value = q.bind (evals t hc k e) (λ object. sets_attribute q k object name origin value)
  assigns (x.ToIndex e i) origin value = q.bind (evals t hc k e) (λ object. q.bind (evals t hc k i) (λ index. sets_item q object index value))

  pub augments : (target : Target) (operator : BinaryOp) {right right' : Act Value} → Both q right right'
      → Both q (augment (at w k) call target operator right) (augment (at w k) call' target operator right')
  augments (x.ToName name) operator hr =
      q.bind (reads q k name) (λ old. q.bind hr (λ value. q.bind (augments_value q operator old value) (λ new. assigns_name q k name (From Dynamic) new)))
  augments (x.ToAttr e name) operator hr =
      q.bind (evals t hc k e) (λ object. q.bind (gets_attribute q object name) (λ old. q.bind hr (λ value. q.bind (augments_value q operator old value) (λ new.
      sets_attribute q k object name (From Dynamic) new))))
  augments (x.ToIndex e i) operator hr =
      q.bind (evals t hc k e) (λ object. q.bind (evals t hc k i) (λ index. q.bind (gets_item q object index) (λ old. q.bind hr (λ value.
      q.bind (augments_value q operator old value) (λ new. sets_item q object index new)))))
  augments (x.ToNames names) operator hr = q.gives tt

  pub raises_by : (e : Value) (a : Seen) → Both q (raised_by (at w k) call e a) (raised_by (at w k) call' e a)
  raises_by e (seen.Class class) = chosen q (is_exception w class) (q.bind (t.by (constructs p hc k class [])) (λ made. q.halts (Raised made))) (errs q)
  raises_by e (seen.Instance h n class slots) = chosen q (is_exception w class) (q.halts (Raised e)) (errs q)
  raises_by e _ = errs q

  -- ---- `def`

  pub sets_default : (f : ℕ) (signature : Signature) (i : ℕ) (param : Param) (default : Option Expression) (params : List Param)
      → Both q (set_defaults (at w k) call f signature (suc i) params) (set_defaults (at w k) call' f signature (suc i) params)
      → Both q (set_defaults (at w k) call f signature i (record param { default = default } ∷ params)) (set_defaults (at w k) call' f signature i (record param { default = default } ∷ params))
  sets_default f signature i param None params h = seq q (q.gives (tt {0})) h
  sets_default f signature i param (Some e) params h =
      seq q (q.bind (evals t hc k e) (λ value. q.bind (passes q k (origin_of (at w k) e) (type_at signature.params i) value) (q.sets_default f i))) h

  pub sets_defaults : (f : ℕ) (signature : Signature) (i : ℕ) (params : List Param)
      → Both q (set_defaults (at w k) call f signature i params) (set_defaults (at w k) call' f signature i params)
  sets_defaults f signature i [] = q.gives tt
  sets_defaults f signature i (param ∷ params) = sets_default f signature i param param.default params (sets_defaults f signature (suc i) params)

  pub sets_all_defaults : (params : List Param) (n : ℕ) (f : Option KnownFunction) → Both q (set_all_defaults (at w k) call params n f) (set_all_defaults (at w k) call' params n f)
  sets_all_defaults params n None = q.gives tt
  sets_all_defaults params n (Some f) = sets_defaults n f.signature 0 params

  pub defines_at : (params : List Param) (n : Option ℕ) → Both q (define (at w k) call params n) (define (at w k) call' params n)
  defines_at params None = q.gives None
  defines_at params (Some n) = seq q (sets_all_defaults params n (function_of w k.«module» n)) (q.gives _)

  pub defines : (class : Option ℕ) (f : Function) → Both q (defined (at w k) call class f) (defined (at w k) call' class f)
  defines class (x.Defined name params result body) = defines_at params (function_number (at w k) class name)

  pub defs : (f : Function) → Both q (def_statement (at w k) call f) (def_statement (at w k) call' f)
  defs f = q.bind (defines None f) (q.binds (at w k) (written_name f))

  -- ---- `class`

  pub defines_member : (class : Option ℕ) (m : Kind) → Both q (member (at w k) call class m) (member (at w k) call' class m)
  defines_member class (x.Def f) = seq q (defines class f) (q.gives tt)
  defines_member class _ = q.gives tt

  pub defines_members : (class : Option ℕ) (body : Statements) → Both q (members (at w k) call class body) (members (at w k) call' class body)
  defines_members class x.end_of_statements = q.gives tt
  defines_members class (x.more_statements (x.On line m) rest) =
      seq q (seq q (seq q (q.sets_line (at w k) line) (q.pays 1)) (defines_member class m)) (defines_members class rest)

  pub reads_base : (base : Option Expression) → Both q (read_base (at w k) call base) (read_base (at w k) call' base)
  reads_base None = q.gives tt
  reads_base (Some e) = seq q (evals t hc k e) (q.gives tt)

  pub classes : (c : ClassDef) → Both q (class_statement (at w k) call c) (class_statement (at w k) call' c)
  classes (x.Classed name base body) =
      q.bind (reads_base base) (λ a. q.bind (defines_members (class_number (at w k) name) body) (λ b.
      q.binds (at w k) name (option_map (class_value (at w k)) (class_number (at w k) name))))
