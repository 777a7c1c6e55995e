-- Where code is written, and that its names are those of the scope that it is run in.
use Rattle.std.proofs.Common.{◌≡◌, ℕ, suc, ◌+◌, List, [], ◌∷◌, map, length, Option, Some, None, Bool, true, false, refl, sym, ap, ◌∙◌, subst, arith}
use Rattle.std.proofs.lemmas.Slice.Eq.{bytes_eq-Decides}
use Rattle.std.specs.Prelude.{if◌then◌else◌, cond, codes, ltb, not}
use Rattle.std.specs.List.{position, position_or_len}
use Rattle.std.specs.Option.{option_map}
use Rattle.std.specs.Str.{bytes_eq}
use Rattle.py_tree.specs.Syntax as x
use Rattle.py_tree.specs.Syntax.{Text, Expression, Statements}
use Rattle.py_values.specs.Builtins.{builtins, named_among}
use Rattle.py_values.specs.declared.builtin.Builtin.{Builtin}
use Rattle.py_values.specs.declared.exception.ExcKind.{ExcKind}
use Rattle.py_values.specs.declared.exception.ExcKind.TheVariants as kind
use Rattle.symbols.specs.Bindings.{globals}
use Rattle.symbols.specs.Words.{among, exception_named}
use Rattle.gradual_types.specs.declared.facts.ClassFacts.{ClassFacts}
use Rattle.gradual_types.specs.declared.py_type.PyType.{PyType}
use Rattle.gradual_types.specs.Values.{Value}
use Rattle.gradual_types.specs.States.{State}
use Rattle.py_meaning.specs.Acts.{Act}
use Rattle.py_meaning.specs.Modules.{World, Setting, ModuleText, text_of}
use Rattle.py_meaning.specs.Names.{is_local, read_special, read_builtin, read_name, set_name}
use Rattle.py_meaning.specs.Calls.{Oracle}
use Rattle.py_meaning.specs.Exceptions.{unbind}
use Rattle.py_meaning.specs.Definitions.{set_line, function_number, class_number}
use Rattle.py_meaning.specs.Expressions.{static_name, form_of}
use Rattle.bytecode.specs.declared.instr.Handler.{Handler}
use Rattle.bytecode.specs.declared.instr.Instr.{Instr}
use Rattle.bytecode.specs.declared.instr.Instr.TheVariants as i
use Rattle.bytecode.specs.declared.instr.Variable.TheVariants.{Local, Global}
use Rattle.bytecode.specs.Scopes.{names_of_scope, name_at, set, with_variable}
use Rattle.bytecode.specs.Moves.{Open, act, at_line, unbound}
use Rattle.bytecode.specs.Blocks.{thrown, after, pushing, land}
use Rattle.compile_plain.specs.Names.{Names, place_in, numbered, maybe_variable, load_builtin, load_global, load_local, load, variable_of, line_in, static_in, form_in, function_place, class_place}

-- ---- names by their numbers

same_texts : (a b : Text) → bytes_eq a b ≡ true → a ≡ b
same_texts a b e = (bytes_eq-Decides a b).0 e

pub position_more : {A : Type 0} (p : A → Bool) (a : A) (rest : List A) → position p (a ∷ rest) ≡ (if p a then Some 0 else option_map suc (position p rest))
position_more {A} p a rest = by (p a) (ltb (position_or_len p rest) (length rest)) refl where
  by : (b l : Bool) → ltb (position_or_len p rest) (length rest) ≡ l
      → cond (ltb (cond (not b) (1 + position_or_len p rest) 0) (suc (length rest))) (Some (cond (not b) (1 + position_or_len p rest) 0)) None
      ≡ (if b then Some 0 else option_map suc (cond l (Some (position_or_len p rest)) None))
  by true l e = grind arith
  by false true e = grind (arith, e)
  by false false e = grind (arith, e)

-- where a name stands among names, or that it doesn't
abbrev pub Placed : Text → List Text → Option ℕ → Type 0
Placed name names None = among name names ≡ false
Placed name names (Some n) = (among name names ≡ true) × (name_at names n ≡ name)

pub placed : (name : Text) (names : List Text) → Placed name names (place_in names name)
placed name [] = refl
placed name (first ∷ names) = subst (Placed name (first ∷ names)) (sym (position_more (bytes_eq name) first names)) (by (bytes_eq name first) refl (place_in names name) (placed name names)) where
  by : (b : Bool) → bytes_eq name first ≡ b → (o : Option ℕ) → Placed name names o → Placed name (first ∷ names) (if b then Some 0 else option_map suc o)
  by true e o p = (rw e refl, sym (same_texts name first e))
  by false e None p = rw e p
  by false e (Some n) p = (rw e p.0, p.1)

-- ---- a scope

abbrev pub site : World → ℕ → Option ℕ → Option (List Text) → PyType → Setting
site w m class locals result = record { world = w; scope = record { «module» = m; class = class; locals = locals; result = result } }

abbrev pub names_at : ModuleText → Option ℕ → Option (List Text) → Names
names_at t class locals = record { tree = t.tree; classes = map (λ (class : ClassFacts). class.name) t.facts.classes; class = class; locals = locals }

module _ (w : World) (m : ℕ) (t : ModuleText) (text : text_of w m ≡ Some t) (class : Option ℕ) (result : PyType) where
  is_local_is : (locals : Option (List Text)) (name : Text) → is_local (site w m class locals result) name ≡ among name (names_of_scope locals)
  is_local_is None name = refl
  is_local_is (Some names) name = refl

  pub lines : (locals : Option (List Text)) (line : ℕ) → set_line (site w m class locals result) line ≡ at_line (line_in locals line)
  lines None line = refl
  lines (Some names) line = refl

  module _ (call : Oracle) (locals : Option (List Text)) where
    -- what an instruction does is that a value is pushed
    pub record Gets (instr : Instr) (m' : Act Value) : Type 0 where
      pub by : (h : Handler) (pc : ℕ) (st : List Value) (around : Open) (s : State)
          → land (site w m class locals result) call h pc around (act (site w m class locals result) instr pc st around s) ≡ after (pushing (pc + 1) st around) (thrown (site w m class locals result) h around) (m' s)

    gets_builtin : (name : Text) (b : Option Builtin) (k : Option ExcKind) → Gets (load_builtin name b k) (read_builtin (site w m class locals result) name b k)
    gets_builtin name (Some b) k = record { by = λ h pc st around s. refl }
    gets_builtin name None (Some k) = record { by = λ h pc st around s. refl }
    gets_builtin name None None = by (bytes_eq name (codes "__name__")) refl where
      by : (b : Bool) → bytes_eq name (codes "__name__") ≡ b → Gets (if b then i.ModuleName else i.Fail kind.NameError) (read_special (site w m class locals result) name)
      by true e = record { by = λ h pc st around s. rw e refl }
      by false e = record { by = λ h pc st around s. rw e refl }

    gets_global : (name : Text) → is_local (site w m class locals result) name ≡ false → (o : Option ℕ) → Placed name (globals t.tree) o
        → Gets (load_global name o) (read_name (site w m class locals result) name)
    gets_global name not_local None p = rw not_local (rw text (rw p (gets_builtin name (named_among builtins name) (exception_named name))))
    gets_global name not_local (Some n) p = rw not_local (rw text (rw p.0 (record { by = λ h pc st around s. rw text (rw p.1 refl) })))

    gets_local : (name : Text) (o : Option ℕ) → Placed name (names_of_scope locals) o → Gets (load_local (names_at t class locals) name o) (read_name (site w m class locals result) name)
    gets_local name None p = gets_global name (is_local_is locals name ∙ p) (place_in (globals t.tree) name) (placed name (globals t.tree))
    gets_local name (Some n) p = rw (is_local_is locals name ∙ p.0) (record { by = λ h pc st around s. rw p.1 refl })

    pub loads : (name : Text) → Gets (load (names_at t class locals) name) (read_name (site w m class locals result) name)
    loads name = gets_local name (place_in (names_of_scope locals) name) (placed name (names_of_scope locals))

  -- ---- binding

  pub sets : (locals : Option (List Text)) (name : Text) (value : Option Value) (s : State)
      → set (site w m class locals result) (variable_of (names_at t class locals) name) value s ≡ set_name (site w m class locals result) name value s
  sets None name value s = by (place_in (globals t.tree) name) (placed name (globals t.tree)) where
    by : (o : Option ℕ) → Placed name (globals t.tree) o → set (site w m class None result) (numbered Global name o) value s ≡ set_name (site w m class None result) name value s
    by None p = refl
    by (Some n) p = rw text (rw p.1 refl)
  sets (Some names) name value s = by (place_in names name) (placed name names) where
    by : (o : Option ℕ) → Placed name names o → set (site w m class (Some names) result) (numbered Local name o) value s ≡ set_name (site w m class (Some names) result) name value s
    by None p = refl
    by (Some n) p = rw p.1 refl

  pub unsets : (locals : Option (List Text)) (name : Option Text) (s : State)
      → unbound (site w m class locals result) (maybe_variable (names_at t class locals) name) s ≡ unbind (site w m class locals result) name s
  unsets locals None s = refl
  unsets None (Some name) s = by (place_in (globals t.tree) name) (placed name (globals t.tree)) where
    by : (o : Option ℕ) → Placed name (globals t.tree) o → with_variable (site w m class None result) (numbered Global name o) None s ≡ unbind (site w m class None result) (Some name) s
    by None p = refl
    by (Some n) p = rw text (rw p.1 refl)
  unsets (Some names) (Some name) s = by (place_in names name) (placed name names) where
    by : (o : Option ℕ) → Placed name names o → with_variable (site w m class (Some names) result) (numbered Local name o) None s ≡ unbind (site w m class (Some names) result) (Some name) s
    by None p = refl
    by (Some n) p = rw p.1 refl

  -- ---- forms and numbers

  module _ (locals : Option (List Text)) where
    statics : (name : Text) → static_name (site w m class locals result) name ≡ static_in (names_at t class locals) name
    statics name = rw (is_local_is locals name) (rw text refl)

    pub forms : (e : Expression) → form_of (site w m class locals result) e ≡ form_in (names_at t class locals) e
    forms (x.Name name) = rw (statics name) refl
    forms (x.Attr e name) = refl
    forms x.Nil = refl
    forms x.True = refl
    forms x.False = refl
    forms (x.Int n) = refl
    forms (x.Str points) = refl
    forms (x.Tuple es) = refl
    forms (x.Listed es) = refl
    forms (x.Dict ps) = refl
    forms (x.Unary operator e) = refl
    forms (x.Binary operator e d) = refl
    forms (x.Compare operator e d) = refl
    forms (x.Is negated e constant) = refl
    forms (x.Not e) = refl
    forms (x.And e d) = refl
    forms (x.Or e d) = refl
    forms (x.Cond test e d) = refl
    forms (x.Index e d) = refl
    forms (x.Call callee args keys) = refl

    pub function_numbers : (k : Option ℕ) (name : Text) → function_number (site w m class locals result) k name ≡ function_place (names_at t class locals) k name
    function_numbers k name = rw text refl

    by_names : (name : Text) (classes : List ClassFacts) → position (λ (class : ClassFacts). bytes_eq name class.name) classes ≡ position (bytes_eq name) (map (λ (class : ClassFacts). class.name) classes)
    by_names name [] = refl
    by_names name (first ∷ classes) =
        position_more (λ (class : ClassFacts). bytes_eq name class.name) first classes
        ∙ ap (λ o. if bytes_eq name first.name then Some 0 else option_map suc o) (by_names name classes)
        ∙ sym (position_more (bytes_eq name) first.name (map (λ (class : ClassFacts). class.name) classes))

    pub class_numbers : (name : Text) → class_number (site w m class locals result) name ≡ class_place (names_at t class locals) name
    class_numbers name = rw text (by_names name t.facts.classes)
