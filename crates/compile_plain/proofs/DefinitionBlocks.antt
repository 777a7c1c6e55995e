-- The code of `def`, of class statements and of imports does what they mean.
use Rattle.std.proofs.Common.{◌≡◌, ℕ, zero, suc, ◌+◌, List, [], ◌∷◌, ◌++◌, length, Option, Some, None, Bool, true, false, refl, sym, ◌∙◌, subst, arith}
use Rattle.std.specs.Prelude.{slice_get, if◌then◌else◌, is_some}
use Rattle.std.specs.List.{position}
use Rattle.std.specs.Option.{option_map}
use Rattle.py_tree.specs.Syntax as x
use Rattle.py_tree.specs.Syntax.{Text, Expression, Param, Kind, Statements, Function, ClassDef}
use Rattle.py_tree.specs.declared.statement.Import.{Import}
use Rattle.symbols.specs.Bindings.{alias_or, is_marker_import}
use Rattle.gradual_types.specs.declared.facts.Signature.{Signature}
use Rattle.gradual_types.specs.declared.py_type.PyType.{PyType}
use Rattle.gradual_types.specs.Values as v
use Rattle.gradual_types.specs.Values.{Value}
use Rattle.gradual_types.specs.States.{State}
use Rattle.py_meaning.specs.Acts.{Act, Run, Gives, Halts, and_then, ◌>>=◌, ◌>>◌, give, done, choose, tick}
use Rattle.py_meaning.specs.Modules.{World, Setting, ModuleText, FunctionIn, KnownFunction, text_of, functions, function_of, known_function}
use Rattle.py_meaning.specs.Names.{set_name}
use Rattle.py_meaning.specs.Calls.{Oracle}
use Rattle.py_meaning.specs.Definitions.{is_function, set_line, set_defaults, define, def_statement, class_statement, member, members, read_base, class_value}
use Rattle.py_meaning.specs.Imports.{module_named, binds_nothing, taken, import_modules, import_members}
use Rattle.bytecode.specs.declared.instr.Cell.{Cell}
use Rattle.bytecode.specs.declared.instr.Handler.{Handler}
use Rattle.bytecode.specs.declared.instr.Instr.{Instr}
use Rattle.bytecode.specs.declared.instr.Instr.TheVariants as i
use Rattle.bytecode.specs.declared.instr.Variable.{Variable}
use Rattle.bytecode.specs.Scopes.{set}
use Rattle.bytecode.specs.Moves.{Open, To, act, at_line}
use Rattle.bytecode.specs.Blocks.{At, thrown, after, going, land, Leads, here}
use Rattle.compile_plain.specs.Names.{Names, variable_of, line_in, function_place, class_place}
use Rattle.compile_plain.specs.Cells.{cell}
use Rattle.compile_plain.specs.Expressions.{expr_end}
use Rattle.compile_plain.specs.Assignments.{store}
use Rattle.compile_plain.specs.Definitions as def
use Rattle.compile_plain.proofs.Places.{HasAt, has_front, has_behind, default_length, own_defaults_length, member_length, members_length, base_class_length, import_length, member_import_length}
use Rattle.compile_plain.proofs.Comes.{Comes, cell_step, then_on_comes, acts}
use Rattle.compile_plain.proofs.Sites.{position_more, site, names_at, sets, lines, function_numbers, class_numbers}
use Rattle.compile_plain.proofs.ExpressionBlocks.{peel}

-- where a list has one that passes, another of the same length has one at its place
there : {A B : Type 0} (xs : List A) (ys : List B) (n : ℕ) → length xs ≡ length ys → is_some (slice_get xs n) ≡ true → is_some (slice_get ys n) ≡ true
there [] ys n e h = cc (h)
there (a ∷ xs) [] n e h = absurd (omega (arith, e))
there (a ∷ xs) (b ∷ ys) zero e h = refl
there (a ∷ xs) (b ∷ ys) (suc n) e h = there xs ys n (omega (arith, e)) h

passes : {A : Type 0} (p : A → Bool) (xs : List A) (n : ℕ) → position p xs ≡ Some n → is_some (slice_get xs n) ≡ true
passes p [] n e = cc (e)
passes p (a ∷ xs) n e = by (p a) (position p xs) (passes p xs) (sym (position_more p a xs) ∙ e) where
  by : (b : Bool) (o : Option ℕ) → ((k : ℕ) → o ≡ Some k → is_some (slice_get xs k) ≡ true) → (if b then Some 0 else option_map suc o) ≡ Some n → is_some (slice_get (a ∷ xs) n) ≡ true
  by true o h f = let at : 0 ≡ n = cc (f) in subst (λ n. is_some (slice_get (a ∷ xs) n) ≡ true) at refl
  by false None h f = cc (f)
  by false (Some k) h f = let at : suc k ≡ n = cc (f) in subst (λ n. is_some (slice_get (a ∷ xs) n) ≡ true) at (h k refl)

pub record Known (w : World) (m n : ℕ) : Type 0 where
  pub function : KnownFunction
  pub is : function_of w m n ≡ Some function

known_of : (f : Option FunctionIn) (signature : Option Signature) → is_some f ≡ true → is_some signature ≡ true → (function : KnownFunction) × (known_function f signature ≡ Some function)
known_of (Some f) (Some signature) h k = (record { function = f.function; class = f.class; signature = signature }, refl)
known_of None signature h k = cc (h)
known_of (Some f) None h k = cc (k)

module _ (w : World) (m : ℕ) (t : ModuleText) (text : text_of w m ≡ Some t) (long : length (functions t.tree) ≡ length t.facts.signatures) (class : Option ℕ) (locals : Option (List Text)) (result : PyType) (call : Oracle) (code : List Cell) where
  abbrev c : Setting
  c = site w m class locals result

  abbrev names : Names
  names = names_at t class locals

  knows : (k : Option ℕ) (name : Text) (n : ℕ) → function_place names k name ≡ Some n → Known w m n
  knows k name n e =
      let some = passes (is_function k name) (functions t.tree) n e in
      let f = known_of (slice_get (functions t.tree) n) (slice_get t.facts.signatures n) some (there (functions t.tree) t.facts.signatures n long some) in
      record { function = f.0; is = rw text f.1 }

  -- ---- default values

  module _ (h : Handler) (st : List Value) (around : Open) where
    abbrev Goes : ℕ → List Cell → ℕ → Act (Unit {0}) → Type 0
    Goes pc cells q act = (s : State) → HasAt code pc cells → Comes c call code (At pc st around s) (going q st around) (thrown c h around) (act s)

    default_does : (function : ℕ) (signature : Signature) (n : ℕ) (name : Text) (kind : Option Expression) (o : Option Expression) (ps : List Param) (pc : ℕ)
        → ((q : ℕ) → Goes q (def.defaults_code names h function (suc n) q ps) (def.defaults_end names q ps) (set_defaults c call function signature (suc n) ps))
        → Goes pc (def.default_code names h function n pc o ++ def.defaults_code names h function (suc n) (def.default_end names pc o) ps) (def.defaults_end names (def.default_end names pc o) ps)
        (set_defaults c call function signature n (record { name = name; kind = kind; default = o } ∷ ps))
    default_does function signature n name kind None ps pc rest s has = rest pc s has
    default_does function signature n name kind (Some e) ps pc rest s has =
        then_on_comes c call code {f = going (expr_end names pc e + 1) st around} _ (peel w m t text class locals result call code h e pc st around s _ (has_front code pc (def.default_code names h function n pc (Some e)) _ has) (λ a y has'. acts c call code has'.0 here)) (λ y.
        rest (expr_end names pc e + 1) y (has_behind code _ (default_length names h function n (Some e) pc) has))

    defaults_do : (function : ℕ) (signature : Signature) (n : ℕ) (ps : List Param) (pc : ℕ) → Goes pc (def.defaults_code names h function n pc ps) (def.defaults_end names pc ps) (set_defaults c call function signature n ps)
    defaults_do function signature n [] pc s has = record { by = here }
    defaults_do function signature n (p ∷ ps) pc s has = default_does function signature n p.name p.kind p.default ps pc (λ q. defaults_do function signature (suc n) ps q) s has

    -- what gives nothing but a value that is known
    given : {A B : Type 0} (r : Run A) (b : B) (k : B → Act (Unit {0})) → and_then (and_then r (λ _. give b)) k ≡ and_then r (λ _. k b)
    given (Gives y a) b k = refl
    given (Halts y why) b k = refl

    names_set : (name : Text) (value : Option Value) (x : Variable) (pc : ℕ) (s : State) → x ≡ variable_of names name → (r : Run (Unit {0})) → r ≡ set c (variable_of names name) value s
        → Leads c call code (after (going (pc + 1) st around) (thrown c h around) r) (after (going (pc + 1) st around) (thrown c h around) (set_name c name value s))
    names_set name value x pc s e r is =
        subst (λ r. Leads c call code (after (going (pc + 1) st around) (thrown c h around) r) (after (going (pc + 1) st around) (thrown c h around) (set_name c name value s))) (sym (is ∙ sets w m t text class result locals name value s)) here

    unbinds : (name : Text) (pc : ℕ) → Goes pc (cell h (i.Unbind (variable_of names name)) ∷ []) (pc + 1) (set_name c name None)
    unbinds name pc s has = acts c call code has.0 (names_set name None (variable_of names name) pc s refl _ refl)

    binds : (name : Text) (value : Value) (instr : Instr) (pc : ℕ) (s : State) → act c instr pc st around s ≡ To (pc + 1) (value ∷ st) around s → HasAt code pc (cell h instr ∷ (store names h name ∷ []))
        → Comes c call code (At pc st around s) (going (pc + 1 + 1) st around) (thrown c h around) (set_name c name (Some value) s)
    binds name value instr pc s is has =
        acts c call code has.0 (subst (λ a. Leads c call code (land c call h pc around a) (after (going (pc + 1 + 1) st around) (thrown c h around) (set_name c name (Some value) s))) (sym is)
        (cell_step c call code has.1.0 (names_set name (Some value) (variable_of names name) (pc + 1) s refl _ refl)))

    -- ---- `def`

    function_bound : (name : Text) (params : List Param) (o : Option ℕ) → ((n : ℕ) → o ≡ Some n → Known w m n) → (pc : ℕ)
        → Goes pc (def.own_defaults_code names h o pc params ++ def.bind_function_code names h name o) (def.bind_function_end o (def.own_defaults_end names o pc params)) (define c call params o >>= set_name c name)
    function_bound name params None known pc s has = unbinds name pc s has
    function_bound name params (Some n) known pc s has =
        let f = known n refl in
        rw f.is (subst (λ r. Comes c call code (At pc st around s) (going (def.defaults_end names pc params + 1 + 1) st around) (thrown c h around) r)
        (sym (given (set_defaults c call n f.function.signature 0 params s) (Some (v.Function m n)) (set_name c name)))
        (then_on_comes c call code (set_defaults c call n f.function.signature 0 params s) (defaults_do n f.function.signature 0 params pc s (has_front code pc (def.defaults_code names h n 0 pc params) _ has)) (λ y.
        binds name (v.Function m n) (i.Function n) (def.defaults_end names pc params) y refl (has_behind code _ (own_defaults_length names h (Some n) params pc) has))))

    pub def_does : (f : Function) (pc : ℕ) → Goes pc (def.def_code names h pc f) (def.def_end names pc f) (def_statement c call f)
    def_does (x.Defined name params answer body) pc s has =
        rw (function_numbers w m t text class result locals None name) (function_bound name params (function_place names None name) (knows None name) pc s has)

    -- ---- `class`

    defaults_set : (params : List Param) (o : Option ℕ) → ((n : ℕ) → o ≡ Some n → Known w m n) → (pc : ℕ)
        → Goes pc (def.own_defaults_code names h o pc params) (def.own_defaults_end names o pc params) (define c call params o >> done)
    defaults_set params None known pc s has = record { by = here }
    defaults_set params (Some n) known pc s has =
        let f = known n refl in
        rw f.is (subst (λ r. Comes c call code (At pc st around s) (going (def.defaults_end names pc params) st around) (thrown c h around) r)
        (sym (given (set_defaults c call n f.function.signature 0 params s) (Some (v.Function m n)) (λ _. done)))
        (then_on_comes c call code (set_defaults c call n f.function.signature 0 params s) (defaults_do n f.function.signature 0 params pc s has) (λ y. record { by = here })))

    member_does : (k : Option ℕ) (kind : Kind) (pc : ℕ) → Goes pc (def.member_code names h k pc kind) (def.member_end names k pc kind) (member c call k kind)
    member_does k (x.Def (x.Defined name params answer body)) pc s has =
        rw (function_numbers w m t text class result locals k name) (defaults_set params (function_place names k name) (knows k name) pc s has)
    member_does k x.Pass pc s has = record { by = here }
    member_does k x.Break pc s has = record { by = here }
    member_does k x.Continue pc s has = record { by = here }
    member_does k (x.Return e) pc s has = record { by = here }
    member_does k (x.Raise e) pc s has = record { by = here }
    member_does k (x.Imports imports) pc s has = record { by = here }
    member_does k (x.From from imports) pc s has = record { by = here }
    member_does k (x.Eval e) pc s has = record { by = here }
    member_does k (x.Assign target e) pc s has = record { by = here }
    member_does k (x.Annotate target kind e) pc s has = record { by = here }
    member_does k (x.Augment target operator e) pc s has = record { by = here }
    member_does k (x.If tested orelse) pc s has = record { by = here }
    member_does k (x.While test body) pc s has = record { by = here }
    member_does k (x.For target e body) pc s has = record { by = here }
    member_does k (x.Try body clauses) pc s has = record { by = here }
    member_does k (x.Class class) pc s has = record { by = here }

    -- the cell that begins a statement
    pub begins : (line pc : ℕ) → Goes pc (cell h (i.Begin (line_in locals line)) ∷ []) (pc + 1) (set_line c line >> tick)
    begins line pc s has =
        acts c call code has.0 (subst (λ set. Leads c call code (after (going (pc + 1) st around) (thrown c h around) ((at_line (line_in locals line) >> tick) s)) (after (going (pc + 1) st around) (thrown c h around) ((set >> tick) s)))
        (sym (lines w m t text class result locals line)) here)

    members_do : (k : Option ℕ) (body : Statements) (pc : ℕ) → Goes pc (def.members_code names h k pc body) (def.members_end names k pc body) (members c call k body)
    members_do k x.end_of_statements pc s has = record { by = here }
    members_do k (x.more_statements (x.On line kind) rest) pc s has =
        then_on_comes c call code _ (then_on_comes c call code {f = going (pc + 1) st around} _ (begins line pc s (has.0, tt)) (λ y. member_does k kind (pc + 1) y (has_front code (pc + 1) (def.member_code names h k (pc + 1) kind) _ has.1))) (λ y.
        members_do k rest (def.member_end names k (pc + 1) kind) y (has_behind code _ (member_length names h k kind (pc + 1)) has.1))

    base_does : (o : Option Expression) (pc : ℕ) → Goes pc (def.base_code names h pc o) (def.base_end names pc o) (read_base c call o)
    base_does None pc s has = record { by = here }
    base_does (Some e) pc s has = peel w m t text class locals result call code h e pc st around s _ has (λ a y has'. acts c call code has'.0 here)

    class_bound : (name : Text) (o : Option ℕ) (pc : ℕ) → Goes pc (def.bind_class_code names h name o) (def.bind_function_end o pc) (set_name c name (option_map (class_value c) o))
    class_bound name None pc s has = unbinds name pc s has
    class_bound name (Some n) pc s has = binds name (class_value c n) (i.Class n) pc s refl has

    pub class_does : (k : ClassDef) (pc : ℕ) → Goes pc (def.class_code names h pc k) (def.class_end names pc k) (class_statement c call k)
    class_does (x.Classed name base body) pc s has =
        let n = class_place names name in
        let begin = def.base_end names pc base in
        let inner = has_behind code _ (base_class_length names h base pc) has in
        rw (class_numbers w m t text class result locals name)
        (then_on_comes c call code (read_base c call base s) (base_does base pc s (has_front code pc (def.base_code names h pc base) _ has)) (λ y.
        then_on_comes c call code (members c call n body y) (members_do n body begin y (has_front code begin (def.members_code names h n begin body) _ inner)) (λ z.
        class_bound name n (def.members_end names n begin body) z (has_behind code _ (members_length names h n body begin) inner))))

    -- ---- imports

    module_imported : (name alias : Text) (pc : ℕ) (marker : Bool) → Goes pc (if marker then [] else cell h (i.ImportModule name (variable_of names alias)) ∷ []) (if marker then pc else pc + 1)
        (choose marker done (set_name c alias (option_map v.Module (module_named w name))))
    module_imported name alias pc true s has = record { by = here }
    module_imported name alias pc false s has = acts c call code has.0 (names_set alias (option_map v.Module (module_named w name)) (variable_of names alias) pc s refl _ refl)

    pub imports_do : (imports : List Import) (pc : ℕ) → Goes pc (def.imports_code names h imports) (def.imports_end pc imports) (import_modules c imports)
    imports_do [] pc s has = record { by = here }
    imports_do (import ∷ imports) pc s has =
        then_on_comes c call code _ (module_imported import.name (alias_or import.alias import.name) pc (is_marker_import import) s (has_front code pc (def.import_code names h import) _ has)) (λ y.
        imports_do imports (def.import_end pc import) y (has_behind code _ (import_length names h import pc) has))

    member_imported : (from name alias : Text) (pc : ℕ) (nothing : Bool) → Goes pc (if nothing then [] else cell h (i.ImportMember (record { «module» = from; name = name; variable = variable_of names alias })) ∷ []) (if nothing then pc else pc + 1)
        (choose nothing done (set_name c alias (taken w from name)))
    member_imported from name alias pc true s has = record { by = here }
    member_imported from name alias pc false s has = acts c call code has.0 (names_set alias (taken w from name) (variable_of names alias) pc s refl _ refl)

    pub member_imports_do : (from : Text) (imports : List Import) (pc : ℕ) → Goes pc (def.member_imports_code names h from imports) (def.member_imports_end pc from imports) (import_members c from imports)
    member_imports_do from [] pc s has = record { by = here }
    member_imports_do from (import ∷ imports) pc s has =
        then_on_comes c call code _ (member_imported from import.name (alias_or import.alias import.name) pc (binds_nothing from) s (has_front code pc (def.member_import_code names h from import) _ has)) (λ y.
        member_imports_do from imports (if binds_nothing from then pc else pc + 1) y (has_behind code _ (member_import_length names h from import pc) has))
