-- The code of every body leads forward.
use Rattle.std.proofs.Common.{◌≡◌, ℕ, suc, ◌+◌, ◌≤◌, ◌<◌, List, [], ◌∷◌, ◌++◌, map, length, Option, Some, None, Bool, true, false, refl, subst, arith}
use Rattle.std.proofs.lemmas.Bool.{and_parts, and_from}
use Rattle.std.specs.Prelude.{nat_lt, ◌&&◌, codes, if◌then◌else◌}
use Rattle.std.specs.Str.{bytes_eq}
use Rattle.py_tree.specs.Syntax as x
use Rattle.py_tree.specs.Syntax.{Text, Expression, Expressions, Pairs, Keywords, Param, Target, Kind, Statements, Branches, Clauses, Function, ClassDef}
use Rattle.py_tree.specs.declared.operator.BinaryOp.{BinaryOp}
use Rattle.py_tree.specs.declared.statement.Import.{Import}
use Rattle.py_values.specs.Builtins.{builtins, named_among}
use Rattle.py_values.specs.declared.builtin.Builtin.{Builtin}
use Rattle.py_values.specs.declared.exception.ExcKind.{ExcKind}
use Rattle.py_values.specs.declared.exception.ExcKind.TheVariants as kind
use Rattle.symbols.specs.Bindings.{globals, is_marker_import}
use Rattle.symbols.specs.Words.{exception_named}
use Rattle.symbols.specs.declared.binding.StaticName.{StaticName}
use Rattle.symbols.specs.declared.binding.StaticName.TheVariants as static
use Rattle.py_meaning.specs.Calls.{params_of}
use Rattle.py_meaning.specs.Expressions.{Form, Plain, Super, Static}
use Rattle.py_meaning.specs.Imports.{binds_nothing}
use Rattle.py_meaning.specs.Modules.{written_name}
use Rattle.bytecode.specs.Forward.{jumps_forward, is_forward, forwards}
use Rattle.bytecode.specs.Scopes.{names_of_scope}
use Rattle.bytecode.specs.declared.instr.Cell.{Cell}
use Rattle.bytecode.specs.declared.instr.Instr.{Instr}
use Rattle.bytecode.specs.declared.instr.Instr.TheVariants as i
use Rattle.bytecode.specs.declared.instr.Shape.{Shape}
use Rattle.compile_plain.specs.declared.targets.Targets.{Targets}
use Rattle.compile_plain.specs.Names.{Names, place_in, load_builtin, load_global, load_local, load, line_in, form_in, function_place, class_place}
use Rattle.compile_plain.specs.Cells.{cell, in_clauses, in_try, in_while, in_for, line_end, line_code}
use Rattle.compile_plain.specs.Expressions.{shape, base_end, base_code, static_end, static_code, call_end, call_code, expr_end, exprs_end, last_end, pairs_end, keywords_end, expr_code, exprs_code, last_code, pairs_code, keywords_code}
use Rattle.compile_plain.specs.Assignments.{store, assign_end, assign_code, augment_end, augment_code}
use Rattle.compile_plain.specs.Definitions as def
use Rattle.compile_plain.specs.Statements.{kind_end, rows_end, branches_end, clauses_end, kind_code, rows_code, branches_code, clauses_code, outermost}
use Rattle.compile_plain.specs.Standing.{BodiesForward}
use Rattle.compile_plain.proofs.Places.{Ends, joined, one_more, nothing_more}

less : (m n : ℕ) → m < n → nat_lt m n ≡ true
less m n lt = search (lt, arith)

-- ---- exceptions, `break` and `continue` that go to a place or beyond it

abbrev Beyond : ℕ → Option ℕ → Type 0
Beyond q None = Unit {0}
Beyond q (Some p) = q ≤ p

record Reach (q : ℕ) (k : Targets) : Type 0 where
  broke : q ≤ k.broke
  continued : q ≤ k.continued
  raised : Beyond q k.raised.place

beyond_lower : {m n : ℕ} (o : Option ℕ) → m ≤ n → Beyond n o → Beyond m o
beyond_lower None le b = tt
beyond_lower (Some p) le b = omega (arith, le, b)

lower : {m n : ℕ} {k : Targets} → m ≤ n → Reach n k → Reach m k
lower {k = k} le r = record { broke = omega (arith, le, r.broke); continued = omega (arith, le, r.continued); raised = beyond_lower k.raised.place le r.raised }

beyond_forward : (pc q : ℕ) (o : Option ℕ) → pc < q → Beyond q o → is_forward pc o ≡ true
beyond_forward pc q None lt b = refl
beyond_forward pc q (Some p) lt b = less pc p (omega (arith, lt, b))

-- ---- cells that lead forward

-- cells that begin at pc and end at q, and lead forward where the targets are reached at q or beyond
record Forward (k : Targets) (pc : ℕ) (cells : List Cell) (q : ℕ) : Type 0 where
  ends : Ends pc cells q
  leads : Reach q k → forwards pc cells ≡ true

grows : {k : Targets} {pc q : ℕ} {cells : List Cell} → Forward k pc cells q → pc ≤ q
grows {cells = cells} f = omega (arith, f.ends.by)

none : {k : Targets} {pc : ℕ} → Forward k pc [] pc
none = record { ends = nothing_more; leads = λ r. refl }

goes : {k : Targets} {pc q : ℕ} {instr : Instr} {cells : List Cell} → (Reach q k → jumps_forward pc instr ≡ true) → Forward k (pc + 1) cells q → Forward k pc (cell k.raised instr ∷ cells) q
goes {k} {pc} {q} {instr} {cells} jumps f = record {
  ends = one_more f.ends;
  leads = λ r.
      let handled = beyond_forward pc q k.raised.place (omega (arith, grows f)) r.raised in
      and_from (jumps_forward pc instr && is_forward pc k.raised.place) (forwards (pc + 1) cells)
      (and_from (jumps_forward pc instr) (is_forward pc k.raised.place) (jumps r) handled) (f.leads r);
}

more : {k : Targets} {pc q : ℕ} {instr : Instr} {cells : List Cell} → jumps_forward pc instr ≡ true → Forward k (pc + 1) cells q → Forward k pc (cell k.raised instr ∷ cells) q
more e f = goes (λ r. e) f

forwards_joined : (pc q : ℕ) (a b : List Cell) → pc + length a ≡ q → forwards pc a ≡ true → forwards q b ≡ true → forwards pc (a ++ b) ≡ true
forwards_joined pc q [] b e f g = let same : q ≡ pc = omega (arith, e) in subst (λ p. forwards p b ≡ true) same g
forwards_joined pc q (c ∷ a) b e f g =
    let first = jumps_forward pc c.instr && is_forward pc c.handler.place in
    let parts = and_parts first (forwards (pc + 1) a) f in
    and_from first (forwards (pc + 1) (a ++ b)) parts.0 (forwards_joined (pc + 1) q a b (omega (arith, e)) parts.1 g)

then_leads : {k : Targets} {pc q r : ℕ} {a b : List Cell} → Forward k pc a q → Forward k q b r → Forward k pc (a ++ b) r
then_leads {k} {pc} {q} {r} {a} {b} f g = record {
  ends = joined a f.ends g.ends;
  leads = λ reach. forwards_joined pc q a b f.ends.by (f.leads (lower (grows g) reach)) (g.leads reach);
}

-- cells that have other targets
inward : {k : Targets} {pc q : ℕ} {cells : List Cell} (inner : Targets) → (Reach q k → Reach q inner) → Forward inner pc cells q → Forward k pc cells q
inward inner reach f = record { ends = f.ends; leads = λ r. f.leads (reach r) }

unless_forward : {k : Targets} {pc q : ℕ} {cells : List Cell} (nothing : Bool) → Forward k pc cells q → Forward k pc (if nothing then [] else cells) (if nothing then pc else q)
unless_forward true f = none
unless_forward false f = f

line_forward : (k : Targets) (o : Option ℕ) (pc : ℕ) → Forward k pc (line_code k.raised o) (line_end pc o)
line_forward k None pc = none
line_forward k (Some n) pc = more refl none

-- ---- expressions

-- what reads a name is no jump
named_forward : (is : Bool) (pc : ℕ) → jumps_forward pc (if is then i.ModuleName else i.Fail kind.NameError) ≡ true
named_forward true pc = refl
named_forward false pc = refl

builtin_forward : (name : Text) (b : Option Builtin) (k : Option ExcKind) (pc : ℕ) → jumps_forward pc (load_builtin name b k) ≡ true
builtin_forward name (Some b) k pc = refl
builtin_forward name None (Some k) pc = refl
builtin_forward name None None pc = named_forward (bytes_eq name (codes "__name__")) pc

global_forward : (name : Text) (o : Option ℕ) (pc : ℕ) → jumps_forward pc (load_global name o) ≡ true
global_forward name None pc = builtin_forward name (named_among builtins name) (exception_named name) pc
global_forward name (Some n) pc = refl

local_forward : (names : Names) (name : Text) (o : Option ℕ) (pc : ℕ) → jumps_forward pc (load_local names name o) ≡ true
local_forward names name None pc = global_forward name (place_in (globals names.tree) name) pc
local_forward names name (Some n) pc = refl

load_forward : (names : Names) (name : Text) (pc : ℕ) → jumps_forward pc (load names name) ≡ true
load_forward names name pc = local_forward names name (place_in (names_of_scope names.locals) name) pc

static_forward : (k : Targets) (name : StaticName) (pc : ℕ) → Forward k pc (static_code k.raised name) (static_end name pc)
static_forward k static.Int64 pc = none
static_forward k static.CBool pc = none
static_forward k static.Cast pc = none
static_forward k static.Box pc = more refl none
static_forward k static.Optional pc = more refl none
static_forward k static.Any pc = more refl none

base_forward : (names : Names) {k : Targets} (class : Option ℕ) (name : Text) (s : Shape) {pc end : ℕ} {base : List Cell} → Forward k (pc + 1 + 1) base end
    → Forward k pc (base_code names k.raised class name s base) (base_end class pc end)
base_forward names None name s f = more refl none
base_forward names (Some n) name s {pc} f = more (load_forward names (codes "self") pc) (more refl (then_leads f (more refl none)))

call_forward : (names : Names) {k : Targets} (form : Form) (s : Shape) {pc p q r : ℕ} {plain base last : List Cell} → Forward k pc plain p → Forward k (pc + 1 + 1) base q → Forward k pc last r
    → Forward k pc (call_code names k.raised form s plain base last) (call_end form names.class pc p q r)
call_forward names Plain s f g l = then_leads f (more refl none)
call_forward names (Super name) s f g l = base_forward names names.class name s g
call_forward names {k} (Static name) s {r = r} f g l = then_leads l (static_forward k name r)

module _ (names : Names) (k : Targets) where
  mutual
    expr_forward : (e : Expression) (pc : ℕ) → Forward k pc (expr_code names k.raised pc e) (expr_end names pc e)
    expr_forward x.Nil pc = more refl none
    expr_forward x.True pc = more refl none
    expr_forward x.False pc = more refl none
    expr_forward (x.Int n) pc = more refl none
    expr_forward (x.Str text) pc = more refl none
    expr_forward (x.Name name) pc = more (load_forward names name pc) none
    expr_forward (x.Tuple es) pc = then_leads (exprs_forward es pc) (more refl none)
    expr_forward (x.Listed es) pc = then_leads (exprs_forward es pc) (more refl none)
    expr_forward (x.Dict ps) pc = then_leads (pairs_forward ps pc) (more refl none)
    expr_forward (x.Unary operator e) pc = then_leads (expr_forward e pc) (more refl none)
    expr_forward (x.Binary operator e d) pc = then_leads (expr_forward e pc) (then_leads (expr_forward d (expr_end names pc e)) (more refl none))
    expr_forward (x.Compare operator e d) pc = then_leads (expr_forward e pc) (then_leads (expr_forward d (expr_end names pc e)) (more refl none))
    expr_forward (x.Is negated e constant) pc = then_leads (expr_forward e pc) (more refl none)
    expr_forward (x.Not e) pc = then_leads (expr_forward e pc) (more refl none)
    expr_forward (x.And e d) pc = let rest = expr_forward d (expr_end names pc e + 1) in then_leads (expr_forward e pc) (more (less _ _ (omega (arith, grows rest))) rest)
    expr_forward (x.Or e d) pc = let rest = expr_forward d (expr_end names pc e + 1) in then_leads (expr_forward e pc) (more (less _ _ (omega (arith, grows rest))) rest)
    expr_forward (x.Cond test then' other) pc =
        let first = expr_end names pc test + 1 in
        let taken = expr_forward then' first in
        let rest = expr_forward other (expr_end names first then' + 1) in
        then_leads (expr_forward test pc) (more (less _ _ (omega (arith, grows taken))) (then_leads taken (more (less _ _ (omega (arith, grows rest))) rest)))
    expr_forward (x.Attr e name) pc = then_leads (expr_forward e pc) (more refl none)
    expr_forward (x.Index e d) pc = then_leads (expr_forward e pc) (then_leads (expr_forward d (expr_end names pc e)) (more refl none))
    expr_forward (x.Call callee args keys) pc =
        let behind = expr_end names pc callee in
        call_forward names (form_in names callee) (shape args keys)
        (then_leads (expr_forward callee pc) (then_leads (exprs_forward args behind) (keywords_forward keys (exprs_end names behind args))))
        (then_leads (exprs_forward args (pc + 1 + 1)) (keywords_forward keys (exprs_end names (pc + 1 + 1) args)))
        (last_forward args pc)

    exprs_forward : (es : Expressions) (pc : ℕ) → Forward k pc (exprs_code names k.raised pc es) (exprs_end names pc es)
    exprs_forward x.end_of_expressions pc = none
    exprs_forward (x.more_expressions e rest) pc = then_leads (expr_forward e pc) (exprs_forward rest (expr_end names pc e))

    last_forward : (es : Expressions) (pc : ℕ) → Forward k pc (last_code names k.raised pc es) (last_end names pc es)
    last_forward x.end_of_expressions pc = more refl none
    last_forward (x.more_expressions e x.end_of_expressions) pc = expr_forward e pc
    last_forward (x.more_expressions e (x.more_expressions d rest)) pc = last_forward (x.more_expressions d rest) pc

    pairs_forward : (ps : Pairs) (pc : ℕ) → Forward k pc (pairs_code names k.raised pc ps) (pairs_end names pc ps)
    pairs_forward x.end_of_pairs pc = none
    pairs_forward (x.more_pairs (x.Paired key value) rest) pc =
        let second = expr_end names pc key in
        then_leads (expr_forward key pc) (then_leads (expr_forward value second) (pairs_forward rest (expr_end names second value)))

    keywords_forward : (ks : Keywords) (pc : ℕ) → Forward k pc (keywords_code names k.raised pc ks) (keywords_end names pc ks)
    keywords_forward x.end_of_keywords pc = none
    keywords_forward (x.more_keywords (x.Named name e) rest) pc = then_leads (expr_forward e pc) (keywords_forward rest (expr_end names pc e))

  -- ---- assignments

  stores_forward : (ns : List Text) (pc : ℕ) → Forward k pc (map (store names k.raised) ns) (pc + length ns)
  stores_forward [] pc = let same : pc ≡ pc + 0 = omega arith in subst (λ q. Forward k pc [] q) same none
  stores_forward (n ∷ ns) pc =
      let same : pc + 1 + length ns ≡ pc + suc (length ns) = omega arith in
      subst (λ q. Forward k pc (map (store names k.raised) (n ∷ ns)) q) same (more refl (stores_forward ns (pc + 1)))

  assign_forward : (t : Target) (pc : ℕ) → Forward k pc (assign_code names k.raised pc t) (assign_end names pc t)
  assign_forward (x.ToName name) pc = more refl none
  assign_forward (x.ToNames ns) pc = more refl (stores_forward ns (pc + 1))
  assign_forward (x.ToAttr e name) pc = then_leads (expr_forward e pc) (more refl none)
  assign_forward (x.ToIndex e d) pc = then_leads (expr_forward e pc) (then_leads (expr_forward d (expr_end names pc e)) (more refl none))

  augment_forward : (t : Target) (operator : BinaryOp) (right : Expression) (pc : ℕ) → Forward k pc (augment_code names k.raised pc t operator right) (augment_end names pc t right)
  augment_forward (x.ToName name) operator right pc = more (load_forward names name pc) (then_leads (expr_forward right (pc + 1)) (more refl (more refl none)))
  augment_forward (x.ToAttr e name) operator right pc =
      then_leads (expr_forward e pc) (more refl (more refl (then_leads (expr_forward right (expr_end names pc e + 1 + 1)) (more refl (more refl (more refl none))))))
  augment_forward (x.ToIndex e d) operator right pc =
      let second = expr_end names pc e in
      then_leads (expr_forward e pc) (then_leads (expr_forward d second) (more refl (more refl
      (then_leads (expr_forward right (expr_end names second d + 1 + 1)) (more refl (more refl (more refl none)))))))
  augment_forward (x.ToNames ns) operator right pc = none

  -- ---- definitions

  default_forward : (function n : ℕ) (o : Option Expression) (pc : ℕ) → Forward k pc (def.default_code names k.raised function n pc o) (def.default_end names pc o)
  default_forward function n None pc = none
  default_forward function n (Some e) pc = then_leads (expr_forward e pc) (more refl none)

  defaults_forward : (function n : ℕ) (ps : List Param) (pc : ℕ) → Forward k pc (def.defaults_code names k.raised function n pc ps) (def.defaults_end names pc ps)
  defaults_forward function n [] pc = none
  defaults_forward function n (p ∷ ps) pc = then_leads (default_forward function n p.default pc) (defaults_forward function (suc n) ps (def.default_end names pc p.default))

  own_defaults_forward : (o : Option ℕ) (ps : List Param) (pc : ℕ) → Forward k pc (def.own_defaults_code names k.raised o pc ps) (def.own_defaults_end names o pc ps)
  own_defaults_forward None ps pc = none
  own_defaults_forward (Some n) ps pc = defaults_forward n 0 ps pc

  bind_function_forward : (name : Text) (o : Option ℕ) (pc : ℕ) → Forward k pc (def.bind_function_code names k.raised name o) (def.bind_function_end o pc)
  bind_function_forward name None pc = more refl none
  bind_function_forward name (Some n) pc = more refl (more refl none)

  bind_class_forward : (name : Text) (o : Option ℕ) (pc : ℕ) → Forward k pc (def.bind_class_code names k.raised name o) (def.bind_function_end o pc)
  bind_class_forward name None pc = more refl none
  bind_class_forward name (Some n) pc = more refl (more refl none)

  def_forward : (f : Function) (pc : ℕ) → Forward k pc (def.def_code names k.raised pc f) (def.def_end names pc f)
  def_forward f pc =
      let n = function_place names None (written_name f) in
      then_leads (own_defaults_forward n (params_of f) pc) (bind_function_forward (written_name f) n (def.own_defaults_end names n pc (params_of f)))

  member_forward : (class : Option ℕ) (kind : Kind) (pc : ℕ) → Forward k pc (def.member_code names k.raised class pc kind) (def.member_end names class pc kind)
  member_forward class (x.Def f) pc = own_defaults_forward (function_place names class (written_name f)) (params_of f) pc
  member_forward class _ pc = none

  members_forward : (class : Option ℕ) (body : Statements) (pc : ℕ) → Forward k pc (def.members_code names k.raised class pc body) (def.members_end names class pc body)
  members_forward class x.end_of_statements pc = none
  members_forward class (x.more_statements (x.On line kind) rest) pc =
      more refl (then_leads (member_forward class kind (pc + 1)) (members_forward class rest (def.member_end names class (pc + 1) kind)))

  base_class_forward : (o : Option Expression) (pc : ℕ) → Forward k pc (def.base_code names k.raised pc o) (def.base_end names pc o)
  base_class_forward None pc = none
  base_class_forward (Some e) pc = then_leads (expr_forward e pc) (more refl none)

  class_forward : (class : ClassDef) (pc : ℕ) → Forward k pc (def.class_code names k.raised pc class) (def.class_end names pc class)
  class_forward (x.Classed name base body) pc =
      let n = class_place names name in
      let begin = def.base_end names pc base in
      then_leads (base_class_forward base pc) (then_leads (members_forward n body begin) (bind_class_forward name n (def.members_end names n begin body)))

  import_forward : (import : Import) (pc : ℕ) → Forward k pc (def.import_code names k.raised import) (def.import_end pc import)
  import_forward import pc = unless_forward (is_marker_import import) (more refl none)

  imports_forward : (imports : List Import) (pc : ℕ) → Forward k pc (def.imports_code names k.raised imports) (def.imports_end pc imports)
  imports_forward [] pc = none
  imports_forward (import ∷ imports) pc = then_leads (import_forward import pc) (imports_forward imports (def.import_end pc import))

  member_import_forward : (from : Text) (import : Import) (pc : ℕ) → Forward k pc (def.member_import_code names k.raised from import) (if binds_nothing from then pc else pc + 1)
  member_import_forward from import pc = unless_forward (binds_nothing from) (more refl none)

  member_imports_forward : (from : Text) (imports : List Import) (pc : ℕ) → Forward k pc (def.member_imports_code names k.raised from imports) (def.member_imports_end pc from imports)
  member_imports_forward from [] pc = none
  member_imports_forward from (import ∷ imports) pc = then_leads (member_import_forward from import pc) (member_imports_forward from imports (if binds_nothing from then pc else pc + 1))

-- ---- statements

module _ (names : Names) where
  mutual
    kind_forward : (k : Targets) (line : ℕ) (a : Kind) (pc : ℕ) → Forward k pc (kind_code names k line pc a) (kind_end names line pc a)
    kind_forward k line x.Pass pc = none
    kind_forward k line x.Break pc = goes (λ r. less _ _ (omega (arith, r.broke))) none
    kind_forward k line x.Continue pc = goes (λ r. less _ _ (omega (arith, r.continued))) none
    kind_forward k line (x.Return None) pc = more refl (more refl none)
    kind_forward k line (x.Return (Some e)) pc = then_leads (expr_forward names k e pc) (more refl none)
    kind_forward k line (x.Raise None) pc = more refl none
    kind_forward k line (x.Raise (Some e)) pc = then_leads (expr_forward names k e pc) (more refl (more refl none))
    kind_forward k line (x.Imports imports) pc = imports_forward names k imports pc
    kind_forward k line (x.From from imports) pc = member_imports_forward names k from imports pc
    kind_forward k line (x.Eval e) pc = then_leads (expr_forward names k e pc) (more refl none)
    kind_forward k line (x.Assign t e) pc = then_leads (expr_forward names k e pc) (assign_forward names k t (expr_end names pc e))
    kind_forward k line (x.Annotate t kind None) pc = none
    kind_forward k line (x.Annotate t kind (Some e)) pc = then_leads (expr_forward names k e pc) (assign_forward names k t (expr_end names pc e))
    kind_forward k line (x.Augment t operator e) pc = augment_forward names k t operator e pc
    kind_forward k line (x.If tested orelse) pc =
        let other = branches_end names pc tested in
        let rest = rows_forward k orelse other in
        then_leads (branches_forward k (rows_end names other orelse) tested pc (grows rest)) rest
    kind_forward k line (x.While test body) pc =
        let turn = rows_end names (pc + 1) body in
        let tested = line_end turn (line_in names.locals line) in
        let inner = in_while k (expr_end names tested test + 1) turn in
        let rows = rows_forward inner body (pc + 1) in
        let begun = line_forward k (line_in names.locals line) turn in
        let condition = expr_forward names k test tested in
        more (less _ _ (omega (arith, grows rows, grows begun)))
        (then_leads (inward inner (λ r. record { broke = omega (arith, grows begun, grows condition); continued = omega arith; raised = r.raised }) rows)
        (then_leads begun (then_leads condition (more refl none))))
    kind_forward k line (x.For t e body) pc =
        let first = expr_end names pc e + 1 + 1 in
        let begin = assign_end names first t in
        let turn = rows_end names begin body in
        let step = line_end turn (line_in names.locals line) in
        let inner = in_for k (step + 1) turn in
        let looping = record k { raised = inner.raised } in
        let target = assign_forward names looping t first in
        let rows = rows_forward inner body begin in
        let begun = line_forward looping (line_in names.locals line) turn in
        then_leads (expr_forward names k e pc) (more refl (inward looping (λ r. record { broke = r.broke; continued = r.continued; raised = r.raised })
        (more (less _ _ (omega (arith, grows target, grows rows, grows begun))) (then_leads target
        (then_leads (inward inner (λ r. record { broke = omega (arith, grows begun); continued = omega arith; raised = r.raised }) rows)
        (then_leads begun (more refl (more refl none))))))))
    kind_forward k line (x.Try body clauses) pc =
        let behind = rows_end names pc body in
        let first = line_end (behind + 1) (line_in names.locals line) in
        let release = clauses_end names first clauses in
        let inner = in_clauses k in
        let begun = line_forward inner (line_in names.locals line) (behind + 1) in
        let caught = clauses_forward inner release clauses first (omega arith) in
        then_leads (inward (in_try k (behind + 1)) (λ r. record { broke = r.broke; continued = r.continued; raised = omega arith }) (rows_forward (in_try k (behind + 1)) body pc))
        (more (less _ _ (omega (arith, grows begun, grows caught))) (inward inner (λ r. record { broke = r.broke; continued = r.continued; raised = r.raised })
        (then_leads begun (then_leads caught (more refl none)))))
    kind_forward k line (x.Def f) pc = def_forward names k f pc
    kind_forward k line (x.Class class) pc = class_forward names k class pc

    rows_forward : (k : Targets) (rows : Statements) (pc : ℕ) → Forward k pc (rows_code names k pc rows) (rows_end names pc rows)
    rows_forward k x.end_of_statements pc = none
    rows_forward k (x.more_statements (x.On line kind) rest) pc =
        more refl (then_leads (kind_forward k line kind (pc + 1)) (rows_forward k rest (kind_end names line (pc + 1) kind)))

    branches_forward : (k : Targets) (end : ℕ) (bs : Branches) (pc : ℕ) → branches_end names pc bs ≤ end → Forward k pc (branches_code names k end pc bs) (branches_end names pc bs)
    branches_forward k end x.end_of_branches pc le = none
    branches_forward k end (x.more_branches (x.Tested line test body) rest) pc le =
        let tested = line_end pc (line_in names.locals line) in
        let first = expr_end names tested test + 1 in
        let rows = rows_forward k body first in
        let others = branches_forward k end rest (rows_end names first body + 1) le in
        then_leads (then_leads (line_forward k (line_in names.locals line) pc) (then_leads (expr_forward names k test tested) (more (less _ _ (omega (arith, grows rows)))
        (then_leads rows (more (less _ _ (omega (arith, grows others, le))) none))))) others

    clauses_forward : (k : Targets) (release : ℕ) (clauses : Clauses) (pc : ℕ) → clauses_end names pc clauses ≤ release → Forward k pc (clauses_code names k release pc clauses) (clauses_end names pc clauses)
    clauses_forward k release x.end_of_clauses pc le = more refl none
    clauses_forward k release (x.more_clauses (x.Except None name body) rest) pc le =
        let rows = rows_forward k body (pc + 1) in
        let others = clauses_forward k release rest (rows_end names (pc + 1) body + 1) le in
        then_leads (more refl (then_leads rows (more (less _ _ (omega (arith, grows others, le))) none))) others
    clauses_forward k release (x.more_clauses (x.Except (Some e) name body) rest) pc le =
        let first = expr_end names pc e + 1 in
        let rows = rows_forward k body (first + 1) in
        let others = clauses_forward k release rest (rows_end names (first + 1) body + 1) le in
        then_leads (then_leads (expr_forward names k e pc) (more (less _ _ (omega (arith, grows rows))) (more refl
        (then_leads rows (more (less _ _ (omega (arith, grows others, le))) none))))) others

-- ---- whole bodies

pub bodies_forward : BodiesForward
bodies_forward names body =
    let k = outermost names body in
    let rows = rows_forward names k body 0 in
    forwards_joined 0 (rows_end names 0 body) (rows_code names k 0 body) _ rows.ends.by (rows.leads (record { broke = omega arith; continued = omega arith; raised = tt })) refl
