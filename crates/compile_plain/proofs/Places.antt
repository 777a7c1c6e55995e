-- Cells stand at their places, and the code of a tree ends where it is said to end.
use Rattle.std.proofs.Common.{◌≡◌, ℕ, suc, ◌+◌, List, [], ◌∷◌, ◌++◌, map, length, Option, Some, None, Bool, true, false, subst, arith, length-append}
use Rattle.std.specs.Prelude.{slice_get, if◌then◌else◌}
use Rattle.py_tree.specs.Syntax as x
use Rattle.py_tree.specs.Syntax.{Text, Expression, Expressions, Pairs, Keywords, Param, Target, Kind, Statements, Branches, Clauses, Function, ClassDef}
use Rattle.py_tree.specs.declared.operator.BinaryOp.{BinaryOp}
use Rattle.py_tree.specs.declared.statement.Import.{Import}
use Rattle.symbols.specs.declared.binding.StaticName.{StaticName}
use Rattle.symbols.specs.declared.binding.StaticName.TheVariants as static
use Rattle.symbols.specs.Bindings.{is_marker_import}
use Rattle.py_meaning.specs.Calls.{params_of}
use Rattle.py_meaning.specs.Expressions.{Form, Plain, Super, Static}
use Rattle.py_meaning.specs.Imports.{binds_nothing}
use Rattle.py_meaning.specs.Modules.{written_name}
use Rattle.bytecode.specs.declared.instr.Cell.{Cell}
use Rattle.bytecode.specs.declared.instr.Handler.{Handler}
use Rattle.bytecode.specs.declared.instr.Shape.{Shape}
use Rattle.compile_plain.specs.declared.targets.Targets.{Targets}
use Rattle.compile_plain.specs.Names.{Names, line_in, form_in, function_place, class_place}
use Rattle.compile_plain.specs.Cells.{in_clauses, in_try, in_while, in_for, line_end, line_code}
use Rattle.compile_plain.specs.Expressions.{shape, base_end, base_code, static_end, static_code, call_end, call_code, expr_end, exprs_end, last_end, pairs_end, keywords_end, expr_code, exprs_code, last_code, pairs_code, keywords_code}
use Rattle.compile_plain.specs.Assignments.{store, assign_end, assign_code, augment_end, augment_code}
use Rattle.compile_plain.specs.Definitions as def
use Rattle.compile_plain.specs.Statements.{kind_end, rows_end, branches_end, clauses_end, kind_code, rows_code, branches_code, clauses_code}

-- ---- cells at a place

abbrev pub HasAt : List Cell → ℕ → List Cell → Type 0
HasAt code pc [] = Unit {0}
HasAt code pc (c ∷ cs) = (slice_get code pc ≡ Some c) × HasAt code (pc + 1) cs

pub has_front : (code : List Cell) (pc : ℕ) (a b : List Cell) → HasAt code pc (a ++ b) → HasAt code pc a
has_front code pc [] b h = tt
has_front code pc (c ∷ a) b h = (h.0, has_front code (pc + 1) a b h.1)

behind_at : (code : List Cell) (pc q : ℕ) (a b : List Cell) → pc + length a ≡ q → HasAt code pc (a ++ b) → HasAt code q b
behind_at code pc q [] b e h = let same : pc ≡ q = omega (arith, e) in subst (λ p. HasAt code p b) same h
behind_at code pc q (c ∷ a) b e h = behind_at code (pc + 1) q a b (omega (arith, e)) h.1

-- cells that begin at pc end at q
pub record Ends (pc : ℕ) (cells : List Cell) (q : ℕ) : Type 0 where
  pub by : pc + length cells ≡ q

pub joined : {pc q r : ℕ} (a : List Cell) {b : List Cell} → Ends pc a q → Ends q b r → Ends pc (a ++ b) r
joined a {b} e f = record { by = omega (arith, e.by, f.by, length-append a b) }

pub one_more : {pc r : ℕ} {c : Cell} {b : List Cell} → Ends (pc + 1) b r → Ends pc (c ∷ b) r
one_more e = record { by = omega (arith, e.by) }

pub nothing_more : {pc : ℕ} → Ends pc [] pc
nothing_more = record { by = omega arith }

pub has_behind : (code : List Cell) {pc q : ℕ} {a : List Cell} (b : List Cell) → Ends pc a q → HasAt code pc (a ++ b) → HasAt code q b
has_behind code {pc} {q} {a} b e h = behind_at code pc q a b e.by h

-- ---- expressions

pub line_length : (h : Handler) (o : Option ℕ) (pc : ℕ) → Ends pc (line_code h o) (line_end pc o)
line_length h None pc = nothing_more
line_length h (Some n) pc = one_more nothing_more

unless_length : (nothing : Bool) (x : Cell) (pc : ℕ) → Ends pc (if nothing then [] else x ∷ []) (if nothing then pc else pc + 1)
unless_length true x pc = nothing_more
unless_length false x pc = one_more nothing_more

static_length : (h : Handler) (name : StaticName) (pc : ℕ) → Ends pc (static_code h name) (static_end name pc)
static_length h static.Int64 pc = nothing_more
static_length h static.CBool pc = nothing_more
static_length h static.Cast pc = nothing_more
static_length h static.Box pc = one_more nothing_more
static_length h static.Optional pc = one_more nothing_more
static_length h static.Any pc = one_more nothing_more

base_length : (names : Names) (h : Handler) (class : Option ℕ) (name : Text) (s : Shape) (pc end : ℕ) (base : List Cell) → Ends (pc + 1 + 1) base end → Ends pc (base_code names h class name s base) (base_end class pc end)
base_length names h None name s pc end base e = one_more nothing_more
base_length names h (Some n) name s pc end base e = one_more (one_more (joined base e (one_more nothing_more)))

call_length : (names : Names) (h : Handler) (form : Form) (s : Shape) (pc p q r : ℕ) (plain base last : List Cell) → Ends pc plain p → Ends (pc + 1 + 1) base q → Ends pc last r
    → Ends pc (call_code names h form s plain base last) (call_end form names.class pc p q r)
call_length names h Plain s pc p q r plain base last e f g = joined plain e (one_more nothing_more)
call_length names h (Super name) s pc p q r plain base last e f g = base_length names h names.class name s pc q base f
call_length names h (Static name) s pc p q r plain base last e f g = joined last g (static_length h name r)

module _ (names : Names) (h : Handler) where
  mutual
    pub expr_length : (e : Expression) (pc : ℕ) → Ends pc (expr_code names h pc e) (expr_end names pc e)
    expr_length x.Nil pc = one_more nothing_more
    expr_length x.True pc = one_more nothing_more
    expr_length x.False pc = one_more nothing_more
    expr_length (x.Int n) pc = one_more nothing_more
    expr_length (x.Str text) pc = one_more nothing_more
    expr_length (x.Name name) pc = one_more nothing_more
    expr_length (x.Tuple es) pc = joined (exprs_code names h pc es) (exprs_length es pc) (one_more nothing_more)
    expr_length (x.Listed es) pc = joined (exprs_code names h pc es) (exprs_length es pc) (one_more nothing_more)
    expr_length (x.Dict ps) pc = joined (pairs_code names h pc ps) (pairs_length ps pc) (one_more nothing_more)
    expr_length (x.Unary operator e) pc = joined (expr_code names h pc e) (expr_length e pc) (one_more nothing_more)
    expr_length (x.Binary operator e d) pc =
        let second = expr_end names pc e in
        joined (expr_code names h pc e) (expr_length e pc) (joined (expr_code names h second d) (expr_length d second) (one_more nothing_more))
    expr_length (x.Compare operator e d) pc =
        let second = expr_end names pc e in
        joined (expr_code names h pc e) (expr_length e pc) (joined (expr_code names h second d) (expr_length d second) (one_more nothing_more))
    expr_length (x.Is negated e constant) pc = joined (expr_code names h pc e) (expr_length e pc) (one_more nothing_more)
    expr_length (x.Not e) pc = joined (expr_code names h pc e) (expr_length e pc) (one_more nothing_more)
    expr_length (x.And e d) pc = joined (expr_code names h pc e) (expr_length e pc) (one_more (expr_length d (expr_end names pc e + 1)))
    expr_length (x.Or e d) pc = joined (expr_code names h pc e) (expr_length e pc) (one_more (expr_length d (expr_end names pc e + 1)))
    expr_length (x.Cond test then' other) pc =
        let first = expr_end names pc test + 1 in
        let second = expr_end names first then' + 1 in
        joined (expr_code names h pc test) (expr_length test pc) (one_more (joined (expr_code names h first then') (expr_length then' first) (one_more (expr_length other second))))
    expr_length (x.Attr e name) pc = joined (expr_code names h pc e) (expr_length e pc) (one_more nothing_more)
    expr_length (x.Index e d) pc =
        let second = expr_end names pc e in
        joined (expr_code names h pc e) (expr_length e pc) (joined (expr_code names h second d) (expr_length d second) (one_more nothing_more))
    expr_length (x.Call callee args keys) pc =
        let behind = expr_end names pc callee in
        let third = exprs_end names behind args in
        let base = exprs_end names (pc + 1 + 1) args in
        call_length names h (form_in names callee) (shape args keys) pc (keywords_end names third keys) (keywords_end names base keys) (last_end names pc args)
        (expr_code names h pc callee ++ (exprs_code names h behind args ++ keywords_code names h third keys))
        (exprs_code names h (pc + 1 + 1) args ++ keywords_code names h base keys)
        (last_code names h pc args)
        (joined (expr_code names h pc callee) (expr_length callee pc) (joined (exprs_code names h behind args) (exprs_length args behind) (keywords_length keys third)))
        (joined (exprs_code names h (pc + 1 + 1) args) (exprs_length args (pc + 1 + 1)) (keywords_length keys base))
        (last_length args pc)

    pub exprs_length : (es : Expressions) (pc : ℕ) → Ends pc (exprs_code names h pc es) (exprs_end names pc es)
    exprs_length x.end_of_expressions pc = nothing_more
    exprs_length (x.more_expressions e rest) pc = joined (expr_code names h pc e) (expr_length e pc) (exprs_length rest (expr_end names pc e))

    pub last_length : (es : Expressions) (pc : ℕ) → Ends pc (last_code names h pc es) (last_end names pc es)
    last_length x.end_of_expressions pc = one_more nothing_more
    last_length (x.more_expressions e x.end_of_expressions) pc = expr_length e pc
    last_length (x.more_expressions e (x.more_expressions d rest)) pc = last_length (x.more_expressions d rest) pc

    pub pairs_length : (ps : Pairs) (pc : ℕ) → Ends pc (pairs_code names h pc ps) (pairs_end names pc ps)
    pairs_length x.end_of_pairs pc = nothing_more
    pairs_length (x.more_pairs (x.Paired key value) rest) pc =
        let second = expr_end names pc key in
        joined (expr_code names h pc key) (expr_length key pc) (joined (expr_code names h second value) (expr_length value second) (pairs_length rest (expr_end names second value)))

    pub keywords_length : (ks : Keywords) (pc : ℕ) → Ends pc (keywords_code names h pc ks) (keywords_end names pc ks)
    keywords_length x.end_of_keywords pc = nothing_more
    keywords_length (x.more_keywords (x.Named name e) rest) pc = joined (expr_code names h pc e) (expr_length e pc) (keywords_length rest (expr_end names pc e))

  -- ---- assignments

  stores_length : (ns : List Text) (pc : ℕ) → Ends pc (map (store names h) ns) (pc + length ns)
  stores_length [] pc = record { by = omega arith }
  stores_length (n ∷ ns) pc = let rest = (stores_length ns (pc + 1)).by in record { by = omega (arith, rest) }

  pub assign_length : (t : Target) (pc : ℕ) → Ends pc (assign_code names h pc t) (assign_end names pc t)
  assign_length (x.ToName name) pc = one_more nothing_more
  assign_length (x.ToNames ns) pc = one_more (stores_length ns (pc + 1))
  assign_length (x.ToAttr e name) pc = joined (expr_code names h pc e) (expr_length e pc) (one_more nothing_more)
  assign_length (x.ToIndex e d) pc =
      let second = expr_end names pc e in
      joined (expr_code names h pc e) (expr_length e pc) (joined (expr_code names h second d) (expr_length d second) (one_more nothing_more))

  pub augment_length : (t : Target) (operator : BinaryOp) (right : Expression) (pc : ℕ) → Ends pc (augment_code names h pc t operator right) (augment_end names pc t right)
  augment_length (x.ToName name) operator right pc =
      one_more (joined (expr_code names h (pc + 1) right) (expr_length right (pc + 1)) (one_more (one_more nothing_more)))
  augment_length (x.ToAttr e name) operator right pc =
      let third = expr_end names pc e + 1 + 1 in
      joined (expr_code names h pc e) (expr_length e pc) (one_more (one_more (joined (expr_code names h third right) (expr_length right third) (one_more (one_more (one_more nothing_more))))))
  augment_length (x.ToIndex e d) operator right pc =
      let second = expr_end names pc e in
      let third = expr_end names second d + 1 + 1 in
      joined (expr_code names h pc e) (expr_length e pc) (joined (expr_code names h second d) (expr_length d second) (one_more (one_more
      (joined (expr_code names h third right) (expr_length right third) (one_more (one_more (one_more nothing_more)))))))
  augment_length (x.ToNames ns) operator right pc = nothing_more

  -- ---- definitions

  pub default_length : (function n : ℕ) (o : Option Expression) (pc : ℕ) → Ends pc (def.default_code names h function n pc o) (def.default_end names pc o)
  default_length function n None pc = nothing_more
  default_length function n (Some e) pc = joined (expr_code names h pc e) (expr_length e pc) (one_more nothing_more)

  pub defaults_length : (function n : ℕ) (ps : List Param) (pc : ℕ) → Ends pc (def.defaults_code names h function n pc ps) (def.defaults_end names pc ps)
  defaults_length function n [] pc = nothing_more
  defaults_length function n (p ∷ ps) pc =
      joined (def.default_code names h function n pc p.default) (default_length function n p.default pc) (defaults_length function (suc n) ps (def.default_end names pc p.default))

  pub own_defaults_length : (o : Option ℕ) (ps : List Param) (pc : ℕ) → Ends pc (def.own_defaults_code names h o pc ps) (def.own_defaults_end names o pc ps)
  own_defaults_length None ps pc = nothing_more
  own_defaults_length (Some n) ps pc = defaults_length n 0 ps pc

  bind_function_length : (name : Text) (o : Option ℕ) (pc : ℕ) → Ends pc (def.bind_function_code names h name o) (def.bind_function_end o pc)
  bind_function_length name None pc = one_more nothing_more
  bind_function_length name (Some n) pc = one_more (one_more nothing_more)

  bind_class_length : (name : Text) (o : Option ℕ) (pc : ℕ) → Ends pc (def.bind_class_code names h name o) (def.bind_function_end o pc)
  bind_class_length name None pc = one_more nothing_more
  bind_class_length name (Some n) pc = one_more (one_more nothing_more)

  pub def_length : (f : Function) (pc : ℕ) → Ends pc (def.def_code names h pc f) (def.def_end names pc f)
  def_length f pc =
      let n = function_place names None (written_name f) in
      joined (def.own_defaults_code names h n pc (params_of f)) (own_defaults_length n (params_of f) pc) (bind_function_length (written_name f) n (def.own_defaults_end names n pc (params_of f)))

  pub member_length : (class : Option ℕ) (kind : Kind) (pc : ℕ) → Ends pc (def.member_code names h class pc kind) (def.member_end names class pc kind)
  member_length class (x.Def f) pc = own_defaults_length (function_place names class (written_name f)) (params_of f) pc
  member_length class _ pc = nothing_more

  pub members_length : (class : Option ℕ) (body : Statements) (pc : ℕ) → Ends pc (def.members_code names h class pc body) (def.members_end names class pc body)
  members_length class x.end_of_statements pc = nothing_more
  members_length class (x.more_statements (x.On line kind) rest) pc =
      one_more (joined (def.member_code names h class (pc + 1) kind) (member_length class kind (pc + 1)) (members_length class rest (def.member_end names class (pc + 1) kind)))

  pub base_class_length : (o : Option Expression) (pc : ℕ) → Ends pc (def.base_code names h pc o) (def.base_end names pc o)
  base_class_length None pc = nothing_more
  base_class_length (Some e) pc = joined (expr_code names h pc e) (expr_length e pc) (one_more nothing_more)

  pub class_length : (class : ClassDef) (pc : ℕ) → Ends pc (def.class_code names h pc class) (def.class_end names pc class)
  class_length (x.Classed name base body) pc =
      let n = class_place names name in
      let begin = def.base_end names pc base in
      joined (def.base_code names h pc base) (base_class_length base pc)
      (joined (def.members_code names h n begin body) (members_length n body begin) (bind_class_length name n (def.members_end names n begin body)))

  pub import_length : (import : Import) (pc : ℕ) → Ends pc (def.import_code names h import) (def.import_end pc import)
  import_length import pc = unless_length (is_marker_import import) _ pc

  pub imports_length : (imports : List Import) (pc : ℕ) → Ends pc (def.imports_code names h imports) (def.imports_end pc imports)
  imports_length [] pc = nothing_more
  imports_length (import ∷ imports) pc = joined (def.import_code names h import) (import_length import pc) (imports_length imports (def.import_end pc import))

  pub member_import_length : (from : Text) (import : Import) (pc : ℕ) → Ends pc (def.member_import_code names h from import) (if binds_nothing from then pc else pc + 1)
  member_import_length from import pc = unless_length (binds_nothing from) _ pc

  pub member_imports_length : (from : Text) (imports : List Import) (pc : ℕ) → Ends pc (def.member_imports_code names h from imports) (def.member_imports_end pc from imports)
  member_imports_length from [] pc = nothing_more
  member_imports_length from (import ∷ imports) pc =
      joined (def.member_import_code names h from import) (member_import_length from import pc) (member_imports_length from imports (if binds_nothing from then pc else pc + 1))

-- ---- statements

module _ (names : Names) where
  mutual
    pub kind_length : (k : Targets) (line : ℕ) (a : Kind) (pc : ℕ) → Ends pc (kind_code names k line pc a) (kind_end names line pc a)
    kind_length k line x.Pass pc = nothing_more
    kind_length k line x.Break pc = one_more nothing_more
    kind_length k line x.Continue pc = one_more nothing_more
    kind_length k line (x.Return None) pc = one_more (one_more nothing_more)
    kind_length k line (x.Return (Some e)) pc = joined (expr_code names k.raised pc e) (expr_length names k.raised e pc) (one_more nothing_more)
    kind_length k line (x.Raise None) pc = one_more nothing_more
    kind_length k line (x.Raise (Some e)) pc = joined (expr_code names k.raised pc e) (expr_length names k.raised e pc) (one_more (one_more nothing_more))
    kind_length k line (x.Imports imports) pc = imports_length names k.raised imports pc
    kind_length k line (x.From from imports) pc = member_imports_length names k.raised from imports pc
    kind_length k line (x.Eval e) pc = joined (expr_code names k.raised pc e) (expr_length names k.raised e pc) (one_more nothing_more)
    kind_length k line (x.Assign t e) pc = joined (expr_code names k.raised pc e) (expr_length names k.raised e pc) (assign_length names k.raised t (expr_end names pc e))
    kind_length k line (x.Annotate t kind None) pc = nothing_more
    kind_length k line (x.Annotate t kind (Some e)) pc = joined (expr_code names k.raised pc e) (expr_length names k.raised e pc) (assign_length names k.raised t (expr_end names pc e))
    kind_length k line (x.Augment t operator e) pc = augment_length names k.raised t operator e pc
    kind_length k line (x.If tested orelse) pc =
        let other = branches_end names pc tested in
        joined (branches_code names k (rows_end names other orelse) pc tested) (branches_length k (rows_end names other orelse) tested pc) (rows_length k orelse other)
    kind_length k line (x.While test body) pc =
        let first = pc + 1 in
        let turn = rows_end names first body in
        let tested = line_end turn (line_in names.locals line) in
        let inner = in_while k (expr_end names tested test + 1) turn in
        one_more (joined (rows_code names inner first body) (rows_length inner body first)
        (joined (line_code k.raised (line_in names.locals line)) (line_length k.raised (line_in names.locals line) turn)
        (joined (expr_code names k.raised tested test) (expr_length names k.raised test tested) (one_more nothing_more))))
    kind_length k line (x.For t e body) pc =
        let first = expr_end names pc e + 1 + 1 in
        let begin = assign_end names first t in
        let turn = rows_end names begin body in
        let step = line_end turn (line_in names.locals line) in
        let inner = in_for k (step + 1) turn in
        joined (expr_code names k.raised pc e) (expr_length names k.raised e pc) (one_more (one_more
        (joined (assign_code names inner.raised first t) (assign_length names inner.raised t first)
        (joined (rows_code names inner begin body) (rows_length inner body begin)
        (joined (line_code inner.raised (line_in names.locals line)) (line_length inner.raised (line_in names.locals line) turn) (one_more (one_more nothing_more)))))))
    kind_length k line (x.Try body clauses) pc =
        let behind = rows_end names pc body in
        let first = line_end (behind + 1) (line_in names.locals line) in
        let release = clauses_end names first clauses in
        let inner = in_clauses k in
        joined (rows_code names (in_try k (behind + 1)) pc body) (rows_length (in_try k (behind + 1)) body pc) (one_more
        (joined (line_code inner.raised (line_in names.locals line)) (line_length inner.raised (line_in names.locals line) (behind + 1))
        (joined (clauses_code names inner release first clauses) (clauses_length inner release clauses first) (one_more nothing_more))))
    kind_length k line (x.Def f) pc = def_length names k.raised f pc
    kind_length k line (x.Class class) pc = class_length names k.raised class pc

    pub rows_length : (k : Targets) (rows : Statements) (pc : ℕ) → Ends pc (rows_code names k pc rows) (rows_end names pc rows)
    rows_length k x.end_of_statements pc = nothing_more
    rows_length k (x.more_statements (x.On line kind) rest) pc =
        one_more (joined (kind_code names k line (pc + 1) kind) (kind_length k line kind (pc + 1)) (rows_length k rest (kind_end names line (pc + 1) kind)))

    pub branches_length : (k : Targets) (end : ℕ) (bs : Branches) (pc : ℕ) → Ends pc (branches_code names k end pc bs) (branches_end names pc bs)
    branches_length k end x.end_of_branches pc = nothing_more
    branches_length k end (x.more_branches (x.Tested line test body) rest) pc =
        let tested = line_end pc (line_in names.locals line) in
        let first = expr_end names tested test + 1 in
        joined _ (joined (line_code k.raised (line_in names.locals line)) (line_length k.raised (line_in names.locals line) pc)
        (joined (expr_code names k.raised tested test) (expr_length names k.raised test tested) (one_more (joined (rows_code names k first body) (rows_length k body first) (one_more nothing_more))))) (branches_length k end rest (rows_end names first body + 1))

    pub clauses_length : (k : Targets) (release : ℕ) (clauses : Clauses) (pc : ℕ) → Ends pc (clauses_code names k release pc clauses) (clauses_end names pc clauses)
    clauses_length k release x.end_of_clauses pc = one_more nothing_more
    clauses_length k release (x.more_clauses (x.Except None name body) rest) pc =
        joined _ (one_more (joined (rows_code names k (pc + 1) body) (rows_length k body (pc + 1)) (one_more nothing_more))) (clauses_length k release rest (rows_end names (pc + 1) body + 1))
    clauses_length k release (x.more_clauses (x.Except (Some e) name body) rest) pc =
        let first = expr_end names pc e + 1 in
        joined _ (joined (expr_code names k.raised pc e) (expr_length names k.raised e pc) (one_more (one_more (joined (rows_code names k (first + 1) body) (rows_length k body (first + 1)) (one_more nothing_more)))))
        (clauses_length k release rest (rows_end names (first + 1) body + 1))

  pub branch_length : (k : Targets) (line : ℕ) (test : Expression) (body : Statements) (pc : ℕ) (jump last : Cell)
      → Ends pc (line_code k.raised (line_in names.locals line) ++ (expr_code names k.raised (line_end pc (line_in names.locals line)) test ++ (jump ∷ (rows_code names k (expr_end names (line_end pc (line_in names.locals line)) test + 1) body ++ last ∷ []))))
      (rows_end names (expr_end names (line_end pc (line_in names.locals line)) test + 1) body + 1)
  branch_length k line test body pc jump last =
      let tested = line_end pc (line_in names.locals line) in
      let first = expr_end names tested test + 1 in
      joined (line_code k.raised (line_in names.locals line)) (line_length k.raised (line_in names.locals line) pc)
      (joined (expr_code names k.raised tested test) (expr_length names k.raised test tested) (one_more (joined (rows_code names k first body) (rows_length k body first) (one_more nothing_more))))
