-- The code of statements, and of whole bodies.
use Rattle.std.specs.Prelude.{ℕ, ◌+◌, List, [], ◌∷◌, ◌++◌, Some, None}
use Rattle.py_tree.specs.Syntax as x
use Rattle.py_tree.specs.Syntax.{Kind, Statements, Branches, Clauses}
use Rattle.bytecode.specs.declared.instr.Cell.{Cell}
use Rattle.bytecode.specs.declared.instr.Instr.TheVariants as i
use Rattle.compile_plain.specs.declared.targets.Targets.{Targets}
use Rattle.compile_plain.specs.Names.{Names, line_in, maybe_variable}
use Rattle.compile_plain.specs.Cells.{cell, in_clauses, in_try, in_while, in_for, line_end, line_code}
use Rattle.compile_plain.specs.Expressions.{expr_end, expr_code}
use Rattle.compile_plain.specs.Assignments.{assign_end, assign_code, augment_end, augment_code}
use Rattle.compile_plain.specs.Definitions.{def_end, def_code, class_end, class_code, imports_end, imports_code, member_imports_end, member_imports_code}

-- ---- ends

abbrev mutual
  pub kind_end : Names → ℕ → ℕ → Kind → ℕ
  kind_end names line pc x.Pass = pc
  kind_end names line pc x.Break = pc + 1
  kind_end names line pc x.Continue = pc + 1
  kind_end names line pc (x.Return None) = pc + 1 + 1
  kind_end names line pc (x.Return (Some e)) = expr_end names pc e + 1
  kind_end names line pc (x.Raise None) = pc + 1
  kind_end names line pc (x.Raise (Some e)) = expr_end names pc e + 1 + 1
  kind_end names line pc (x.Imports imports) = imports_end pc imports
  kind_end names line pc (x.From from imports) = member_imports_end pc from imports
  kind_end names line pc (x.Eval e) = expr_end names pc e + 1
  kind_end names line pc (x.Assign t e) = assign_end names (expr_end names pc e) t
  kind_end names line pc (x.Annotate t kind None) = pc
  kind_end names line pc (x.Annotate t kind (Some e)) = assign_end names (expr_end names pc e) t
  kind_end names line pc (x.Augment t operator e) = augment_end names pc t e
  kind_end names line pc (x.If tested orelse) = rows_end names (branches_end names pc tested) orelse
  kind_end names line pc (x.While test body) = expr_end names (line_end (rows_end names (pc + 1) body) (line_in names.locals line)) test + 1
  kind_end names line pc (x.For t e body) =
      line_end (rows_end names (assign_end names (expr_end names pc e + 1 + 1) t) body) (line_in names.locals line) + 1 + 1
  kind_end names line pc (x.Try body clauses) = clauses_end names (line_end (rows_end names pc body + 1) (line_in names.locals line)) clauses + 1
  kind_end names line pc (x.Def f) = def_end names pc f
  kind_end names line pc (x.Class class) = class_end names pc class

  pub rows_end : Names → ℕ → Statements → ℕ
  rows_end names pc x.end_of_statements = pc
  rows_end names pc (x.more_statements (x.On line kind) rest) = rows_end names (kind_end names line (pc + 1) kind) rest

  pub branches_end : Names → ℕ → Branches → ℕ
  branches_end names pc x.end_of_branches = pc
  branches_end names pc (x.more_branches (x.Tested line test body) rest) =
      branches_end names (rows_end names (expr_end names (line_end pc (line_in names.locals line)) test + 1) body + 1) rest

  pub clauses_end : Names → ℕ → Clauses → ℕ
  clauses_end names pc x.end_of_clauses = pc + 1
  clauses_end names pc (x.more_clauses (x.Except None name body) rest) = clauses_end names (rows_end names (pc + 1) body + 1) rest
  clauses_end names pc (x.more_clauses (x.Except (Some e) name body) rest) =
      clauses_end names (rows_end names (expr_end names pc e + 1 + 1) body + 1) rest

-- ---- code

abbrev mutual
  pub kind_code : Names → Targets → ℕ → ℕ → Kind → List Cell
  kind_code names k line pc x.Pass = []
  kind_code names k line pc x.Break = cell k.raised (i.Leave k.in_loop k.broke) ∷ []
  kind_code names k line pc x.Continue = cell k.raised (i.Leave k.in_loop k.continued) ∷ []
  kind_code names k line pc (x.Return None) = cell k.raised i.Nil ∷ (cell k.raised (i.Return k.in_block) ∷ [])
  kind_code names k line pc (x.Return (Some e)) = expr_code names k.raised pc e ++ cell k.raised (i.Return k.in_block) ∷ []
  kind_code names k line pc (x.Raise None) = cell k.raised i.ThrowAgain ∷ []
  kind_code names k line pc (x.Raise (Some e)) = expr_code names k.raised pc e ++ (cell k.raised i.Make ∷ (cell k.raised i.Throw ∷ []))
  kind_code names k line pc (x.Imports imports) = imports_code names k.raised imports
  kind_code names k line pc (x.From from imports) = member_imports_code names k.raised from imports
  kind_code names k line pc (x.Eval e) = expr_code names k.raised pc e ++ cell k.raised i.DropTop ∷ []
  kind_code names k line pc (x.Assign t e) = expr_code names k.raised pc e ++ assign_code names k.raised (expr_end names pc e) t
  kind_code names k line pc (x.Annotate t kind None) = []
  kind_code names k line pc (x.Annotate t kind (Some e)) = expr_code names k.raised pc e ++ assign_code names k.raised (expr_end names pc e) t
  kind_code names k line pc (x.Augment t operator e) = augment_code names k.raised pc t operator e
  kind_code names k line pc (x.If tested orelse) =
      let other = branches_end names pc tested in
      branches_code names k (rows_end names other orelse) pc tested ++ rows_code names k other orelse
  kind_code names k line pc (x.While test body) =
      let first = pc + 1 in
      let turn = rows_end names first body in
      let tested = line_end turn (line_in names.locals line) in
      cell k.raised (i.Jump tested) ∷ (rows_code names (in_while k (expr_end names tested test + 1) turn) first body
      ++ (line_code k.raised (line_in names.locals line) ++ (expr_code names k.raised tested test ++ cell k.raised (i.TurnIf first) ∷ [])))
  kind_code names k line pc (x.For t e body) =
      let first = expr_end names pc e + 1 + 1 in
      let begin = assign_end names first t in
      let turn = rows_end names begin body in
      let step = line_end turn (line_in names.locals line) in
      let inner = in_for k (step + 1) turn in
      expr_code names k.raised pc e ++ (cell k.raised i.Iterate ∷ (cell inner.raised (i.Jump step) ∷ (assign_code names inner.raised first t ++ (rows_code names inner begin body
      ++ (line_code inner.raised (line_in names.locals line) ++ (cell inner.raised (i.Next first) ∷ (cell inner.raised i.EndLoop ∷ [])))))))
  kind_code names k line pc (x.Try body clauses) =
      let behind = rows_end names pc body in
      let first = line_end (behind + 1) (line_in names.locals line) in
      let release = clauses_end names first clauses in
      let inner = in_clauses k in
      rows_code names (in_try k (behind + 1)) pc body ++ (cell k.raised (i.Jump (release + 1)) ∷ (line_code inner.raised (line_in names.locals line)
      ++ (clauses_code names inner release first clauses ++ cell inner.raised i.Release ∷ [])))
  kind_code names k line pc (x.Def f) = def_code names k.raised pc f
  kind_code names k line pc (x.Class class) = class_code names k.raised pc class

  pub rows_code : Names → Targets → ℕ → Statements → List Cell
  rows_code names k pc x.end_of_statements = []
  rows_code names k pc (x.more_statements (x.On line kind) rest) =
      (cell k.raised (i.Begin (line_in names.locals line)) ∷ kind_code names k line (pc + 1) kind) ++ rows_code names k (kind_end names line (pc + 1) kind) rest

  -- behind a branch that is taken it goes on at the end
  pub branches_code : Names → Targets → ℕ → ℕ → Branches → List Cell
  branches_code names k end pc x.end_of_branches = []
  branches_code names k end pc (x.more_branches (x.Tested line test body) rest) =
      let tested = line_end pc (line_in names.locals line) in
      let first = expr_end names tested test + 1 in
      let next = rows_end names first body + 1 in
      (line_code k.raised (line_in names.locals line) ++ (expr_code names k.raised tested test ++ (cell k.raised (i.JumpUnless next) ∷ (rows_code names k first body ++ cell k.raised (i.Jump end) ∷ []))))
      ++ branches_code names k end next rest

  -- behind a clause it goes on at the release
  pub clauses_code : Names → Targets → ℕ → ℕ → Clauses → List Cell
  clauses_code names k release pc x.end_of_clauses = cell k.raised i.PassOn ∷ []
  clauses_code names k release pc (x.more_clauses (x.Except None name body) rest) =
      (cell k.raised (i.Take (maybe_variable names name)) ∷ (rows_code names k (pc + 1) body ++ cell k.raised (i.Jump release) ∷ []))
      ++ clauses_code names k release (rows_end names (pc + 1) body + 1) rest
  clauses_code names k release pc (x.more_clauses (x.Except (Some e) name body) rest) =
      let first = expr_end names pc e + 1 in
      let next = rows_end names (first + 1) body + 1 in
      (expr_code names k.raised pc e ++ (cell k.raised (i.TakesElse next) ∷ (cell k.raised (i.Take (maybe_variable names name)) ∷ (rows_code names k (first + 1) body ++ cell k.raised (i.Jump release) ∷ []))))
      ++ clauses_code names k release next rest

-- ---- whole bodies

-- in a block nothing is outside: there `break` and `continue` end it
abbrev pub outermost : Names → Statements → Targets
outermost names body = record { broke = rows_end names 0 body; continued = rows_end names 0 body; in_loop = 0; in_block = 0; raised = record { place = None; clauses = 0; loops = 0 } }

abbrev pub body_code : Names → Statements → List Cell
body_code names body =
    let k = outermost names body in
    rows_code names k 0 body ++ (cell k.raised i.Nil ∷ (cell k.raised (i.Return 0) ∷ []))
