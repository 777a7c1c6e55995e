-- Which modules are lawful: each statement stands where it may, no `if` is without a branch, no `try` without a clause, and no
-- integer literal is above the greatest `int`.
use Rattle.std.specs.Prelude.{Bool, true, false, not, ◌&&◌, List, [], ◌∷◌, None, is_some, is_none, codes}
use Rattle.std.specs.Str.{bytes_eq}
use Rattle.py_tree.specs.Syntax as x
use Rattle.py_tree.specs.Syntax.{Text, Param, Kind, Statements, Branches, Clauses, Function, ClassDef}
use Rattle.py_tree.specs.Literals.{statements_fit}

-- what is around a statement in its own function, or in the module where it stands in none
pub record Place : Type 0 where
  pub in_function : Bool
  pub in_loop : Bool
  pub in_clause : Bool

abbrev pub module_level : Place
module_level = record { in_function = false; in_loop = false; in_clause = false }

abbrev pub function_level : Place
function_level = record { in_function = true; in_loop = false; in_clause = false }

-- a def or a class: outside functions and loops
abbrev pub may_define : Place → Bool
may_define p = not p.in_function && not p.in_loop

-- a method: its first parameter is `self`, without annotation and default
abbrev pub takes_self : List Param → Bool
takes_self [] = false
takes_self (p ∷ ps) = (bytes_eq p.name (codes "self") && is_none p.kind) && is_none p.default

abbrev mutual
  -- in a module or a function
  pub stands : Place → Kind → Bool
  stands p x.Break = p.in_loop
  stands p x.Continue = p.in_loop
  stands p (x.Return value) = p.in_function
  stands p (x.Raise None) = p.in_clause
  stands p (x.If x.end_of_branches orelse) = false
  stands p (x.If (x.more_branches b rest) orelse) = branches_stand p (x.more_branches b rest) && all_stand p orelse
  stands p (x.While test body) = all_stand (record p { in_loop = true }) body
  stands p (x.For t e body) = all_stand (record p { in_loop = true }) body
  stands p (x.Try body x.end_of_clauses) = false
  stands p (x.Try body (x.more_clauses c rest)) = all_stand p body && clauses_stand p (x.more_clauses c rest)
  stands p (x.Def function) = may_define p && function_stands function
  stands p (x.Class class) = may_define p && class_stands class
  stands p _ = true

  pub all_stand : Place → Statements → Bool
  all_stand p x.end_of_statements = true
  all_stand p (x.more_statements (x.On line kind) rest) = stands p kind && all_stand p rest

  pub branches_stand : Place → Branches → Bool
  branches_stand p x.end_of_branches = true
  branches_stand p (x.more_branches (x.Tested line test body) rest) = all_stand p body && branches_stand p rest

  -- a clause that takes all exceptions is the last
  pub clauses_stand : Place → Clauses → Bool
  clauses_stand p x.end_of_clauses = true
  clauses_stand p (x.more_clauses (x.Except matches bind body) x.end_of_clauses) = all_stand (record p { in_clause = true }) body
  clauses_stand p (x.more_clauses (x.Except matches bind body) (x.more_clauses c rest)) =
      (is_some matches && all_stand (record p { in_clause = true }) body) && clauses_stand p (x.more_clauses c rest)

  pub function_stands : Function → Bool
  function_stands (x.Defined name params result body) = all_stand function_level body

  pub class_stands : ClassDef → Bool
  class_stands (x.Classed name base x.end_of_statements) = true
  class_stands (x.Classed name base (x.more_statements (x.On line (x.Eval (x.Str text))) rest)) = members_stand rest
  class_stands (x.Classed name base body) = members_stand body

  -- below the docstring of a class
  pub members_stand : Statements → Bool
  members_stand x.end_of_statements = true
  members_stand (x.more_statements (x.On line kind) rest) = member_stands kind && members_stand rest

  pub member_stands : Kind → Bool
  member_stands x.Pass = true
  member_stands (x.Annotate (x.ToName name) kind None) = true
  member_stands (x.Def (x.Defined name params result body)) = takes_self params && all_stand function_level body
  member_stands _ = false

abbrev pub lawful : Statements → Bool
lawful body = all_stand module_level body && statements_fit body
