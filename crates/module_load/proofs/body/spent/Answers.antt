use Rattle.std.proofs.Common.{◌≡◌, List, map, Option, Some, None, slice_get, sym, ap, subst, ◌∙◌}
use Rattle.std.specs.Option.{option_map, option_copied}
use Rattle.std.proofs.lemmas.Option.{slice_get-map}
use Rattle.py_tree.specs.Syntax.{Statement}
use Rattle.py_tree.specs.Joined.{statement_of, statements_of}
use Rattle.py_tree.specs.declared.code.Code.TheVariants.{FuelSpent}
use Rattle.py_tree.specs.declared.statement.Stmt.{Stmt}
use Rattle.module_load.specs.Bodies.{fault_at, import_fuel, listed, spent}
use Rattle.module_load.proofs.Statements.{listed_is}
use Rattle.module_load.proofs.body.spent.Goals as goal

looked_up : (body : List Stmt) (found : Option Stmt) → found ≡ slice_get body import_fuel → fault_at FuelSpent (option_map statement_of found) ≡ spent (statements_of body)
looked_up body found e =
    let there : option_map statement_of found ≡ slice_get (listed (statements_of body)) import_fuel = ap (option_map statement_of) e ∙ sym (slice_get-map statement_of body import_fuel) ∙ ap (λ (ss : List Statement). slice_get ss import_fuel) (sym (listed_is (map statement_of body))) in
    ap (fault_at FuelSpent) there

pub returns-in-Some : goal.returns-in-Some
returns-in-Some c = c.fault_at.ensures ∙ looked_up c.args.body.now (Some c.in-Some.statement.now) (subst (λ found. option_copied found ≡ slice_get c.args.body.now import_fuel) c.in-Some.is c.statement_at.ensures)

pub returns-in-None : goal.returns-in-None
returns-in-None c = looked_up c.args.body.now None (subst (λ found. option_copied found ≡ slice_get c.args.body.now import_fuel) c.in-None.is c.statement_at.ensures)
