use Rattle.std.proofs.Common.{◌≡◌, IfOk, option_map, ap, subst}
use Rattle.py_blocks.specs.Rows.{row_of}
use Rattle.py_blocks.specs.Views.{maybe_owner_of, owner_of, state_of}
use Rattle.py_blocks.proofs.Frames.{step_below, step_back}
use Rattle.py_blocks.proofs.builder.Builder.step.Goals as goal

pub returns-in-Some : goal.returns-in-Some
returns-in-Some c =
    let same = step_below (state_of c.args.self) (row_of c.args.row) (owner_of c.in-Some.owner) (ap maybe_owner_of c.in-Some.is) in
    subst (λ y. IfOk c.below_head.result (λ next. option_map state_of next ≡ y)) same c.below_head.ensures

pub returns-in-None : goal.returns-in-None
returns-in-None c =
    let same = step_back (state_of c.args.self) (row_of c.args.row) (ap maybe_owner_of c.in-None.is) in
    subst (λ y. IfOk c.place_back.result (λ next. option_map state_of next ≡ y)) same c.place_back.ensures
