use Rattle.std.proofs.Common.{◌≡◌, ◌∷◌, ◌++◌, [], IfOk, option_map, reverse, sym, ap, subst, ◌∙◌, rules}
use Rattle.py_tree.specs.Joined.{statements_of}
use Rattle.py_blocks.specs.Machine as machine
use Rattle.py_blocks.specs.Rows.{row_of, rows_of}
use Rattle.py_blocks.specs.Views.{ReadsRow, state_of}
use Rattle.py_blocks.proofs.Reading.{at_first, further, stopped_there, made, unfinished}
use Rattle.py_blocks.proofs.building.read_all.Goals as goal

pub loop-row-init : goal.loop-row-init
loop-row-init c = at_first c.args.left (state_of c.new-builder.result) 1 c.new-builder.ensures

pub loop-row-preserved : goal.loop-row-preserved
loop-row-preserved c =
    let all : c.loop-row.left ≡ c.pop.new.self ++ c.in-Some.row ∷ [] = search rules in
    let next = subst (ReadsRow (state_of c.loop-row.builder) (row_of c.in-Some.row)) c.in-Ok.is c.read.ensures in
    further (rows_of (reverse c.args.left)) c.loop-row.left c.pop.new.self c.in-Some.row (state_of c.loop-row.builder) (state_of c.in-Ok.next) c.loop-row.line c.loop-row.invariant all next.0 next.1

pub returns-in-Err : goal.returns-in-Err
returns-in-Err c =
    let all : c.loop-row.left ≡ c.pop.new.self ++ c.in-Some.row ∷ [] = search rules in
    let why = subst (ReadsRow (state_of c.loop-row.builder) (row_of c.in-Some.row)) c.in-Err.is c.read.ensures in
    stopped_there (rows_of (reverse c.args.left)) c.loop-row.left c.pop.new.self c.in-Some.row (state_of c.loop-row.builder) c.loop-row.line c.in-Err.stop c.loop-row.invariant all why

pub returns-in-Ok-Some : goal.returns-in-Ok-Some
returns-in-Ok-Some c =
    let none : c.loop-row.left ≡ [] = search rules in
    let ended : option_map statements_of c.in-Ok-Some.field-0 ≡ machine.finish (state_of c.loop-row.builder) = subst (λ r. IfOk r (λ body. option_map statements_of body ≡ machine.finish (state_of c.loop-row.builder))) c.in-Ok-Some.is c.finish.ensures in
    made (rows_of (reverse c.args.left)) c.loop-row.left (state_of c.loop-row.builder) c.loop-row.line (record { body = c.in-Ok-Some.body }) c.loop-row.invariant none (ap (option_map statements_of) (sym c.in-Ok-Some.field-0-is) ∙ ended)

pub returns-in-Ok-None : goal.returns-in-Ok-None
returns-in-Ok-None c =
    let none : c.loop-row.left ≡ [] = search rules in
    let ended : option_map statements_of c.in-Ok-None.field-0 ≡ machine.finish (state_of c.loop-row.builder) = subst (λ r. IfOk r (λ body. option_map statements_of body ≡ machine.finish (state_of c.loop-row.builder))) c.in-Ok-None.is c.finish.ensures in
    unfinished (rows_of (reverse c.args.left)) c.loop-row.left (state_of c.loop-row.builder) c.loop-row.line c.loop-row.invariant none (ap (option_map statements_of) (sym c.in-Ok-None.field-0-is) ∙ ended)
