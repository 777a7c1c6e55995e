-- The parts that were read are those that stand.
use Rattle.std.proofs.Common.{rules, sym, subst}
use Rattle.py_lexer.specs.Strings.{Parts}
use Rattle.py_lexer.specs.Views.{part_view}
use Rattle.py_lexer.proofs.Quoted.{ReadSoFar, closes, stops, more, less}
use Rattle.py_lexer.proofs.string_literal.quoted.Goals as goal

pub returns-in-Some : goal.returns-in-Some
returns-in-Some c =
    let quotes = c.args.quotes in
    let text = c.args.text.now in
    let behind = c.in-Some.behind.now in
    subst (Parts quotes text behind) (sym c.from_vec.ensures.points) (closes quotes text c.loop-behind.characters.items c.loop-behind.rest.now behind c.loop-behind.invariant (sym c.in-Some.ensures))

pub returns-in_default-part_at : goal.returns-in_default-part_at
returns-in_default-part_at c =
    stops c.args.quotes c.args.text.now c.loop-behind.characters.items c.loop-behind.rest.now c.loop-behind.invariant (search rules) (search rules)

pub loop-behind-smaller : goal.loop-behind-smaller
loop-behind-smaller c = less c.args.quotes c.loop-behind.rest.now (part_view (c.in-Some-part_at.character, c.in-Some-part_at.behind)) (sym c.in-Some-part_at.ensures)

pub loop-behind-preserved : goal.loop-behind-preserved
loop-behind-preserved c =
    let quotes = c.args.quotes in
    let text = c.args.text.now in
    let characters = c.loop-behind.characters.items in
    let rest = c.loop-behind.rest.now in
    let part = part_view (c.in-Some-part_at.character, c.in-Some-part_at.behind) in
    subst (λ cs. ReadSoFar quotes text cs part.rest) (sym c.in_ok-push_some.ensures) (more quotes text characters rest part c.loop-behind.invariant (search rules) (sym c.in-Some-part_at.ensures))
