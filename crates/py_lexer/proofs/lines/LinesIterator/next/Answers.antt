-- What is left is the lines behind the first.
use Rattle.std.proofs.Common.{ℕ, ◌+◌, length, List, ◌∷◌, take, sym, ◌∙◌, ap, arith}
use Rattle.std.proofs.lemmas.List.{take_rest}
use Rattle.py_lexer.specs.Lines.{lines}
use Rattle.py_lexer.proofs.Cuts.{lines_cut, lines_uncut}
use Rattle.py_lexer.proofs.lines.LinesIterator.next.Goals as goal

pub returns-in_default-clause-steps : goal.returns-in_default-clause-steps
returns-in_default-clause-steps c = lines_uncut _ c.in_default.ensures c.if-is_empty.ensures

pub returns-in_default-clause-goes : goal.returns-in_default-clause-goes
returns-in_default-clause-goes c =
    let fewer = ap length (lines_uncut c.args.self.now.text.now c.in_default.ensures c.if-is_empty.ensures) in
    record { on = λ _. (tt, tt, omega (arith, fewer)); keeps = tt; rests = λ _. tt }

pub returns-clause-steps : goal.returns-clause-steps
returns-clause-steps c =
    let text = c.args.self.now.text.now in
    lines_cut text c.in-Some.end c.in-Some.ensures ∙ ap (λ (rest : List ℕ). take c.in-Some.end text ∷ lines rest) (sym (take_rest text (c.in-Some.end + 1)))

pub returns-clause-goes : goal.returns-clause-goes
returns-clause-goes c =
    let text = c.args.self.now.text.now in
    let fewer = ap length (lines_cut text c.in-Some.end c.in-Some.ensures) in
    record { on = λ _. (tt, tt, omega (arith, fewer, ap (λ (rest : List ℕ). length (lines rest)) (take_rest text (c.in-Some.end + 1)))); keeps = tt; rests = λ _. tt }
