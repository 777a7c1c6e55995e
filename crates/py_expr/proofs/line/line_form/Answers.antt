use Rattle.py_expr.specs.Depth.{form_nesting}
use Rattle.py_expr.specs.Forms.{form_of}
use Rattle.py_expr.specs.Lines.{Line}
use Rattle.py_expr.proofs.Wholes.{some_whole, none_whole}
use Rattle.py_expr.proofs.LineAnswering.{shallow_whole, deep_whole, shallow_so, shallow_answered, deep_so, deep_answered, none_so, none_answered}
use Rattle.py_expr.proofs.line.line_form.Goals as goal

pub returns-in_default-clause-so : goal.returns-in_default-clause-so
returns-in_default-clause-so c =
    none_so c.args.line.now.tokens c.args.line.now.line c.refused.result c.refused.ensures (none_whole Line form_of form_nesting c.args.line.now.tokens c.in_default.is c.in_ok-built.ensures)

pub returns-in_default-clause-answered : goal.returns-in_default-clause-answered
returns-in_default-clause-answered c =
    none_answered c.args.line.now.tokens c.args.line.now.line c.refused.result c.refused.ensures (none_whole Line form_of form_nesting c.args.line.now.tokens c.in_default.is c.in_ok-built.ensures)

pub returns-in-Shallow-clause-so : goal.returns-in-Shallow-clause-so
returns-in-Shallow-clause-so c = shallow_so c.args.line.now.tokens c.args.line.now.line c.in-Shallow.form (shallow_whole c.args.line.now.tokens c.in-Some.built c.in-Shallow.form c.in-Shallow.is (some_whole c.in-Some.is c.in_ok-built.ensures))

pub returns-in-Shallow-clause-answered : goal.returns-in-Shallow-clause-answered
returns-in-Shallow-clause-answered c =
    shallow_answered c.args.line.now.tokens c.args.line.now.line c.in-Shallow.form (shallow_whole c.args.line.now.tokens c.in-Some.built c.in-Shallow.form c.in-Shallow.is (some_whole c.in-Some.is c.in_ok-built.ensures))

pub returns-in-TooDeep-clause-so : goal.returns-in-TooDeep-clause-so
returns-in-TooDeep-clause-so c =
    deep_so c.args.line.now.tokens c.args.line.now.line c.refused-in-TooDeep.result c.refused-in-TooDeep.ensures (deep_whole c.args.line.now.tokens c.in-Some.built c.in-TooDeep.is (some_whole c.in-Some.is c.in_ok-built.ensures))

pub returns-in-TooDeep-clause-answered : goal.returns-in-TooDeep-clause-answered
returns-in-TooDeep-clause-answered c =
    deep_answered c.args.line.now.tokens c.args.line.now.line c.refused-in-TooDeep.result c.refused-in-TooDeep.ensures (deep_whole c.args.line.now.tokens c.in-Some.built c.in-TooDeep.is (some_whole c.in-Some.is c.in_ok-built.ensures))
