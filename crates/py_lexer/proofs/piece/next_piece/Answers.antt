-- Each kind of piece is read as it stands.
use Rattle.std.proofs.Common.{rules}
use Rattle.py_lexer.specs.Reading.{line_end_step, joined_line_step}
use Rattle.py_lexer.specs.Views.{step_view}
use Rattle.py_lexer.proofs.Steps.{gives_step, right_indentation, right_blanks, right_comment, right_line_end, right_joined_line}
use Rattle.py_lexer.proofs.piece.next_piece.Goals as goal

pub returns-then-place : goal.returns-then-place
returns-then-place c = right_indentation c.args.place c.args.text.now (step_view c.indentation.result) (search rules) c.requires.some c.indentation.ensures

pub returns-in-Blank : goal.returns-in-Blank
returns-in-Blank c = right_blanks c.args.place c.args.text.now (step_view c.blanks.result) (search rules) (search rules) c.blanks.ensures

pub returns-in-Hash : goal.returns-in-Hash
returns-in-Hash c = right_comment c.args.place c.args.text.now (step_view c.comment.result) (search rules) (search rules) c.comment.ensures

pub returns-in-LineEnd : goal.returns-in-LineEnd
returns-in-LineEnd c = gives_step c.args.place c.args.text.now (line_end_step c.args.place c.args.text.now) c.line_end.result c.line_end.ensures (right_line_end c.args.place c.args.text.now (search rules) (search rules))

pub returns-in-Backslash : goal.returns-in-Backslash
returns-in-Backslash c = gives_step c.args.place c.args.text.now (joined_line_step c.args.place c.args.text.now) c.joined_line.result c.joined_line.ensures (right_joined_line c.args.place c.args.text.now (search rules) (search rules))
