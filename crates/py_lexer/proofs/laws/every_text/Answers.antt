use Rattle.py_lexer.proofs.SomeReading.{some_answer, some_reading}
use Rattle.py_lexer.proofs.laws.every_text.Goals as goal

pub returns : goal.returns
returns c = record { places = some_reading; answers = some_answer }
