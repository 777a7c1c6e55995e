-- No definition of the language: what the program's forms of calls stand for.
use Rattle.py_meaning.specs.Expressions as form
use Rattle.py_meaning.specs.Expressions.{Form}
use Rattle.compile_plain.specs.declared.scope.CallForm.{CallForm}
use Rattle.compile_plain.specs.declared.scope.CallForm.TheVariants as call

abbrev pub form_is : CallForm → Form
form_is call.Plain = form.Plain
form_is (call.Super name) = form.Super name.now
form_is (call.Static name) = form.Static name
