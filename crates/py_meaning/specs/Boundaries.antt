-- What is done with a value that comes to a place with a type.
use Rattle.py_tree.specs.Syntax.{Text, Expression}
use Rattle.gradual_types.specs.declared.py_type.PyType.{PyType}
use Rattle.gradual_types.specs.declared.py_type.PyType.TheVariants.{Dynamic}
use Rattle.gradual_types.specs.Values.{Value}
use Rattle.py_meaning.specs.Acts.{Act, give}
use Rattle.py_meaning.specs.Modules.{Setting}

-- from where a value comes
pub data Origin : Type 0 where
  Literal : Origin  -- from a literal, which is a primitive where one is wanted
  From : PyType → Origin  -- from an expression of that type
  Receiver : Origin  -- it is the receiver of a bound method

-- No place is typed yet: every value passes.
abbrev pub pass : Setting → Origin → PyType → Value → Act Value
pass c origin type value = give value

abbrev pub origin_of : Setting → Expression → Origin
origin_of c e = From Dynamic

-- the type of a name of the scope
abbrev pub type_of_name : Setting → Text → PyType
type_of_name c name = Dynamic
