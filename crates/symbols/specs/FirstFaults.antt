-- No definition of the language: the first fault of a list, if it has one, and the test by which it is found.
use Rattle.std.specs.Prelude.{◌≡◌, Bool, ◌&&◌, ◌||◌, ◌==◌, nat_lt, nat_le, List, [], Option, Some, None}
use Rattle.py_tree.specs.Codes.{number_of}
use Rattle.py_tree.specs.declared.fault.Fault.{Fault}
use Rattle.symbols.specs.Faults.{IsFirst}

abbrev pub IsFirstOf : List Fault → Option Fault → Type 0
IsFirstOf faults None = faults ≡ []
IsFirstOf faults (Some f) = IsFirst faults f

abbrev pub no_later : Fault → Fault → Bool
no_later f g = nat_lt f.line g.line || ((f.line == g.line) && nat_le (number_of f.code) (number_of g.code))
