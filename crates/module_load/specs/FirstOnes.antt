-- No definition of the language: of two faults, where there are any, the one that is reported.
use Rattle.std.specs.Prelude.{if◌then◌else◌, Option, Some, None}
use Rattle.py_tree.specs.declared.fault.Fault.{Fault}
use Rattle.symbols.specs.FirstFaults.{no_later}

abbrev pub earlier : Option Fault → Option Fault → Option Fault
earlier None b = b
earlier (Some f) None = Some f
earlier (Some f) (Some g) = if no_later f g then Some f else Some g
