-- Why a call that reads a module has no value.
use Rattle.py_tree.specs.declared.fault.Stop.{Stop}
use Rattle.py_tree.specs.declared.fault.Stop.TheVariants as stop

-- no memory was found
abbrev pub IsMemory : Stop → Type 0
IsMemory (stop.Memory error) = Unit {0}
IsMemory (stop.Fault fault) = ⊥
