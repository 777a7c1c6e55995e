use Rattle.std.proofs.Common.{take, filter}
use Rattle.py_tree.specs.Syntax.{Text}
use Rattle.symbols.specs.Faults.{is_named}
use Rattle.symbols.specs.Names.{found}
use Rattle.symbols.specs.Repeats.{IsRepeats}
use Rattle.symbols.proofs.repeats.repeats_in.Given as goal

abbrev pub invariant-loop-binding : goal.invariant-loop-binding
invariant-loop-binding l = (name : Text) → IsRepeats (filter (is_named name) (take l.binding-index l.bindings)) (found l.repeats name)
