use Rattle.std.proofs.Common.{◌≡◌, ◌||◌, drop}
use Rattle.py_tree.specs.Syntax.{Text}
use Rattle.symbols.specs.Words.{among}
use Rattle.module_load.specs.RightDecisions as rule
use Rattle.module_load.proofs.deciding.module_names.Given as goal

abbrev pub invariant-loop-binding : goal.invariant-loop-binding
invariant-loop-binding l = (name : Text) → (among name l.names || among name (rule.module_names (drop l.binding-index l.bindings))) ≡ among name (rule.module_names l.bindings)
