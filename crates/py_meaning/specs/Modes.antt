-- The three modes, as the three answers of the rules of a run.
use Rattle.std.specs.Prelude.{if◌then◌else◌}
use Rattle.py_tree.specs.declared.code.Code.TheVariants.{Effect, ForeignWrite, UnknownValue}
use Rattle.py_values.specs.declared.exception.ExcKind.TheVariants.{FrozenError}
use Rattle.py_values.specs.declared.value.Home.{Home}
use Rattle.py_values.specs.declared.value.Home.TheVariants as home
use Rattle.heap_seg.specs.Modes.{Mode}
use Rattle.heap_seg.specs.declared.rules.Answer.TheVariants.{Go, Raise, Refuse}
use Rattle.py_meaning.specs.Looks.{same_home}

-- while the body of a module of that home is run: no effect is let through, and nothing that isn't known yet is seen
abbrev pub import_mode : Home → Mode
import_mode own = record {
  on_write = λ h. if same_home h own then Go else Refuse ForeignWrite;
  on_print = Refuse Effect;
  on_look = Refuse UnknownValue;
}

-- while an entry is run: what modules made is frozen
abbrev pub entry_mode : Mode
entry_mode = record { on_write = λ h. if same_home h home.Run then Go else Raise FrozenError; on_print = Go; on_look = Go }

abbrev pub free_mode : Mode
free_mode = record { on_write = λ h. Go; on_print = Go; on_look = Go }
