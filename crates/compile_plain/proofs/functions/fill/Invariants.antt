use Rattle.std.proofs.Common.{◌≡◌, ◌-◌, ℕ, suc, length}
use Rattle.std.specs.Prelude.{slice_get}
use Rattle.py_tree.specs.Syntax.{Text}
use Rattle.compile_plain.specs.Tables.{found_at}
use Rattle.compile_plain.proofs.functions.fill.Given as goal

abbrev pub invariant-loop-alloc : goal.invariant-loop-alloc
invariant-loop-alloc l = (n : ℕ) (name : Text) → found_at (slice_get l.tables.items n) name ≡ found_at (slice_get l.initial.tables.items n) name

abbrev pub decreases-loop-alloc : goal.decreases-loop-alloc
decreases-loop-alloc l = suc l.place - length l.tables.items
