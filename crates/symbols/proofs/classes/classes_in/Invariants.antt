use Rattle.std.proofs.Common.{◌≡◌, ◌++◌, [], drop}
use Rattle.symbols.specs.Classes.{classes_behind}
use Rattle.symbols.specs.ClassViews.{found_at}
use Rattle.symbols.specs.Views.{seen}
use Rattle.symbols.proofs.classes.classes_in.Given as goal

abbrev pub invariant-loop-statement : goal.invariant-loop-statement
invariant-loop-statement l = record {
  outer : l.all.outer ≡ l.initial.all.outer;
  behind : found_at l.all ++ classes_behind l.initial.all.outer (found_at l.all) (seen (drop l.statement-index l.scope)) ≡ classes_behind l.initial.all.outer [] (seen l.scope);
}
