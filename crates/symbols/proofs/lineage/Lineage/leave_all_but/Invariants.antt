use Rattle.std.proofs.Common.{◌≡◌, length}
use Rattle.symbols.specs.Lineages.{IsLineage}
use Rattle.symbols.proofs.lineage.Lineage.leave_all_but.Given as goal

abbrev pub invariant-loop-last : goal.invariant-loop-last
invariant-loop-last l = record {
  classes : l.self.classes ≡ l.initial.self.classes;
  args : l.self.args ≡ l.initial.self.args;
  lineage : IsLineage l.self;
}

abbrev pub decreases-loop-last : goal.decreases-loop-last
decreases-loop-last l = length l.self.steps.items
