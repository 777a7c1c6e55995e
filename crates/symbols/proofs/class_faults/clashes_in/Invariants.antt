use Rattle.std.proofs.Common.{◌≡◌, ℕ, Some, length, take}
use Rattle.std.specs.Prelude.{slice_get}
use Rattle.std.specs.List.{Contains}
use Rattle.symbols.specs.declared.class.BasePlace.TheVariants.{Earlier}
use Rattle.symbols.specs.Lineages.{IsLineage, clash_at}
use Rattle.symbols.proofs.class_faults.clashes_in.Given as goal

abbrev pub invariant-loop-number : goal.invariant-loop-number
invariant-loop-number l = record {
  count : length l.flags.items ≡ length l.classes.own;
  classes : l.lineage.classes.now ≡ l.classes;
  args : l.lineage.args.now ≡ l.args;
  lineage : IsLineage l.lineage;
  each : (number : ℕ) → Contains (take l.number-index l.order) number → slice_get l.flags.items number ≡ Some (clash_at l.classes (Earlier number));
}
