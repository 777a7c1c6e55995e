use Rattle.std.proofs.Common.{◌≡◌, drop}
use Rattle.symbols.specs.Names.{with_names}
use Rattle.symbols.proofs.class_reading.add_texts.Given as goal

abbrev pub invariant-loop-text : goal.invariant-loop-text
invariant-loop-text l = with_names l.names (drop l.text-index l.texts) ≡ with_names l.initial.names l.texts
