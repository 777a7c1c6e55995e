use Rattle.std.proofs.Common.{◌≡◌, ◌++◌, drop, map}
use Rattle.symbols.proofs.imported.put_classes.Given as goal

abbrev pub invariant-loop-class : goal.invariant-loop-class
invariant-loop-class l = l.kinds ++ map (λ c. c.class) (drop l.class-index l.classes) ≡ l.initial.kinds ++ map (λ c. c.class) l.classes
