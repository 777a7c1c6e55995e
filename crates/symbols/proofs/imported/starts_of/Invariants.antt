use Rattle.std.proofs.Common.{◌≡◌, ◌<◌, ℕ, Some, length, take}
use Rattle.std.specs.Prelude.{slice_get}
use Rattle.symbols.specs.ClassViews.{kinds_of}
use Rattle.symbols.proofs.imported.starts_of.Given as goal

abbrev pub invariant-loop-binding : goal.invariant-loop-binding
invariant-loop-binding l = record {
  start : l.start ≡ length (kinds_of (take l.binding-index l.bindings));
  count : length l.starts.items ≡ l.binding-index;
  begins : (place : ℕ) → place < l.binding-index → slice_get l.starts.items place ≡ Some (length (kinds_of (take place l.bindings)));
}
