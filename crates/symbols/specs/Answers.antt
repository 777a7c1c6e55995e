-- What is answered of a module's names.
use Rattle.std.specs.Prelude.{◌≡◌, [], Result, Ok, Err}
use Rattle.py_tree.specs.Joined.{module_of}
use Rattle.py_tree.specs.Codes.{number_of}
use Rattle.py_tree.specs.declared.fault.Fault.{Fault}
use Rattle.py_tree.specs.declared.fault.Stop.{Stop}
use Rattle.py_tree.specs.declared.fault.Stop.TheVariants as stop
use Rattle.py_tree.specs.declared.statement.Module.{Module}
use Rattle.symbols.specs.declared.outer.Outer.{Outer}
use Rattle.symbols.specs.declared.resolved.Resolved.{Resolved}
use Rattle.symbols.specs.Bindings.{globals}
use Rattle.symbols.specs.Classes.{classes}
use Rattle.symbols.specs.Faults.{IsFirst, faults}
use Rattle.symbols.specs.Functions.{function_locals}
use Rattle.symbols.specs.StaticUses.{static_uses}
use Rattle.symbols.specs.ModuleKinds.{module_kind}

-- each list is the definition's
pub record IsResolved (o : Outer) (m : Module) (r : Resolved) : Type 0 where
  pub tree : r.tree ≡ m
  pub name : r.name ≡ o.name
  pub number : r.number ≡ o.number
  pub kind : r.kind ≡ module_kind (module_of m)
  pub globals : r.globals ≡ globals (module_of m)
  pub classes : r.classes ≡ classes o (module_of m)
  pub functions : r.functions ≡ function_locals (module_of m)
  pub statics : r.statics ≡ static_uses (module_of m)

-- names come where there is no fault, and a fault is the first
abbrev pub Right : Outer → Module → Result Resolved Stop → Type 0
Right o m (Ok r) = (faults o (module_of m) ≡ []) × IsResolved o m r
Right o m (Err (stop.Fault f)) = IsFirst (faults o (module_of m)) f
Right o m (Err (stop.Memory error)) = Unit {0}

abbrev pub IsNoFault : Result Resolved Stop → Type 0
IsNoFault (Err (stop.Fault f)) = ⊥
IsNoFault answer = Unit {0}

-- at that line, with that code, unless memory is wanting
abbrev pub IsFaultAt : Fault → Result Resolved Stop → Type 0
IsFaultAt f (Ok r) = ⊥
IsFaultAt f (Err (stop.Fault g)) = (g.line ≡ f.line) × (number_of g.code ≡ number_of f.code)
IsFaultAt f (Err (stop.Memory error)) = Unit {0}

-- where there is no fault none is answered, and where there is one the first is
pub record Exact (o : Outer) (m : Module) (answer : Result Resolved Stop) : Type 0 where
  pub none : faults o (module_of m) ≡ [] → IsNoFault answer
  pub first : (f : Fault) → IsFirst (faults o (module_of m)) f → IsFaultAt f answer
