-- No definition of the language: the faults of a module by what is known of its names.
use Rattle.std.specs.Prelude.{◌≡◌, ℕ, List, ◌++◌}
use Rattle.std.specs.List.{flat_map}
use Rattle.py_tree.specs.Syntax.{Statement, Statements}
use Rattle.py_tree.specs.Joined.{statements_of}
use Rattle.py_tree.specs.Order.{of_scope}
use Rattle.py_tree.specs.TopPart.{below_top_part}
use Rattle.py_tree.specs.declared.code.Code.TheVariants.{BadBase, MemberClash, BoundTwice, LateImport, SpecialName}
use Rattle.py_tree.specs.declared.fault.Fault.{Fault}
use Rattle.symbols.specs.declared.binding.Binding.{Binding}
use Rattle.symbols.specs.declared.parts.Parts.{Parts}
use Rattle.symbols.specs.declared.resolved.ModuleKind.{ModuleKind}
use Rattle.symbols.specs.Bindings.{bindings}
use Rattle.symbols.specs.Classes.{Found}
use Rattle.symbols.specs.Faults.{bad_lines, bound_again, clash_lines, coded, import_lines, imports_of, in_class, is_definition, repeated_params}
use Rattle.symbols.specs.Functions.{functions}
use Rattle.symbols.specs.Located.{located}
use Rattle.symbols.specs.ModuleKinds.{module_kind}
use Rattle.symbols.specs.SpecialNames.{context_in, module_lines}
use Rattle.symbols.specs.Views.{seen}

abbrev pub class_faults : List Found → List Fault
class_faults classes = coded BadBase (bad_lines classes) ++ coded MemberClash (clash_lines classes)

abbrev pub twice_lines : Parts → List ℕ
twice_lines p = bound_again is_definition p.bindings.now ++ (flat_map in_class (seen p.scope.now) ++ repeated_params (located p.functions.now))

abbrev pub late_lines : Parts → List ℕ
late_lines p = import_lines (below_top_part (statements_of p.body.now)) ++ imports_of (located p.functions.now)

abbrev pub special_with : ModuleKind → List Binding → List Statement → List ℕ
special_with kind bs scope = flat_map (module_lines (context_in kind bs)) scope

abbrev pub special_in : Parts → List ℕ
special_in p = special_with (module_kind (statements_of p.body.now)) p.bindings.now (seen p.scope.now)

abbrev pub faults_of : Parts → List Found → List Fault
faults_of p classes = ((class_faults classes ++ coded BoundTwice (twice_lines p)) ++ coded LateImport (late_lines p)) ++ coded SpecialName (special_in p)

-- the parts are those of this module
pub record IsPartsOf (ss : Statements) (p : Parts) : Type 0 where
  pub statements : statements_of p.body.now ≡ ss
  pub bound : p.bindings.now ≡ bindings ss
  pub inside : seen p.scope.now ≡ of_scope ss
  pub defined : located p.functions.now ≡ functions ss
