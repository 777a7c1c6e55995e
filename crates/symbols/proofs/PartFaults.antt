-- The faults of a module by its parts.
use Rattle.std.proofs.Common.{◌≡◌, List, ◌++◌, append_assoc, ◌∙◌}
use Rattle.std.specs.List.{flat_map}
use Rattle.py_tree.specs.Syntax.{Statements}
use Rattle.py_tree.specs.TopPart.{below_top_part}
use Rattle.py_tree.specs.declared.code.Code.TheVariants.{BadBase, MemberClash, BoundTwice, LateImport, SpecialName}
use Rattle.py_tree.specs.declared.fault.Fault.{Fault}
use Rattle.symbols.specs.declared.outer.Outer.{Outer}
use Rattle.symbols.specs.declared.parts.Parts.{Parts}
use Rattle.symbols.specs.Classes.{Found, found_classes}
use Rattle.symbols.specs.Faults.{bad_lines, bound_again, clash_lines, coded, faults, import_lines, imports_of, in_class, is_definition, repeated_params}
use Rattle.symbols.specs.ModuleKinds.{module_kind}
use Rattle.symbols.specs.Parts.{IsPartsOf, faults_of, twice_lines, late_lines, special_in}
use Rattle.symbols.specs.SpecialNames.{context_in, module_lines}

regroup : (a b c d e : List Fault) → (((a ++ b) ++ c) ++ d) ++ e ≡ a ++ (b ++ (c ++ (d ++ e)))
regroup a b c d e = simp append_assoc

pub faults_are : (o : Outer) (body : Statements) (p : Parts) (classes : List Found) → IsPartsOf body p → classes ≡ found_classes o body → faults_of p classes ≡ faults o body
faults_are o body p classes is found =
    regroup (coded BadBase (bad_lines classes)) (coded MemberClash (clash_lines classes)) (coded BoundTwice (twice_lines p)) (coded LateImport (late_lines p)) (coded SpecialName (special_in p))
    ∙ (λ i. coded BadBase (bad_lines (found i)) ++ (coded MemberClash (clash_lines (found i))
    ++ (coded BoundTwice (bound_again is_definition (is.bound i) ++ (flat_map in_class (is.inside i) ++ repeated_params (is.defined i)))
    ++ (coded LateImport (import_lines (below_top_part (is.statements i)) ++ imports_of (is.defined i))
    ++ coded SpecialName (flat_map (module_lines (context_in (module_kind (is.statements i)) (is.bound i))) (is.inside i))))))
