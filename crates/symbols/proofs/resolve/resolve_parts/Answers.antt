-- What is answered is by the first fault of the parts, which is that of the module.
use Rattle.std.proofs.Common.{◌≡◌, List, [], subst}
use Rattle.py_tree.specs.Joined.{module_of}
use Rattle.py_tree.specs.declared.fault.Fault.{Fault}
use Rattle.symbols.specs.Faults.{IsFirst, faults}
use Rattle.symbols.specs.FirstFaults.{IsFirstOf}
use Rattle.symbols.proofs.FirstOnes.{first_same, first_of_none}
use Rattle.symbols.proofs.PartFaults.{faults_are}
use Rattle.symbols.proofs.resolve.resolve_parts.Goals as goal

pub returns-in-Some-clause-right : goal.returns-in-Some-clause-right
returns-in-Some-clause-right c =
    let all : List Fault = faults c.args.outer.now (module_of c.args.tree.now) in
    subst (IsFirstOf all) c.in-Some.is (subst (λ (fs : List Fault). IsFirstOf fs c.in_ok-fault.field-0) (faults_are c.args.outer.now (module_of c.args.tree.now) c.args.parts.now _ c.requires.parts c.requires.found) c.in_ok-fault.ensures)

pub returns-in-Some-clause-exact : goal.returns-in-Some-clause-exact
returns-in-Some-clause-exact c =
    let all : List Fault = faults c.args.outer.now (module_of c.args.tree.now) in
    let first : IsFirst all c.in-Some.fault = subst (IsFirstOf all) c.in-Some.is (subst (λ (fs : List Fault). IsFirstOf fs c.in_ok-fault.field-0) (faults_are c.args.outer.now (module_of c.args.tree.now) c.args.parts.now _ c.requires.parts c.requires.found) c.in_ok-fault.ensures) in
    record { none = λ e. first_of_none c.in-Some.fault all e first; first = λ f h. first_same all f c.in-Some.fault h first }

pub returns-clause-right : goal.returns-clause-right
returns-clause-right c =
    let all : List Fault = faults c.args.outer.now (module_of c.args.tree.now) in
    let none : all ≡ [] = subst (IsFirstOf all) c.in_default.is (subst (λ (fs : List Fault). IsFirstOf fs c.in_ok-fault.field-0) (faults_are c.args.outer.now (module_of c.args.tree.now) c.args.parts.now _ c.requires.parts c.requires.found) c.in_ok-fault.ensures) in
    (none, c.in_ok-listed.ensures)

pub returns-clause-exact : goal.returns-clause-exact
returns-clause-exact c =
    let all : List Fault = faults c.args.outer.now (module_of c.args.tree.now) in
    let none : all ≡ [] = subst (IsFirstOf all) c.in_default.is (subst (λ (fs : List Fault). IsFirstOf fs c.in_ok-fault.field-0) (faults_are c.args.outer.now (module_of c.args.tree.now) c.args.parts.now _ c.requires.parts c.requires.found) c.in_ok-fault.ensures) in
    record { none = λ e. tt; first = λ f h. first_of_none f all none h }
