-- One statement on, and behind the last.
use Rattle.std.proofs.Common.{subst, sym, ◌∙◌, ap}
use Rattle.std.specs.List.{flat_map}
use Rattle.std.proofs.lemmas.List.{take_all}
use Rattle.std.proofs.lemmas.List.Folds.{flat_map-map}
use Rattle.py_tree.specs.Joined.{statement_of}
use Rattle.py_tree.specs.declared.statement.Stmt.{Stmt}
use Rattle.symbols.specs.FirstFaults.{IsFirstOf}
use Rattle.module_load.specs.Imports as rule
use Rattle.module_load.proofs.FirstOnes.{first_with}
use Rattle.module_load.proofs.Statements.{statement_is}
use Rattle.module_load.proofs.import_faults.first_statement_fault.Goals as goal

pub loop-statement-preserved : goal.loop-statement-preserved
loop-statement-preserved g c =
    let faults_at = rule.statement_faults (g.K.Known.decisions c.args.known.now) c.args.importing in
    let here = subst (λ s. IsFirstOf (faults_at s) c.kind_fault-fault.result) (sym (statement_is c.statement-item.result)) c.kind_fault-fault.ensures in
    rw c.earlier-first.ensures (first_with (λ (s : Stmt). faults_at (statement_of s)) c.args.imports.now c.loop-statement.statement-index c.statement-item.result c.loop-statement.first c.kind_fault-fault.result c.loop-statement-test.true c.statement-item.is c.loop-statement.invariant here)

pub returns : goal.returns
returns g c =
    let imports = c.args.imports.now in
    let faults_at = rule.statement_faults (g.K.Known.decisions c.args.known.now) c.args.importing in
    let whole = ap (flat_map (λ (s : Stmt). faults_at (statement_of s))) (take_all c.loop-statement.statement-index imports c.loop-statement-test.false) in
    subst (λ faults. IsFirstOf faults c.loop-statement.first) (whole ∙ sym (flat_map-map faults_at statement_of imports)) c.loop-statement.invariant
