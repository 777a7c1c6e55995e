use Rattle.std.proofs.Common.{refl}
use Rattle.std.proofs.lemmas.Result.{err_from_is_err_and}
use Rattle.module_load.proofs.Decided.{body_passes, import_found, imports_pass, names_pass, outer_is, publish, spent_found, unbuilt_found, unnamed}
use Rattle.module_load.proofs.deciding.published.Goals as goal

pub returns-in-Some : goal.returns-in-Some
returns-in-Some g c = import_found (g.K.Known.decisions c.args.known.now) c.args.name.now c.args.number c.as_slice-body.result.now c.args.tree.now c.first_import_fault.result c.in-Some.fault c.as_slice-body.ensures c.first_import_fault.ensures c.in-Some.is

pub returns-in_err-resolved : goal.returns-in_err-resolved
returns-in_err-resolved g c =
    let known = g.K.Known.decisions c.args.known.now in
    let name = c.args.name.now in
    let m = c.args.tree.now in
    let body = c.as_slice-body.result.now in
    let imports = imports_pass known body m c.first_import_fault.result c.as_slice-body.ensures c.first_import_fault.ensures c.in_default.is in
    let o = outer_is known name c.args.number body m c.in_ok-outer.outer c.as_slice-body.ensures c.in_ok-outer.ensures in
    let p = err_from_is_err_and c.from_residual-in_err-resolved.result c.from_residual-in_err-resolved.ensures.1 in
    rw (p.1, p.2) (unnamed known name c.args.number m c.in_ok-outer.outer c.in_err-resolved.field-0.0 imports o c.in_err-resolved.ensures.right)

pub returns-in-Some-unbuilt : goal.returns-in-Some-unbuilt
returns-in-Some-unbuilt g c =
    let known = g.K.Known.decisions c.args.known.now in
    let name = c.args.name.now in
    let m = c.args.tree.now in
    let body = c.as_slice-body.result.now in
    let imports = imports_pass known body m c.first_import_fault.result c.as_slice-body.ensures c.first_import_fault.ensures c.in_default.is in
    let o = outer_is known name c.args.number body m c.in_ok-outer.outer c.as_slice-body.ensures c.in_ok-outer.ensures in
    let named = names_pass known name c.args.number m c.in_ok-outer.outer c.in_ok-resolved.resolved imports o c.in_ok-resolved.ensures.right in
    unbuilt_found known name c.args.number m c.in_ok-resolved.resolved body c.unbuilt.result c.in-Some-unbuilt.fault named c.as_slice-body.ensures c.unbuilt.ensures c.in-Some-unbuilt.is

pub returns-in-Some-spent : goal.returns-in-Some-spent
returns-in-Some-spent g c =
    let known = g.K.Known.decisions c.args.known.now in
    let name = c.args.name.now in
    let m = c.args.tree.now in
    let body = c.as_slice-body.result.now in
    let imports = imports_pass known body m c.first_import_fault.result c.as_slice-body.ensures c.first_import_fault.ensures c.in_default.is in
    let o = outer_is known name c.args.number body m c.in_ok-outer.outer c.as_slice-body.ensures c.in_ok-outer.ensures in
    let named = names_pass known name c.args.number m c.in_ok-outer.outer c.in_ok-resolved.resolved imports o c.in_ok-resolved.ensures.right in
    let built = body_passes m body c.unbuilt.result c.as_slice-body.ensures c.unbuilt.ensures c.in_default-unbuilt.is in
    spent_found known name c.args.number m c.in_ok-resolved.resolved body c.spent.result c.in-Some-spent.fault named c.as_slice-body.ensures built c.spent.ensures c.in-Some-spent.is

pub returns : goal.returns
returns g c =
    let known = g.K.Known.decisions c.args.known.now in
    let name = c.args.name.now in
    let m = c.args.tree.now in
    let body = c.as_slice-body.result.now in
    let imports = imports_pass known body m c.first_import_fault.result c.as_slice-body.ensures c.first_import_fault.ensures c.in_default.is in
    let o = outer_is known name c.args.number body m c.in_ok-outer.outer c.as_slice-body.ensures c.in_ok-outer.ensures in
    let named = names_pass known name c.args.number m c.in_ok-outer.outer c.in_ok-resolved.resolved imports o c.in_ok-resolved.ensures.right in
    let built = body_passes m body c.unbuilt.result c.as_slice-body.ensures c.unbuilt.ensures c.in_default-unbuilt.is in
    publish known name c.args.number m c.in_ok-outer.outer c.in_ok-resolved.resolved body c.as_slice.result.now c.in_ok-modules.modules c.in_ok-resolved.resolved.globals c.spent.result c.in_ok-held.field-0 named o c.as_slice-body.ensures built c.spent.ensures c.in_default-spent.is c.as_slice.ensures refl c.in_ok-modules.ensures c.in_ok-held.ensures
