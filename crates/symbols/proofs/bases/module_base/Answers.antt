use Rattle.std.proofs.Common.{subst, Some}
use Rattle.symbols.specs.BaseKinds as base
use Rattle.symbols.specs.Classes.{class_of_module, module_classes, outer_kind}
use Rattle.symbols.specs.ClassViews.{StandsAt, kinds_of}
use Rattle.symbols.proofs.ClassLists.{is_imported}
use Rattle.symbols.proofs.bases.module_base.Goals as goal

pub returns-in-Some : goal.returns-in-Some
returns-in-Some c =
    is_imported c.args.earlier.now _ base.Bad c.in-Some.number
    (subst (λ o. StandsAt (kinds_of o.bindings) (class_of_module (module_classes (outer_kind o c.args.from.now)) c.args.name.now) (Some c.in-Some.number)) c.imported.ensures c.in-Some.ensures) (λ i. class_of_module (module_classes (outer_kind c.args.earlier.now.outer c.args.from.now)) c.args.name.now)
