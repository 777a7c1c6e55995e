use Rattle.std.proofs.Common.{◌∙◌, ap}
use Rattle.symbols.specs.Classes.{base_or, kind_of_exception, object_or_bad}
use Rattle.symbols.proofs.bases.own_base.Goals as goal

pub returns-in-None : goal.returns-in-None
returns-in-None c = λ table. let b = c.object_or_bad.ensures table in record { is = b.is ∙ ap (λ o. base_or (kind_of_exception o) (object_or_bad c.args.name.now)) c.in-None.ensures; placed = b.placed }
