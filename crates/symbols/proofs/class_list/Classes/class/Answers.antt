use Rattle.std.proofs.Common.{List, ◌<◌, length, subst, sym, ◌∙◌, ap, ℕ}
use Rattle.symbols.specs.declared.class.Class.{Class}
use Rattle.symbols.proofs.Reading.{count_is}
use Rattle.symbols.proofs.class_list.Classes.class.Goals as goal

pub class-requires : goal.class-requires
class-requires c = subst (λ (n : ℕ). c.args.number < n) (ap (λ (cs : List Class). length cs) (sym c.self.view_is) ∙ count_is c.self.inside.found) c.requires
