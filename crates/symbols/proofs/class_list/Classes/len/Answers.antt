use Rattle.std.proofs.Common.{◌∙◌, List, ap, length, sym}
use Rattle.symbols.specs.declared.class.Class.{Class}
use Rattle.symbols.proofs.Reading.{count_is}
use Rattle.symbols.proofs.class_list.Classes.len.Goals as goal

pub returns : goal.returns
returns c = c.len.ensures ∙ (sym (count_is c.self.inside.found) ∙ ap (λ (cs : List Class). length cs) c.self.view_is)
