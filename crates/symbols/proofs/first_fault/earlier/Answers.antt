-- With one fault more.
use Rattle.std.proofs.Common.{subst}
use Rattle.symbols.specs.FirstFaults.{IsFirstOf}
use Rattle.symbols.proofs.FirstOnes.{first_alone}
use Rattle.symbols.proofs.first_fault.earlier.Goals as goal

pub returns-in-Some : goal.returns-in-Some
returns-in-Some c before h = c.earlier_of.ensures before (subst (IsFirstOf before) c.in-Some.is h)

pub returns-in-None : goal.returns-in-None
returns-in-None c before h = first_alone before c.args.fault (subst (IsFirstOf before) c.in-None.is h)
