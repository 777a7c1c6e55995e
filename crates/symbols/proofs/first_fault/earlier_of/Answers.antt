-- With one fault more.
use Rattle.std.proofs.Common.{sym, ◌∙◌}
use Rattle.symbols.proofs.FirstOnes.{first_kept, first_new}
use Rattle.symbols.proofs.first_fault.earlier_of.Goals as goal

pub returns-then-is_no_later : goal.returns-then-is_no_later
returns-then-is_no_later c before h = first_kept before c.args.first c.args.fault (sym c.is_no_later.ensures ∙ c.if-is_no_later.true) h

pub returns : goal.returns
returns c before h = first_new before c.args.first c.args.fault (sym c.is_no_later.ensures ∙ c.if-is_no_later.false) h
