use Rattle.py_tree.specs.Joined.{class_of}
use Rattle.symbols.specs.ClassViews.{found_at, joined_last}
use Rattle.symbols.proofs.ClassLists.{behind_step}
use Rattle.symbols.proofs.classes.with_class.Goals as goal

pub returns-clause-behind : goal.returns-clause-behind
returns-clause-behind c = behind_step c.args.all.outer (found_at c.args.all) (found_at c.in_ok-all.all) (joined_last c.args.all c.in_ok-own.own) c.args.line (class_of c.args.class.now) c.in_ok-all.ensures.found c.in_ok-own.ensures.joined
