use Rattle.strict_top.proofs.FolderModules.{modules_lie_in, modules_rise}
use Rattle.strict_top.proofs.modules.modules_of_a_directory.Goals as goal

pub returns-clause-members : goal.returns-clause-members
returns-clause-members c = modules_lie_in

pub returns-clause-ordered : goal.returns-clause-ordered
returns-clause-ordered c = modules_rise
