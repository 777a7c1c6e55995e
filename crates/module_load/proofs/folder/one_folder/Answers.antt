use Rattle.module_load.proofs.Folders as folders
use Rattle.module_load.proofs.folder.one_folder.Goals as goal

pub returns : goal.returns
returns c = folders.one_folder
