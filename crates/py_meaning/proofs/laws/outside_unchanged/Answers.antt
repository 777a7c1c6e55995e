use Rattle.py_meaning.proofs.RunLaws.{others_unchanged, output_unchanged, imports_keep_in, entries_keep_in}
use Rattle.py_meaning.proofs.laws.outside_unchanged.Goals as goal

pub returns-clause-objects : goal.returns-clause-objects
returns-clause-objects c = others_unchanged

pub returns-clause-output : goal.returns-clause-output
returns-clause-output c = output_unchanged

pub returns-clause-imports : goal.returns-clause-imports
returns-clause-imports c = imports_keep_in

pub returns-clause-entries : goal.returns-clause-entries
returns-clause-entries c = entries_keep_in
