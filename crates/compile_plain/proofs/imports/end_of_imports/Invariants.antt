use Rattle.std.proofs.Common.{◌≡◌, drop}
use Rattle.compile_plain.specs.Definitions.{imports_end}
use Rattle.compile_plain.proofs.imports.end_of_imports.Given as goal

abbrev pub invariant-loop-import : goal.invariant-loop-import
invariant-loop-import l = imports_end l.end (drop l.import-index l.imports) ≡ imports_end l.place l.imports
