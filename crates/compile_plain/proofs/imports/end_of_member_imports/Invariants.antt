use Rattle.std.proofs.Common.{◌≡◌, drop}
use Rattle.compile_plain.specs.Definitions.{member_imports_end}
use Rattle.compile_plain.proofs.imports.end_of_member_imports.Given as goal

abbrev pub invariant-loop : goal.invariant-loop
invariant-loop l = member_imports_end l.end l.from (drop l.index l.imports) ≡ member_imports_end l.place l.from l.imports
