use Rattle.std.proofs.Common.{◌≡◌, ◌++◌, drop}
use Rattle.compile_plain.specs.Definitions.{member_imports_code, member_imports_end}
use Rattle.compile_plain.specs.Scopes.{names_of}
use Rattle.compile_plain.proofs.imports.put_member_imports.Given as goal

abbrev pub invariant-loop-import : goal.invariant-loop-import
invariant-loop-import l =
    (l.block.cells ++ member_imports_code (names_of l.site.scope.now) l.site.targets.raised l.from (drop l.import-index l.imports) ≡ l.initial.block.cells ++ member_imports_code (names_of l.site.scope.now) l.site.targets.raised l.from l.imports)
    × (member_imports_end l.block.end l.from (drop l.import-index l.imports) ≡ member_imports_end l.initial.block.end l.from l.imports)
