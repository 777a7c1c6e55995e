use Rattle.std.proofs.Common.{◌≡◌, ◌++◌, drop}
use Rattle.compile_plain.specs.Definitions.{imports_code, imports_end}
use Rattle.compile_plain.specs.Scopes.{names_of}
use Rattle.compile_plain.proofs.imports.put_imports.Given as goal

abbrev pub invariant-loop-import : goal.invariant-loop-import
invariant-loop-import l =
    (l.block.cells ++ imports_code (names_of l.site.scope.now) l.site.targets.raised (drop l.import-index l.imports) ≡ l.initial.block.cells ++ imports_code (names_of l.site.scope.now) l.site.targets.raised l.imports)
    × (imports_end l.block.end (drop l.import-index l.imports) ≡ imports_end l.initial.block.end l.imports)
