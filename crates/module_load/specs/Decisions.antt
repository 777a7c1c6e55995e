-- What is known of the modules that a module imports.
use Rattle.std.specs.Prelude.{List, Option}
use Rattle.std.specs.List.{find}
use Rattle.std.specs.Str.{bytes_eq}
use Rattle.py_tree.specs.Syntax.{Text}
use Rattle.module_load.specs.declared.globals.ModuleGlobal.{ModuleGlobal}
use Rattle.module_load.specs.declared.verdict.Verdict.{Verdict}

-- what is decided of the modules of a folder, by their names: none where the folder has no such module
abbrev pub Decisions : Type 0
Decisions = Text → Option Verdict

-- the global of that name
abbrev pub global_named : Text → List ModuleGlobal → Option ModuleGlobal
global_named name globals = find (λ g. bytes_eq name g.name) globals
