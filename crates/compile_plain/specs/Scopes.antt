-- No definition of the language: the names that the compiler's scopes stand for.
use Rattle.py_tree.specs.Syntax.{Statements}
use Rattle.py_tree.specs.Joined.{module_of}
use Rattle.compile_plain.specs.Names.{Names}
use Rattle.compile_plain.specs.Tables.{class_names}
use Rattle.compile_plain.specs.declared.module_names.ModuleNames.{ModuleNames}
use Rattle.compile_plain.specs.declared.scope.Scope.{Scope}

abbrev pub tree_of : ModuleNames → Statements
tree_of names = module_of names.tree.now

abbrev pub names_of : Scope → Names
names_of s = record { tree = tree_of s.«module».now; classes = class_names (tree_of s.«module».now); class = s.class; locals = s.locals }
