-- What the file of a module is by itself, whatever it imports.
use Rattle.std.specs.Prelude.{Bool, true}
use Rattle.py_tree.specs.Syntax.{Statements}
use Rattle.py_tree.specs.Joined.{module_of}
use Rattle.py_tree.specs.Lawful.{lawful}
use Rattle.py_tree.specs.declared.fault.Fault.{Fault}
use Rattle.module_load.specs.declared.source.SourceState.{SourceState}
use Rattle.module_load.specs.declared.source.SourceState.TheVariants as source

pub data State : Type 0 where
  plain : State  -- without a marker line, so it is left alone
  faulty : Fault → State  -- refused for its text
  tree : Statements → State  -- a module that has its marker

abbrev pub state_of : SourceState → State
state_of source.Plain = plain
state_of (source.Faulty f) = faulty f
state_of (source.Tree made) = tree (module_of made)

-- a tree is lawful
abbrev pub lawful_state : SourceState → Bool
lawful_state source.Plain = true
lawful_state (source.Faulty f) = true
lawful_state (source.Tree made) = lawful (module_of made)
