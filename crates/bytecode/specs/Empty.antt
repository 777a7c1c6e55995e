-- The code of a module without statements.
use Rattle.std.specs.Prelude.{List, [], ◌∷◌, None}
use Rattle.bytecode.specs.declared.instr.Cell.{Cell}
use Rattle.bytecode.specs.declared.instr.Handler.{Handler}
use Rattle.bytecode.specs.declared.instr.Instr.TheVariants as i

abbrev pub nowhere : Handler
nowhere = record { place = None; clauses = 0; loops = 0 }

abbrev pub empty_cells : List Cell
empty_cells = record { instr = i.Nil; handler = nowhere } ∷ record { instr = i.Return 0; handler = nowhere } ∷ []
