-- Cells, and where an exception, `break`, `continue` and `return` go from them.
use Rattle.std.specs.Prelude.{ℕ, suc, ◌+◌, List, [], ◌∷◌, Option, Some, None}
use Rattle.bytecode.specs.declared.instr.Cell.{Cell}
use Rattle.bytecode.specs.declared.instr.Handler.{Handler}
use Rattle.bytecode.specs.declared.instr.Instr.{Instr}
use Rattle.bytecode.specs.declared.instr.Instr.TheVariants as i
use Rattle.compile_plain.specs.declared.targets.Targets.{Targets}

abbrev pub cell : Handler → Instr → Cell
cell h instr = record { instr = instr; handler = h }

-- inside the clauses of a `try`
abbrev pub in_clauses : Targets → Targets
in_clauses k = record k { in_loop = suc k.in_loop; in_block = suc k.in_block; raised = record (k.raised) { clauses = suc k.raised.clauses } }

-- inside the body of a `try` whose clauses are at the place
abbrev pub in_try : Targets → ℕ → Targets
in_try k p = record k { raised = record { place = Some p; clauses = 0; loops = 0 } }

abbrev pub in_while : Targets → ℕ → ℕ → Targets
in_while k p q = record k { broke = p; continued = q; in_loop = 0 }

abbrev pub in_for : Targets → ℕ → ℕ → Targets
in_for k p q = record k { broke = p; continued = q; in_loop = 0; raised = record (k.raised) { loops = suc k.raised.loops } }

-- ---- lines

abbrev pub line_end : ℕ → Option ℕ → ℕ
line_end pc None = pc
line_end pc (Some n) = pc + 1

abbrev pub line_code : Handler → Option ℕ → List Cell
line_code h None = []
line_code h (Some n) = cell h (i.AtLine n) ∷ []
