-- The code of assignments to targets.
use Rattle.std.specs.Prelude.{ℕ, ◌+◌, List, [], ◌∷◌, ◌++◌, map, length}
use Rattle.py_tree.specs.Syntax as x
use Rattle.py_tree.specs.Syntax.{Text, Expression, Target}
use Rattle.py_tree.specs.declared.operator.BinaryOp.{BinaryOp}
use Rattle.bytecode.specs.declared.instr.Cell.{Cell}
use Rattle.bytecode.specs.declared.instr.Handler.{Handler}
use Rattle.bytecode.specs.declared.instr.Instr.TheVariants as i
use Rattle.compile_plain.specs.Names.{Names, load, variable_of}
use Rattle.compile_plain.specs.Cells.{cell}
use Rattle.compile_plain.specs.Expressions.{expr_end, expr_code}

abbrev pub store : Names → Handler → Text → Cell
store names h name = cell h (i.Store (variable_of names name))

-- ---- `T = E`, where the value is the top

abbrev pub assign_end : Names → ℕ → Target → ℕ
assign_end names pc (x.ToName name) = pc + 1
assign_end names pc (x.ToNames ns) = pc + 1 + length ns
assign_end names pc (x.ToAttr e name) = expr_end names pc e + 1
assign_end names pc (x.ToIndex e d) = expr_end names (expr_end names pc e) d + 1

abbrev pub assign_code : Names → Handler → ℕ → Target → List Cell
assign_code names h pc (x.ToName name) = store names h name ∷ []
assign_code names h pc (x.ToNames ns) = cell h (i.Unpack (length ns)) ∷ map (store names h) ns
assign_code names h pc (x.ToAttr e name) = expr_code names h pc e ++ cell h (i.SetAttribute name) ∷ []
assign_code names h pc (x.ToIndex e d) = expr_code names h pc e ++ (expr_code names h (expr_end names pc e) d ++ cell h i.SetItem ∷ [])

-- ---- `T OP= E`

abbrev pub augment_end : Names → ℕ → Target → Expression → ℕ
augment_end names pc (x.ToName name) right = expr_end names (pc + 1) right + 1 + 1
augment_end names pc (x.ToAttr e name) right = expr_end names (expr_end names pc e + 1 + 1) right + 1 + 1 + 1
augment_end names pc (x.ToIndex e d) right = expr_end names (expr_end names (expr_end names pc e) d + 1 + 1) right + 1 + 1 + 1
augment_end names pc (x.ToNames ns) right = pc

abbrev pub augment_code : Names → Handler → ℕ → Target → BinaryOp → Expression → List Cell
augment_code names h pc (x.ToName name) operator right =
    cell h (load names name) ∷ (expr_code names h (pc + 1) right ++ (cell h (i.Augment operator) ∷ (store names h name ∷ [])))
augment_code names h pc (x.ToAttr e name) operator right =
    expr_code names h pc e ++ (cell h i.Copy ∷ (cell h (i.GetAttribute name) ∷ (expr_code names h (expr_end names pc e + 1 + 1) right
    ++ (cell h (i.Augment operator) ∷ (cell h i.Swap ∷ (cell h (i.SetAttribute name) ∷ []))))))
augment_code names h pc (x.ToIndex e d) operator right =
    let second = expr_end names pc e in
    expr_code names h pc e ++ (expr_code names h second d ++ (cell h i.CopyTwo ∷ (cell h i.GetItem ∷ (expr_code names h (expr_end names second d + 1 + 1) right
    ++ (cell h (i.Augment operator) ∷ (cell h i.Rotate ∷ (cell h i.SetItem ∷ [])))))))
augment_code names h pc (x.ToNames ns) operator right = []
