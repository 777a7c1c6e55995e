-- The cells of parts, and one behind them.
use Rattle.std.proofs.Common.{◌≡◌, ◌∙◌, List, [], ◌∷◌, ◌++◌, append_assoc}
use Rattle.bytecode.specs.declared.instr.Cell.{Cell}
use Rattle.bytecode.specs.declared.instr.Handler.{Handler}
use Rattle.bytecode.specs.declared.instr.Instr.{Instr}
use Rattle.compile_plain.specs.Cells.{cell}

pub one_behind : (h : Handler) (old part part' one : List Cell) (last last' : Instr) → one ≡ old ++ part → part ≡ part' → last ≡ last' → one ++ cell h last ∷ [] ≡ old ++ (part' ++ cell h last' ∷ [])
one_behind h old part part' one last last' put same is =
    let all : one ++ cell h last ∷ [] ≡ (old ++ part') ++ cell h last' ∷ [] = cc in
    all ∙ append_assoc old part' (cell h last' ∷ [])
