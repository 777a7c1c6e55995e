-- Jumps and handlers lead forward, but for the two that take a loop's turn, whose fuel ends.
use Rattle.std.specs.Prelude.{ℕ, ◌+◌, nat_lt, Bool, true, ◌&&◌, List, [], ◌∷◌, Option, Some, None}
use Rattle.bytecode.specs.declared.instr.Instr.{Instr}
use Rattle.bytecode.specs.declared.instr.Instr.TheVariants as i
use Rattle.bytecode.specs.declared.instr.Cell.{Cell}

abbrev pub jumps_forward : ℕ → Instr → Bool
jumps_forward pc (i.Jump p) = nat_lt pc p
jumps_forward pc (i.JumpUnless p) = nat_lt pc p
jumps_forward pc (i.KeepUnless p) = nat_lt pc p
jumps_forward pc (i.KeepIf p) = nat_lt pc p
jumps_forward pc (i.Leave n p) = nat_lt pc p
jumps_forward pc (i.TakesElse p) = nat_lt pc p
jumps_forward pc other = true

abbrev pub is_forward : ℕ → Option ℕ → Bool
is_forward pc None = true
is_forward pc (Some p) = nat_lt pc p

-- of cells that begin at that place
abbrev pub forwards : ℕ → List Cell → Bool
forwards pc [] = true
forwards pc (x ∷ cells) = (jumps_forward pc x.instr && is_forward pc x.handler.place) && forwards (pc + 1) cells
