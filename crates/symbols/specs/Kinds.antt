-- No definition of the language: sets of kinds of bindings as bits.
use Rattle.std.specs.Prelude.{ℕ, Bool, not, ◌==◌}
use Rattle.std.specs.Int.RustNames.{bit_and}
use Rattle.symbols.specs.declared.binding.BindingKind.{BindingKind}
use Rattle.symbols.specs.declared.binding.BindingKind.TheVariants as by

abbrev pub flag : BindingKind → ℕ
flag by.Import = 1
flag by.Def = 2
flag by.Class = 4
flag by.Other = 8

-- whether two sets have a kind in common
abbrev pub meets : ℕ → ℕ → Bool
meets others kinds = not (bit_and kinds others == 0)
