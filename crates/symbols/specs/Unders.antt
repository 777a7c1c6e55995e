-- No definition of the language: the context of a module with these static names.
use Rattle.std.specs.Prelude.{false, []}
use Rattle.symbols.specs.declared.binding.StaticName.{StaticName}
use Rattle.symbols.specs.declared.name_map.NameMap.{NameMap}
use Rattle.symbols.specs.Names.{found}
use Rattle.symbols.specs.SpecialNames.{Context}

abbrev pub context_under : NameMap StaticName → Context
context_under statics = record { in_class = false; in_method = false; statics = found statics; locals = [] }
