-- No definition of the language: where what the imports bind is found.
use Rattle.std.specs.Prelude.{◌≡◌, ℕ, List}
use Rattle.symbols.specs.declared.class.ClassKind.{ClassKind}
use Rattle.symbols.specs.declared.name_map.NameMap.{NameMap}
use Rattle.symbols.specs.declared.outer.OuterBinding.{OuterBinding}
use Rattle.symbols.specs.ClassViews.{kinds_of}
use Rattle.symbols.specs.Places.{AreMembers, ArePlaces, AreStarts, outer_name}

pub record IsImportTable (bindings : List OuterBinding) (places : NameMap ℕ) (members : List (NameMap ℕ)) (kinds : List ClassKind) (starts : List ℕ) : Type 0 where
  pub named : ArePlaces outer_name bindings places
  pub inside : AreMembers bindings members
  pub listed : kinds ≡ kinds_of bindings
  pub begins : AreStarts bindings starts
