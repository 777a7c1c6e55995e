-- No definition of the language: where the classes of each name are found, and where their bases stand.
use Rattle.std.specs.Prelude.{ℕ, List}
use Rattle.symbols.specs.declared.class.OwnClass.{OwnClass}
use Rattle.symbols.specs.declared.name_map.NameMap.{NameMap}
use Rattle.symbols.specs.declared.outer.Outer.{Outer}
use Rattle.symbols.specs.BasePlaces.{ArePlaced}
use Rattle.symbols.specs.ClassViews.{found_in, kinds_of}
use Rattle.symbols.specs.Places.{ArePlaces, class_name}

pub record IsClassTable (o : Outer) (own : List OwnClass) (numbers : NameMap ℕ) : Type 0 where
  pub placed : ArePlaced (kinds_of o.bindings) own
  pub numbered : ArePlaces class_name (found_in o own) numbers
