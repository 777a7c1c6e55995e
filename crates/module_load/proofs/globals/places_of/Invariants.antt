use Rattle.std.proofs.Common.{map, take}
use Rattle.module_load.specs.NamePlaces.{ArePlacesOf}
use Rattle.module_load.specs.declared.globals.ModuleGlobal.{ModuleGlobal}
use Rattle.module_load.proofs.globals.places_of.Given as goal

abbrev pub invariant-loop-place : goal.invariant-loop-place
invariant-loop-place l = ArePlacesOf l.places (map (λ (g : ModuleGlobal). g.name) (take l.place l.rows))
