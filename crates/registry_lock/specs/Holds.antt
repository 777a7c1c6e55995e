-- One hold of the lock.
use Rattle.std.specs.Prelude.{◌≡◌, ◌⊎◌, List, [], ◌∷◌, ◌++◌}
use Rattle.registry_core.specs.declared.slot.Event.{Event}

-- nothing happened, or one event behind all that had happened
abbrev pub AtMostOneEvent : List Event → List Event → Type 0
AtMostOneEvent before now = (now ≡ before) ⊎ ((event : Event) × (now ≡ before ++ event ∷ []))
