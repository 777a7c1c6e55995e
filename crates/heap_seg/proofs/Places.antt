-- What a change of one object, or of one global, makes of the list.
use Rattle.std.proofs.Common.{◌≡◌, ◌<◌, ℕ, zero, suc, List, [], ◌∷◌, map, length, Option, Some, refl, ap, ◌∙◌, slice_get, slice_set, slice_index_or, arith}
use Rattle.std.proofs.lemmas.List.{map-set}
use Rattle.std.proofs.Math.Seq.{map-set_same}
use Rattle.py_values.specs.declared.value.Value.{Value}
use Rattle.heap_seg.specs.declared.globals.Global.{Global}
use Rattle.heap_seg.specs.declared.object.Object.{Object}
use Rattle.heap_seg.specs.declared.object.Change.{Change}
use Rattle.heap_seg.specs.Things.{Thing, thing_of, changed}
use Rattle.heap_seg.specs.Globals.{with_value}

stands : (os : List Object) (i : ℕ) (o : Object) (t : Thing) → o ≡ slice_index_or os i o → slice_get (map thing_of os) i ≡ Some t → thing_of o ≡ t
stands [] i o t e h = absurd cc
stands (x ∷ os) zero o t e h = let there : thing_of x ≡ t = cc in ap thing_of e ∙ there
stands (x ∷ os) (suc i) o t e h = stands os i o t e h

pub changed_at : (os : List Object) (i : ℕ) (o new : Object) (change : Change) → o ≡ slice_index_or os i o → thing_of new ≡ changed (thing_of o) change
    → (t : Thing) → slice_get (map thing_of os) i ≡ Some t → map thing_of (slice_set os i new) ≡ slice_set (map thing_of os) i (changed t change)
changed_at os i o new change e made t h = map-set thing_of os i new ∙ ap (slice_set (map thing_of os) i) (made ∙ ap (λ z. changed z change) (stands os i o t e h))

pub same_at : (os : List Object) (i : ℕ) (o new : Object) → o ≡ slice_index_or os i o → thing_of new ≡ thing_of o → map thing_of (slice_set os i new) ≡ map thing_of os
same_at os i o new e same = map-set_same thing_of os i new o (same ∙ ap thing_of e)

abbrev bind : Option Value → List Global → Global → List Global
bind value gs g = record g { value = value } ∷ gs

pub bound_at : (gs : List Global) (i : ℕ) (g : Global) (value : Option Value) → i < length gs → g ≡ slice_index_or gs i g → slice_set gs i (record g { value = value }) ≡ with_value gs i value
bound_at [] i g value h e = refl
bound_at (x ∷ gs) zero g value h e = ap (bind value gs) e
bound_at (x ∷ gs) (suc i) g value h e = ap (λ z. x ∷ z) (bound_at gs i g value (omega (arith, h)) e)
