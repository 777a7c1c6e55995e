-- The rows of default values, by the map that keeps them.
use Rattle.std.proofs.Common.{◌≡◌, Bool, true, false, ◌&&◌, ◌==◌, if◌then◌else◌, List, [], ◌∷◌, map, Some, refl, ap}
use Rattle.std.specs.Map.{lookup}
use Rattle.indexmap.specs.IndexMap.{insert_entry}
use Rattle.py_values.specs.declared.value.Value.{Value}
use Rattle.heap_seg.specs.declared.defaults.Parameter.{Parameter}
use Rattle.heap_seg.specs.Defaults.{default_of, row_of, with_default}

abbrev pub test : Parameter → Parameter → Bool
test a b = a.function == b.function && a.number == b.number

pub found : (p : Parameter) (es : List (Parameter × Value)) → lookup (test p) es ≡ default_of p.function p.number (map row_of es)
found p [] = refl
found p (e ∷ es) = by (test p e.0) (found p es) where
  by : (b : Bool) → lookup (test p) es ≡ default_of p.function p.number (map row_of es)
      → (if b then Some e.1 else lookup (test p) es) ≡ (if b then Some e.1 else default_of p.function p.number (map row_of es))
  by true h = refl
  by false h = h

pub set : (p : Parameter) (x : Value) (es : List (Parameter × Value)) → map row_of (insert_entry test es p x) ≡ with_default p.function p.number x (map row_of es)
set p x [] = refl
set p x (e ∷ es) = by (test p e.0) (set p x es) where
  by : (b : Bool) → map row_of (insert_entry test es p x) ≡ with_default p.function p.number x (map row_of es)
      → map row_of (if b then (e.0, x) ∷ es else e ∷ insert_entry test es p x)
      ≡ (if b then record (row_of e) { value = x } ∷ map row_of es else row_of e ∷ with_default p.function p.number x (map row_of es))
  by true h = refl
  by false h = ap (λ z. row_of e ∷ z) h
