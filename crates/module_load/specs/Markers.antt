-- The statement by which a module asks for the strict rules, and its place.
use Rattle.std.specs.Prelude.{◌≡◌, ◌<◌, ℕ, Bool, true, false, ◌&&◌, ◌||◌, ◌↔◌, List, [], ◌∷◌, Some, is_none, codes, slice_get}
use Rattle.std.specs.Str.{bytes_eq}
use Rattle.py_tree.specs.Syntax as x
use Rattle.py_tree.specs.Syntax.{Text, Statement, Statements}
use Rattle.py_tree.specs.TopPart.{top_imports}
use Rattle.py_tree.specs.declared.statement.Import.{Import}

abbrev pub is_marker_name : Text → Bool
is_marker_name name = bytes_eq name (codes "__strict__") || bytes_eq name (codes "__static__")

abbrev pub is_marker_alone : List Import → Bool
is_marker_alone (i ∷ []) = is_none i.alias && is_marker_name i.name
is_marker_alone names = false

-- `import __strict__` or `import __static__`, with no other name and no alias
abbrev pub is_marker : Statement → Bool
is_marker (x.On line (x.Imports names)) = is_marker_alone names
is_marker statement = false

-- `from __future__ import ..`
abbrev pub is_from_future : Statement → Bool
is_from_future (x.On line (x.From name names)) = bytes_eq name (codes "__future__")
is_from_future statement = false

-- a marker is the first that isn't from `__future__`
abbrev pub marker_leads : List Statement → Bool
marker_leads [] = false
marker_leads (t ∷ ts) = is_marker t || (is_from_future t && marker_leads ts)

abbrev pub is_marked : Statements → Bool
is_marked body = marker_leads (top_imports body)

-- The same in words: a marker stands before every import statement that is neither a marker nor from `__future__`.
pub record Leads (imports : List Statement) : Type 0 where
  pub place : ℕ
  pub marker : Statement
  pub there : slice_get imports place ≡ Some marker
  pub marks : is_marker marker ≡ true
  pub before : (k : ℕ) (t : Statement) → slice_get imports k ≡ Some t → is_marker t ≡ false → is_from_future t ≡ false → place < k

abbrev pub OnePlace : Type 0
OnePlace = (imports : List Statement) → (marker_leads imports ≡ true) ↔ Leads imports
