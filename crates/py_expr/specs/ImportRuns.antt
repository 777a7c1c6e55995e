-- No definition of the language: import items, read from the front of tokens as far as they go.
use Rattle.std.specs.Prelude.{◌≡◌, ◌<◌, Bool, true, false, List, [], ◌∷◌, ◌++◌, length, Option, Some, None}
use Rattle.py_tree.specs.declared.statement.Import.{Import}
use Rattle.py_lexer.specs.declared.token.Token.TheVariants as token
use Rattle.py_lexer.specs.declared.token.Keyword.TheVariants as word
use Rattle.py_lexer.specs.declared.token.Mark.TheVariants as mark
use Rattle.py_phrases.specs.Grammar.{Tokens}
use Rattle.py_expr.specs.Lines.{ImportItems, Taken}

-- import items with commas between, whether a comma stands behind the last, and what follows
pub record ItemList : Type 0 where
  pub items : List Import
  pub comma : Bool
  pub rest : Tokens

abbrev pub item_list : List Import → Bool → Tokens → ItemList
item_list items comma rest = record { items = items; comma = comma; rest = rest }

-- behind these items
abbrev pub behind_items : List Import → ItemList → ItemList
behind_items items l = record l { items = items ++ l.items }

-- behind a comma, or at the beginning
abbrev pub items_at : Bool → Tokens → ItemList
items_at comma (token.Name n ∷ token.Word word.As ∷ token.Name a ∷ token.Mark mark.Comma ∷ s) = behind_items (record { name = n; alias = Some a } ∷ []) (items_at true s)
items_at comma (token.Name n ∷ token.Word word.As ∷ token.Name a ∷ s) = item_list (record { name = n; alias = Some a } ∷ []) false s
items_at comma (token.Name n ∷ token.Mark mark.Comma ∷ s) = behind_items (record { name = n; alias = None } ∷ []) (items_at true s)
items_at comma (token.Name n ∷ s) = item_list (record { name = n; alias = None } ∷ []) false s
items_at comma s = item_list [] comma s

-- an item, with what follows it
abbrev pub item_and : Import → Tokens → ItemList
item_and i (token.Mark mark.Comma ∷ s) = behind_items (i ∷ []) (items_at true s)
item_and i s = item_list (i ∷ []) false s

-- the item that is read at the front
pub record IsItem (s : Tokens) (i : Import) (r : Tokens) : Type 0 where
  pub is_read : (comma : Bool) → items_at comma s ≡ item_and i r
  pub shorter : length r < length s

-- exactly where import items are all that there is
abbrev pub AreImported : Tokens → Option (List Import) → Type 0
AreImported s None = (is : List Import) → ImportItems s [] is → ⊥
AreImported s (Some is) = ImportItems s [] is

-- exactly where that may follow `import` behind a module's name
abbrev pub AreTaken : Tokens → Option (List Import) → Type 0
AreTaken s None = (is : List Import) → Taken s is → ⊥
AreTaken s (Some is) = Taken s is

-- exactly where there are items with nothing behind them, these
abbrev pub AreAll : List Import → Tokens → Option (List Import) → Type 0
AreAll items rest None = rest ≡ [] → items ≡ []
AreAll items rest (Some all) = (all ≡ items) × (rest ≡ []) × (items ≡ [] → ⊥)
