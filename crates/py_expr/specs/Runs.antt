-- No definition of the language: names and import items, read from the front of tokens as far as they go.
use Rattle.std.specs.Prelude.{Bool, true, false, List, [], ◌∷◌, ◌++◌, Option, Some, None}
use Rattle.py_tree.specs.Syntax.{Text, Target, ToName, ToNames}
use Rattle.py_tree.specs.declared.statement.Import.{Import}
use Rattle.py_lexer.specs.declared.token.Token.TheVariants as token
use Rattle.py_lexer.specs.declared.token.Keyword.TheVariants as word
use Rattle.py_lexer.specs.declared.token.Mark.TheVariants as mark
use Rattle.py_phrases.specs.Grammar.{Tokens}

-- names with commas between, whether a comma stands behind the last, and what follows
pub record NameList : Type 0 where
  pub names : List Text
  pub comma : Bool
  pub rest : Tokens

abbrev pub name_list : List Text → Bool → Tokens → NameList
name_list names comma rest = record { names = names; comma = comma; rest = rest }

abbrev pub with_name : Text → NameList → NameList
with_name name l = record l { names = name ∷ l.names }

-- behind a comma, or at the beginning
abbrev pub names_at : Bool → Tokens → NameList
names_at comma (token.Name n ∷ token.Mark mark.Comma ∷ s) = with_name n (names_at true s)
names_at comma (token.Name n ∷ s) = name_list (n ∷ []) false s
names_at comma s = name_list [] comma s

-- the target that the names are
abbrev pub target_from : Bool → List Text → Option Target
target_from comma [] = None
target_from false (a ∷ []) = Some (ToName a)
target_from true (a ∷ []) = None
target_from comma (a ∷ b ∷ names) = Some (ToNames (a ∷ b ∷ names))

-- an import item, and what follows it
pub record ItemRead : Type 0 where
  pub item : Import
  pub rest : Tokens

abbrev pub item_read : Import → Tokens → ItemRead
item_read i rest = record { item = i; rest = rest }

abbrev pub item_at : Tokens → Option ItemRead
item_at (token.Name n ∷ token.Word word.As ∷ token.Name a ∷ s) = Some (item_read (record { name = n; alias = Some a }) s)
item_at (token.Name n ∷ s) = Some (item_read (record { name = n; alias = None }) s)
item_at s = None

-- behind these names
abbrev pub behind_names : List Text → NameList → NameList
behind_names names l = record l { names = names ++ l.names }
