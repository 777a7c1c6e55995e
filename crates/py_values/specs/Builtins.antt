-- The names of the builtins, and of the methods of texts, lists and dictionaries.
use Rattle.std.specs.Prelude.{◌≡◌, ℕ, List, [], ◌∷◌, map, codes, Option, Some}
use Rattle.std.specs.List.{All, find}
use Rattle.std.specs.Str.{bytes_eq}
use Rattle.py_values.specs.declared.builtin.Builtin.{Builtin}
use Rattle.py_values.specs.declared.builtin.Builtin.TheVariants.{Object, Print, Len, Range, Str, Repr, Bool, List as ListType, Tuple, Dict, Int, Abs, Min, Max, Ord, Chr, IsInstance, TextJoin, TextSplit, TextStartsWith, TextEndsWith, ListAppend, ListExtend, ListCopy, DictGet, DictKeys, DictValues, DictItems, DictCopy, DictUpdate}

abbrev pub name_of : Builtin → List ℕ
name_of Object = codes "object"
name_of Print = codes "print"
name_of Len = codes "len"
name_of Range = codes "range"
name_of Str = codes "str"
name_of Repr = codes "repr"
name_of Bool = codes "bool"
name_of ListType = codes "list"
name_of Tuple = codes "tuple"
name_of Dict = codes "dict"
name_of Int = codes "int"
name_of Abs = codes "abs"
name_of Min = codes "min"
name_of Max = codes "max"
name_of Ord = codes "ord"
name_of Chr = codes "chr"
name_of IsInstance = codes "isinstance"
name_of TextJoin = codes "join"
name_of TextSplit = codes "split"
name_of TextStartsWith = codes "startswith"
name_of TextEndsWith = codes "endswith"
name_of ListAppend = codes "append"
name_of ListExtend = codes "extend"
name_of ListCopy = codes "copy"
name_of DictGet = codes "get"
name_of DictKeys = codes "keys"
name_of DictValues = codes "values"
name_of DictItems = codes "items"
name_of DictCopy = codes "copy"
name_of DictUpdate = codes "update"

-- what a module can name without binding it
abbrev pub builtins : List Builtin
builtins =
    Object ∷ Print ∷ Len ∷ Range ∷ Str ∷ Repr ∷ Bool ∷ ListType ∷ Tuple ∷ Dict ∷ Int ∷ Abs ∷ Min ∷ Max ∷ Ord ∷ Chr ∷ IsInstance ∷ []

abbrev pub builtin_names : List (List ℕ)
builtin_names = map name_of builtins

abbrev pub text_methods : List Builtin
text_methods = TextJoin ∷ TextSplit ∷ TextStartsWith ∷ TextEndsWith ∷ []

abbrev pub list_methods : List Builtin
list_methods = ListAppend ∷ ListExtend ∷ ListCopy ∷ []

abbrev pub dict_methods : List Builtin
dict_methods = DictGet ∷ DictKeys ∷ DictValues ∷ DictItems ∷ DictCopy ∷ DictUpdate ∷ []

-- the one of these that has the name
abbrev pub named_among : List Builtin → List ℕ → Option Builtin
named_among among name = find (λ b. bytes_eq name (name_of b)) among

-- each of these is found by its name
abbrev pub AreNamed : List Builtin → Type 0
AreNamed among = All (λ b. named_among among (name_of b) ≡ Some b) among

-- each builtin is of one kind, and is found there by its name
pub record HaveNames : Type 0 where
  pub builtins : AreNamed builtins
  pub text_methods : AreNamed text_methods
  pub list_methods : AreNamed list_methods
  pub dict_methods : AreNamed dict_methods
