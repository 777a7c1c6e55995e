-- What the methods of texts, lists and dictionaries do.
use Rattle.std.specs.Prelude.{ℕ, zero, suc, ◌-◌, nat_eq, if◌then◌else◌, List, [], ◌∷◌, ◌++◌, map, length, Option, Some, None}
use Rattle.std.specs.List.{starts_with}
use Rattle.py_tree.specs.Syntax.{Text}
use Rattle.py_values.specs.declared.builtin.Builtin.{Builtin}
use Rattle.py_values.specs.declared.builtin.Builtin.TheVariants as method
use Rattle.py_values.specs.declared.exception.ExcKind.TheVariants as kind
use Rattle.py_values.specs.declared.value.Home.{Home}
use Rattle.key_map.specs.Entries.{Entry, find_entry, put_entry}
use Rattle.atom_ops.specs.Operators as op
use Rattle.gradual_types.specs.Values as v
use Rattle.gradual_types.specs.Values.{Value}
use Rattle.py_meaning.specs.Acts.{Act, ◌>>=◌, ◌>>◌, give, pay, done}
use Rattle.py_meaning.specs.Modules.{World}
use Rattle.py_meaning.specs.Looks as seen
use Rattle.py_meaning.specs.Looks.{Seen, look, see_object, raise, type_error, or_type_error, make, write, ask, may_write_at, home_of}
use Rattle.py_meaning.specs.Operands.{operand, by_table}
use Rattle.py_meaning.specs.PaidKeys.{key_of}
use Rattle.py_meaning.specs.Iterables.{gather, shown_keys}

-- ---- texts

abbrev pub text_in : Seen → Option Text
text_in (seen.Points text) = Some text
text_in other = None

-- all items are tested, in order
abbrev pub texts_of : World → List Value → Act (List Text)
texts_of w [] = give []
texts_of w (x ∷ xs) = do
  a ← look w x
  text ← or_type_error w (text_in a)
  rest ← texts_of w xs
  give (text ∷ rest)

abbrev pub after_each : Text → List Text → Text
after_each between [] = []
after_each between (text ∷ texts) = between ++ text ++ after_each between texts

abbrev pub joined : Text → List Text → Text
joined between [] = []
joined between (text ∷ texts) = text ++ after_each between texts

abbrev pub join : World → Text → Value → Act Value
join w between x = do
  items ← gather w x
  texts ← texts_of w items
  pay (length (joined between texts))
  give (v.Points (joined between texts))

-- The pieces of a text between the places where a part stands, from the left, no place overlapping the one before. Of the text so many
-- code points are still of such a place, and then `piece` has begun.
abbrev pub pieces : Text → ℕ → Text → Text → List Text
pieces part within piece [] = piece ∷ []
pieces part (suc within) piece (point ∷ rest) = pieces part within piece rest
pieces part zero piece (point ∷ rest) =
    if starts_with nat_eq (point ∷ rest) part then piece ∷ pieces part (length part - 1) [] rest
    else pieces part zero (piece ++ point ∷ []) rest

abbrev pub split : World → Text → Seen → Act Value
split w text (seen.Points []) = raise w kind.ValueError
split w text (seen.Points part) = pay (length text) >> make w (v.Listed (map v.Points (pieces part 0 [] text)))
split w text other = type_error w

abbrev pub text_result : World → Text → Builtin → List Value → Act Value
text_result w text method.TextJoin (x ∷ []) = join w text x
text_result w text method.TextSplit (x ∷ []) = look w x >>= split w text
text_result w text method.TextStartsWith (x ∷ []) = look w x >>= λ a. by_table w (op.Call op.StartsWith (operand (seen.Points text) ∷ operand a ∷ []))
text_result w text method.TextEndsWith (x ∷ []) = look w x >>= λ a. by_table w (op.Call op.EndsWith (operand (seen.Points text) ∷ operand a ∷ []))
text_result w text other args = type_error w

-- ---- lists

-- behind the items that the list has now
abbrev pub put_behind : World → Home → ℕ → List Value → Seen → Act (Unit {0})
put_behind w h n more (seen.Listed i m vs) = write w h n (v.Listed (vs ++ more))
put_behind w h n more other = done

abbrev pub append_all : World → Home → ℕ → List Value → Act Value
append_all w h n more = see_object w h n >>= put_behind w h n more >> give v.Nil

abbrev pub list_result : World → Home → ℕ → List Value → Builtin → List Value → Act Value
list_result w h n vs method.ListAppend (x ∷ []) = append_all w h n (x ∷ [])
list_result w h n vs method.ListExtend (x ∷ []) = gather w x >>= append_all w h n
list_result w h n vs method.ListCopy [] = pay (length vs) >> make w (v.Listed vs)
list_result w h n vs other args = type_error w

-- ---- dictionaries

abbrev pub or_value : Option Value → Value → Value
or_value None other = other
or_value (Some value) other = value

abbrev pub put_key : World → Home → ℕ → Value → Value → Seen → Act (Unit {0})
put_key w h n key value (seen.Mapped i m es) = key_of w key >>= λ found. write w h n (v.Mapped (put_entry found.0 found.1 value es))
put_key w h n key value other = done

-- the values of these keys are put in order
abbrev pub put_pairs : World → Home → ℕ → List (Value × Value) → Act (Unit {0})
put_pairs w h n [] = done
put_pairs w h n (pair ∷ pairs) = see_object w h n >>= put_key w h n pair.0 pair.1 >> put_pairs w h n pairs

abbrev pub pairs_in : List (Entry Value Value) → List (Value × Value)
pairs_in es = map (λ e. (e.shown, e.value)) es

abbrev pub values_in : List (Entry Value Value) → List Value
values_in es = map (λ e. e.value) es

abbrev pub pair_value : Value × Value → Value
pair_value pair = v.Tuple (v.values (pair.0 ∷ pair.1 ∷ []))

abbrev pub update : World → Home → ℕ → Seen → Act Value
update w h n (seen.Mapped i m es) = pay (length es) >> put_pairs w h n (pairs_in es) >> give v.Nil
update w h n other = type_error w

abbrev pub listed : World → List Value → Act Value
listed w vs = pay (length vs) >> make w (v.Listed vs)

abbrev pub dict_result : World → Home → ℕ → List (Entry Value Value) → Builtin → List Value → Act Value
dict_result w h n es method.DictGet (key ∷ []) = key_of w key >>= λ found. give (or_value (find_entry found.0 es) v.Nil)
dict_result w h n es method.DictGet (key ∷ other ∷ []) = key_of w key >>= λ found. give (or_value (find_entry found.0 es) other)
dict_result w h n es method.DictKeys [] = listed w (shown_keys es)
dict_result w h n es method.DictValues [] = listed w (values_in es)
dict_result w h n es method.DictItems [] = listed w (map pair_value (pairs_in es))
dict_result w h n es method.DictCopy [] = pay (length es) >> make w (v.Mapped es)
dict_result w h n es method.DictUpdate (x ∷ []) = look w x >>= update w h n
dict_result w h n es other args = type_error w

-- ---- all of them

-- with these arguments, none of them by keyword
abbrev pub result_of : World → Builtin → List Value → Seen → Act Value
result_of w b args (seen.Points text) = text_result w text b args
result_of w b args (seen.Listed h n vs) = list_result w h n vs b args
result_of w b args (seen.Mapped h n es) = dict_result w h n es b args
result_of w b args other = type_error w

abbrev pub method_result : World → Value → Builtin → List Value → Act Value
method_result w receiver b args = look w receiver >>= result_of w b args

-- what the rules are asked before the arguments are bound
abbrev pub ask_for : World → Builtin → Option Value → Act (Unit {0})
ask_for w method.Print receiver = ask w w.mode.on_print
ask_for w method.ListAppend (Some receiver) = may_write_at w (home_of receiver)
ask_for w method.ListExtend (Some receiver) = may_write_at w (home_of receiver)
ask_for w method.DictUpdate (Some receiver) = may_write_at w (home_of receiver)
ask_for w other receiver = done
