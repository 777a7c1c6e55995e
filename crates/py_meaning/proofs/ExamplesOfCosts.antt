-- Bodies that end with exactly so much fuel, and are spent with one less.
use Rattle.std.proofs.Common.{◌≡◌, refl}
use Rattle.std.specs.Prelude.{true, [], ◌∷◌, Some, None, codes}
use Rattle.py_tree.specs.Syntax as x
use Rattle.py_tree.specs.Syntax.{Statements}
use Rattle.py_tree.specs.declared.operator.UnaryOp.TheVariants.{Minus}
use Rattle.py_tree.specs.declared.operator.BinaryOp.TheVariants.{Add, Sub}
use Rattle.py_tree.specs.declared.operator.CompareOp.TheVariants.{Eq, In}
use Rattle.py_meaning.proofs.Programs.{int, text, none, name, tuple, list, dict, call, block, on, marker, param, param_or, function, tested, if_or, except, try_or, class}
use Rattle.py_meaning.proofs.Ends.{named_global, fuel_left, is_spent}

abbrev pub recursion : Statements
recursion = (block (
    on 1 marker ∷
    on 2 (x.Def (function (codes "f") (param (codes "n") ∷ []) (block (
    on 3 (if_or (tested 3 (x.Compare Eq (name (codes "n")) (int 0)) (block (
    on 4 (x.Return (Some (int 0))) ∷ [])) ∷ []) x.end_of_statements) ∷
    on 5 (x.Return (Some (call (name (codes "f")) ((x.Binary Sub (name (codes "n")) (int 1)) ∷ [])))) ∷ [])))) ∷
    on 6 (x.Assign (x.ToName (codes "X")) (call (name (codes "f")) ((int 0) ∷ []))) ∷ []))

recursion_takes : fuel_left 6 recursion ≡ Some 0
recursion_takes = refl

recursion_is_spent : is_spent 5 recursion ≡ true
recursion_is_spent = refl

recursion_gives : named_global (codes "X") recursion ≡ Some (codes "0")
recursion_gives = refl

abbrev pub super_call : Statements
super_call = (block (
    on 1 marker ∷
    on 2 (class (codes "A") None (block (
    on 3 (x.Def (function (codes "m") (param (codes "self") ∷ []) (block (
    on 3 (x.Return (Some (int 1))) ∷ [])))) ∷ []))) ∷
    on 4 (class (codes "B") (Some (name (codes "A"))) (block (
    on 5 (x.Def (function (codes "m") (param (codes "self") ∷ []) (block (
    on 5 (x.Return (Some (x.Binary Add (call (x.Attr (call (name (codes "super")) ([])) (codes "m")) ([])) (int 1)))) ∷
    [])))) ∷ []))) ∷
    on 6 (x.Assign (x.ToName (codes "X")) (call (x.Attr (call (name (codes "B")) ([])) (codes "m")) ([]))) ∷ []))

super_call_takes : fuel_left 11 super_call ≡ Some 0
super_call_takes = refl

super_call_is_spent : is_spent 10 super_call ≡ true
super_call_is_spent = refl

super_call_gives : named_global (codes "X") super_call ≡ Some (codes "2")
super_call_gives = refl

abbrev pub key_error_caught : Statements
key_error_caught = (block (
    on 1 marker ∷
    on 2 (try_or (block (
    on 3 (x.Raise (Some (call (name (codes "KeyError")) ((text (codes "k")) ∷ [])))) ∷ [])) (except (Some (name (codes
    "LookupError"))) (Some (codes "e")) (block (
    on 5 (x.Assign (x.ToName (codes "X")) (call (name (codes "str")) ((name (codes "e")) ∷ []))) ∷ [])) ∷ [])) ∷ []))

key_error_caught_takes : fuel_left 10 key_error_caught ≡ Some 0
key_error_caught_takes = refl

key_error_caught_is_spent : is_spent 9 key_error_caught ≡ true
key_error_caught_is_spent = refl

key_error_caught_gives : named_global (codes "X") key_error_caught ≡ Some (34 ∷ 39 ∷ 107 ∷ 39 ∷ 34 ∷ [])
key_error_caught_gives = refl

abbrev split_text : Statements
split_text = (block (
    on 1 marker ∷
    on 2 (x.Assign (x.ToName (codes "X")) (call (x.Attr (text (codes "a,b")) (codes "split")) ((text (codes ",")) ∷ []))) ∷ []))

split_text_takes : fuel_left 6 split_text ≡ Some 0
split_text_takes = refl

split_text_is_spent : is_spent 5 split_text ≡ true
split_text_is_spent = refl

split_text_gives : named_global (codes "X") split_text ≡ Some (codes "['a', 'b']")
split_text_gives = refl

abbrev start_tested : Statements
start_tested = (block (
    on 1 marker ∷
    on 2 (x.Assign (x.ToName (codes "X")) (call (x.Attr (text (codes "abc")) (codes "startswith")) ((text (codes "ab")) ∷ []))) ∷ []))

start_tested_takes : fuel_left 5 start_tested ≡ Some 0
start_tested_takes = refl

start_tested_is_spent : is_spent 4 start_tested ≡ true
start_tested_is_spent = refl

start_tested_gives : named_global (codes "X") start_tested ≡ Some (codes "True")
start_tested_gives = refl

abbrev end_tested : Statements
end_tested = (block (
    on 1 marker ∷
    on 2 (x.Assign (x.ToName (codes "X")) (call (x.Attr (text (codes "abc")) (codes "endswith")) ((text (codes "bc")) ∷ []))) ∷ []))

end_tested_takes : fuel_left 5 end_tested ≡ Some 0
end_tested_takes = refl

end_tested_is_spent : is_spent 4 end_tested ≡ true
end_tested_is_spent = refl

end_tested_gives : named_global (codes "X") end_tested ≡ Some (codes "True")
end_tested_gives = refl

abbrev texts_joined : Statements
texts_joined = (block (
    on 1 marker ∷
    on 2 (x.Assign (x.ToName (codes "X")) (call (x.Attr (text (codes "-")) (codes "join")) ((list ((text (codes "a")) ∷ (text (codes
    "b")) ∷ [])) ∷ []))) ∷ []))

texts_joined_takes : fuel_left 10 texts_joined ≡ Some 0
texts_joined_takes = refl

texts_joined_is_spent : is_spent 9 texts_joined ≡ true
texts_joined_is_spent = refl

texts_joined_gives : named_global (codes "X") texts_joined ≡ Some (codes "'a-b'")
texts_joined_gives = refl

abbrev list_extended : Statements
list_extended = (block (
    on 1 marker ∷
    on 2 (x.Assign (x.ToName (codes "X")) (list ((int 1) ∷ []))) ∷
    on 3 (x.Eval (call (x.Attr (name (codes "X")) (codes "extend")) ((tuple ((int 2) ∷ (int 3) ∷ [])) ∷ []))) ∷ []))

list_extended_takes : fuel_left 9 list_extended ≡ Some 0
list_extended_takes = refl

list_extended_is_spent : is_spent 8 list_extended ≡ true
list_extended_is_spent = refl

list_extended_gives : named_global (codes "X") list_extended ≡ Some (codes "[1, 2, 3]")
list_extended_gives = refl

abbrev tuple_gathered : Statements
tuple_gathered = (block (
    on 1 marker ∷
    on 2 (x.Assign (x.ToName (codes "X")) (call (name (codes "tuple")) ((text (codes "ab")) ∷ []))) ∷ []))

tuple_gathered_takes : fuel_left 5 tuple_gathered ≡ Some 0
tuple_gathered_takes = refl

tuple_gathered_is_spent : is_spent 4 tuple_gathered ≡ true
tuple_gathered_is_spent = refl

tuple_gathered_gives : named_global (codes "X") tuple_gathered ≡ Some (codes "('a', 'b')")
tuple_gathered_gives = refl

abbrev list_gathered : Statements
list_gathered = (block (
    on 1 marker ∷
    on 2 (x.Assign (x.ToName (codes "X")) (call (name (codes "list")) ((call (name (codes "range")) ((int 3) ∷ [])) ∷ []))) ∷ []))

list_gathered_takes : fuel_left 7 list_gathered ≡ Some 0
list_gathered_takes = refl

list_gathered_is_spent : is_spent 6 list_gathered ≡ true
list_gathered_is_spent = refl

list_gathered_gives : named_global (codes "X") list_gathered ≡ Some (codes "[0, 1, 2]")
list_gathered_gives = refl

abbrev dictionary_copied : Statements
dictionary_copied = (block (
    on 1 marker ∷
    on 2 (x.Assign (x.ToName (codes "X")) (call (name (codes "dict")) ((dict (((int 1), (int 2)) ∷ [])) ∷ []))) ∷ []))

dictionary_copied_takes : fuel_left 5 dictionary_copied ≡ Some 0
dictionary_copied_takes = refl

dictionary_copied_is_spent : is_spent 4 dictionary_copied ≡ true
dictionary_copied_is_spent = refl

dictionary_copied_gives : named_global (codes "X") dictionary_copied ≡ Some (codes "{1: 2}")
dictionary_copied_gives = refl

abbrev keys_listed : Statements
keys_listed = (block (
    on 1 marker ∷
    on 2 (x.Assign (x.ToName (codes "X")) (call (x.Attr (dict (((int 1), (int 2)) ∷ [])) (codes "keys")) ([]))) ∷ []))

keys_listed_takes : fuel_left 5 keys_listed ≡ Some 0
keys_listed_takes = refl

keys_listed_is_spent : is_spent 4 keys_listed ≡ true
keys_listed_is_spent = refl

keys_listed_gives : named_global (codes "X") keys_listed ≡ Some (codes "[1]")
keys_listed_gives = refl

abbrev dictionary_updated : Statements
dictionary_updated = (block (
    on 1 marker ∷
    on 2 (x.Assign (x.ToName (codes "X")) (dict ([]))) ∷
    on 3 (x.Eval (call (x.Attr (name (codes "X")) (codes "update")) ((dict (((text (codes "ab")), (int 1)) ∷ [])) ∷ []))) ∷ []))

dictionary_updated_takes : fuel_left 10 dictionary_updated ≡ Some 0
dictionary_updated_takes = refl

dictionary_updated_is_spent : is_spent 9 dictionary_updated ≡ true
dictionary_updated_is_spent = refl

dictionary_updated_gives : named_global (codes "X") dictionary_updated ≡ Some (codes "{'ab': 1}")
dictionary_updated_gives = refl

abbrev text_searched : Statements
text_searched = (block (
    on 1 marker ∷
    on 2 (x.Assign (x.ToName (codes "X")) (x.Compare In (text (codes "ab")) (text (codes "cabd")))) ∷ []))

text_searched_takes : fuel_left 6 text_searched ≡ Some 0
text_searched_takes = refl

text_searched_is_spent : is_spent 5 text_searched ≡ true
text_searched_is_spent = refl

text_searched_gives : named_global (codes "X") text_searched ≡ Some (codes "True")
text_searched_gives = refl

abbrev items_unpacked : Statements
items_unpacked = (block (
    on 1 marker ∷
    on 2 (x.Assign (x.ToNames ((codes "X") ∷ (codes "Y") ∷ [])) (tuple ((int 1) ∷ (int 2) ∷ []))) ∷ []))

items_unpacked_takes : fuel_left 6 items_unpacked ≡ Some 0
items_unpacked_takes = refl

items_unpacked_is_spent : is_spent 5 items_unpacked ≡ true
items_unpacked_is_spent = refl

items_unpacked_gives : named_global (codes "X") items_unpacked ≡ Some (codes "1")
items_unpacked_gives = refl

abbrev list_added_to : Statements
list_added_to = (block (
    on 1 marker ∷
    on 2 (x.Assign (x.ToName (codes "X")) (list ((int 1) ∷ []))) ∷
    on 3 (x.Augment (x.ToName (codes "X")) Add (text (codes "ab"))) ∷ []))

list_added_to_takes : fuel_left 6 list_added_to ≡ Some 0
list_added_to_takes = refl

list_added_to_is_spent : is_spent 5 list_added_to ≡ true
list_added_to_is_spent = refl

list_added_to_gives : named_global (codes "X") list_added_to ≡ Some (codes "[1, 'a', 'b']")
list_added_to_gives = refl

abbrev least_of_a_list : Statements
least_of_a_list = (block (
    on 1 marker ∷
    on 2 (x.Assign (x.ToName (codes "X")) (call (name (codes "min")) ((list ((int 2) ∷ (int 1) ∷ [])) ∷ []))) ∷ []))

least_of_a_list_takes : fuel_left 7 least_of_a_list ≡ Some 0
least_of_a_list_takes = refl

least_of_a_list_is_spent : is_spent 6 least_of_a_list ≡ true
least_of_a_list_is_spent = refl

least_of_a_list_gives : named_global (codes "X") least_of_a_list ≡ Some (codes "1")
least_of_a_list_gives = refl

abbrev none_as_a_text : Statements
none_as_a_text = (block (
    on 1 marker ∷
    on 2 (x.Assign (x.ToName (codes "X")) (call (name (codes "str")) (none ∷ []))) ∷ []))

none_as_a_text_takes : fuel_left 7 none_as_a_text ≡ Some 0
none_as_a_text_takes = refl

none_as_a_text_is_spent : is_spent 6 none_as_a_text ≡ true
none_as_a_text_is_spent = refl

none_as_a_text_gives : named_global (codes "X") none_as_a_text ≡ Some (codes "'None'")
none_as_a_text_gives = refl

abbrev magnitude : Statements
magnitude = (block (
    on 1 marker ∷
    on 2 (x.Assign (x.ToName (codes "X")) (call (name (codes "abs")) ((x.Unary Minus (int 1)) ∷ []))) ∷ []))

magnitude_takes : fuel_left 3 magnitude ≡ Some 0
magnitude_takes = refl

magnitude_is_spent : is_spent 2 magnitude ≡ true
magnitude_is_spent = refl

magnitude_gives : named_global (codes "X") magnitude ≡ Some (codes "1")
magnitude_gives = refl

abbrev code_of_a_character : Statements
code_of_a_character = (block (
    on 1 marker ∷
    on 2 (x.Assign (x.ToName (codes "X")) (call (name (codes "ord")) ((text (codes "a")) ∷ []))) ∷ []))

code_of_a_character_takes : fuel_left 3 code_of_a_character ≡ Some 0
code_of_a_character_takes = refl

code_of_a_character_is_spent : is_spent 2 code_of_a_character ≡ true
code_of_a_character_is_spent = refl

code_of_a_character_gives : named_global (codes "X") code_of_a_character ≡ Some (codes "97")
code_of_a_character_gives = refl

abbrev character_of_a_code : Statements
character_of_a_code = (block (
    on 1 marker ∷
    on 2 (x.Assign (x.ToName (codes "X")) (call (name (codes "chr")) ((int 97) ∷ []))) ∷ []))

character_of_a_code_takes : fuel_left 3 character_of_a_code ≡ Some 0
character_of_a_code_takes = refl

character_of_a_code_is_spent : is_spent 2 character_of_a_code ≡ true
character_of_a_code_is_spent = refl

character_of_a_code_gives : named_global (codes "X") character_of_a_code ≡ Some (codes "'a'")
character_of_a_code_gives = refl

abbrev pub default_taken : Statements
default_taken = (block (
    on 1 marker ∷
    on 2 (x.Def (function (codes "f") (param (codes "a") ∷ param_or (codes "b") (int 2) ∷ []) (block (
    on 2 (x.Return (Some (x.Binary Add (name (codes "a")) (name (codes "b"))))) ∷ [])))) ∷
    on 3 (x.Assign (x.ToName (codes "X")) (call (name (codes "f")) ((int 1) ∷ []))) ∷ []))

default_taken_takes : fuel_left 5 default_taken ≡ Some 0
default_taken_takes = refl

default_taken_is_spent : is_spent 4 default_taken ≡ true
default_taken_is_spent = refl

default_taken_gives : named_global (codes "X") default_taken ≡ Some (codes "3")
default_taken_gives = refl
