-- Worked bodies, computed: larger bodies.
use Rattle.std.proofs.Common.{◌≡◌, refl}
use Rattle.std.specs.Prelude.{true, [], ◌∷◌, Some, None, codes}
use Rattle.py_tree.specs.Syntax as x
use Rattle.py_tree.specs.Syntax.{Statements}
use Rattle.py_tree.specs.declared.operator.BinaryOp.TheVariants.{Add, Sub, FloorDiv}
use Rattle.py_tree.specs.declared.operator.CompareOp.TheVariants.{Eq, Lt}
use Rattle.py_tree.specs.declared.operator.Const.TheVariants as constant
use Rattle.py_meaning.proofs.Programs.{int, text, none, name, list, dict, call, call_with, block, on, marker, param, function, tested, if_or, except, try_or, class}
use Rattle.py_meaning.proofs.Ends.{Finished, HasRaised, ended, holds, is_unbound}

abbrev linked_list_of_instances : Statements
linked_list_of_instances = (block (
    on 1 marker ∷
    on 2 (class (codes "Node") None (block (
    on 3 (x.Def (function (codes "__init__") (param (codes "self") ∷ param (codes "v") ∷ param (codes "next") ∷ []) (block (
    on 4 (x.Assign (x.ToAttr (name (codes "self")) (codes "v")) (name (codes "v"))) ∷
    on 5 (x.Assign (x.ToAttr (name (codes "self")) (codes "next")) (name (codes "next"))) ∷ [])))) ∷ []))) ∷
    on 6 (x.Assign (x.ToName (codes "HEAD")) none) ∷
    on 7 (x.For (x.ToName (codes "v")) (list ((int 3) ∷ (int 2) ∷ (int 1) ∷ [])) (block (
    on 8 (x.Assign (x.ToName (codes "HEAD")) (call (name (codes "Node")) ((name (codes "v")) ∷ (name (codes "HEAD")) ∷ []))) ∷
    []))) ∷
    on 9 (x.Assign (x.ToName (codes "OUT")) (list ([]))) ∷
    on 10 (x.Assign (x.ToName (codes "N")) (name (codes "HEAD"))) ∷
    on 11 (x.While (x.Is true (name (codes "N")) constant.Nil) (block (
    on 12 (x.Eval (call (x.Attr (name (codes "OUT")) (codes "append")) ((x.Attr (name (codes "N")) (codes "v")) ∷ []))) ∷
    on 13 (x.Assign (x.ToName (codes "N")) (x.Attr (name (codes "N")) (codes "next"))) ∷ []))) ∷ []))

linked_list_of_instances_ends : ended 50000 linked_list_of_instances ≡ record {
  end = Finished 44;
  globals = (holds (codes "Node")
      (codes "<class Node>") ∷ holds (codes "HEAD") (codes "<Node object>") ∷ holds (codes "v") (codes "1") ∷ holds (codes "OUT")
      (codes "[1, 2, 3]") ∷ holds (codes "N") (codes "None") ∷ []);
}
linked_list_of_instances_ends = refl

abbrev counted_letters : Statements
counted_letters = (block (
    on 1 marker ∷
    on 2 (x.Assign (x.ToName (codes "COUNT")) (dict ([]))) ∷
    on 3 (x.For (x.ToName (codes "c")) (text (codes "abcab")) (block (
    on 4 (x.Assign (x.ToIndex (name (codes "COUNT")) (name (codes "c"))) (x.Binary Add (call (x.Attr (name (codes "COUNT"))
    (codes "get")) ((name (codes "c")) ∷ (int 0) ∷ [])) (int 1))) ∷ []))) ∷
    on 5 (x.Assign (x.ToName (codes "BEST")) (call (name (codes "max")) ((call (x.Attr (name (codes "COUNT")) (codes "values")) ([]))
    ∷ []))) ∷ []))

counted_letters_ends : ended 50000 counted_letters ≡ record {
  end = Finished 37;
  globals = (holds (codes "COUNT") (codes
      "{'a': 2, 'b': 2, 'c': 1}") ∷ holds (codes "c") (codes "'b'") ∷ holds (codes "BEST") (codes "2") ∷ []);
}
counted_letters_ends = refl

abbrev errors_gathered_in_a_list : Statements
errors_gathered_in_a_list = (block (
    on 1 marker ∷
    on 2 (x.Assign (x.ToName (codes "ERRORS")) (list ([]))) ∷
    on 3 (x.For (x.ToName (codes "x")) (list ((int 0) ∷ (text (codes "a")) ∷ none ∷ (int 2) ∷ [])) (block (
    on 4 (try_or (block (
    on 5 (x.Eval (x.Binary FloorDiv (int 10) (name (codes "x")))) ∷
    on 6 (x.Eval (call (x.Attr (name (codes "ERRORS")) (codes "append")) ((text (codes "none")) ∷ []))) ∷ [])) (except (Some
    (name (codes "ZeroDivisionError"))) None (block (
    on 8 (x.Eval (call (x.Attr (name (codes "ERRORS")) (codes "append")) ((text (codes "zero")) ∷ []))) ∷ [])) ∷ except (Some
    (name (codes "TypeError"))) (Some (codes "e")) (block (
    on 10 (x.Eval (call (x.Attr (name (codes "ERRORS")) (codes "append")) ((name (codes "e")) ∷ []))) ∷ [])) ∷ [])) ∷ []))) ∷
    []))

errors_gathered_in_a_list_ends : ended 50000 errors_gathered_in_a_list ≡ record {
  end = Finished 27;
  globals = (holds (codes
      "ERRORS") (codes "['zero', TypeError(), TypeError(), 'none']") ∷ holds (codes "x") (codes "2") ∷ is_unbound (codes "e") ∷ []);
}
errors_gathered_in_a_list_ends = refl

abbrev shared_lists_in_several_places : Statements
shared_lists_in_several_places = (block (
    on 1 marker ∷
    on 2 (x.Assign (x.ToName (codes "ROW")) (list ((int 0) ∷ []))) ∷
    on 3 (x.Assign (x.ToName (codes "GRID")) (list ((name (codes "ROW")) ∷ (name (codes "ROW")) ∷ (call (x.Attr (name (codes "ROW"))
    (codes "copy")) ([])) ∷ []))) ∷
    on 4 (x.Eval (call (x.Attr (x.Index (name (codes "GRID")) (int 0)) (codes "append")) ((int 1) ∷ []))) ∷
    on 5 (x.Assign (x.ToIndex (x.Index (name (codes "GRID")) (int 2)) (int 0)) (int 7)) ∷
    on 6 (x.Assign (x.ToName (codes "SAME")) (x.Compare Eq (x.Index (name (codes "GRID")) (int 0)) (x.Index (name (codes "GRID"))
    (int 1)))) ∷ []))

shared_lists_in_several_places_ends : ended 50000 shared_lists_in_several_places ≡ record {
  end = Finished 15;
  globals = (holds
      (codes "ROW") (codes "[0, 1]") ∷ holds (codes "GRID") (codes "[[0, 1], [0, 1], [7]]") ∷ holds (codes "SAME") (codes "True") ∷ []);
}
shared_lists_in_several_places_ends = refl

abbrev function_table : Statements
function_table = (block (
    on 1 marker ∷
    on 2 (x.Def (function (codes "add") (param (codes "a") ∷ param (codes "b") ∷ []) (block (
    on 3 (x.Return (Some (x.Binary Add (name (codes "a")) (name (codes "b"))))) ∷ [])))) ∷
    on 4 (x.Def (function (codes "sub") (param (codes "a") ∷ param (codes "b") ∷ []) (block (
    on 5 (x.Return (Some (x.Binary Sub (name (codes "a")) (name (codes "b"))))) ∷ [])))) ∷
    on 6 (x.Assign (x.ToName (codes "OPS")) (dict (((text (codes "+")), (name (codes "add"))) ∷ (
      (text (codes "-")),
      (name (codes
          "sub")),
    ) ∷ []))) ∷
    on 7 (x.Assign (x.ToName (codes "X")) (call (x.Index (name (codes "OPS")) (text (codes "+"))) ((int 5) ∷ (int 3) ∷ []))) ∷
    on 8 (x.Assign (x.ToName (codes "Y")) (call_with (x.Index (name (codes "OPS")) (text (codes "-"))) ((int 5) ∷ []) ((
      (codes "b"),
      (int 3),
    ) ∷ []))) ∷ []))

function_table_ends : ended 50000 function_table ≡ record {
  end = Finished 16;
  globals = (holds (codes "add") (codes
      "<function add>") ∷ holds (codes "sub") (codes "<function sub>") ∷ holds (codes "OPS") (codes
      "{'+': <function add>, '-': <function sub>}") ∷ holds (codes "X") (codes "8") ∷ holds (codes "Y") (codes "2") ∷ []);
}
function_table_ends = refl

abbrev fault_line_after_texts_and_joined_lines : Statements
fault_line_after_texts_and_joined_lines = (block (
    on 1 marker ∷
    on 2 (x.Assign (x.ToName (codes "X")) (text (10 ∷ 97 ∷ 10 ∷ []))) ∷
    on 5 (x.Assign (x.ToName (codes "Y")) (x.Binary Add (int 1) (int 2))) ∷
    on 9 (x.Assign (x.ToName (codes "Z")) (list ((name (codes "Y")) ∷ (x.Binary FloorDiv (name (codes "Y")) (int 0)) ∷ []))) ∷ []))

fault_line_after_texts_and_joined_lines_ends : ended 50000 fault_line_after_texts_and_joined_lines ≡ record {
  end = HasRaised 4 9
      (codes "ZeroDivisionError");
  globals = (holds (codes "X") (39 ∷ 92 ∷ 110 ∷ 97 ∷ 92 ∷ 110 ∷ 39 ∷ []) ∷ holds (codes "Y") (codes
      "3") ∷ is_unbound (codes "Z") ∷ []);
}
fault_line_after_texts_and_joined_lines_ends = refl

abbrev blocks_on_one_line : Statements
blocks_on_one_line = (block (
    on 1 marker ∷
    on 2 (x.Assign (x.ToName (codes "X")) (int 3)) ∷
    on 3 (x.While (name (codes "X")) (block (
    on 3 (x.Augment (x.ToName (codes "X")) Sub (int 1)) ∷ []))) ∷
    on 4 (x.For (x.ToName (codes "i")) (list ((int 1) ∷ (int 2) ∷ [])) (block (
    on 4 (x.Augment (x.ToName (codes "X")) Add (name (codes "i"))) ∷ []))) ∷
    on 5 (if_or (tested 5 (x.Compare Eq (name (codes "X")) (int 3)) (block (
    on 5 (x.Assign (x.ToName (codes "Y")) (text (codes "three"))) ∷ [])) ∷ []) (block (
    on 6 (x.Assign (x.ToName (codes "Y")) (text (codes "other"))) ∷ []))) ∷ []))

blocks_on_one_line_ends : ended 50000 blocks_on_one_line ≡ record {
  end = Finished 18;
  globals = (holds (codes "X") (codes "3") ∷
      holds (codes "i") (codes "2") ∷ holds (codes "Y") (codes "'three'") ∷ []);
}
blocks_on_one_line_ends = refl

abbrev raise_again_in_a_loop_in_a_clause : Statements
raise_again_in_a_loop_in_a_clause = (block (
    on 1 marker ∷
    on 2 (x.Assign (x.ToName (codes "N")) (int 0)) ∷
    on 3 (try_or (block (
    on 4 (try_or (block (
    on 5 (x.Raise (Some (call (name (codes "KeyError")) ((text (codes "k")) ∷ [])))) ∷ [])) (except (Some (name (codes
    "KeyError"))) None (block (
    on 7 (x.While x.True (block (
    on 8 (x.Augment (x.ToName (codes "N")) Add (int 1)) ∷
    on 9 (if_or (tested 9 (x.Compare Eq (name (codes "N")) (int 2)) (block (
    on 10 (x.Raise None) ∷ [])) ∷ []) x.end_of_statements) ∷ []))) ∷ [])) ∷ [])) ∷ [])) (except (Some (name (codes
    "LookupError"))) (Some (codes "e")) (block (
    on 12 (x.Assign (x.ToName (codes "X")) (x.Attr (name (codes "e")) (codes "args"))) ∷ [])) ∷ [])) ∷ []))

raise_again_in_a_loop_in_a_clause_ends : ended 50000 raise_again_in_a_loop_in_a_clause ≡ record {
  end = Finished 16;
  globals = (holds
      (codes "N") (codes "2") ∷ is_unbound (codes "e") ∷ holds (codes "X") (codes "('k',)") ∷ []);
}
raise_again_in_a_loop_in_a_clause_ends = refl

abbrev exception_object_raised_twice : Statements
exception_object_raised_twice = (block (
    on 1 marker ∷
    on 2 (x.Assign (x.ToName (codes "E")) (call (name (codes "ValueError")) ((text (codes "x")) ∷ []))) ∷
    on 3 (x.Assign (x.ToName (codes "N")) (list ([]))) ∷
    on 4 (x.For (x.ToName (codes "i")) (call (name (codes "range")) ((int 2) ∷ [])) (block (
    on 5 (try_or (block (
    on 6 (x.Raise (Some (name (codes "E")))) ∷ [])) (except (Some (name (codes "ValueError"))) (Some (codes "e")) (block (
    on 8 (x.Eval (call (x.Attr (name (codes "N")) (codes "append")) ((x.Compare Eq (name (codes "e")) (name (codes "E"))) ∷
    []))) ∷ [])) ∷ [])) ∷ []))) ∷ []))

exception_object_raised_twice_ends : ended 50000 exception_object_raised_twice ≡ record {
  end = Finished 17;
  globals = (holds (codes
      "E") (codes "ValueError('x')") ∷ holds (codes "N") (codes "[True, True]") ∷ holds (codes "i") (codes "1") ∷ is_unbound (codes
      "e") ∷ []);
}
exception_object_raised_twice_ends = refl

abbrev bound_methods_compared_and_called : Statements
bound_methods_compared_and_called = (block (
    on 1 marker ∷
    on 2 (x.Assign (x.ToName (codes "L")) (list ([]))) ∷
    on 3 (x.Assign (x.ToName (codes "A")) (x.Attr (name (codes "L")) (codes "append"))) ∷
    on 4 (x.Eval (call (name (codes "A")) ((int 1) ∷ []))) ∷
    on 5 (x.Assign (x.ToName (codes "B")) (list ((x.Compare Eq (name (codes "A")) (x.Attr (name (codes "L")) (codes "append"))) ∷
    (x.Compare Eq (name (codes "A")) (x.Attr (list ([])) (codes "append"))) ∷ (x.Compare Eq (x.Attr (text (codes "x")) (codes
    "join")) (x.Attr (text (codes "x")) (codes "join"))) ∷ []))) ∷ []))

bound_methods_compared_and_called_ends : ended 50000 bound_methods_compared_and_called ≡ record {
  end = Finished 10;
  globals = (holds
      (codes "L") (codes "[1]") ∷ holds (codes "A") (codes "<bound method append>") ∷ holds (codes "B") (codes "[True, False, True]") ∷
      []);
}
bound_methods_compared_and_called_ends = refl

abbrev min_and_max_and_their_costs : Statements
min_and_max_and_their_costs = (block (
    on 1 marker ∷
    on 2 (x.Assign (x.ToName (codes "A")) (call (name (codes "min")) ((list ((int 3) ∷ (int 1) ∷ (int 2) ∷ [])) ∷ []))) ∷
    on 3 (x.Assign (x.ToName (codes "B")) (call (name (codes "max")) ((text (codes "abcb")) ∷ []))) ∷
    on 4 (x.Assign (x.ToName (codes "C")) (call (name (codes "min")) ((text (codes "xyz")) ∷ (text (codes "xy")) ∷ (text (codes
    "xyzz")) ∷ []))) ∷ []))

min_and_max_and_their_costs_ends : ended 50000 min_and_max_and_their_costs ≡ record {
  end = Finished 24;
  globals = (holds (codes "A")
      (codes "1") ∷ holds (codes "B") (codes "'c'") ∷ holds (codes "C") (codes "'xy'") ∷ []);
}
min_and_max_and_their_costs_ends = refl

abbrev order_of_nested_lists : Statements
order_of_nested_lists = (block (
    on 1 marker ∷
    on 2 (x.Assign (x.ToName (codes "A")) (x.Compare Lt (list ((list ((int 1) ∷ (text (codes "ab")) ∷ [])) ∷ (int 3) ∷ [])) (list
    ((list ((int 1) ∷ (text (codes "ac")) ∷ [])) ∷ (int 2) ∷ [])))) ∷ []))

order_of_nested_lists_ends : ended 50000 order_of_nested_lists ≡ record {
  end = Finished 21;
  globals = (holds (codes "A") (codes
      "True") ∷ []);
}
order_of_nested_lists_ends = refl
