-- Worked bodies, computed: statements and expressions.
use Rattle.std.proofs.Common.{◌≡◌, refl}
use Rattle.std.specs.Prelude.{[], ◌∷◌, Some, None, codes}
use Rattle.py_tree.specs.Syntax as x
use Rattle.py_tree.specs.Syntax.{Statements}
use Rattle.py_tree.specs.declared.operator.UnaryOp.TheVariants.{Minus}
use Rattle.py_tree.specs.declared.operator.BinaryOp.TheVariants.{Add, Mul, FloorDiv, Mod}
use Rattle.py_tree.specs.declared.operator.CompareOp.TheVariants.{Eq, Lt, In}
use Rattle.py_meaning.proofs.Programs.{int, text, none, name, tuple, list, dict, call, block, on, marker, tested, if_or}
use Rattle.py_meaning.proofs.Ends.{Finished, ended, holds, is_unbound}

abbrev marker_alone : Statements
marker_alone = (block (
    on 1 marker ∷ []))

marker_alone_ends : ended 50000 marker_alone ≡ record { end = Finished 1; globals = ([]) }
marker_alone_ends = refl

abbrev two_assignments : Statements
two_assignments = (block (
    on 1 marker ∷
    on 2 (x.Assign (x.ToName (codes "X")) (int 1)) ∷
    on 3 (x.Assign (x.ToName (codes "Y")) (x.Binary Add (name (codes "X")) (int 2))) ∷ []))

two_assignments_ends : ended 50000 two_assignments ≡ record {
  end = Finished 3;
  globals = (holds (codes "X") (codes "1") ∷ holds
      (codes "Y") (codes "3") ∷ []);
}
two_assignments_ends = refl

abbrev second_marker_and_a_text_alone : Statements
second_marker_and_a_text_alone = (block (
    on 1 marker ∷
    on 2 marker ∷
    on 3 (x.Eval (text (codes "text"))) ∷ []))

second_marker_and_a_text_alone_ends : ended 50000 second_marker_and_a_text_alone ≡ record { end = Finished 3; globals = ([]) }
second_marker_and_a_text_alone_ends = refl

abbrev pub texts_and_containers : Statements
texts_and_containers = (block (
    on 1 marker ∷
    on 2 (x.Assign (x.ToName (codes "A")) (x.Binary Add (text (codes "ab")) (text (codes "c")))) ∷
    on 3 (x.Assign (x.ToName (codes "B")) (list ((int 1) ∷ (text (codes "x")) ∷ none ∷ []))) ∷
    on 4 (x.Assign (x.ToName (codes "C")) (tuple ((name (codes "A")) ∷ (name (codes "B")) ∷ []))) ∷
    on 5 (x.Assign (x.ToName (codes "D")) (dict (((text (codes "k")), (name (codes "B"))) ∷ ((int 2), (tuple ([]))) ∷ []))) ∷
    on 6 (x.Assign (x.ToName (codes "E")) (call (name (codes "range")) ((int 1) ∷ (int 7) ∷ (int 2) ∷ []))) ∷ []))

texts_and_containers_ends : ended 50000 texts_and_containers ≡ record {
  end = Finished 18;
  globals = (holds (codes "A") (codes
      "'abc'") ∷ holds (codes "B") (codes "[1, 'x', None]") ∷ holds (codes "C") (codes "('abc', [1, 'x', None])") ∷ holds (codes "D")
      (codes "{'k': [1, 'x', None], 2: ()}") ∷ holds (codes "E") (codes "range(1, 7, 2)") ∷ []);
}
texts_and_containers_ends = refl

abbrev arithmetic_on_the_way : Statements
arithmetic_on_the_way = (block (
    on 1 marker ∷
    on 2 (x.Assign (x.ToName (codes "A")) (x.Binary FloorDiv (int 7) (x.Unary Minus (int 2)))) ∷
    on 3 (x.Assign (x.ToName (codes "B")) (x.Binary Mod (int 7) (x.Unary Minus (int 2)))) ∷
    on 4 (x.Assign (x.ToName (codes "C")) (x.Binary Add (x.Binary Mul (x.Unary Minus (name (codes "A"))) (name (codes "B"))) x.True)) ∷
    on 5 (x.Assign (x.ToName (codes "D")) (x.Not (name (codes "A")))) ∷ []))

arithmetic_on_the_way_ends : ended 50000 arithmetic_on_the_way ≡ record {
  end = Finished 5;
  globals = (holds (codes "A") (codes "-4")
      ∷ holds (codes "B") (codes "-1") ∷ holds (codes "C") (codes "-3") ∷ holds (codes "D") (codes "False") ∷ []);
}
arithmetic_on_the_way_ends = refl

abbrev operands_of_and_or : Statements
operands_of_and_or = (block (
    on 1 marker ∷
    on 2 (x.Assign (x.ToName (codes "A")) (x.Or (int 0) (text (codes "x")))) ∷
    on 3 (x.Assign (x.ToName (codes "B")) (x.And (list ([])) (x.Binary FloorDiv (int 1) (int 0)))) ∷
    on 4 (x.Assign (x.ToName (codes "C")) (x.And (name (codes "A")) (name (codes "B")))) ∷
    on 5 (x.Assign (x.ToName (codes "D")) (x.Cond (name (codes "B")) (int 1) (int 2))) ∷ []))

operands_of_and_or_ends : ended 50000 operands_of_and_or ≡ record {
  end = Finished 5;
  globals = (holds (codes "A") (codes "'x'") ∷
      holds (codes "B") (codes "[]") ∷ holds (codes "C") (codes "[]") ∷ holds (codes "D") (codes "2") ∷ []);
}
operands_of_and_or_ends = refl

abbrev comparisons_and_their_costs : Statements
comparisons_and_their_costs = (block (
    on 1 marker ∷
    on 2 (x.Assign (x.ToName (codes "A")) (x.Compare Eq (text (codes "abc")) (text (codes "abd")))) ∷
    on 3 (x.Assign (x.ToName (codes "B")) (x.Compare Eq (list ((int 1) ∷ (text (codes "xy")) ∷ [])) (list ((int 1) ∷ (text (codes
    "xy")) ∷ [])))) ∷
    on 4 (x.Assign (x.ToName (codes "C")) (x.Compare Lt (tuple ((int 1) ∷ (int 2) ∷ [])) (tuple ((int 1) ∷ (int 3) ∷ [])))) ∷
    on 5 (x.Assign (x.ToName (codes "D")) (x.Compare In (text (codes "b")) (text (codes "abc")))) ∷
    on 6 (x.Assign (x.ToName (codes "E")) (x.Compare In (int 3) (list ((int 1) ∷ (int 2) ∷ (int 3) ∷ [])))) ∷
    on 7 (x.Assign (x.ToName (codes "F")) (x.Compare Eq (dict (((text (codes "ab")), (int 1)) ∷ [])) (dict ((
      (text (codes "ab")),
      (int 1),
    ) ∷ [])))) ∷ []))

comparisons_and_their_costs_ends : ended 50000 comparisons_and_their_costs ≡ record {
  end = Finished 42;
  globals = (holds (codes "A")
      (codes "False") ∷ holds (codes "B") (codes "True") ∷ holds (codes "C") (codes "True") ∷ holds (codes "D") (codes "True") ∷ holds
      (codes "E") (codes "True") ∷ holds (codes "F") (codes "True") ∷ []);
}
comparisons_and_their_costs_ends = refl

abbrev subscripts_cost_nothing_but_keys : Statements
subscripts_cost_nothing_but_keys = (block (
    on 1 marker ∷
    on 2 (x.Assign (x.ToName (codes "L")) (list ((int 5) ∷ (int 6) ∷ []))) ∷
    on 3 (x.Assign (x.ToName (codes "A")) (x.Binary Add (x.Index (name (codes "L")) (int 0)) (x.Index (name (codes "L")) (x.Unary
    Minus (int 1))))) ∷
    on 4 (x.Assign (x.ToName (codes "D")) (dict (((text (codes "abc")), (int 1)) ∷ []))) ∷
    on 5 (x.Assign (x.ToName (codes "B")) (x.Index (name (codes "D")) (text (codes "abc")))) ∷
    on 6 (x.Assign (x.ToIndex (name (codes "D")) (text (codes "abc"))) (int 2)) ∷
    on 7 (x.Assign (x.ToIndex (name (codes "D")) (text (codes "x"))) (int 3)) ∷ []))

subscripts_cost_nothing_but_keys_ends : ended 50000 subscripts_cost_nothing_but_keys ≡ record {
  end = Finished 20;
  globals = (holds
      (codes "L") (codes "[5, 6]") ∷ holds (codes "A") (codes "11") ∷ holds (codes "D") (codes "{'abc': 2, 'x': 3}") ∷ holds (codes
      "B") (codes "1") ∷ []);
}
subscripts_cost_nothing_but_keys_ends = refl

abbrev if_and_elif : Statements
if_and_elif = (block (
    on 1 marker ∷
    on 2 (x.Assign (x.ToName (codes "X")) (int 3)) ∷
    on 3 (if_or (tested 3 (x.Compare Eq (name (codes "X")) (int 1)) (block (
    on 4 (x.Assign (x.ToName (codes "Y")) (text (codes "one"))) ∷ [])) ∷ tested 5 (x.Compare Eq (name (codes "X")) (int 2)) (block (
    on 6 (x.Assign (x.ToName (codes "Y")) (text (codes "two"))) ∷ [])) ∷ []) (block (
    on 8 (x.Assign (x.ToName (codes "Y")) (text (codes "many"))) ∷
    on 9 (x.Assign (x.ToName (codes "Z")) (int 0)) ∷ []))) ∷ []))

if_and_elif_ends : ended 50000 if_and_elif ≡ record {
  end = Finished 5;
  globals = (holds (codes "X") (codes "3") ∷ holds (codes "Y")
      (codes "'many'") ∷ holds (codes "Z") (codes "0") ∷ []);
}
if_and_elif_ends = refl

abbrev while_loop : Statements
while_loop = (block (
    on 1 marker ∷
    on 2 (x.Assign (x.ToName (codes "N")) (int 0)) ∷
    on 3 (x.While (x.Compare Lt (name (codes "N")) (int 4)) (block (
    on 4 (x.Augment (x.ToName (codes "N")) Add (int 1)) ∷ []))) ∷ []))

while_loop_ends : ended 50000 while_loop ≡ record { end = Finished 11; globals = (holds (codes "N") (codes "4") ∷ []) }
while_loop_ends = refl

abbrev for_loop_with_break_and_continue : Statements
for_loop_with_break_and_continue = (block (
    on 1 marker ∷
    on 2 (x.Assign (x.ToName (codes "OUT")) (list ([]))) ∷
    on 3 (x.For (x.ToName (codes "i")) (call (name (codes "range")) ((int 10) ∷ [])) (block (
    on 4 (if_or (tested 4 (x.Compare Eq (name (codes "i")) (int 1)) (block (
    on 5 x.Continue ∷ [])) ∷ []) x.end_of_statements) ∷
    on 6 (if_or (tested 6 (x.Compare Eq (name (codes "i")) (int 3)) (block (
    on 7 x.Break ∷ [])) ∷ []) x.end_of_statements) ∷
    on 8 (x.Eval (call (x.Attr (name (codes "OUT")) (codes "append")) ((name (codes "i")) ∷ []))) ∷ []))) ∷ []))

for_loop_with_break_and_continue_ends : ended 50000 for_loop_with_break_and_continue ≡ record {
  end = Finished 21;
  globals = (holds
      (codes "OUT") (codes "[0, 2]") ∷ holds (codes "i") (codes "3") ∷ []);
}
for_loop_with_break_and_continue_ends = refl

abbrev for_loop_over_a_dictionary : Statements
for_loop_over_a_dictionary = (block (
    on 1 marker ∷
    on 2 (x.Assign (x.ToName (codes "S")) (int 0)) ∷
    on 3 (x.For (x.ToName (codes "k")) (dict (((int 1), (text (codes "a"))) ∷ ((int 2), (text (codes "b"))) ∷ [])) (block (
    on 4 (x.Augment (x.ToName (codes "S")) Add (name (codes "k"))) ∷ []))) ∷ []))

for_loop_over_a_dictionary_ends : ended 50000 for_loop_over_a_dictionary ≡ record {
  end = Finished 9;
  globals = (holds (codes "S")
      (codes "3") ∷ holds (codes "k") (codes "2") ∷ []);
}
for_loop_over_a_dictionary_ends = refl

abbrev for_loop_with_unpacking : Statements
for_loop_with_unpacking = (block (
    on 1 marker ∷
    on 2 (x.Assign (x.ToName (codes "A")) (list ([]))) ∷
    on 3 (x.For (x.ToNames ((codes "k") ∷ (codes "v") ∷ [])) (call (x.Attr (dict (((text (codes "x")), (int 1)) ∷ [])) (codes
    "items")) ([])) (block (
    on 4 (x.Augment (x.ToName (codes "A")) Add (list ((name (codes "v")) ∷ (name (codes "k")) ∷ []))) ∷ []))) ∷ []))

for_loop_with_unpacking_ends : ended 50000 for_loop_with_unpacking ≡ record {
  end = Finished 15;
  globals = (holds (codes "A") (codes
      "[1, 'x']") ∷ holds (codes "k") (codes "'x'") ∷ holds (codes "v") (codes "1") ∷ []);
}
for_loop_with_unpacking_ends = refl

abbrev loop_that_sees_appended_items : Statements
loop_that_sees_appended_items = (block (
    on 1 marker ∷
    on 2 (x.Assign (x.ToName (codes "L")) (list ((int 1) ∷ []))) ∷
    on 3 (x.For (x.ToName (codes "x")) (name (codes "L")) (block (
    on 4 (if_or (tested 4 (x.Compare Lt (name (codes "x")) (int 4)) (block (
    on 5 (x.Eval (call (x.Attr (name (codes "L")) (codes "append")) ((x.Binary Add (name (codes "x")) (int 1)) ∷ []))) ∷ []))
    ∷ []) x.end_of_statements) ∷ []))) ∷ []))

loop_that_sees_appended_items_ends : ended 50000 loop_that_sees_appended_items ≡ record {
  end = Finished 18;
  globals = (holds (codes
      "L") (codes "[1, 2, 3, 4]") ∷ holds (codes "x") (codes "4") ∷ []);
}
loop_that_sees_appended_items_ends = refl

abbrev unpacking_at_module_level : Statements
unpacking_at_module_level = (block (
    on 1 marker ∷
    on 2 (x.Assign (x.ToNames ((codes "a") ∷ (codes "b") ∷ [])) (text (codes "xy"))) ∷
    on 3 (x.Assign (x.ToNames ((codes "c") ∷ (codes "d") ∷ (codes "e") ∷ [])) (call (name (codes "range")) ((int 3) ∷ []))) ∷
    on 4 (x.Assign (x.ToNames ((codes "a") ∷ (codes "b") ∷ [])) (tuple ((name (codes "b")) ∷ (name (codes "a")) ∷ []))) ∷ []))

unpacking_at_module_level_ends : ended 50000 unpacking_at_module_level ≡ record {
  end = Finished 14;
  globals = (holds (codes "a")
      (codes "'y'") ∷ holds (codes "b") (codes "'x'") ∷ holds (codes "c") (codes "0") ∷ holds (codes "d") (codes "1") ∷ holds (codes
      "e") (codes "2") ∷ []);
}
unpacking_at_module_level_ends = refl

abbrev augmented_list_and_tuple : Statements
augmented_list_and_tuple = (block (
    on 1 marker ∷
    on 2 (x.Assign (x.ToName (codes "L")) (list ((int 1) ∷ []))) ∷
    on 3 (x.Assign (x.ToName (codes "M")) (name (codes "L"))) ∷
    on 4 (x.Augment (x.ToName (codes "L")) Add (tuple ((int 2) ∷ (int 3) ∷ []))) ∷
    on 5 (x.Assign (x.ToName (codes "T")) (tuple ((int 1) ∷ []))) ∷
    on 6 (x.Assign (x.ToName (codes "U")) (name (codes "T"))) ∷
    on 7 (x.Augment (x.ToName (codes "T")) Add (tuple ((int 2) ∷ []))) ∷ []))

augmented_list_and_tuple_ends : ended 50000 augmented_list_and_tuple ≡ record {
  end = Finished 16;
  globals = (holds (codes "L")
      (codes "[1, 2, 3]") ∷ holds (codes "M") (codes "[1, 2, 3]") ∷ holds (codes "T") (codes "(1, 2)") ∷ holds (codes "U") (codes
      "(1,)") ∷ []);
}
augmented_list_and_tuple_ends = refl

abbrev augmented_item_of_a_dictionary : Statements
augmented_item_of_a_dictionary = (block (
    on 1 marker ∷
    on 2 (x.Assign (x.ToName (codes "D")) (dict (((text (codes "ab")), (int 1)) ∷ []))) ∷
    on 3 (x.Augment (x.ToIndex (name (codes "D")) (text (codes "ab"))) Add (int 1)) ∷ []))

augmented_item_of_a_dictionary_ends : ended 50000 augmented_item_of_a_dictionary ≡ record {
  end = Finished 10;
  globals = (holds
      (codes "D") (codes "{'ab': 2}") ∷ []);
}
augmented_item_of_a_dictionary_ends = refl

abbrev annotations_bind_and_cost_one : Statements
annotations_bind_and_cost_one = (block (
    on 1 marker ∷
    on 2 (x.Annotate (x.ToName (codes "x")) (name (codes "int")) None) ∷
    on 3 (x.Annotate (x.ToName (codes "y")) (name (codes "nothing")) (Some (int 5))) ∷
    on 4 (x.Annotate (x.ToName (codes "z")) (name (codes "str")) (Some (text (codes "a")))) ∷ []))

annotations_bind_and_cost_one_ends : ended 50000 annotations_bind_and_cost_one ≡ record {
  end = Finished 4;
  globals = (is_unbound
      (codes "x") ∷ holds (codes "y") (codes "5") ∷ holds (codes "z") (codes "'a'") ∷ []);
}
annotations_bind_and_cost_one_ends = refl

abbrev expression_statements : Statements
expression_statements = (block (
    on 1 marker ∷
    on 2 (x.Eval (x.Binary Add (int 1) (int 2))) ∷
    on 3 (x.Eval (x.Binary Add (text (codes "ab")) (text (codes "cd")))) ∷
    on 4 (x.Eval (list ((int 1) ∷ (int 2) ∷ []))) ∷ []))

expression_statements_ends : ended 50000 expression_statements ≡ record { end = Finished 10; globals = ([]) }
expression_statements_ends = refl

abbrev dictionary_methods : Statements
dictionary_methods = (block (
    on 1 marker ∷
    on 2 (x.Assign (x.ToName (codes "D")) (dict (((text (codes "a")), (int 1)) ∷ ((text (codes "b")), (int 2)) ∷ []))) ∷
    on 3 (x.Assign (x.ToName (codes "K")) (call (x.Attr (name (codes "D")) (codes "keys")) ([]))) ∷
    on 4 (x.Assign (x.ToName (codes "I")) (call (x.Attr (name (codes "D")) (codes "items")) ([]))) ∷
    on 5 (x.Assign (x.ToName (codes "E")) (call (x.Attr (name (codes "D")) (codes "copy")) ([]))) ∷
    on 6 (x.Eval (call (x.Attr (name (codes "E")) (codes "update")) ((dict (((text (codes "a")), (int 5)) ∷ [])) ∷ []))) ∷
    on 7 (x.Assign (x.ToName (codes "G")) (call (x.Attr (name (codes "D")) (codes "get")) ((text (codes "a")) ∷ []))) ∷ []))

dictionary_methods_ends : ended 50000 dictionary_methods ≡ record {
  end = Finished 27;
  globals = (holds (codes "D") (codes
      "{'a': 1, 'b': 2}") ∷ holds (codes "K") (codes "['a', 'b']") ∷ holds (codes "I") (codes "[('a', 1), ('b', 2)]") ∷ holds (codes
      "E") (codes "{'a': 5, 'b': 2}") ∷ holds (codes "G") (codes "1") ∷ []);
}
dictionary_methods_ends = refl

abbrev equal_keys_in_a_display : Statements
equal_keys_in_a_display = (block (
    on 1 marker ∷
    on 2 (x.Assign (x.ToName (codes "D")) (dict (((int 1), (text (codes "a"))) ∷ (x.True, (text (codes "b"))) ∷ (
      (int 0),
      (text
          (codes "c")),
    ) ∷ (x.False, (text (codes "d"))) ∷ ((text (codes "1")), (text (codes "e"))) ∷ []))) ∷ []))

equal_keys_in_a_display_ends : ended 50000 equal_keys_in_a_display ≡ record {
  end = Finished 8;
  globals = (holds (codes "D") (codes
      "{1: 'b', 0: 'd', '1': 'e'}") ∷ []);
}
equal_keys_in_a_display_ends = refl

abbrev tuple_keys : Statements
tuple_keys = (block (
    on 1 marker ∷
    on 2 (x.Assign (x.ToName (codes "D")) (dict (((tuple ((int 1) ∷ (text (codes "ab")) ∷ [])), (int 1)) ∷ []))) ∷
    on 3 (x.Assign (x.ToName (codes "X")) (x.Index (name (codes "D")) (tuple (x.True ∷ (text (codes "ab")) ∷ [])))) ∷ []))

tuple_keys_ends : ended 50000 tuple_keys ≡ record {
  end = Finished 16;
  globals = (holds (codes "D") (codes "{(1, 'ab'): 1}") ∷ holds
      (codes "X") (codes "1") ∷ []);
}
tuple_keys_ends = refl
