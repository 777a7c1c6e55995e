-- Worked bodies, computed: spent fuel.
use Rattle.std.proofs.Common.{◌≡◌, refl}
use Rattle.std.specs.Prelude.{[], ◌∷◌, Some, None, codes}
use Rattle.py_tree.specs.Syntax as x
use Rattle.py_tree.specs.Syntax.{Statements}
use Rattle.py_tree.specs.declared.operator.BinaryOp.TheVariants.{Add}
use Rattle.py_tree.specs.declared.operator.CompareOp.TheVariants.{Eq}
use Rattle.py_meaning.proofs.Programs.{int, text, name, list, dict, call, block, on, marker, param, param_or, function, tested, if_or, except, try_or, class}
use Rattle.py_meaning.proofs.Ends.{Finished, HasRaised, HasSpent, ended, holds, is_unbound}

abbrev endless_loop : Statements
endless_loop = (block (
    on 1 marker ∷
    on 2 (x.Assign (x.ToName (codes "X")) (int 0)) ∷
    on 3 (x.While x.True (block (
    on 4 (x.Augment (x.ToName (codes "X")) Add (int 1)) ∷ []))) ∷ []))

endless_loop_ends : ended 50000 endless_loop ≡ record { end = HasSpent 50000 4; globals = (holds (codes "X") (codes "24998") ∷ []) }
endless_loop_ends = refl

abbrev endless_loop_in_a_function : Statements
endless_loop_in_a_function = (block (
    on 1 marker ∷
    on 2 (x.Def (function (codes "f") ([]) (block (
    on 3 (x.While x.True (block (
    on 4 x.Pass ∷ []))) ∷ [])))) ∷
    on 5 (x.Assign (x.ToName (codes "X")) (int 1)) ∷
    on 6 (x.Eval (call (name (codes "f")) ([]))) ∷ []))

endless_loop_in_a_function_ends : ended 50000 endless_loop_in_a_function ≡ record {
  end = HasSpent 50000 6;
  globals = (holds (codes
      "f") (codes "<function f>") ∷ holds (codes "X") (codes "1") ∷ []);
}
endless_loop_in_a_function_ends = refl

abbrev endless_recursion_is_no_spent_fuel : Statements
endless_recursion_is_no_spent_fuel = (block (
    on 1 marker ∷
    on 2 (x.Def (function (codes "f") ([]) (block (
    on 3 (x.Return (Some (call (name (codes "f")) ([])))) ∷ [])))) ∷
    on 4 (x.Eval (call (name (codes "f")) ([]))) ∷ []))

endless_recursion_is_no_spent_fuel_ends : ended 50000 endless_recursion_is_no_spent_fuel ≡ record {
  end = HasRaised 514 4 (codes
      "RecursionError");
  globals = (holds (codes "f") (codes "<function f>") ∷ []);
}
endless_recursion_is_no_spent_fuel_ends = refl

abbrev fuel_exactly_enough : Statements
fuel_exactly_enough = (block (
    on 1 marker ∷
    on 2 (x.Def (function (codes "f") (param (codes "a") ∷ param_or (codes "b") (int 2) ∷ []) (block (
    on 2 (x.Return (Some (x.Binary Add (name (codes "a")) (name (codes "b"))))) ∷ [])))) ∷
    on 3 (x.Assign (x.ToName (codes "X")) (call (name (codes "f")) ((int 1) ∷ []))) ∷ []))

fuel_exactly_enough_ends : ended 5 fuel_exactly_enough ≡ record {
  end = Finished 5;
  globals = (holds (codes "f") (codes
      "<function f>") ∷ holds (codes "X") (codes "3") ∷ []);
}
fuel_exactly_enough_ends = refl

abbrev fuel_one_too_few : Statements
fuel_one_too_few = (block (
    on 1 marker ∷
    on 2 (x.Def (function (codes "f") (param (codes "a") ∷ param_or (codes "b") (int 2) ∷ []) (block (
    on 2 (x.Return (Some (x.Binary Add (name (codes "a")) (name (codes "b"))))) ∷ [])))) ∷
    on 3 (x.Assign (x.ToName (codes "X")) (call (name (codes "f")) ((int 1) ∷ []))) ∷ []))

fuel_one_too_few_ends : ended 4 fuel_one_too_few ≡ record {
  end = HasSpent 4 3;
  globals = (holds (codes "f") (codes "<function f>") ∷
      is_unbound (codes "X") ∷ []);
}
fuel_one_too_few_ends = refl

abbrev fuel_ends_at_a_display : Statements
fuel_ends_at_a_display = (block (
    on 1 marker ∷
    on 2 (x.Assign (x.ToName (codes "X")) (int 1)) ∷
    on 3 (x.Assign (x.ToName (codes "Y")) (list ((int 1) ∷ (int 2) ∷ (int 3) ∷ []))) ∷ []))

fuel_ends_at_a_display_ends : ended 4 fuel_ends_at_a_display ≡ record {
  end = HasSpent 4 3;
  globals = (holds (codes "X") (codes "1")
      ∷ is_unbound (codes "Y") ∷ []);
}
fuel_ends_at_a_display_ends = refl

abbrev fuel_ends_between_the_appends : Statements
fuel_ends_between_the_appends = (block (
    on 1 marker ∷
    on 2 (x.Assign (x.ToName (codes "L")) (list ([]))) ∷
    on 3 (x.For (x.ToName (codes "i")) (call (name (codes "range")) ((int 100) ∷ [])) (block (
    on 4 (x.Eval (call (x.Attr (name (codes "L")) (codes "append")) ((name (codes "i")) ∷ []))) ∷ []))) ∷ []))

fuel_ends_between_the_appends_ends : ended 10 fuel_ends_between_the_appends ≡ record {
  end = HasSpent 10 3;
  globals = (holds (codes
      "L") (codes "[0, 1]") ∷ holds (codes "i") (codes "1") ∷ []);
}
fuel_ends_between_the_appends_ends = refl

abbrev fuel_ends_at_a_turn : Statements
fuel_ends_at_a_turn = (block (
    on 1 marker ∷
    on 2 (x.Assign (x.ToName (codes "X")) (int 0)) ∷
    on 3 (x.For (x.ToName (codes "i")) (list ((int 7) ∷ [])) (block (
    on 4 (x.Assign (x.ToName (codes "X")) (name (codes "i"))) ∷ []))) ∷ []))

fuel_ends_at_a_turn_ends : ended 4 fuel_ends_at_a_turn ≡ record {
  end = HasSpent 4 3;
  globals = (holds (codes "X") (codes "0") ∷
      is_unbound (codes "i") ∷ []);
}
fuel_ends_at_a_turn_ends = refl

abbrev fuel_ends_at_the_statement_of_a_turn : Statements
fuel_ends_at_the_statement_of_a_turn = (block (
    on 1 marker ∷
    on 2 (x.Assign (x.ToName (codes "X")) (int 0)) ∷
    on 3 (x.For (x.ToName (codes "i")) (list ((int 7) ∷ [])) (block (
    on 4 (x.Assign (x.ToName (codes "X")) (name (codes "i"))) ∷ []))) ∷ []))

fuel_ends_at_the_statement_of_a_turn_ends : ended 5 fuel_ends_at_the_statement_of_a_turn ≡ record {
  end = HasSpent 5 4;
  globals =
      (holds (codes "X") (codes "0") ∷ holds (codes "i") (codes "7") ∷ []);
}
fuel_ends_at_the_statement_of_a_turn_ends = refl

abbrev fuel_ends_at_a_later_turn : Statements
fuel_ends_at_a_later_turn = (block (
    on 1 marker ∷
    on 2 (x.Assign (x.ToName (codes "X")) (int 0)) ∷
    on 3 (x.For (x.ToName (codes "i")) (list ((int 7) ∷ (int 8) ∷ [])) (block (
    on 4 (x.Assign (x.ToName (codes "X")) (name (codes "i"))) ∷ []))) ∷ []))

fuel_ends_at_a_later_turn_ends : ended 7 fuel_ends_at_a_later_turn ≡ record {
  end = HasSpent 7 3;
  globals = (holds (codes "X") (codes
      "7") ∷ holds (codes "i") (codes "7") ∷ []);
}
fuel_ends_at_a_later_turn_ends = refl

abbrev fuel_ends_in_a_condition_of_elif : Statements
fuel_ends_in_a_condition_of_elif = (block (
    on 1 marker ∷
    on 2 (x.Assign (x.ToName (codes "X")) (int 1)) ∷
    on 3 (if_or (tested 3 (x.Compare Eq (name (codes "X")) (int 2)) (block (
    on 4 (x.Assign (x.ToName (codes "Y")) (int 1)) ∷ [])) ∷ tested 5 (call (name (codes "list")) ((call (name (codes "range"))
    ((int 10) ∷ [])) ∷ [])) (block (
    on 6 (x.Assign (x.ToName (codes "Y")) (int 2)) ∷ [])) ∷ []) x.end_of_statements) ∷ []))

fuel_ends_in_a_condition_of_elif_ends : ended 8 fuel_ends_in_a_condition_of_elif ≡ record {
  end = HasSpent 8 5;
  globals = (holds
      (codes "X") (codes "1") ∷ is_unbound (codes "Y") ∷ []);
}
fuel_ends_in_a_condition_of_elif_ends = refl

abbrev fuel_ends_in_an_except_expression : Statements
fuel_ends_in_an_except_expression = (block (
    on 1 marker ∷
    on 2 (try_or (block (
    on 3 (x.Raise (Some (name (codes "KeyError")))) ∷ [])) (except (Some (call (name (codes "list")) ((call (name (codes
    "range")) ((int 10) ∷ [])) ∷ []))) None (block (
    on 5 (x.Assign (x.ToName (codes "X")) (int 1)) ∷ [])) ∷ [])) ∷ []))

fuel_ends_in_an_except_expression_ends : ended 8 fuel_ends_in_an_except_expression ≡ record {
  end = HasSpent 8 2;
  globals =
      (is_unbound (codes "X") ∷ []);
}
fuel_ends_in_an_except_expression_ends = refl

abbrev fuel_ends_under_an_except_clause : Statements
fuel_ends_under_an_except_clause = (block (
    on 1 marker ∷
    on 2 (x.Assign (x.ToName (codes "X")) (int 1)) ∷
    on 3 (try_or (block (
    on 4 (x.While x.True (block (
    on 5 (x.Augment (x.ToName (codes "X")) Add (int 1)) ∷ []))) ∷ [])) (except None None (block (
    on 7 (x.Assign (x.ToName (codes "X")) (int 0)) ∷ [])) ∷ [])) ∷ []))

fuel_ends_under_an_except_clause_ends : ended 12 fuel_ends_under_an_except_clause ≡ record {
  end = HasSpent 12 4;
  globals = (holds
      (codes "X") (codes "5") ∷ []);
}
fuel_ends_under_an_except_clause_ends = refl

abbrev fuel_ends_in_a_class_body : Statements
fuel_ends_in_a_class_body = (block (
    on 1 marker ∷
    on 2 (class (codes "C") None (block (
    on 3 (x.Annotate (x.ToName (codes "a")) (name (codes "int")) None) ∷
    on 4 (x.Annotate (x.ToName (codes "b")) (name (codes "int")) None) ∷
    on 5 (x.Def (function (codes "m") (param (codes "self") ∷ []) (block (
    on 6 x.Pass ∷ [])))) ∷ []))) ∷ []))

fuel_ends_in_a_class_body_ends : ended 3 fuel_ends_in_a_class_body ≡ record {
  end = HasSpent 3 4;
  globals = (is_unbound (codes "C") ∷
      []);
}
fuel_ends_in_a_class_body_ends = refl

abbrev fuel_ends_at_a_key : Statements
fuel_ends_at_a_key = (block (
    on 1 marker ∷
    on 2 (x.Assign (x.ToName (codes "D")) (dict (((text (codes "abcdef")), (int 1)) ∷ []))) ∷ []))

fuel_ends_at_a_key_ends : ended 5 fuel_ends_at_a_key ≡ record { end = HasSpent 5 2; globals = (is_unbound (codes "D") ∷ []) }
fuel_ends_at_a_key_ends = refl

abbrev fuel_ends_at_the_second_key_of_a_display : Statements
fuel_ends_at_the_second_key_of_a_display = (block (
    on 1 marker ∷
    on 2 (x.Assign (x.ToName (codes "D")) (dict (((text (codes "abcd")), (int 1)) ∷ ((text (codes "efgh")), (int 2)) ∷ []))) ∷ []))

fuel_ends_at_the_second_key_of_a_display_ends : ended 8 fuel_ends_at_the_second_key_of_a_display ≡ record {
  end = HasSpent 8 2;
  globals = (is_unbound (codes "D") ∷ []);
}
fuel_ends_at_the_second_key_of_a_display_ends = refl

abbrev fuel_ends_at_the_slots_of_an_instance : Statements
fuel_ends_at_the_slots_of_an_instance = (block (
    on 1 marker ∷
    on 2 (class (codes "C") None (block (
    on 3 (x.Annotate (x.ToName (codes "a")) (name (codes "int")) None) ∷
    on 4 (x.Annotate (x.ToName (codes "b")) (name (codes "int")) None) ∷ []))) ∷
    on 5 (x.Assign (x.ToName (codes "X")) (call (name (codes "C")) ([]))) ∷ []))

fuel_ends_at_the_slots_of_an_instance_ends : ended 6 fuel_ends_at_the_slots_of_an_instance ≡ record {
  end = HasSpent 6 5;
  globals =
      (holds (codes "C") (codes "<class C>") ∷ is_unbound (codes "X") ∷ []);
}
fuel_ends_at_the_slots_of_an_instance_ends = refl

abbrev fuel_ends_in_an_update_half_way : Statements
fuel_ends_in_an_update_half_way = (block (
    on 1 marker ∷
    on 2 (x.Assign (x.ToName (codes "D")) (dict ([]))) ∷
    on 3 (x.Eval (call (x.Attr (name (codes "D")) (codes "update")) ((dict (((text (codes "a")), (int 1)) ∷ (
      (text (codes "b")),
      (int 2),
    ) ∷ [])) ∷ []))) ∷ []))

fuel_ends_in_an_update_half_way_ends : ended 11 fuel_ends_in_an_update_half_way ≡ record {
  end = HasSpent 11 3;
  globals = (holds
      (codes "D") (codes "{'a': 1}") ∷ []);
}
fuel_ends_in_an_update_half_way_ends = refl

abbrev fuel_ends_at_a_joined_text : Statements
fuel_ends_at_a_joined_text = (block (
    on 1 marker ∷
    on 2 (x.Assign (x.ToName (codes "A")) (text (codes "abc"))) ∷
    on 3 (x.Assign (x.ToName (codes "B")) (x.Binary Add (name (codes "A")) (text (codes "def")))) ∷ []))

fuel_ends_at_a_joined_text_ends : ended 7 fuel_ends_at_a_joined_text ≡ record {
  end = HasSpent 7 3;
  globals = (holds (codes "A")
      (codes "'abc'") ∷ is_unbound (codes "B") ∷ []);
}
fuel_ends_at_a_joined_text_ends = refl

abbrev fuel_just_enough_for_a_joined_text : Statements
fuel_just_enough_for_a_joined_text = (block (
    on 1 marker ∷
    on 2 (x.Assign (x.ToName (codes "A")) (text (codes "abc"))) ∷
    on 3 (x.Assign (x.ToName (codes "B")) (x.Binary Add (name (codes "A")) (text (codes "def")))) ∷ []))

fuel_just_enough_for_a_joined_text_ends : ended 9 fuel_just_enough_for_a_joined_text ≡ record {
  end = Finished 9;
  globals = (holds
      (codes "A") (codes "'abc'") ∷ holds (codes "B") (codes "'abcdef'") ∷ []);
}
fuel_just_enough_for_a_joined_text_ends = refl

abbrev no_fuel_at_all : Statements
no_fuel_at_all = (block (
    on 1 marker ∷
    on 2 (x.Assign (x.ToName (codes "X")) (int 1)) ∷ []))

no_fuel_at_all_ends : ended 1 no_fuel_at_all ≡ record { end = HasSpent 1 2; globals = (is_unbound (codes "X") ∷ []) }
no_fuel_at_all_ends = refl
