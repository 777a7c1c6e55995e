-- Worked bodies, computed: refusals and host values.
use Rattle.std.proofs.Common.{◌≡◌, refl}
use Rattle.std.specs.Prelude.{[], ◌∷◌, Some, None, codes}
use Rattle.py_tree.specs.Syntax as x
use Rattle.py_tree.specs.Syntax.{Statements}
use Rattle.py_tree.specs.declared.operator.BinaryOp.TheVariants.{Add}
use Rattle.py_tree.specs.declared.operator.CompareOp.TheVariants.{Eq, Lt}
use Rattle.py_tree.specs.declared.code.Code.TheVariants.{Effect, UnknownValue}
use Rattle.py_meaning.proofs.Programs.{int, text, name, tuple, list, dict, call, block, on, marker, imported, param, param_or, function, tested, if_or, except, try_or, class}
use Rattle.py_meaning.proofs.Ends.{Finished, HasRaised, IsRefused, ended, holds, is_unbound}

abbrev print_in_the_body : Statements
print_in_the_body = (block (
    on 1 marker ∷
    on 2 (x.Assign (x.ToName (codes "X")) (int 1)) ∷
    on 3 (x.Eval (call (name (codes "print")) ((name (codes "X")) ∷ []))) ∷ []))

print_in_the_body_ends : ended 50000 print_in_the_body ≡ record {
  end = IsRefused 4 3 Effect;
  globals = (holds (codes "X") (codes
      "1") ∷ []);
}
print_in_the_body_ends = refl

abbrev print_in_a_function_under_a_try : Statements
print_in_a_function_under_a_try = (block (
    on 1 marker ∷
    on 2 (x.Def (function (codes "f") ([]) (block (
    on 3 (x.Eval (call (name (codes "print")) ((text (codes "x")) ∷ []))) ∷ [])))) ∷
    on 4 (try_or (block (
    on 5 (x.Eval (call (name (codes "f")) ([]))) ∷ [])) (except None None (block (
    on 7 (x.Assign (x.ToName (codes "X")) (int 1)) ∷ [])) ∷ [])) ∷ []))

print_in_a_function_under_a_try_ends : ended 50000 print_in_a_function_under_a_try ≡ record {
  end = IsRefused 7 5 Effect;
  globals =
      (holds (codes "f") (codes "<function f>") ∷ is_unbound (codes "X") ∷ []);
}
print_in_a_function_under_a_try_ends = refl

abbrev print_after_a_fault_in_its_arguments : Statements
print_after_a_fault_in_its_arguments = (block (
    on 1 marker ∷
    on 2 (x.Eval (call (name (codes "print")) ((x.Index (list ([])) (int 0)) ∷ []))) ∷ []))

print_after_a_fault_in_its_arguments_ends : ended 50000 print_after_a_fault_in_its_arguments ≡ record {
  end = HasRaised 2 2 (codes
      "IndexError");
  globals = ([]);
}
print_after_a_fault_in_its_arguments_ends = refl

abbrev host_value_bound_and_stored : Statements
host_value_bound_and_stored = (block (
    on 1 marker ∷
    on 2 (x.From (codes "__host__") (imported (codes "H") ∷ [])) ∷
    on 3 (x.Assign (x.ToName (codes "X")) (name (codes "H"))) ∷
    on 4 (x.Assign (x.ToName (codes "L")) (list ((name (codes "H")) ∷ []))) ∷
    on 5 (x.Eval (call (x.Attr (name (codes "L")) (codes "append")) ((name (codes "H")) ∷ []))) ∷
    on 6 (x.Assign (x.ToName (codes "T")) (tuple ((name (codes "H")) ∷ (int 1) ∷ []))) ∷
    on 7 (x.Assign (x.ToName (codes "D")) (dict (((text (codes "k")), (name (codes "H"))) ∷ []))) ∷ []))

host_value_bound_and_stored_ends : ended 50000 host_value_bound_and_stored ≡ record {
  end = Finished 13;
  globals = (holds (codes "H")
      (codes "<host H>") ∷ holds (codes "X") (codes "<host H>") ∷ holds (codes "L") (codes "[<host H>, <host H>]") ∷ holds (codes "T")
      (codes "(<host H>, 1)") ∷ holds (codes "D") (codes "{'k': <host H>}") ∷ []);
}
host_value_bound_and_stored_ends = refl

abbrev host_value_added : Statements
host_value_added = (block (
    on 1 marker ∷
    on 2 (x.From (codes "__host__") (imported (codes "H") ∷ [])) ∷
    on 3 (x.Assign (x.ToName (codes "X")) (int 1)) ∷
    on 4 (x.Assign (x.ToName (codes "Y")) (x.Binary Add (name (codes "X")) (name (codes "H")))) ∷ []))

host_value_added_ends : ended 50000 host_value_added ≡ record {
  end = IsRefused 4 4 UnknownValue;
  globals = (holds (codes "H") (codes
      "<host H>") ∷ holds (codes "X") (codes "1") ∷ is_unbound (codes "Y") ∷ []);
}
host_value_added_ends = refl

abbrev host_value_tested : Statements
host_value_tested = (block (
    on 1 marker ∷
    on 2 (x.From (codes "__host__") (imported (codes "H") ∷ [])) ∷
    on 3 (x.Assign (x.ToName (codes "X")) (int 0)) ∷
    on 4 (x.While (x.Or (x.Compare Lt (name (codes "X")) (int 1)) (name (codes "H"))) (block (
    on 5 (x.Augment (x.ToName (codes "X")) Add (int 1)) ∷ []))) ∷ []))

host_value_tested_ends : ended 50000 host_value_tested ≡ record {
  end = IsRefused 6 4 UnknownValue;
  globals = (holds (codes "H")
      (codes "<host H>") ∷ holds (codes "X") (codes "1") ∷ []);
}
host_value_tested_ends = refl

abbrev host_value_as_a_key : Statements
host_value_as_a_key = (block (
    on 1 marker ∷
    on 2 (x.From (codes "__host__") (imported (codes "H") ∷ [])) ∷
    on 3 (x.Assign (x.ToName (codes "D")) (dict ([]))) ∷
    on 4 (x.Assign (x.ToIndex (name (codes "D")) (tuple ((int 1) ∷ (name (codes "H")) ∷ []))) (int 1)) ∷ []))

host_value_as_a_key_ends : ended 50000 host_value_as_a_key ≡ record {
  end = IsRefused 8 4 UnknownValue;
  globals = (holds (codes "H")
      (codes "<host H>") ∷ holds (codes "D") (codes "{}") ∷ []);
}
host_value_as_a_key_ends = refl

abbrev host_value_in_a_comparison_that_does_not_reach_it : Statements
host_value_in_a_comparison_that_does_not_reach_it = (block (
    on 1 marker ∷
    on 2 (x.From (codes "__host__") (imported (codes "H") ∷ [])) ∷
    on 3 (x.Assign (x.ToName (codes "X")) (x.Compare Eq (list ((int 1) ∷ (name (codes "H")) ∷ [])) (list ((int 2) ∷ (name (codes
    "H")) ∷ [])))) ∷
    on 4 (x.Assign (x.ToName (codes "Y")) (x.Compare Eq (list ((name (codes "H")) ∷ [])) (list ([])))) ∷ []))

host_value_in_a_comparison_that_does_not_reach_it_ends : ended 50000 host_value_in_a_comparison_that_does_not_reach_it ≡ record {
  end
      = Finished 10;
  globals = (holds (codes "H") (codes "<host H>") ∷ holds (codes "X") (codes "False") ∷ holds (codes "Y") (codes
      "False") ∷ []);
}
host_value_in_a_comparison_that_does_not_reach_it_ends = refl

abbrev host_value_in_a_comparison_that_reaches_it : Statements
host_value_in_a_comparison_that_reaches_it = (block (
    on 1 marker ∷
    on 2 (x.From (codes "__host__") (imported (codes "H") ∷ [])) ∷
    on 3 (x.Assign (x.ToName (codes "X")) (x.Compare Eq (list ((int 1) ∷ (name (codes "H")) ∷ [])) (list ((int 1) ∷ (name (codes
    "H")) ∷ [])))) ∷ []))

host_value_in_a_comparison_that_reaches_it_ends : ended 50000 host_value_in_a_comparison_that_reaches_it ≡ record {
  end = IsRefused 9
      3 UnknownValue;
  globals = (holds (codes "H") (codes "<host H>") ∷ is_unbound (codes "X") ∷ []);
}
host_value_in_a_comparison_that_reaches_it_ends = refl

abbrev host_value_passed_and_returned : Statements
host_value_passed_and_returned = (block (
    on 1 marker ∷
    on 2 (x.From (codes "__host__") (imported (codes "H") ∷ [])) ∷
    on 3 (x.Def (function (codes "f") (param (codes "x") ∷ param_or (codes "y") (name (codes "H")) ∷ []) (block (
    on 4 (x.Return (Some (name (codes "y")))) ∷ [])))) ∷
    on 5 (x.Assign (x.ToName (codes "X")) (call (name (codes "f")) ((name (codes "H")) ∷ []))) ∷
    on 6 (class (codes "C") None (block (
    on 7 (x.Def (function (codes "__init__") (param (codes "self") ∷ param (codes "v") ∷ []) (block (
    on 8 (x.Assign (x.ToAttr (name (codes "self")) (codes "v")) (name (codes "v"))) ∷ [])))) ∷ []))) ∷
    on 9 (x.Assign (x.ToName (codes "Y")) (x.Attr (call (name (codes "C")) ((name (codes "H")) ∷ [])) (codes "v"))) ∷
    on 10 (x.Assign (x.ToName (codes "Z")) (x.And (name (codes "X")) (int 1))) ∷ []))

host_value_passed_and_returned_ends : ended 50000 host_value_passed_and_returned ≡ record {
  end = IsRefused 13 10 UnknownValue;
  globals = (holds (codes "H") (codes "<host H>") ∷ holds (codes "f") (codes "<function f>") ∷ holds (codes "X") (codes "<host H>")
      ∷ holds (codes "C") (codes "<class C>") ∷ holds (codes "Y") (codes "<host H>") ∷ is_unbound (codes "Z") ∷ []);
}
host_value_passed_and_returned_ends = refl

abbrev host_value_called : Statements
host_value_called = (block (
    on 1 marker ∷
    on 2 (x.From (codes "__host__") (imported (codes "H") ∷ [])) ∷
    on 3 (x.Assign (x.ToName (codes "X")) (int 1)) ∷
    on 4 (x.Eval (call (name (codes "H")) ((name (codes "X")) ∷ []))) ∷ []))

host_value_called_ends : ended 50000 host_value_called ≡ record {
  end = IsRefused 5 4 UnknownValue;
  globals = (holds (codes "H")
      (codes "<host H>") ∷ holds (codes "X") (codes "1") ∷ []);
}
host_value_called_ends = refl

abbrev host_value_as_an_argument_of_len : Statements
host_value_as_an_argument_of_len = (block (
    on 1 marker ∷
    on 2 (x.From (codes "__host__") (imported (codes "H") ∷ [])) ∷
    on 3 (x.Def (function (codes "f") (param (codes "x") ∷ []) (block (
    on 4 (x.Return (Some (call (name (codes "len")) ((name (codes "x")) ∷ [])))) ∷ [])))) ∷
    on 5 (x.Assign (x.ToName (codes "X")) (call (name (codes "f")) ((list ((int 1) ∷ [])) ∷ []))) ∷
    on 6 (x.Assign (x.ToName (codes "Y")) (call (name (codes "f")) ((name (codes "H")) ∷ []))) ∷ []))

host_value_as_an_argument_of_len_ends : ended 50000 host_value_as_an_argument_of_len ≡ record {
  end = IsRefused 12 6 UnknownValue;
  globals = (holds (codes "H") (codes "<host H>") ∷ holds (codes "f") (codes "<function f>") ∷ holds (codes "X") (codes "1") ∷
      is_unbound (codes "Y") ∷ []);
}
host_value_as_an_argument_of_len_ends = refl

abbrev host_value_in_an_except_expression : Statements
host_value_in_an_except_expression = (block (
    on 1 marker ∷
    on 2 (x.From (codes "__host__") (imported (codes "H") ∷ [])) ∷
    on 3 (try_or (block (
    on 4 (x.Raise (Some (name (codes "KeyError")))) ∷ [])) (except (Some (name (codes "H"))) None (block (
    on 6 (x.Assign (x.ToName (codes "X")) (int 1)) ∷ [])) ∷ [])) ∷ []))

host_value_in_an_except_expression_ends : ended 50000 host_value_in_an_except_expression ≡ record {
  end = IsRefused 6 3 UnknownValue;
  globals = (holds (codes "H") (codes "<host H>") ∷ is_unbound (codes "X") ∷ []);
}
host_value_in_an_except_expression_ends = refl

abbrev host_value_in_an_elif : Statements
host_value_in_an_elif = (block (
    on 1 marker ∷
    on 2 (x.From (codes "__host__") (imported (codes "H") ∷ [])) ∷
    on 3 (if_or (tested 3 (int 0) (block (
    on 4 (x.Assign (x.ToName (codes "X")) (int 1)) ∷ [])) ∷ tested 5 (name (codes "H")) (block (
    on 6 (x.Assign (x.ToName (codes "X")) (int 2)) ∷ [])) ∷ []) x.end_of_statements) ∷ []))

host_value_in_an_elif_ends : ended 50000 host_value_in_an_elif ≡ record {
  end = IsRefused 3 5 UnknownValue;
  globals = (holds (codes
      "H") (codes "<host H>") ∷ is_unbound (codes "X") ∷ []);
}
host_value_in_an_elif_ends = refl

abbrev host_value_answered_by_an_init : Statements
host_value_answered_by_an_init = (block (
    on 1 marker ∷
    on 2 (x.From (codes "__host__") (imported (codes "H") ∷ [])) ∷
    on 3 (class (codes "C") None (block (
    on 4 (x.Def (function (codes "__init__") (param (codes "self") ∷ []) (block (
    on 5 (x.Return (Some (name (codes "H")))) ∷ [])))) ∷ []))) ∷
    on 6 (x.Assign (x.ToName (codes "X")) (int 1)) ∷
    on 7 (x.Eval (call (name (codes "C")) ([]))) ∷ []))

host_value_answered_by_an_init_ends : ended 50000 host_value_answered_by_an_init ≡ record {
  end = IsRefused 8 7 UnknownValue;
  globals
      = (holds (codes "H") (codes "<host H>") ∷ holds (codes "C") (codes "<class C>") ∷ holds (codes "X") (codes "1") ∷ []);
}
host_value_answered_by_an_init_ends = refl

abbrev host_value_in_a_loop_of_its_list : Statements
host_value_in_a_loop_of_its_list = (block (
    on 1 marker ∷
    on 2 (x.From (codes "__host__") (imported (codes "H") ∷ [])) ∷
    on 3 (x.For (x.ToName (codes "x")) (list ((int 1) ∷ (name (codes "H")) ∷ [])) (block (
    on 4 (x.Assign (x.ToName (codes "Y")) (x.Binary Add (name (codes "x")) (int 1))) ∷ []))) ∷ []))

host_value_in_a_loop_of_its_list_ends : ended 50000 host_value_in_a_loop_of_its_list ≡ record {
  end = IsRefused 9 4 UnknownValue;
  globals = (holds (codes "H") (codes "<host H>") ∷ holds (codes "x") (codes "<host H>") ∷ holds (codes "Y") (codes "2") ∷ []);
}
host_value_in_a_loop_of_its_list_ends = refl

abbrev host_value_beside_a_wrong_number_of_arguments : Statements
host_value_beside_a_wrong_number_of_arguments = (block (
    on 1 marker ∷
    on 2 (x.From (codes "__host__") (imported (codes "H") ∷ [])) ∷
    on 3 (try_or (block (
    on 4 (x.Eval (call (name (codes "len")) ((name (codes "H")) ∷ (name (codes "H")) ∷ []))) ∷ [])) (except (Some (name (codes
    "TypeError"))) None (block (
    on 6 (x.Assign (x.ToName (codes "X")) (int 1)) ∷ [])) ∷ [])) ∷ []))

host_value_beside_a_wrong_number_of_arguments_ends : ended 50000 host_value_beside_a_wrong_number_of_arguments ≡ record {
  end =
      Finished 6;
  globals = (holds (codes "H") (codes "<host H>") ∷ holds (codes "X") (codes "1") ∷ []);
}
host_value_beside_a_wrong_number_of_arguments_ends = refl
