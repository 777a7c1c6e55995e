-- Worked bodies, computed: exceptions.
use Rattle.std.proofs.Common.{◌≡◌, refl}
use Rattle.std.specs.Prelude.{[], ◌∷◌, Some, None, codes}
use Rattle.py_tree.specs.Syntax as x
use Rattle.py_tree.specs.Syntax.{Statements}
use Rattle.py_tree.specs.declared.operator.BinaryOp.TheVariants.{Add, Sub, FloorDiv}
use Rattle.py_tree.specs.declared.operator.CompareOp.TheVariants.{Eq}
use Rattle.py_meaning.proofs.Programs.{int, text, name, tuple, list, dict, call, block, on, marker, param, param_or, function, tested, if_or, except, try_or, class}
use Rattle.py_meaning.proofs.Ends.{Finished, HasRaised, ended, holds, is_unbound}

abbrev caught_by_a_base : Statements
caught_by_a_base = (block (
    on 1 marker ∷
    on 2 (try_or (block (
    on 3 (x.Raise (Some (call (name (codes "KeyError")) ((text (codes "k")) ∷ [])))) ∷ [])) (except (Some (name (codes
    "LookupError"))) (Some (codes "e")) (block (
    on 5 (x.Assign (x.ToName (codes "X")) (call (name (codes "str")) ((name (codes "e")) ∷ []))) ∷ [])) ∷ [])) ∷ []))

caught_by_a_base_ends : ended 50000 caught_by_a_base ≡ record {
  end = Finished 10;
  globals = (is_unbound (codes "e") ∷ holds (codes
      "X") (34 ∷ 39 ∷ 107 ∷ 39 ∷ 34 ∷ []) ∷ []);
}
caught_by_a_base_ends = refl

abbrev caught_machine_exception : Statements
caught_machine_exception = (block (
    on 1 marker ∷
    on 2 (x.Assign (x.ToName (codes "X")) (int 0)) ∷
    on 3 (try_or (block (
    on 4 (x.Assign (x.ToName (codes "X")) (x.Binary FloorDiv (int 1) (name (codes "X")))) ∷ [])) (except (Some (tuple ((name
    (codes "TypeError")) ∷ (name (codes "ZeroDivisionError")) ∷ []))) (Some (codes "e")) (block (
    on 6 (x.Assign (x.ToName (codes "Y")) (list ((x.Attr (name (codes "e")) (codes "args")) ∷ (call (name (codes "repr")) ((name
    (codes "e")) ∷ [])) ∷ []))) ∷ [])) ∷ [])) ∷ []))

caught_machine_exception_ends : ended 50000 caught_machine_exception ≡ record {
  end = Finished 29;
  globals = (holds (codes "X")
      (codes "0") ∷ is_unbound (codes "e") ∷ holds (codes "Y") (codes "[(), 'ZeroDivisionError()']") ∷ []);
}
caught_machine_exception_ends = refl

abbrev clause_without_a_class : Statements
clause_without_a_class = (block (
    on 1 marker ∷
    on 2 (try_or (block (
    on 3 (x.Eval (x.Index (list ([])) (int 1))) ∷ [])) (except (Some (name (codes "KeyError"))) None (block (
    on 5 (x.Assign (x.ToName (codes "X")) (int 1)) ∷ [])) ∷ except None None (block (
    on 7 (x.Assign (x.ToName (codes "X")) (int 2)) ∷ [])) ∷ [])) ∷ []))

clause_without_a_class_ends : ended 50000 clause_without_a_class ≡ record {
  end = Finished 4;
  globals = (holds (codes "X") (codes
      "2") ∷ []);
}
clause_without_a_class_ends = refl

abbrev as_name_unbound_at_the_end : Statements
as_name_unbound_at_the_end = (block (
    on 1 marker ∷
    on 2 (x.Assign (x.ToName (codes "e")) (int 5)) ∷
    on 3 (try_or (block (
    on 4 (x.Raise (Some (name (codes "ValueError")))) ∷ [])) (except (Some (name (codes "ValueError"))) (Some (codes "e")) (block (
    on 6 (x.Assign (x.ToName (codes "X")) (name (codes "e"))) ∷ [])) ∷ [])) ∷ []))

as_name_unbound_at_the_end_ends : ended 50000 as_name_unbound_at_the_end ≡ record {
  end = Finished 7;
  globals = (is_unbound (codes
      "e") ∷ holds (codes "X") (codes "ValueError()") ∷ []);
}
as_name_unbound_at_the_end_ends = refl

abbrev as_name_unbound_although_a_fault_leaves_the_clause : Statements
as_name_unbound_although_a_fault_leaves_the_clause = (block (
    on 1 marker ∷
    on 2 (try_or (block (
    on 3 (try_or (block (
    on 4 (x.Raise (Some (name (codes "ValueError")))) ∷ [])) (except (Some (name (codes "ValueError"))) (Some (codes "e"))
    (block (
    on 6 (x.Raise (Some (name (codes "KeyError")))) ∷ [])) ∷ [])) ∷ [])) (except (Some (name (codes "KeyError"))) (Some
    (codes "f")) (block (
    on 8 (x.Assign (x.ToName (codes "X")) (name (codes "f"))) ∷ [])) ∷ [])) ∷ []))

as_name_unbound_although_a_fault_leaves_the_clause_ends : ended 50000 as_name_unbound_although_a_fault_leaves_the_clause ≡ record {
  end = Finished 10;
  globals = (is_unbound (codes "e") ∷ is_unbound (codes "f") ∷ holds (codes "X") (codes "KeyError()") ∷ []);
}
as_name_unbound_although_a_fault_leaves_the_clause_ends = refl

abbrev raise_alone_caught_outside : Statements
raise_alone_caught_outside = (block (
    on 1 marker ∷
    on 2 (try_or (block (
    on 3 (try_or (block (
    on 4 (x.Eval (x.Binary FloorDiv (int 1) (int 0))) ∷ [])) (except (Some (name (codes "ArithmeticError"))) None (block (
    on 6 (x.Assign (x.ToName (codes "X")) (int 1)) ∷
    on 7 (x.Raise None) ∷ [])) ∷ [])) ∷ [])) (except (Some (name (codes "ZeroDivisionError"))) None (block (
    on 9 (x.Assign (x.ToName (codes "Y")) (int 2)) ∷ [])) ∷ [])) ∷ []))

raise_alone_caught_outside_ends : ended 50000 raise_alone_caught_outside ≡ record {
  end = Finished 7;
  globals = (holds (codes "X")
      (codes "1") ∷ holds (codes "Y") (codes "2") ∷ []);
}
raise_alone_caught_outside_ends = refl

abbrev raise_alone_after_a_nested_clause : Statements
raise_alone_after_a_nested_clause = (block (
    on 1 marker ∷
    on 2 (try_or (block (
    on 3 (try_or (block (
    on 4 (x.Raise (Some (call (name (codes "KeyError")) ((text (codes "outer")) ∷ [])))) ∷ [])) (except (Some (name (codes
    "KeyError"))) None (block (
    on 6 (try_or (block (
    on 7 (x.Raise (Some (call (name (codes "ValueError")) ((text (codes "inner")) ∷ [])))) ∷ [])) (except (Some (name
    (codes "ValueError"))) None (block (
    on 9 (x.Assign (x.ToName (codes "A")) (int 1)) ∷ [])) ∷ [])) ∷
    on 10 (x.Raise None) ∷ [])) ∷ [])) ∷ [])) (except (Some (name (codes "Exception"))) (Some (codes "e")) (block (
    on 12 (x.Assign (x.ToName (codes "X")) (call (name (codes "repr")) ((name (codes "e")) ∷ []))) ∷ [])) ∷ [])) ∷ []))

raise_alone_after_a_nested_clause_ends : ended 50000 raise_alone_after_a_nested_clause ≡ record {
  end = Finished 31;
  globals = (holds
      (codes "A") (codes "1") ∷ is_unbound (codes "e") ∷ holds (codes "X") (34 ∷ 75 ∷ 101 ∷ 121 ∷ 69 ∷ 114 ∷ 114 ∷ 111 ∷ 114 ∷ 40 ∷ 39
      ∷ 111 ∷ 117 ∷ 116 ∷ 101 ∷ 114 ∷ 39 ∷ 41 ∷ 34 ∷ []) ∷ []);
}
raise_alone_after_a_nested_clause_ends = refl

abbrev raised_out_of_the_body : Statements
raised_out_of_the_body = (block (
    on 1 marker ∷
    on 2 (x.Assign (x.ToName (codes "X")) (int 1)) ∷
    on 3 (x.Raise (Some (call (name (codes "ValueError")) ((text (codes "x")) ∷ [])))) ∷
    on 4 (x.Assign (x.ToName (codes "Y")) (int 2)) ∷ []))

raised_out_of_the_body_ends : ended 50000 raised_out_of_the_body ≡ record {
  end = HasRaised 5 3 (codes "ValueError");
  globals =
      (holds (codes "X") (codes "1") ∷ is_unbound (codes "Y") ∷ []);
}
raised_out_of_the_body_ends = refl

abbrev raised_out_of_a_loop : Statements
raised_out_of_a_loop = (block (
    on 1 marker ∷
    on 2 (x.For (x.ToName (codes "i")) (list ((int 2) ∷ (int 1) ∷ (int 0) ∷ [])) (block (
    on 3 (x.Assign (x.ToName (codes "X")) (x.Binary FloorDiv (int 4) (name (codes "i")))) ∷ []))) ∷ []))

raised_out_of_a_loop_ends : ended 50000 raised_out_of_a_loop ≡ record {
  end = HasRaised 11 3 (codes "ZeroDivisionError");
  globals =
      (holds (codes "i") (codes "0") ∷ holds (codes "X") (codes "4") ∷ []);
}
raised_out_of_a_loop_ends = refl

abbrev raised_out_of_a_clause : Statements
raised_out_of_a_clause = (block (
    on 1 marker ∷
    on 2 (x.Assign (x.ToName (codes "X")) (int 0)) ∷
    on 3 (try_or (block (
    on 4 (x.Eval (x.Binary FloorDiv (int 1) (name (codes "X")))) ∷ [])) (except (Some (name (codes "ZeroDivisionError"))) None
    (block (
    on 6 (x.Assign (x.ToName (codes "X")) (int 1)) ∷
    on 7 (x.Assign (x.ToName (codes "Y")) (x.Index (list ([])) (int 0))) ∷ [])) ∷ [])) ∷ []))

raised_out_of_a_clause_ends : ended 50000 raised_out_of_a_clause ≡ record {
  end = HasRaised 6 7 (codes "IndexError");
  globals =
      (holds (codes "X") (codes "1") ∷ is_unbound (codes "Y") ∷ []);
}
raised_out_of_a_clause_ends = refl

abbrev raised_in_a_function : Statements
raised_in_a_function = (block (
    on 1 marker ∷
    on 2 (x.Def (function (codes "f") (param (codes "n") ∷ []) (block (
    on 3 (x.Return (Some (x.Binary FloorDiv (int 1) (name (codes "n"))))) ∷ [])))) ∷
    on 4 (x.Assign (x.ToName (codes "X")) (call (name (codes "f")) ((int 1) ∷ []))) ∷
    on 5 (x.Assign (x.ToName (codes "Y")) (call (name (codes "f")) ((int 0) ∷ []))) ∷ []))

raised_in_a_function_ends : ended 50000 raised_in_a_function ≡ record {
  end = HasRaised 8 5 (codes "ZeroDivisionError");
  globals =
      (holds (codes "f") (codes "<function f>") ∷ holds (codes "X") (codes "1") ∷ is_unbound (codes "Y") ∷ []);
}
raised_in_a_function_ends = refl

abbrev passed_on_keeps_its_line : Statements
passed_on_keeps_its_line = (block (
    on 1 marker ∷
    on 2 (try_or (block (
    on 3 (x.Assign (x.ToName (codes "X")) (int 1)) ∷
    on 4 (x.Eval (x.Binary FloorDiv (int 1) (int 0))) ∷ [])) (except (Some (name (codes "KeyError"))) None (block (
    on 6 (x.Assign (x.ToName (codes "Y")) (int 2)) ∷ [])) ∷ [])) ∷ []))

passed_on_keeps_its_line_ends : ended 50000 passed_on_keeps_its_line ≡ record {
  end = HasRaised 4 4 (codes "ZeroDivisionError");
  globals = (holds (codes "X") (codes "1") ∷ is_unbound (codes "Y") ∷ []);
}
passed_on_keeps_its_line_ends = refl

abbrev raised_again_by_name : Statements
raised_again_by_name = (block (
    on 1 marker ∷
    on 2 (try_or (block (
    on 3 (x.Eval (x.Binary FloorDiv (int 1) (int 0))) ∷ [])) (except (Some (name (codes "ZeroDivisionError"))) (Some (codes "e"))
    (block (
    on 5 (x.Assign (x.ToName (codes "X")) (name (codes "e"))) ∷ [])) ∷ [])) ∷
    on 6 (x.Raise (Some (name (codes "X")))) ∷ []))

raised_again_by_name_ends : ended 50000 raised_again_by_name ≡ record {
  end = HasRaised 5 6 (codes "ZeroDivisionError");
  globals =
      (is_unbound (codes "e") ∷ holds (codes "X") (codes "ZeroDivisionError()") ∷ []);
}
raised_again_by_name_ends = refl

abbrev except_expression_that_faults : Statements
except_expression_that_faults = (block (
    on 1 marker ∷
    on 2 (try_or (block (
    on 3 (x.Assign (x.ToName (codes "X")) (int 1)) ∷
    on 4 (x.Eval (x.Binary FloorDiv (int 1) (int 0))) ∷ [])) (except (Some (name (codes "nothing"))) None (block (
    on 6 (x.Assign (x.ToName (codes "Y")) (int 2)) ∷ [])) ∷ [])) ∷ []))

except_expression_that_faults_ends : ended 50000 except_expression_that_faults ≡ record {
  end = HasRaised 4 2 (codes "NameError");
  globals = (holds (codes "X") (codes "1") ∷ is_unbound (codes "Y") ∷ []);
}
except_expression_that_faults_ends = refl

abbrev elif_condition_that_faults : Statements
elif_condition_that_faults = (block (
    on 1 marker ∷
    on 2 (x.Assign (x.ToName (codes "X")) (int 1)) ∷
    on 3 (if_or (tested 3 (x.Compare Eq (name (codes "X")) (int 2)) (block (
    on 4 (x.Assign (x.ToName (codes "Y")) (int 1)) ∷ [])) ∷ tested 5 (x.Compare Eq (name (codes "X")) (int 3)) (block (
    on 6 (x.Assign (x.ToName (codes "Y")) (int 2)) ∷ [])) ∷ tested 7 (x.Binary FloorDiv (int 1) (int 0)) (block (
    on 8 (x.Assign (x.ToName (codes "Y")) (int 3)) ∷ [])) ∷ []) x.end_of_statements) ∷ []))

elif_condition_that_faults_ends : ended 50000 elif_condition_that_faults ≡ record {
  end = HasRaised 3 7 (codes "ZeroDivisionError");
  globals = (holds (codes "X") (codes "1") ∷ is_unbound (codes "Y") ∷ []);
}
elif_condition_that_faults_ends = refl

abbrev fault_in_a_class_default : Statements
fault_in_a_class_default = (block (
    on 1 marker ∷
    on 2 (class (codes "C") None (block (
    on 3 (x.Annotate (x.ToName (codes "a")) (name (codes "int")) None) ∷
    on 4 (x.Def (function (codes "m") (param (codes "self") ∷ param_or (codes "b") (x.Binary FloorDiv (int 1) (int 0)) ∷ [])
    (block (
    on 5 x.Pass ∷ [])))) ∷ []))) ∷
    on 6 (x.Assign (x.ToName (codes "X")) (int 1)) ∷ []))

fault_in_a_class_default_ends : ended 50000 fault_in_a_class_default ≡ record {
  end = HasRaised 4 4 (codes "ZeroDivisionError");
  globals = (is_unbound (codes "C") ∷ is_unbound (codes "X") ∷ []);
}
fault_in_a_class_default_ends = refl

abbrev fault_in_a_statement_over_lines : Statements
fault_in_a_statement_over_lines = (block (
    on 1 marker ∷
    on 2 (x.Assign (x.ToName (codes "X")) (int 1)) ∷
    on 3 (x.Assign (x.ToName (codes "Y")) (list ((name (codes "X")) ∷ (x.Binary FloorDiv (name (codes "X")) (int 0)) ∷ []))) ∷ []))

fault_in_a_statement_over_lines_ends : ended 50000 fault_in_a_statement_over_lines ≡ record {
  end = HasRaised 3 3 (codes
      "ZeroDivisionError");
  globals = (holds (codes "X") (codes "1") ∷ is_unbound (codes "Y") ∷ []);
}
fault_in_a_statement_over_lines_ends = refl

abbrev raise_of_a_class_that_is_no_exception : Statements
raise_of_a_class_that_is_no_exception = (block (
    on 1 marker ∷
    on 2 (class (codes "C") None (block (
    on 3 x.Pass ∷ []))) ∷
    on 4 (x.Raise (Some (name (codes "C")))) ∷ []))

raise_of_a_class_that_is_no_exception_ends : ended 50000 raise_of_a_class_that_is_no_exception ≡ record {
  end = HasRaised 4 4 (codes
      "TypeError");
  globals = (holds (codes "C") (codes "<class C>") ∷ []);
}
raise_of_a_class_that_is_no_exception_ends = refl

abbrev wrong_number_in_an_unpacking : Statements
wrong_number_in_an_unpacking = (block (
    on 1 marker ∷
    on 2 (x.Assign (x.ToName (codes "a")) (int 0)) ∷
    on 3 (x.Assign (x.ToNames ((codes "a") ∷ (codes "b") ∷ [])) (list ((int 1) ∷ (int 2) ∷ (int 3) ∷ []))) ∷ []))

wrong_number_in_an_unpacking_ends : ended 50000 wrong_number_in_an_unpacking ≡ record {
  end = HasRaised 9 3 (codes "ValueError");
  globals = (holds (codes "a") (codes "0") ∷ is_unbound (codes "b") ∷ []);
}
wrong_number_in_an_unpacking_ends = refl

abbrev fault_in_the_middle_of_a_display : Statements
fault_in_the_middle_of_a_display = (block (
    on 1 marker ∷
    on 2 (x.Assign (x.ToName (codes "D")) (dict (((int 1), (int 2)) ∷ []))) ∷
    on 3 (x.Assign (x.ToName (codes "E")) (dict (((text (codes "abc")), (int 1)) ∷ ((list ([])), (int 2)) ∷ []))) ∷ []))

fault_in_the_middle_of_a_display_ends : ended 50000 fault_in_the_middle_of_a_display ≡ record {
  end = HasRaised 9 3 (codes
      "TypeError");
  globals = (holds (codes "D") (codes "{1: 2}") ∷ is_unbound (codes "E") ∷ []);
}
fault_in_the_middle_of_a_display_ends = refl

abbrev dictionary_that_grows_under_its_loop : Statements
dictionary_that_grows_under_its_loop = (block (
    on 1 marker ∷
    on 2 (x.Assign (x.ToName (codes "D")) (dict (((int 1), (int 1)) ∷ []))) ∷
    on 3 (x.For (x.ToName (codes "k")) (name (codes "D")) (block (
    on 4 (x.Assign (x.ToIndex (name (codes "D")) (x.Binary Add (name (codes "k")) (int 1))) (name (codes "k"))) ∷ []))) ∷ []))

dictionary_that_grows_under_its_loop_ends : ended 50000 dictionary_that_grows_under_its_loop ≡ record {
  end = HasRaised 6 3 (codes
      "RuntimeError");
  globals = (holds (codes "D") (codes "{1: 1, 2: 1}") ∷ holds (codes "k") (codes "1") ∷ []);
}
dictionary_that_grows_under_its_loop_ends = refl

abbrev overflow : Statements
overflow = (block (
    on 1 marker ∷
    on 2 (x.Assign (x.ToName (codes "X")) (int 9223372036854775807)) ∷
    on 3 (x.Assign (x.ToName (codes "Y")) (x.Binary Sub (name (codes "X")) (int 1))) ∷
    on 4 (x.Augment (x.ToName (codes "X")) Add (int 1)) ∷ []))

overflow_ends : ended 50000 overflow ≡ record {
  end = HasRaised 4 4 (codes "OverflowError");
  globals = (holds (codes "X") (codes
      "9223372036854775807") ∷ holds (codes "Y") (codes "9223372036854775806") ∷ []);
}
overflow_ends = refl
