-- Worked bodies, computed: classes.
use Rattle.std.proofs.Common.{◌≡◌, refl}
use Rattle.std.specs.Prelude.{[], ◌∷◌, Some, None, codes}
use Rattle.py_tree.specs.Syntax as x
use Rattle.py_tree.specs.Syntax.{Statements}
use Rattle.py_tree.specs.declared.operator.BinaryOp.TheVariants.{Add, Mul}
use Rattle.py_tree.specs.declared.operator.CompareOp.TheVariants.{Eq}
use Rattle.py_meaning.proofs.Programs.{int, text, name, list, call, block, on, marker, param, param_or, function, class}
use Rattle.py_meaning.proofs.Ends.{Finished, HasRaised, ended, holds, is_unbound}

abbrev class_and_instance : Statements
class_and_instance = (block (
    on 1 marker ∷
    on 2 (class (codes "C") None (block (
    on 3 (x.Annotate (x.ToName (codes "x")) (name (codes "int")) None) ∷
    on 4 (x.Def (function (codes "__init__") (param (codes "self") ∷ param (codes "n") ∷ []) (block (
    on 5 (x.Assign (x.ToAttr (name (codes "self")) (codes "n")) (name (codes "n"))) ∷ [])))) ∷
    on 6 (x.Def (function (codes "get") (param (codes "self") ∷ []) (block (
    on 7 (x.Return (Some (x.Attr (name (codes "self")) (codes "n")))) ∷ [])))) ∷ []))) ∷
    on 8 (x.Assign (x.ToName (codes "O")) (call (name (codes "C")) ((int 5) ∷ []))) ∷
    on 9 (x.Assign (x.ToName (codes "X")) (call (x.Attr (name (codes "O")) (codes "get")) ([]))) ∷
    on 10 (x.Assign (x.ToName (codes "Y")) (list ((x.Attr (name (codes "O")) (codes "n")) ∷ (name (codes "C")) ∷ (name (codes "O")) ∷
    []))) ∷ []))

class_and_instance_ends : ended 50000 class_and_instance ≡ record {
  end = Finished 17;
  globals = (holds (codes "C") (codes
      "<class C>") ∷ holds (codes "O") (codes "<C object>") ∷ holds (codes "X") (codes "5") ∷ holds (codes "Y") (codes
      "[5, <class C>, <C object>]") ∷ []);
}
class_and_instance_ends = refl

abbrev class_body_statements_are_paid : Statements
class_body_statements_are_paid = (block (
    on 1 marker ∷
    on 2 (class (codes "C") None (block (
    on 3 (x.Eval (text (codes "doc"))) ∷
    on 4 x.Pass ∷
    on 5 (x.Annotate (x.ToName (codes "a")) (name (codes "int")) None) ∷
    on 6 (x.Def (function (codes "m") (param (codes "self") ∷ []) (block (
    on 7 (x.Return (Some (int 1))) ∷ [])))) ∷ []))) ∷
    on 8 (class (codes "D") (Some (name (codes "C"))) (block (
    on 9 x.Pass ∷ []))) ∷ []))

class_body_statements_are_paid_ends : ended 50000 class_body_statements_are_paid ≡ record {
  end = Finished 8;
  globals = (holds (codes
      "C") (codes "<class C>") ∷ holds (codes "D") (codes "<class D>") ∷ []);
}
class_body_statements_are_paid_ends = refl

abbrev method_defaults_are_evaluated_in_the_class : Statements
method_defaults_are_evaluated_in_the_class = (block (
    on 1 marker ∷
    on 2 (class (codes "C") None (block (
    on 3 (x.Def (function (codes "m") (param (codes "self") ∷ param_or (codes "a") (list ((int 1) ∷ (int 2) ∷ [])) ∷ []) (block (
    on 4 (x.Return (Some (name (codes "a")))) ∷ [])))) ∷ []))) ∷
    on 5 (x.Assign (x.ToName (codes "X")) (call (x.Attr (call (name (codes "C")) ([])) (codes "m")) ([]))) ∷ []))

method_defaults_are_evaluated_in_the_class_ends : ended 50000 method_defaults_are_evaluated_in_the_class ≡ record {
  end = Finished 9;
  globals = (holds (codes "C") (codes "<class C>") ∷ holds (codes "X") (codes "[1, 2]") ∷ []);
}
method_defaults_are_evaluated_in_the_class_ends = refl

abbrev super_and_inheritance : Statements
super_and_inheritance = (block (
    on 1 marker ∷
    on 2 (class (codes "A") None (block (
    on 3 (x.Def (function (codes "__init__") (param (codes "self") ∷ param (codes "x") ∷ []) (block (
    on 4 (x.Assign (x.ToAttr (name (codes "self")) (codes "x")) (name (codes "x"))) ∷ [])))) ∷
    on 5 (x.Def (function (codes "m") (param (codes "self") ∷ []) (block (
    on 6 (x.Return (Some (x.Attr (name (codes "self")) (codes "x")))) ∷ [])))) ∷ []))) ∷
    on 7 (class (codes "B") (Some (name (codes "A"))) (block (
    on 8 (x.Def (function (codes "__init__") (param (codes "self") ∷ param (codes "x") ∷ []) (block (
    on 9 (x.Eval (call (x.Attr (call (name (codes "super")) ([])) (codes "__init__")) ((x.Binary Add (name (codes "x")) (int
    1)) ∷ []))) ∷
    on 10 (x.Assign (x.ToAttr (name (codes "self")) (codes "y")) (name (codes "x"))) ∷ [])))) ∷
    on 11 (x.Def (function (codes "m") (param (codes "self") ∷ []) (block (
    on 12 (x.Return (Some (x.Binary Mul (call (x.Attr (call (name (codes "super")) ([])) (codes "m")) ([])) (int 10)))) ∷
    [])))) ∷ []))) ∷
    on 13 (x.Assign (x.ToName (codes "X")) (call (x.Attr (call (name (codes "B")) ((int 4) ∷ [])) (codes "m")) ([]))) ∷ []))

super_and_inheritance_ends : ended 50000 super_and_inheritance ≡ record {
  end = Finished 19;
  globals = (holds (codes "A") (codes
      "<class A>") ∷ holds (codes "B") (codes "<class B>") ∷ holds (codes "X") (codes "50") ∷ []);
}
super_and_inheritance_ends = refl

abbrev bound_methods_and_functions_of_classes : Statements
bound_methods_and_functions_of_classes = (block (
    on 1 marker ∷
    on 2 (class (codes "C") None (block (
    on 3 (x.Def (function (codes "m") (param (codes "self") ∷ []) (block (
    on 4 (x.Return (Some (name (codes "self")))) ∷ [])))) ∷ []))) ∷
    on 5 (x.Assign (x.ToName (codes "M")) (x.Attr (call (name (codes "C")) ([])) (codes "m"))) ∷
    on 6 (x.Assign (x.ToName (codes "F")) (x.Attr (name (codes "C")) (codes "m"))) ∷
    on 7 (x.Assign (x.ToName (codes "X")) (call (name (codes "F")) ((int 3) ∷ []))) ∷
    on 8 (x.Assign (x.ToName (codes "E")) (x.Compare Eq (name (codes "M")) (name (codes "M")))) ∷ []))

bound_methods_and_functions_of_classes_ends : ended 50000 bound_methods_and_functions_of_classes ≡ record {
  end = Finished 10;
  globals = (holds (codes "C") (codes "<class C>") ∷ holds (codes "M") (codes "<bound method m>") ∷ holds (codes "F") (codes
      "<function m>") ∷ holds (codes "X") (codes "3") ∷ holds (codes "E") (codes "True") ∷ []);
}
bound_methods_and_functions_of_classes_ends = refl

abbrev unset_slot : Statements
unset_slot = (block (
    on 1 marker ∷
    on 2 (class (codes "C") None (block (
    on 3 (x.Annotate (x.ToName (codes "x")) (name (codes "int")) None) ∷ []))) ∷
    on 4 (x.Assign (x.ToName (codes "X")) (call (name (codes "C")) ([]))) ∷
    on 5 (x.Assign (x.ToName (codes "Y")) (x.Attr (name (codes "X")) (codes "x"))) ∷ []))

unset_slot_ends : ended 50000 unset_slot ≡ record {
  end = HasRaised 7 5 (codes "AttributeError");
  globals = (holds (codes "C") (codes
      "<class C>") ∷ holds (codes "X") (codes "<C object>") ∷ is_unbound (codes "Y") ∷ []);
}
unset_slot_ends = refl

abbrev write_to_what_is_no_slot : Statements
write_to_what_is_no_slot = (block (
    on 1 marker ∷
    on 2 (class (codes "C") None (block (
    on 3 x.Pass ∷ []))) ∷
    on 4 (x.Assign (x.ToName (codes "X")) (call (name (codes "C")) ([]))) ∷
    on 5 (x.Assign (x.ToAttr (name (codes "X")) (codes "y")) (int 1)) ∷ []))

write_to_what_is_no_slot_ends : ended 50000 write_to_what_is_no_slot ≡ record {
  end = HasRaised 6 5 (codes "AttributeError");
  globals
      = (holds (codes "C") (codes "<class C>") ∷ holds (codes "X") (codes "<C object>") ∷ []);
}
write_to_what_is_no_slot_ends = refl

abbrev init_that_returns_a_value : Statements
init_that_returns_a_value = (block (
    on 1 marker ∷
    on 2 (class (codes "C") None (block (
    on 3 (x.Def (function (codes "__init__") (param (codes "self") ∷ []) (block (
    on 4 (x.Return (Some (int 5))) ∷ [])))) ∷ []))) ∷
    on 5 (x.Assign (x.ToName (codes "X")) (call (name (codes "C")) ([]))) ∷ []))

init_that_returns_a_value_ends : ended 50000 init_that_returns_a_value ≡ record {
  end = HasRaised 6 5 (codes "TypeError");
  globals =
      (holds (codes "C") (codes "<class C>") ∷ is_unbound (codes "X") ∷ []);
}
init_that_returns_a_value_ends = refl

abbrev class_without_init_with_an_argument : Statements
class_without_init_with_an_argument = (block (
    on 1 marker ∷
    on 2 (class (codes "C") None (block (
    on 3 (x.Annotate (x.ToName (codes "a")) (name (codes "int")) None) ∷
    on 4 (x.Annotate (x.ToName (codes "b")) (name (codes "int")) None) ∷ []))) ∷
    on 5 (x.Assign (x.ToName (codes "X")) (call (name (codes "C")) ((int 1) ∷ []))) ∷ []))

class_without_init_with_an_argument_ends : ended 50000 class_without_init_with_an_argument ≡ record {
  end = HasRaised 8 5 (codes
      "TypeError");
  globals = (holds (codes "C") (codes "<class C>") ∷ is_unbound (codes "X") ∷ []);
}
class_without_init_with_an_argument_ends = refl

abbrev slots_of_own_objects_are_written : Statements
slots_of_own_objects_are_written = (block (
    on 1 marker ∷
    on 2 (class (codes "C") None (block (
    on 3 (x.Def (function (codes "__init__") (param (codes "self") ∷ []) (block (
    on 4 (x.Assign (x.ToAttr (name (codes "self")) (codes "l")) (list ([]))) ∷ [])))) ∷ []))) ∷
    on 5 (x.Assign (x.ToName (codes "A")) (call (name (codes "C")) ([]))) ∷
    on 6 (x.Eval (call (x.Attr (x.Attr (name (codes "A")) (codes "l")) (codes "append")) ((int 1) ∷ []))) ∷
    on 7 (x.Augment (x.ToAttr (name (codes "A")) (codes "l")) Add (list ((int 2) ∷ []))) ∷
    on 8 (x.Assign (x.ToIndex (x.Attr (name (codes "A")) (codes "l")) (int 0)) (int 9)) ∷
    on 9 (x.Assign (x.ToName (codes "B")) (x.Attr (name (codes "A")) (codes "l"))) ∷ []))

slots_of_own_objects_are_written_ends : ended 50000 slots_of_own_objects_are_written ≡ record {
  end = Finished 14;
  globals = (holds
      (codes "C") (codes "<class C>") ∷ holds (codes "A") (codes "<C object>") ∷ holds (codes "B") (codes "[9, 2]") ∷ []);
}
slots_of_own_objects_are_written_ends = refl
