-- Worked bodies, computed: functions and calls.
use Rattle.std.proofs.Common.{◌≡◌, refl}
use Rattle.std.specs.Prelude.{[], ◌∷◌, Some, codes}
use Rattle.py_tree.specs.Syntax as x
use Rattle.py_tree.specs.Syntax.{Statements}
use Rattle.py_tree.specs.declared.operator.BinaryOp.TheVariants.{Add, Sub, Mul}
use Rattle.py_tree.specs.declared.operator.CompareOp.TheVariants.{Eq}
use Rattle.py_meaning.proofs.Programs.{int, name, list, call, call_with, block, on, marker, param, param_or, function, tested, if_or, except, try_or}
use Rattle.py_meaning.proofs.Ends.{Finished, HasRaised, ended, holds, is_unbound}

abbrev def_and_call : Statements
def_and_call = (block (
    on 1 marker ∷
    on 2 (x.Def (function (codes "f") (param (codes "a") ∷ param_or (codes "b") (int 2) ∷ []) (block (
    on 3 (x.Return (Some (x.Binary Add (name (codes "a")) (name (codes "b"))))) ∷ [])))) ∷
    on 4 (x.Assign (x.ToName (codes "X")) (call (name (codes "f")) ((int 1) ∷ []))) ∷
    on 5 (x.Assign (x.ToName (codes "Y")) (call_with (name (codes "f")) ((int 1) ∷ []) (((codes "b"), (int 5)) ∷ []))) ∷ []))

def_and_call_ends : ended 50000 def_and_call ≡ record {
  end = Finished 8;
  globals = (holds (codes "f") (codes "<function f>") ∷ holds
      (codes "X") (codes "3") ∷ holds (codes "Y") (codes "6") ∷ []);
}
def_and_call_ends = refl

abbrev default_is_evaluated_at_the_def : Statements
default_is_evaluated_at_the_def = (block (
    on 1 marker ∷
    on 2 (x.Assign (x.ToName (codes "N")) (list ((int 1) ∷ []))) ∷
    on 3 (x.Def (function (codes "f") (param_or (codes "a") (x.Binary Add (name (codes "N")) (list ((int 2) ∷ []))) ∷ []) (block (
    on 4 (x.Return (Some (name (codes "a")))) ∷ [])))) ∷
    on 5 (x.Assign (x.ToName (codes "N")) (int 5)) ∷
    on 6 (x.Assign (x.ToName (codes "X")) (call (name (codes "f")) ([]))) ∷
    on 7 (x.Assign (x.ToName (codes "Y")) (call (name (codes "f")) ([]))) ∷
    on 8 (x.Eval (call (x.Attr (name (codes "X")) (codes "append")) ((int 9) ∷ []))) ∷ []))

default_is_evaluated_at_the_def_ends : ended 50000 default_is_evaluated_at_the_def ≡ record {
  end = Finished 16;
  globals = (holds
      (codes "N") (codes "5") ∷ holds (codes "f") (codes "<function f>") ∷ holds (codes "X") (codes "[1, 2, 9]") ∷ holds (codes "Y")
      (codes "[1, 2, 9]") ∷ []);
}
default_is_evaluated_at_the_def_ends = refl

abbrev function_without_return : Statements
function_without_return = (block (
    on 1 marker ∷
    on 2 (x.Def (function (codes "f") ([]) (block (
    on 3 (x.Assign (x.ToName (codes "x")) (int 1)) ∷ [])))) ∷
    on 4 (x.Assign (x.ToName (codes "X")) (call (name (codes "f")) ([]))) ∷
    on 5 (x.Assign (x.ToName (codes "Y")) (list ((call (name (codes "f")) ([])) ∷ (name (codes "f")) ∷ []))) ∷ []))

function_without_return_ends : ended 50000 function_without_return ≡ record {
  end = Finished 10;
  globals = (holds (codes "f") (codes
      "<function f>") ∷ holds (codes "X") (codes "None") ∷ holds (codes "Y") (codes "[None, <function f>]") ∷ []);
}
function_without_return_ends = refl

abbrev recursion : Statements
recursion = (block (
    on 1 marker ∷
    on 2 (x.Def (function (codes "fact") (param (codes "n") ∷ []) (block (
    on 3 (if_or (tested 3 (x.Compare Eq (name (codes "n")) (int 0)) (block (
    on 4 (x.Return (Some (int 1))) ∷ [])) ∷ []) x.end_of_statements) ∷
    on 5 (x.Return (Some (x.Binary Mul (name (codes "n")) (call (name (codes "fact")) ((x.Binary Sub (name (codes "n")) (int 1))
    ∷ []))))) ∷ [])))) ∷
    on 6 (x.Assign (x.ToName (codes "X")) (call (name (codes "fact")) ((int 10) ∷ []))) ∷ []))

recursion_ends : ended 50000 recursion ≡ record {
  end = Finished 36;
  globals = (holds (codes "fact") (codes "<function fact>") ∷
      holds (codes "X") (codes "3628800") ∷ []);
}
recursion_ends = refl

abbrev frames_of_a_body : Statements
frames_of_a_body = (block (
    on 1 marker ∷
    on 2 (x.Def (function (codes "f") (param (codes "n") ∷ []) (block (
    on 3 (if_or (tested 3 (x.Compare Eq (name (codes "n")) (int 0)) (block (
    on 4 (x.Return (Some (int 0))) ∷ [])) ∷ []) x.end_of_statements) ∷
    on 5 (x.Return (Some (call (name (codes "f")) ((x.Binary Sub (name (codes "n")) (int 1)) ∷ [])))) ∷ [])))) ∷
    on 6 (x.Assign (x.ToName (codes "X")) (call (name (codes "f")) ((int 254) ∷ []))) ∷ []))

frames_of_a_body_ends : ended 50000 frames_of_a_body ≡ record {
  end = Finished 768;
  globals = (holds (codes "f") (codes
      "<function f>") ∷ holds (codes "X") (codes "0") ∷ []);
}
frames_of_a_body_ends = refl

abbrev frames_past_the_limit : Statements
frames_past_the_limit = (block (
    on 1 marker ∷
    on 2 (x.Def (function (codes "f") (param (codes "n") ∷ []) (block (
    on 3 (if_or (tested 3 (x.Compare Eq (name (codes "n")) (int 0)) (block (
    on 4 (x.Return (Some (int 0))) ∷ [])) ∷ []) x.end_of_statements) ∷
    on 5 (x.Return (Some (call (name (codes "f")) ((x.Binary Sub (name (codes "n")) (int 1)) ∷ [])))) ∷ [])))) ∷
    on 6 (x.Assign (x.ToName (codes "X")) (call (name (codes "f")) ((int 255) ∷ []))) ∷ []))

frames_past_the_limit_ends : ended 50000 frames_past_the_limit ≡ record {
  end = HasRaised 769 6 (codes "RecursionError");
  globals =
      (holds (codes "f") (codes "<function f>") ∷ is_unbound (codes "X") ∷ []);
}
frames_past_the_limit_ends = refl

abbrev frames_past_the_limit_caught : Statements
frames_past_the_limit_caught = (block (
    on 1 marker ∷
    on 2 (x.Assign (x.ToName (codes "N")) (int 0)) ∷
    on 3 (x.Def (function (codes "f") (param (codes "n") ∷ []) (block (
    on 4 (x.Return (Some (call (name (codes "f")) ((x.Binary Add (name (codes "n")) (int 1)) ∷ [])))) ∷ [])))) ∷
    on 5 (try_or (block (
    on 6 (x.Eval (call (name (codes "f")) ((int 0) ∷ []))) ∷ [])) (except (Some (name (codes "RecursionError"))) (Some (codes
    "e")) (block (
    on 8 (x.Assign (x.ToName (codes "N")) (x.Attr (name (codes "e")) (codes "args"))) ∷ [])) ∷ [])) ∷ []))

frames_past_the_limit_caught_ends : ended 50000 frames_past_the_limit_caught ≡ record {
  end = Finished 517;
  globals = (holds (codes
      "N") (codes "()") ∷ holds (codes "f") (codes "<function f>") ∷ is_unbound (codes "e") ∷ []);
}
frames_past_the_limit_caught_ends = refl

abbrev arguments_in_order : Statements
arguments_in_order = (block (
    on 1 marker ∷
    on 2 (x.Assign (x.ToName (codes "LOG")) (list ([]))) ∷
    on 3 (x.Def (function (codes "p") (param (codes "x") ∷ []) (block (
    on 4 (x.Eval (call (x.Attr (name (codes "LOG")) (codes "append")) ((name (codes "x")) ∷ []))) ∷
    on 5 (x.Return (Some (name (codes "x")))) ∷ [])))) ∷
    on 6 (x.Def (function (codes "g") (param (codes "a") ∷ param (codes "b") ∷ param (codes "c") ∷ []) (block (
    on 7 (x.Return (Some (list ((name (codes "a")) ∷ (name (codes "b")) ∷ (name (codes "c")) ∷ [])))) ∷ [])))) ∷
    on 8 (x.Assign (x.ToName (codes "X")) (call_with (call (name (codes "p")) ((name (codes "g")) ∷ [])) ((call (name (codes "p"))
    ((int 1) ∷ [])) ∷ []) (((codes "c"), (call (name (codes "p")) ((int 2) ∷ []))) ∷ (
      (codes "b"),
      (call (name (codes "p"))
          ((int 3) ∷ [])),
    ) ∷ []))) ∷ []))

arguments_in_order_ends : ended 50000 arguments_in_order ≡ record {
  end = Finished 26;
  globals = (holds (codes "LOG") (codes
      "[<function g>, 1, 2, 3]") ∷ holds (codes "p") (codes "<function p>") ∷ holds (codes "g") (codes "<function g>") ∷ holds (codes
      "X") (codes "[1, 3, 2]") ∷ []);
}
arguments_in_order_ends = refl

abbrev global_and_local_names : Statements
global_and_local_names = (block (
    on 1 marker ∷
    on 2 (x.Assign (x.ToName (codes "X")) (int 1)) ∷
    on 3 (x.Def (function (codes "f") ([]) (block (
    on 4 (x.Assign (x.ToName (codes "X")) (int 2)) ∷
    on 5 (x.Return (Some (name (codes "X")))) ∷ [])))) ∷
    on 6 (x.Assign (x.ToName (codes "Y")) (call (name (codes "f")) ([]))) ∷
    on 7 (x.Def (function (codes "g") ([]) (block (
    on 8 (x.Return (Some (name (codes "X")))) ∷ [])))) ∷
    on 9 (x.Assign (x.ToName (codes "Z")) (call (name (codes "g")) ([]))) ∷ []))

global_and_local_names_ends : ended 50000 global_and_local_names ≡ record {
  end = Finished 11;
  globals = (holds (codes "X") (codes
      "1") ∷ holds (codes "f") (codes "<function f>") ∷ holds (codes "Y") (codes "2") ∷ holds (codes "g") (codes "<function g>") ∷
      holds (codes "Z") (codes "1") ∷ []);
}
global_and_local_names_ends = refl

abbrev binding_fault : Statements
binding_fault = (block (
    on 1 marker ∷
    on 2 (x.Def (function (codes "f") (param (codes "a") ∷ []) (block (
    on 3 (x.Return (Some (name (codes "a")))) ∷ [])))) ∷
    on 4 (x.Assign (x.ToName (codes "X")) (int 1)) ∷
    on 5 (x.Assign (x.ToName (codes "Y")) (call (name (codes "f")) ([]))) ∷
    on 6 (x.Assign (x.ToName (codes "Z")) (int 2)) ∷ []))

binding_fault_ends : ended 50000 binding_fault ≡ record {
  end = HasRaised 5 5 (codes "TypeError");
  globals = (holds (codes "f")
      (codes "<function f>") ∷ holds (codes "X") (codes "1") ∷ is_unbound (codes "Y") ∷ is_unbound (codes "Z") ∷ []);
}
binding_fault_ends = refl

abbrev unbound_local : Statements
unbound_local = (block (
    on 1 marker ∷
    on 2 (x.Assign (x.ToName (codes "X")) (int 1)) ∷
    on 3 (x.Def (function (codes "f") ([]) (block (
    on 4 (x.Assign (x.ToName (codes "Y")) (name (codes "X"))) ∷
    on 5 (x.Assign (x.ToName (codes "X")) (int 2)) ∷ [])))) ∷
    on 6 (x.Assign (x.ToName (codes "Z")) (call (name (codes "f")) ([]))) ∷ []))

unbound_local_ends : ended 50000 unbound_local ≡ record {
  end = HasRaised 6 6 (codes "UnboundLocalError");
  globals = (holds (codes
      "X") (codes "1") ∷ holds (codes "f") (codes "<function f>") ∷ is_unbound (codes "Z") ∷ []);
}
unbound_local_ends = refl

abbrev unbound_global : Statements
unbound_global = (block (
    on 1 marker ∷
    on 2 (x.Assign (x.ToName (codes "A")) (int 1)) ∷
    on 3 (x.Assign (x.ToName (codes "B")) (name (codes "C"))) ∷
    on 4 (x.Assign (x.ToName (codes "C")) (int 2)) ∷ []))

unbound_global_ends : ended 50000 unbound_global ≡ record {
  end = HasRaised 3 3 (codes "NameError");
  globals = (holds (codes "A")
      (codes "1") ∷ is_unbound (codes "B") ∷ is_unbound (codes "C") ∷ []);
}
unbound_global_ends = refl

abbrev call_of_what_is_no_callable : Statements
call_of_what_is_no_callable = (block (
    on 1 marker ∷
    on 2 (x.Assign (x.ToName (codes "X")) (list ((int 1) ∷ []))) ∷
    on 3 (x.Assign (x.ToName (codes "Y")) (call (name (codes "X")) ((int 2) ∷ []))) ∷ []))

call_of_what_is_no_callable_ends : ended 50000 call_of_what_is_no_callable ≡ record {
  end = HasRaised 5 3 (codes "TypeError");
  globals = (holds (codes "X") (codes "[1]") ∷ is_unbound (codes "Y") ∷ []);
}
call_of_what_is_no_callable_ends = refl
