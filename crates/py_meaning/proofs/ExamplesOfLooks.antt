-- Each place in which a host value is looked at while a body runs, and some in which it isn't: the line and the code of the refusal.
use Rattle.std.proofs.Common.{◌≡◌, refl}
use Rattle.std.specs.Prelude.{false, [], ◌∷◌, Some, None, codes}
use Rattle.py_tree.specs.Syntax as x
use Rattle.py_tree.specs.Syntax.{Statements}
use Rattle.py_tree.specs.declared.operator.UnaryOp.TheVariants.{Minus}
use Rattle.py_tree.specs.declared.operator.BinaryOp.TheVariants.{Add, FloorDiv}
use Rattle.py_tree.specs.declared.operator.CompareOp.TheVariants.{Eq, Lt, In}
use Rattle.py_tree.specs.declared.operator.Const.TheVariants as constant
use Rattle.py_tree.specs.declared.code.Code.TheVariants.{Effect, UnknownValue}
use Rattle.py_meaning.proofs.Programs.{int, text, name, tuple, list, dict, call, block, on, marker, imported, param, function, tested, if_or, except, try_or, class}
use Rattle.py_meaning.proofs.Ends.{refusal}

abbrev an_operand : Statements
an_operand = (block (
    on 1 marker ∷
    on 2 (x.From (codes "__host__") (imported (codes "H") ∷ [])) ∷
    on 3 (x.Assign (x.ToName (codes "X")) (x.Binary Add (name (codes "H")) (int 1))) ∷ []))

an_operand_is_looked_at : refusal an_operand ≡ Some (3, UnknownValue)
an_operand_is_looked_at = refl

abbrev another_operand : Statements
another_operand = (block (
    on 1 marker ∷
    on 2 (x.From (codes "__host__") (imported (codes "H") ∷ [])) ∷
    on 3 (x.Assign (x.ToName (codes "X")) (x.Binary Add (int 1) (name (codes "H")))) ∷ []))

another_operand_is_looked_at : refusal another_operand ≡ Some (3, UnknownValue)
another_operand_is_looked_at = refl

abbrev a_sign : Statements
a_sign = (block (
    on 1 marker ∷
    on 2 (x.From (codes "__host__") (imported (codes "H") ∷ [])) ∷
    on 3 (x.Assign (x.ToName (codes "X")) (x.Unary Minus (name (codes "H")))) ∷ []))

a_sign_is_looked_at : refusal a_sign ≡ Some (3, UnknownValue)
a_sign_is_looked_at = refl

abbrev an_operand_of_is : Statements
an_operand_of_is = (block (
    on 1 marker ∷
    on 2 (x.From (codes "__host__") (imported (codes "H") ∷ [])) ∷
    on 3 (x.Assign (x.ToName (codes "X")) (x.Is false (name (codes "H")) constant.Nil)) ∷ []))

an_operand_of_is_is_looked_at : refusal an_operand_of_is ≡ Some (3, UnknownValue)
an_operand_of_is_is_looked_at = refl

abbrev a_condition : Statements
a_condition = (block (
    on 1 marker ∷
    on 2 (x.From (codes "__host__") (imported (codes "H") ∷ [])) ∷
    on 3 (x.Assign (x.ToName (codes "X")) (x.Not (name (codes "H")))) ∷ []))

a_condition_is_looked_at : refusal a_condition ≡ Some (3, UnknownValue)
a_condition_is_looked_at = refl

abbrev a_first_operand_of_and : Statements
a_first_operand_of_and = (block (
    on 1 marker ∷
    on 2 (x.From (codes "__host__") (imported (codes "H") ∷ [])) ∷
    on 3 (x.Assign (x.ToName (codes "X")) (x.And (name (codes "H")) (int 1))) ∷ []))

a_first_operand_of_and_is_looked_at : refusal a_first_operand_of_and ≡ Some (3, UnknownValue)
a_first_operand_of_and_is_looked_at = refl

abbrev a_test : Statements
a_test = (block (
    on 1 marker ∷
    on 2 (x.From (codes "__host__") (imported (codes "H") ∷ [])) ∷
    on 3 (if_or (tested 3 (name (codes "H")) (block (
    on 4 (x.Assign (x.ToName (codes "X")) (int 1)) ∷ [])) ∷ []) x.end_of_statements) ∷ []))

a_test_is_looked_at : refusal a_test ≡ Some (3, UnknownValue)
a_test_is_looked_at = refl

abbrev a_test_of_while : Statements
a_test_of_while = (block (
    on 1 marker ∷
    on 2 (x.From (codes "__host__") (imported (codes "H") ∷ [])) ∷
    on 3 (x.While (name (codes "H")) (block (
    on 4 (x.Assign (x.ToName (codes "X")) (int 1)) ∷ []))) ∷ []))

a_test_of_while_is_looked_at : refusal a_test_of_while ≡ Some (3, UnknownValue)
a_test_of_while_is_looked_at = refl

abbrev a_conditional : Statements
a_conditional = (block (
    on 1 marker ∷
    on 2 (x.From (codes "__host__") (imported (codes "H") ∷ [])) ∷
    on 3 (x.Assign (x.ToName (codes "X")) (x.Cond (name (codes "H")) (int 1) (int 2))) ∷ []))

a_conditional_is_looked_at : refusal a_conditional ≡ Some (3, UnknownValue)
a_conditional_is_looked_at = refl

abbrev an_object_of_an_attribute : Statements
an_object_of_an_attribute = (block (
    on 1 marker ∷
    on 2 (x.From (codes "__host__") (imported (codes "H") ∷ [])) ∷
    on 3 (x.Assign (x.ToName (codes "X")) (x.Attr (name (codes "H")) (codes "x"))) ∷ []))

an_object_of_an_attribute_is_looked_at : refusal an_object_of_an_attribute ≡ Some (3, UnknownValue)
an_object_of_an_attribute_is_looked_at = refl

abbrev an_object_that_is_written : Statements
an_object_that_is_written = (block (
    on 1 marker ∷
    on 2 (x.From (codes "__host__") (imported (codes "H") ∷ [])) ∷
    on 3 (x.Assign (x.ToAttr (name (codes "H")) (codes "x")) (int 1)) ∷ []))

an_object_that_is_written_is_looked_at : refusal an_object_that_is_written ≡ Some (3, UnknownValue)
an_object_that_is_written_is_looked_at = refl

abbrev an_object_of_a_subscript : Statements
an_object_of_a_subscript = (block (
    on 1 marker ∷
    on 2 (x.From (codes "__host__") (imported (codes "H") ∷ [])) ∷
    on 3 (x.Assign (x.ToName (codes "X")) (x.Index (name (codes "H")) (int 0))) ∷ []))

an_object_of_a_subscript_is_looked_at : refusal an_object_of_a_subscript ≡ Some (3, UnknownValue)
an_object_of_a_subscript_is_looked_at = refl

abbrev an_index : Statements
an_index = (block (
    on 1 marker ∷
    on 2 (x.From (codes "__host__") (imported (codes "H") ∷ [])) ∷
    on 3 (x.Assign (x.ToName (codes "X")) (x.Index (list ((int 1) ∷ [])) (name (codes "H")))) ∷ []))

an_index_is_looked_at : refusal an_index ≡ Some (3, UnknownValue)
an_index_is_looked_at = refl

abbrev a_written_index : Statements
a_written_index = (block (
    on 1 marker ∷
    on 2 (x.From (codes "__host__") (imported (codes "H") ∷ [])) ∷
    on 3 (x.Assign (x.ToName (codes "L")) (list ((int 1) ∷ []))) ∷
    on 4 (x.Assign (x.ToIndex (name (codes "L")) (name (codes "H"))) (int 2)) ∷ []))

a_written_index_is_looked_at : refusal a_written_index ≡ Some (4, UnknownValue)
a_written_index_is_looked_at = refl

abbrev a_key_looked_up : Statements
a_key_looked_up = (block (
    on 1 marker ∷
    on 2 (x.From (codes "__host__") (imported (codes "H") ∷ [])) ∷
    on 3 (x.Assign (x.ToName (codes "X")) (x.Index (dict (((int 1), (int 2)) ∷ [])) (name (codes "H")))) ∷ []))

a_key_looked_up_is_looked_at : refusal a_key_looked_up ≡ Some (3, UnknownValue)
a_key_looked_up_is_looked_at = refl

abbrev a_key_put : Statements
a_key_put = (block (
    on 1 marker ∷
    on 2 (x.From (codes "__host__") (imported (codes "H") ∷ [])) ∷
    on 3 (x.Assign (x.ToName (codes "X")) (dict (((name (codes "H")), (int 1)) ∷ []))) ∷ []))

a_key_put_is_looked_at : refusal a_key_put ≡ Some (3, UnknownValue)
a_key_put_is_looked_at = refl

abbrev a_part_of_a_key : Statements
a_part_of_a_key = (block (
    on 1 marker ∷
    on 2 (x.From (codes "__host__") (imported (codes "H") ∷ [])) ∷
    on 3 (x.Assign (x.ToName (codes "X")) (dict (((tuple ((int 1) ∷ (name (codes "H")) ∷ [])), (int 1)) ∷ []))) ∷ []))

a_part_of_a_key_is_looked_at : refusal a_part_of_a_key ≡ Some (3, UnknownValue)
a_part_of_a_key_is_looked_at = refl

abbrev a_callee : Statements
a_callee = (block (
    on 1 marker ∷
    on 2 (x.From (codes "__host__") (imported (codes "H") ∷ [])) ∷
    on 3 (x.Eval (call (name (codes "H")) ([]))) ∷ []))

a_callee_is_looked_at : refusal a_callee ≡ Some (3, UnknownValue)
a_callee_is_looked_at = refl

abbrev an_iterable : Statements
an_iterable = (block (
    on 1 marker ∷
    on 2 (x.From (codes "__host__") (imported (codes "H") ∷ [])) ∷
    on 3 (x.For (x.ToName (codes "X")) (name (codes "H")) (block (
    on 4 x.Pass ∷ []))) ∷ []))

an_iterable_is_looked_at : refusal an_iterable ≡ Some (3, UnknownValue)
an_iterable_is_looked_at = refl

abbrev an_iterable_unpacked : Statements
an_iterable_unpacked = (block (
    on 1 marker ∷
    on 2 (x.From (codes "__host__") (imported (codes "H") ∷ [])) ∷
    on 3 (x.Assign (x.ToNames ((codes "X") ∷ (codes "Y") ∷ [])) (name (codes "H"))) ∷ []))

an_iterable_unpacked_is_looked_at : refusal an_iterable_unpacked ≡ Some (3, UnknownValue)
an_iterable_unpacked_is_looked_at = refl

abbrev an_argument_of_len : Statements
an_argument_of_len = (block (
    on 1 marker ∷
    on 2 (x.From (codes "__host__") (imported (codes "H") ∷ [])) ∷
    on 3 (x.Assign (x.ToName (codes "X")) (call (name (codes "len")) ((name (codes "H")) ∷ []))) ∷ []))

an_argument_of_len_is_looked_at : refusal an_argument_of_len ≡ Some (3, UnknownValue)
an_argument_of_len_is_looked_at = refl

abbrev an_argument_of_str : Statements
an_argument_of_str = (block (
    on 1 marker ∷
    on 2 (x.From (codes "__host__") (imported (codes "H") ∷ [])) ∷
    on 3 (x.Assign (x.ToName (codes "X")) (call (name (codes "str")) ((name (codes "H")) ∷ []))) ∷ []))

an_argument_of_str_is_looked_at : refusal an_argument_of_str ≡ Some (3, UnknownValue)
an_argument_of_str_is_looked_at = refl

abbrev an_item_of_repr : Statements
an_item_of_repr = (block (
    on 1 marker ∷
    on 2 (x.From (codes "__host__") (imported (codes "H") ∷ [])) ∷
    on 3 (x.Assign (x.ToName (codes "X")) (call (name (codes "repr")) ((list ((name (codes "H")) ∷ [])) ∷ []))) ∷ []))

an_item_of_repr_is_looked_at : refusal an_item_of_repr ≡ Some (3, UnknownValue)
an_item_of_repr_is_looked_at = refl

abbrev an_item_of_join : Statements
an_item_of_join = (block (
    on 1 marker ∷
    on 2 (x.From (codes "__host__") (imported (codes "H") ∷ [])) ∷
    on 3 (x.Assign (x.ToName (codes "X")) (call (x.Attr (text (codes ",")) (codes "join")) ((list ((name (codes "H")) ∷ [])) ∷ [])))
    ∷ []))

an_item_of_join_is_looked_at : refusal an_item_of_join ≡ Some (3, UnknownValue)
an_item_of_join_is_looked_at = refl

abbrev an_operand_of_raise : Statements
an_operand_of_raise = (block (
    on 1 marker ∷
    on 2 (x.From (codes "__host__") (imported (codes "H") ∷ [])) ∷
    on 3 (x.Raise (Some (name (codes "H")))) ∷ []))

an_operand_of_raise_is_looked_at : refusal an_operand_of_raise ≡ Some (3, UnknownValue)
an_operand_of_raise_is_looked_at = refl

abbrev an_operand_of_except : Statements
an_operand_of_except = (block (
    on 1 marker ∷
    on 2 (x.From (codes "__host__") (imported (codes "H") ∷ [])) ∷
    on 3 (try_or (block (
    on 4 (x.Eval (x.Binary FloorDiv (int 1) (int 0))) ∷ [])) (except (Some (name (codes "H"))) None (block (
    on 6 x.Pass ∷ [])) ∷ [])) ∷ []))

an_operand_of_except_is_looked_at : refusal an_operand_of_except ≡ Some (3, UnknownValue)
an_operand_of_except_is_looked_at = refl

abbrev an_item_of_except : Statements
an_item_of_except = (block (
    on 1 marker ∷
    on 2 (x.From (codes "__host__") (imported (codes "H") ∷ [])) ∷
    on 3 (try_or (block (
    on 4 (x.Eval (x.Binary FloorDiv (int 1) (int 0))) ∷ [])) (except (Some (tuple ((name (codes "TypeError")) ∷ (name (codes
    "H")) ∷ []))) None (block (
    on 6 x.Pass ∷ [])) ∷ [])) ∷ []))

an_item_of_except_is_looked_at : refusal an_item_of_except ≡ Some (3, UnknownValue)
an_item_of_except_is_looked_at = refl

abbrev a_class_of_isinstance : Statements
a_class_of_isinstance = (block (
    on 1 marker ∷
    on 2 (x.From (codes "__host__") (imported (codes "H") ∷ [])) ∷
    on 3 (x.Assign (x.ToName (codes "X")) (call (name (codes "isinstance")) ((int 1) ∷ (name (codes "H")) ∷ []))) ∷ []))

a_class_of_isinstance_is_looked_at : refusal a_class_of_isinstance ≡ Some (3, UnknownValue)
a_class_of_isinstance_is_looked_at = refl

abbrev an_item_of_isinstance : Statements
an_item_of_isinstance = (block (
    on 1 marker ∷
    on 2 (x.From (codes "__host__") (imported (codes "H") ∷ [])) ∷
    on 3 (x.Assign (x.ToName (codes "X")) (call (name (codes "isinstance")) ((int 1) ∷ (tuple ((name (codes "str")) ∷ (name (codes
    "H")) ∷ [])) ∷ []))) ∷ []))

an_item_of_isinstance_is_looked_at : refusal an_item_of_isinstance ≡ Some (3, UnknownValue)
an_item_of_isinstance_is_looked_at = refl

abbrev an_item_that_equality_reaches : Statements
an_item_that_equality_reaches = (block (
    on 1 marker ∷
    on 2 (x.From (codes "__host__") (imported (codes "H") ∷ [])) ∷
    on 3 (x.Assign (x.ToName (codes "X")) (x.Compare Eq (list ((name (codes "H")) ∷ [])) (list ((int 1) ∷ [])))) ∷ []))

an_item_that_equality_reaches_is_looked_at : refusal an_item_that_equality_reaches ≡ Some (3, UnknownValue)
an_item_that_equality_reaches_is_looked_at = refl

abbrev an_item_that_order_reaches : Statements
an_item_that_order_reaches = (block (
    on 1 marker ∷
    on 2 (x.From (codes "__host__") (imported (codes "H") ∷ [])) ∷
    on 3 (x.Assign (x.ToName (codes "X")) (x.Compare Lt (tuple ((name (codes "H")) ∷ [])) (tuple ((int 1) ∷ [])))) ∷ []))

an_item_that_order_reaches_is_looked_at : refusal an_item_that_order_reaches ≡ Some (3, UnknownValue)
an_item_that_order_reaches_is_looked_at = refl

abbrev an_item_that_in_reaches : Statements
an_item_that_in_reaches = (block (
    on 1 marker ∷
    on 2 (x.From (codes "__host__") (imported (codes "H") ∷ [])) ∷
    on 3 (x.Assign (x.ToName (codes "X")) (x.Compare In (int 1) (list ((name (codes "H")) ∷ [])))) ∷ []))

an_item_that_in_reaches_is_looked_at : refusal an_item_that_in_reaches ≡ Some (3, UnknownValue)
an_item_that_in_reaches_is_looked_at = refl

abbrev an_answer_of_init : Statements
an_answer_of_init = (block (
    on 1 marker ∷
    on 2 (x.From (codes "__host__") (imported (codes "H") ∷ [])) ∷
    on 3 (class (codes "C") None (block (
    on 4 (x.Def (function (codes "__init__") (param (codes "self") ∷ []) (block (
    on 5 (x.Return (Some (name (codes "H")))) ∷ [])))) ∷ []))) ∷
    on 6 (x.Assign (x.ToName (codes "X")) (call (name (codes "C")) ([]))) ∷ []))

an_answer_of_init_is_looked_at : refusal an_answer_of_init ≡ Some (6, UnknownValue)
an_answer_of_init_is_looked_at = refl

abbrev a_print : Statements
a_print = (block (
    on 1 marker ∷
    on 2 (x.From (codes "__host__") (imported (codes "H") ∷ [])) ∷
    on 3 (x.Eval (call (name (codes "print")) ((name (codes "H")) ∷ []))) ∷ []))

a_print_is_an_effect : refusal a_print ≡ Some (3, Effect)
a_print_is_an_effect = refl

abbrev pub stored : Statements
stored = (block (
    on 1 marker ∷
    on 2 (x.From (codes "__host__") (imported (codes "H") ∷ [])) ∷
    on 3 (x.Assign (x.ToName (codes "X")) (list ((name (codes "H")) ∷ []))) ∷
    on 4 (x.Eval (call (x.Attr (name (codes "X")) (codes "append")) ((name (codes "H")) ∷ []))) ∷
    on 5 (x.Assign (x.ToName (codes "Y")) (dict (((int 1), (name (codes "H"))) ∷ []))) ∷
    on 6 (x.Assign (x.ToName (codes "Z")) (tuple ((name (codes "H")) ∷ (name (codes "H")) ∷ []))) ∷ []))

stored_is_no_look : refusal stored ≡ None
stored_is_no_look = refl

abbrev pub passed_and_returned : Statements
passed_and_returned = (block (
    on 1 marker ∷
    on 2 (x.From (codes "__host__") (imported (codes "H") ∷ [])) ∷
    on 3 (x.Def (function (codes "f") (param (codes "a") ∷ []) (block (
    on 4 (x.Return (Some (name (codes "a")))) ∷ [])))) ∷
    on 5 (x.Assign (x.ToName (codes "X")) (call (name (codes "f")) ((name (codes "H")) ∷ []))) ∷ []))

passed_and_returned_is_no_look : refusal passed_and_returned ≡ None
passed_and_returned_is_no_look = refl

abbrev an_item_that_equality_does_not_reach : Statements
an_item_that_equality_does_not_reach = (block (
    on 1 marker ∷
    on 2 (x.From (codes "__host__") (imported (codes "H") ∷ [])) ∷
    on 3 (x.Assign (x.ToName (codes "X")) (x.Compare Eq (list ((name (codes "H")) ∷ [])) (list ([])))) ∷ []))

an_item_that_equality_does_not_reach_is_no_look : refusal an_item_that_equality_does_not_reach ≡ None
an_item_that_equality_does_not_reach_is_no_look = refl

abbrev the_one_item_of_min : Statements
the_one_item_of_min = (block (
    on 1 marker ∷
    on 2 (x.From (codes "__host__") (imported (codes "H") ∷ [])) ∷
    on 3 (x.Assign (x.ToName (codes "X")) (call (name (codes "min")) ((list ((name (codes "H")) ∷ [])) ∷ []))) ∷ []))

the_one_item_of_min_is_no_look : refusal the_one_item_of_min ≡ None
the_one_item_of_min_is_no_look = refl
