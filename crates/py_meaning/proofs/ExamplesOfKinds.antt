-- Each kind of value in each operator, computed: what it gives, or the class of the exception that it raises. The list of what was given has the pairs
-- in the order of the kinds, those of the first operand going slowest.
use Rattle.std.proofs.Common.{◌≡◌, refl}
use Rattle.std.specs.Prelude.{true, false, [], ◌∷◌, ◌++◌, Option, Some, None, codes}
use Rattle.py_tree.specs.Syntax as x
use Rattle.py_tree.specs.Syntax.{Text, Expression, Kind, Clause, Statements}
use Rattle.py_tree.specs.declared.operator.UnaryOp.TheVariants.{Minus, Plus}
use Rattle.py_tree.specs.declared.operator.BinaryOp.TheVariants.{Add, Sub, Mul, FloorDiv, Mod}
use Rattle.py_tree.specs.declared.operator.CompareOp.TheVariants.{Eq, Ne, Lt, Le, In}
use Rattle.py_tree.specs.declared.operator.Const.TheVariants as constant
use Rattle.py_meaning.proofs.Programs.{int, text, none, name, tuple, list, dict, call, block, on, marker, except, try_or}
use Rattle.py_meaning.proofs.Ends.{named_global}

-- ---- the bodies

abbrev a : Expression
a = name (codes "a")

abbrev b : Expression
b = name (codes "b")

abbrev kinds : Expression
kinds = list (none ∷ x.True ∷ int 3 ∷ text (codes "ab") ∷ tuple (int 1 ∷ []) ∷ list (int 1 ∷ [])
    ∷ dict ((int 1, int 2) ∷ []) ∷ call (name (codes "range")) (int 2 ∷ []) ∷ [])

-- R.append(e)
abbrev append : Expression → Statements
append e = block (on 5 (x.Eval (call (x.Attr (name (codes "R")) (codes "append")) (e ∷ []))) ∷ [])

abbrev noted : Text → Clause
noted class = except (Some (name class)) None (append (text class))

-- the value of an expression, or the name of the exception that it raises, goes into the list R
abbrev tried : Expression → Kind
tried e = try_or (append e) (noted (codes "TypeError") ∷ noted (codes "IndexError") ∷ noted (codes "KeyError") ∷ [])

abbrev of_a : Kind → Statements
of_a kind = block (
    on 1 marker
    ∷ on 2 (x.Assign (x.ToName (codes "R")) (list []))
    ∷ on 3 (x.For (x.ToName (codes "a")) kinds (block (on 4 kind ∷ [])))
    ∷ [])

-- for each kind, and for each two
abbrev given_by : Expression → Option Text
given_by e = named_global (codes "R") (of_a (tried e))

abbrev given_by_two : Expression → Option Text
given_by_two e = named_global (codes "R") (of_a (x.For (x.ToName (codes "b")) kinds (block (on 4 (tried e) ∷ []))))

-- ---- what they give

sums : given_by_two (x.Binary Add a b) ≡ Some (
    codes "['TypeError', 'TypeError', 'TypeError', 'TypeError', 'TypeError', 'TypeError', 'TypeError', 'TypeError',"
    ++ codes " 'TypeError', 2, 4, 'TypeError', 'TypeError', 'TypeError', 'TypeError', 'TypeError', 'TypeError', 4, 6, "
    ++ codes "'TypeError', 'TypeError', 'TypeError', 'TypeError', 'TypeError', 'TypeError', 'TypeError', 'TypeError', "
    ++ codes "'abab', 'TypeError', 'TypeError', 'TypeError', 'TypeError', 'TypeError', 'TypeError', 'TypeError', 'Type"
    ++ codes "Error', (1, 1), 'TypeError', 'TypeError', 'TypeError', 'TypeError', 'TypeError', 'TypeError', 'TypeError"
    ++ codes "', 'TypeError', [1, 1], 'TypeError', 'TypeError', 'TypeError', 'TypeError', 'TypeError', 'TypeError', 'T"
    ++ codes "ypeError', 'TypeError', 'TypeError', 'TypeError', 'TypeError', 'TypeError', 'TypeError', 'TypeError', 'T"
    ++ codes "ypeError', 'TypeError', 'TypeError', 'TypeError']")
sums = refl

differences : given_by_two (x.Binary Sub a b) ≡ Some (
    codes "['TypeError', 'TypeError', 'TypeError', 'TypeError', 'TypeError', 'TypeError', 'TypeError', 'TypeError',"
    ++ codes " 'TypeError', 0, -2, 'TypeError', 'TypeError', 'TypeError', 'TypeError', 'TypeError', 'TypeError', 2, 0,"
    ++ codes " 'TypeError', 'TypeError', 'TypeError', 'TypeError', 'TypeError', 'TypeError', 'TypeError', 'TypeError',"
    ++ codes " 'TypeError', 'TypeError', 'TypeError', 'TypeError', 'TypeError', 'TypeError', 'TypeError', 'TypeError',"
    ++ codes " 'TypeError', 'TypeError', 'TypeError', 'TypeError', 'TypeError', 'TypeError', 'TypeError', 'TypeError',"
    ++ codes " 'TypeError', 'TypeError', 'TypeError', 'TypeError', 'TypeError', 'TypeError', 'TypeError', 'TypeError',"
    ++ codes " 'TypeError', 'TypeError', 'TypeError', 'TypeError', 'TypeError', 'TypeError', 'TypeError', 'TypeError',"
    ++ codes " 'TypeError', 'TypeError', 'TypeError', 'TypeError', 'TypeError']")
differences = refl

products : given_by_two (x.Binary Mul a b) ≡ Some (
    codes "['TypeError', 'TypeError', 'TypeError', 'TypeError', 'TypeError', 'TypeError', 'TypeError', 'TypeError',"
    ++ codes " 'TypeError', 1, 3, 'TypeError', 'TypeError', 'TypeError', 'TypeError', 'TypeError', 'TypeError', 3, 9, "
    ++ codes "'TypeError', 'TypeError', 'TypeError', 'TypeError', 'TypeError', 'TypeError', 'TypeError', 'TypeError', "
    ++ codes "'TypeError', 'TypeError', 'TypeError', 'TypeError', 'TypeError', 'TypeError', 'TypeError', 'TypeError', "
    ++ codes "'TypeError', 'TypeError', 'TypeError', 'TypeError', 'TypeError', 'TypeError', 'TypeError', 'TypeError', "
    ++ codes "'TypeError', 'TypeError', 'TypeError', 'TypeError', 'TypeError', 'TypeError', 'TypeError', 'TypeError', "
    ++ codes "'TypeError', 'TypeError', 'TypeError', 'TypeError', 'TypeError', 'TypeError', 'TypeError', 'TypeError', "
    ++ codes "'TypeError', 'TypeError', 'TypeError', 'TypeError', 'TypeError']")
products = refl

quotients : given_by_two (x.Binary FloorDiv a b) ≡ Some (
    codes "['TypeError', 'TypeError', 'TypeError', 'TypeError', 'TypeError', 'TypeError', 'TypeError', 'TypeError',"
    ++ codes " 'TypeError', 1, 0, 'TypeError', 'TypeError', 'TypeError', 'TypeError', 'TypeError', 'TypeError', 3, 1, "
    ++ codes "'TypeError', 'TypeError', 'TypeError', 'TypeError', 'TypeError', 'TypeError', 'TypeError', 'TypeError', "
    ++ codes "'TypeError', 'TypeError', 'TypeError', 'TypeError', 'TypeError', 'TypeError', 'TypeError', 'TypeError', "
    ++ codes "'TypeError', 'TypeError', 'TypeError', 'TypeError', 'TypeError', 'TypeError', 'TypeError', 'TypeError', "
    ++ codes "'TypeError', 'TypeError', 'TypeError', 'TypeError', 'TypeError', 'TypeError', 'TypeError', 'TypeError', "
    ++ codes "'TypeError', 'TypeError', 'TypeError', 'TypeError', 'TypeError', 'TypeError', 'TypeError', 'TypeError', "
    ++ codes "'TypeError', 'TypeError', 'TypeError', 'TypeError', 'TypeError']")
quotients = refl

remainders : given_by_two (x.Binary Mod a b) ≡ Some (
    codes "['TypeError', 'TypeError', 'TypeError', 'TypeError', 'TypeError', 'TypeError', 'TypeError', 'TypeError',"
    ++ codes " 'TypeError', 0, 1, 'TypeError', 'TypeError', 'TypeError', 'TypeError', 'TypeError', 'TypeError', 0, 0, "
    ++ codes "'TypeError', 'TypeError', 'TypeError', 'TypeError', 'TypeError', 'TypeError', 'TypeError', 'TypeError', "
    ++ codes "'TypeError', 'TypeError', 'TypeError', 'TypeError', 'TypeError', 'TypeError', 'TypeError', 'TypeError', "
    ++ codes "'TypeError', 'TypeError', 'TypeError', 'TypeError', 'TypeError', 'TypeError', 'TypeError', 'TypeError', "
    ++ codes "'TypeError', 'TypeError', 'TypeError', 'TypeError', 'TypeError', 'TypeError', 'TypeError', 'TypeError', "
    ++ codes "'TypeError', 'TypeError', 'TypeError', 'TypeError', 'TypeError', 'TypeError', 'TypeError', 'TypeError', "
    ++ codes "'TypeError', 'TypeError', 'TypeError', 'TypeError', 'TypeError']")
remainders = refl

equal_ones : given_by_two (x.Compare Eq a b) ≡ Some (
    codes "[True, False, False, False, False, False, False, False, False, True, False, False, False, False, False, "
    ++ codes "False, False, False, True, False, False, False, False, False, False, False, False, True, False, False, F"
    ++ codes "alse, False, False, False, False, False, True, False, False, False, False, False, False, False, False, T"
    ++ codes "rue, False, False, False, False, False, False, False, False, True, False, False, False, False, False, Fa"
    ++ codes "lse, False, False, True]")
equal_ones = refl

unequal_ones : given_by_two (x.Compare Ne a b) ≡ Some (
    codes "[False, True, True, True, True, True, True, True, True, False, True, True, True, True, True, True, True,"
    ++ codes " True, False, True, True, True, True, True, True, True, True, False, True, True, True, True, True, True,"
    ++ codes " True, True, False, True, True, True, True, True, True, True, True, False, True, True, True, True, True,"
    ++ codes " True, True, True, False, True, True, True, True, True, True, True, True, False]")
unequal_ones = refl

lesser_ones : given_by_two (x.Compare Lt a b) ≡ Some (
    codes "['TypeError', 'TypeError', 'TypeError', 'TypeError', 'TypeError', 'TypeError', 'TypeError', 'TypeError',"
    ++ codes " 'TypeError', False, True, 'TypeError', 'TypeError', 'TypeError', 'TypeError', 'TypeError', 'TypeError',"
    ++ codes " False, False, 'TypeError', 'TypeError', 'TypeError', 'TypeError', 'TypeError', 'TypeError', 'TypeError'"
    ++ codes ", 'TypeError', False, 'TypeError', 'TypeError', 'TypeError', 'TypeError', 'TypeError', 'TypeError', 'Typ"
    ++ codes "eError', 'TypeError', False, 'TypeError', 'TypeError', 'TypeError', 'TypeError', 'TypeError', 'TypeError"
    ++ codes "', 'TypeError', 'TypeError', False, 'TypeError', 'TypeError', 'TypeError', 'TypeError', 'TypeError', 'Ty"
    ++ codes "peError', 'TypeError', 'TypeError', 'TypeError', 'TypeError', 'TypeError', 'TypeError', 'TypeError', 'Ty"
    ++ codes "peError', 'TypeError', 'TypeError', 'TypeError', 'TypeError']")
lesser_ones = refl

no_greater_ones : given_by_two (x.Compare Le a b) ≡ Some (
    codes "['TypeError', 'TypeError', 'TypeError', 'TypeError', 'TypeError', 'TypeError', 'TypeError', 'TypeError',"
    ++ codes " 'TypeError', True, True, 'TypeError', 'TypeError', 'TypeError', 'TypeError', 'TypeError', 'TypeError', "
    ++ codes "False, True, 'TypeError', 'TypeError', 'TypeError', 'TypeError', 'TypeError', 'TypeError', 'TypeError', "
    ++ codes "'TypeError', True, 'TypeError', 'TypeError', 'TypeError', 'TypeError', 'TypeError', 'TypeError', 'TypeEr"
    ++ codes "ror', 'TypeError', True, 'TypeError', 'TypeError', 'TypeError', 'TypeError', 'TypeError', 'TypeError', '"
    ++ codes "TypeError', 'TypeError', True, 'TypeError', 'TypeError', 'TypeError', 'TypeError', 'TypeError', 'TypeErr"
    ++ codes "or', 'TypeError', 'TypeError', 'TypeError', 'TypeError', 'TypeError', 'TypeError', 'TypeError', 'TypeErr"
    ++ codes "or', 'TypeError', 'TypeError', 'TypeError', 'TypeError']")
no_greater_ones = refl

contained_ones : given_by_two (x.Compare In a b) ≡ Some (
    codes "['TypeError', 'TypeError', 'TypeError', 'TypeError', False, False, False, False, 'TypeError', 'TypeError"
    ++ codes "', 'TypeError', 'TypeError', True, True, True, True, 'TypeError', 'TypeError', 'TypeError', 'TypeError',"
    ++ codes " False, False, False, False, 'TypeError', 'TypeError', 'TypeError', True, False, False, False, False, 'T"
    ++ codes "ypeError', 'TypeError', 'TypeError', 'TypeError', False, False, False, False, 'TypeError', 'TypeError', "
    ++ codes "'TypeError', 'TypeError', False, False, 'TypeError', False, 'TypeError', 'TypeError', 'TypeError', 'Type"
    ++ codes "Error', False, False, 'TypeError', False, 'TypeError', 'TypeError', 'TypeError', 'TypeError', False, Fal"
    ++ codes "se, 'TypeError', False]")
contained_ones = refl

items_at : given_by_two (x.Index a b) ≡ Some (
    codes "['TypeError', 'TypeError', 'TypeError', 'TypeError', 'TypeError', 'TypeError', 'TypeError', 'TypeError',"
    ++ codes " 'TypeError', 'TypeError', 'TypeError', 'TypeError', 'TypeError', 'TypeError', 'TypeError', 'TypeError',"
    ++ codes " 'TypeError', 'TypeError', 'TypeError', 'TypeError', 'TypeError', 'TypeError', 'TypeError', 'TypeError',"
    ++ codes " 'TypeError', 'b', 'IndexError', 'TypeError', 'TypeError', 'TypeError', 'TypeError', 'TypeError', 'TypeE"
    ++ codes "rror', 'IndexError', 'IndexError', 'TypeError', 'TypeError', 'TypeError', 'TypeError', 'TypeError', 'Typ"
    ++ codes "eError', 'IndexError', 'IndexError', 'TypeError', 'TypeError', 'TypeError', 'TypeError', 'TypeError', 'K"
    ++ codes "eyError', 2, 'KeyError', 'KeyError', 'KeyError', 'TypeError', 'TypeError', 'TypeError', 'TypeError', 1, "
    ++ codes "'IndexError', 'TypeError', 'TypeError', 'TypeError', 'TypeError', 'TypeError']")
items_at = refl

either : given_by_two (x.Or a b) ≡ Some (
    codes "[None, True, 3, 'ab', (1,), [1], {1: 2}, range(0, 2), True, True, True, True, True, True, True, True, 3,"
    ++ codes " 3, 3, 3, 3, 3, 3, 3, 'ab', 'ab', 'ab', 'ab', 'ab', 'ab', 'ab', 'ab', (1,), (1,), (1,), (1,), (1,), (1,)"
    ++ codes ", (1,), (1,), [1], [1], [1], [1], [1], [1], [1], [1], {1: 2}, {1: 2}, {1: 2}, {1: 2}, {1: 2}, {1: 2}, {1"
    ++ codes ": 2}, {1: 2}, range(0, 2), range(0, 2), range(0, 2), range(0, 2), range(0, 2), range(0, 2), range(0, 2),"
    ++ codes " range(0, 2)]")
either = refl

both : given_by_two (x.And a b) ≡ Some (
    codes "[None, None, None, None, None, None, None, None, None, True, 3, 'ab', (1,), [1], {1: 2}, range(0, 2), No"
    ++ codes "ne, True, 3, 'ab', (1,), [1], {1: 2}, range(0, 2), None, True, 3, 'ab', (1,), [1], {1: 2}, range(0, 2), "
    ++ codes "None, True, 3, 'ab', (1,), [1], {1: 2}, range(0, 2), None, True, 3, 'ab', (1,), [1], {1: 2}, range(0, 2)"
    ++ codes ", None, True, 3, 'ab', (1,), [1], {1: 2}, range(0, 2), None, True, 3, 'ab', (1,), [1], {1: 2}, range(0, "
    ++ codes "2)]")
both = refl

opposites : given_by (x.Not a) ≡ Some (
    codes "[True, False, False, False, False, False, False, False]")
opposites = refl

negatives : given_by (x.Unary Minus a) ≡ Some (
    codes "['TypeError', -1, -3, 'TypeError', 'TypeError', 'TypeError', 'TypeError', 'TypeError']")
negatives = refl

positives : given_by (x.Unary Plus a) ≡ Some (
    codes "['TypeError', 1, 3, 'TypeError', 'TypeError', 'TypeError', 'TypeError', 'TypeError']")
positives = refl

those_that_are_none : given_by (x.Is false a constant.Nil) ≡ Some (
    codes "[True, False, False, False, False, False, False, False]")
those_that_are_none = refl

those_that_are_true : given_by (x.Is true a constant.True) ≡ Some (
    codes "[True, False, True, True, True, True, True, True]")
those_that_are_true = refl
