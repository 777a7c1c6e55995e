-- A target is a phrase.
use Rattle.std.proofs.Common.{List, [], ◌∷◌}
use Rattle.py_tree.specs.Syntax as x
use Rattle.py_tree.specs.Syntax.{Text, Expression, Expressions, Target}
use Rattle.py_phrases.specs.Grammar as g
use Rattle.py_phrases.specs.Grammar.{Tokens, P, E, L, Spells, Items}
use Rattle.py_phrases.specs.Targets as l
use Rattle.py_phrases.specs.Targets.{Many, Place, Assigned}

abbrev pub names_listed : List Text → Expressions
names_listed [] = x.end_of_expressions
names_listed (n ∷ ns) = x.more_expressions (x.Name n) (names_listed ns)

abbrev pub as_phrase : Target → Expression
as_phrase (x.ToName n) = x.Name n
as_phrase (x.ToAttr e n) = x.Attr e n
as_phrase (x.ToIndex e i) = x.Index e i
as_phrase (x.ToNames ns) = x.Tuple (names_listed ns)

abbrev pub primary_is : {s r : Tokens} {e : Expression} → Spells P s r e → Spells E s r e
primary_is d = g.unconditional (g.a_disjunct (g.a_conjunct (g.affirmed (g.uncompared (g.a_term (g.a_factor (g.a_primary d)))))))

abbrev pub many_items : {s r : Tokens} {ns : List Text} → Many s r ns → Items s r (names_listed ns)
many_items l.two_names = g.next_item (primary_is g.a_name) (g.last_item (primary_is g.a_name))
many_items l.two_names_and_comma = g.next_item (primary_is g.a_name) (g.next_item (primary_is g.a_name) g.no_item)
many_items (l.another_name m) = g.next_item (primary_is g.a_name) (many_items m)

abbrev pub many_is : {s r : Tokens} {ns : List Text} → Many s r ns → Spells L s r (x.Tuple (names_listed ns))
many_is l.two_names = g.a_tuple (primary_is g.a_name) (g.last_item (primary_is g.a_name))
many_is l.two_names_and_comma = g.a_tuple (primary_is g.a_name) (g.next_item (primary_is g.a_name) g.no_item)
many_is (l.another_name m) = g.a_tuple (primary_is g.a_name) (many_items m)

abbrev pub place_is : {s r : Tokens} {a : Target} → Place s r a → Spells L s r (as_phrase a)
place_is l.to_name = g.single (primary_is g.a_name)
place_is (l.to_attribute d) = g.single (primary_is (g.an_attribute d))
place_is (l.to_index d i) = g.single (primary_is (g.an_index d i))

abbrev pub assigned_is : {s r : Tokens} {a : Target} → Assigned s r a → Spells L s r (as_phrase a)
assigned_is (l.to_place p) = place_is p
assigned_is (l.to_names m) = many_is m
assigned_is (l.to_names_in_parentheses m) = g.single (primary_is (g.a_group (many_is m)))
