-- What stands at the front of tokens takes one of them or more.
use Rattle.std.proofs.Common.{◌<◌, ◌≤◌, length, arith}
use Rattle.py_tree.specs.Syntax.{Text, Expression, Expressions, Pairs, Keywords, Param}
use Rattle.std.proofs.Common.{Option}
use Rattle.py_phrases.specs.Grammar as g
use Rattle.py_phrases.specs.Grammar.{Tokens, Level, Spells, Joined, Items, Entries, Arguments, KeywordsAt}
use Rattle.py_expr.specs.Lines as l
use Rattle.py_expr.specs.Lines.{Annotation, Default, Parameter}

joined_shorter : {s r : Tokens} {u : Text} → Joined s r u → length r < length s
joined_shorter g.one_text = omega arith
joined_shorter (g.next_text j) = let h = joined_shorter j in omega (arith, h)

mutual
  pub shorter : {k : Level} {s r : Tokens} {e : Expression} → Spells k s r e → length r < length s
  shorter g.a_name = omega arith
  shorter g.an_int = omega arith
  shorter g.a_none = omega arith
  shorter g.a_true = omega arith
  shorter g.a_false = omega arith
  shorter g.a_unit = omega arith
  shorter (g.a_text j) = joined_shorter j
  shorter (g.a_group d) = let x0 = shorter d in omega (arith, x0)
  shorter (g.a_list i) = let x0 = items_no_longer i in omega (arith, x0)
  shorter (g.a_dict i) = let x0 = entries_no_longer i in omega (arith, x0)
  shorter (g.an_attribute d) = let x0 = shorter d in omega (arith, x0)
  shorter (g.an_index d i) = let x0 = shorter d in let x1 = shorter i in omega (arith, x0, x1)
  shorter (g.a_call d i h) = let x0 = shorter d in let x1 = arguments_no_longer i in omega (arith, x0, x1)
  shorter (g.a_sign c d) = let x0 = shorter d in omega (arith, x0)
  shorter (g.a_primary d) = let x0 = shorter d in omega (arith, x0)
  shorter (g.a_product c d i) = let x0 = shorter d in let x1 = shorter i in omega (arith, x0, x1)
  shorter (g.a_factor d) = let x0 = shorter d in omega (arith, x0)
  shorter (g.a_sum c d i) = let x0 = shorter d in let x1 = shorter i in omega (arith, x0, x1)
  shorter (g.a_term d) = let x0 = shorter d in omega (arith, x0)
  shorter (g.a_comparison c d i) = let x0 = shorter d in let x1 = shorter i in omega (arith, x0, x1)
  shorter (g.a_not_in d i) = let x0 = shorter d in let x1 = shorter i in omega (arith, x0, x1)
  shorter (g.an_is c d) = let x0 = shorter d in omega (arith, x0)
  shorter (g.an_is_not c d) = let x0 = shorter d in omega (arith, x0)
  shorter (g.uncompared d) = let x0 = shorter d in omega (arith, x0)
  shorter (g.a_negation d) = let x0 = shorter d in omega (arith, x0)
  shorter (g.affirmed d) = let x0 = shorter d in omega (arith, x0)
  shorter (g.a_conjunction d i) = let x0 = shorter d in let x1 = shorter i in omega (arith, x0, x1)
  shorter (g.a_conjunct d) = let x0 = shorter d in omega (arith, x0)
  shorter (g.a_disjunction d i) = let x0 = shorter d in let x1 = shorter i in omega (arith, x0, x1)
  shorter (g.a_disjunct d) = let x0 = shorter d in omega (arith, x0)
  shorter (g.a_conditional d i j) = let x0 = shorter d in let x1 = shorter i in let x2 = shorter j in omega (arith, x0, x1, x2)
  shorter (g.unconditional d) = let x0 = shorter d in omega (arith, x0)
  shorter (g.a_tuple d i) = let x0 = shorter d in let x1 = items_no_longer i in omega (arith, x0, x1)
  shorter (g.single d) = let x0 = shorter d in omega (arith, x0)

  items_no_longer : {s r : Tokens} {es : Expressions} → Items s r es → length r ≤ length s
  items_no_longer g.no_item = omega arith
  items_no_longer (g.last_item d) = let x0 = shorter d in omega (arith, x0)
  items_no_longer (g.next_item d i) = let x0 = shorter d in let x1 = items_no_longer i in omega (arith, x0, x1)

  entries_no_longer : {s r : Tokens} {ps : Pairs} → Entries s r ps → length r ≤ length s
  entries_no_longer g.no_pair = omega arith
  entries_no_longer (g.last_pair d e) = let x0 = shorter d in let x1 = shorter e in omega (arith, x0, x1)
  entries_no_longer (g.next_pair d e i) = let x0 = shorter d in let x1 = shorter e in let x2 = entries_no_longer i in omega (arith, x0, x1, x2)

  arguments_no_longer : {s r : Tokens} {es : Expressions} {ks : Keywords} → Arguments s r es ks → length r ≤ length s
  arguments_no_longer g.no_argument = omega arith
  arguments_no_longer (g.last_argument d) = let x0 = shorter d in omega (arith, x0)
  arguments_no_longer (g.next_argument d i) = let x0 = shorter d in let x1 = arguments_no_longer i in omega (arith, x0, x1)
  arguments_no_longer (g.only_keywords i) = let x0 = keywords_no_longer i in omega (arith, x0)

  keywords_no_longer : {s r : Tokens} {ks : Keywords} → KeywordsAt s r ks → length r ≤ length s
  keywords_no_longer g.no_keyword = omega arith
  keywords_no_longer (g.last_keyword d) = let x0 = shorter d in omega (arith, x0)
  keywords_no_longer (g.next_keyword d i) = let x0 = shorter d in let x1 = keywords_no_longer i in omega (arith, x0, x1)

annotation_no_longer : {s r : Tokens} {k : Option Expression} → Annotation s r k → length r ≤ length s
annotation_no_longer l.unannotated = omega arith
annotation_no_longer (l.annotated d) = let h = shorter d in omega (arith, h)

default_no_longer : {s r : Tokens} {k : Option Expression} → Default s r k → length r ≤ length s
default_no_longer l.no_default = omega arith
default_no_longer (l.a_default d) = let h = shorter d in omega (arith, h)

pub parameter_shorter : {s r : Tokens} {p : Param} → Parameter s r p → length r < length s
parameter_shorter (l.a_parameter u v) = let h = annotation_no_longer u in let k = default_no_longer v in omega (arith, h, k)
