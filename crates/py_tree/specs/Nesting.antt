-- The nesting of an expression: 1 where it has no parts, else 1 more than that of its deepest part.
use Rattle.std.specs.Prelude.{ℕ, ◌+◌, max}
use Rattle.py_tree.specs.Syntax as x
use Rattle.py_tree.specs.Syntax.{Expression, Expressions, Pairs, Keywords}

abbrev mutual
  pub nesting : Expression → ℕ
  nesting x.Nil = 1
  nesting x.True = 1
  nesting x.False = 1
  nesting (x.Int n) = 1
  nesting (x.Str text) = 1
  nesting (x.Name name) = 1
  nesting (x.Tuple items) = deepest items + 1
  nesting (x.Listed items) = deepest items + 1
  nesting (x.Dict items) = deepest_pair items + 1
  nesting (x.Unary op e) = nesting e + 1
  nesting (x.Binary op a b) = max (nesting a) (nesting b) + 1
  nesting (x.Compare op a b) = max (nesting a) (nesting b) + 1
  nesting (x.Is negated e right) = nesting e + 1
  nesting (x.Not e) = nesting e + 1
  nesting (x.And a b) = max (nesting a) (nesting b) + 1
  nesting (x.Or a b) = max (nesting a) (nesting b) + 1
  nesting (x.Cond test then other) = max (nesting test) (max (nesting then) (nesting other)) + 1
  nesting (x.Attr e name) = nesting e + 1
  nesting (x.Index e i) = max (nesting e) (nesting i) + 1
  nesting (x.Call callee args keys) = max (nesting callee) (max (deepest args) (deepest_keyword keys)) + 1

  -- that of the deepest, or 0
  pub deepest : Expressions → ℕ
  deepest x.end_of_expressions = 0
  deepest (x.more_expressions e rest) = max (nesting e) (deepest rest)

  pub deepest_pair : Pairs → ℕ
  deepest_pair x.end_of_pairs = 0
  deepest_pair (x.more_pairs (x.Paired key value) rest) = max (max (nesting key) (nesting value)) (deepest_pair rest)

  pub deepest_keyword : Keywords → ℕ
  deepest_keyword x.end_of_keywords = 0
  deepest_keyword (x.more_keywords (x.Named name value) rest) = max (nesting value) (deepest_keyword rest)
