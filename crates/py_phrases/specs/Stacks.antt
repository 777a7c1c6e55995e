-- No definition of the language: the stack of trees as the code keeps it.
use Rattle.std.specs.Prelude.{◌≡◌, List, [], ◌∷◌, map, reverse, Option, Some, None}
use Rattle.py_tree.specs.Syntax as x
use Rattle.py_tree.specs.Syntax.{Expression}
use Rattle.py_tree.specs.Joined.{expression_of, expressions_of, pair_of, pairs_of, keywords_of}
use Rattle.py_tree.specs.declared.expression.Expr.{Expr}
use Rattle.py_tree.specs.declared.expression.Pair as code_pair
use Rattle.py_tree.specs.declared.expression.Keyword as code_keyword
use Rattle.py_phrases.specs.declared.build.BinaryNode.{BinaryNode}
use Rattle.py_phrases.specs.declared.build.BinaryNode.TheVariants as node
use Rattle.py_phrases.specs.Emitted.{Taken, TakenPairs, TakenKeywords, name_in}

-- newest first
abbrev pub trees_of : List Expr → List Expression
trees_of trees = map expression_of (reverse trees)

abbrev pub taken : Option (List Expr) → List Expr → Option Taken
taken None trees = None
taken (Some items) trees = Some (record { items = expressions_of items; left = trees_of trees })

abbrev pub taken_pairs : Option (List code_pair.Pair) → List Expr → Option TakenPairs
taken_pairs None trees = None
taken_pairs (Some items) trees = Some (record { items = pairs_of items; left = trees_of trees })

abbrev pub taken_keywords : Option (List code_keyword.Keyword) → List Expr → Option TakenKeywords
taken_keywords None trees = None
taken_keywords (Some items) trees = Some (record { items = keywords_of items; left = trees_of trees })

-- the top of the stack
abbrev pub BuildsTop : Option Expr → List Expression → Type 0
BuildsTop None st = st ≡ []
BuildsTop (Some built) [] = ⊥
BuildsTop (Some built) (a ∷ st) = expression_of built ≡ a

-- the two newest, as a pair
abbrev pub pair_top : List Expression → Option x.Pair
pair_top (v ∷ k ∷ st) = Some (x.Paired k v)
pair_top _ = None

abbrev pub below_pair : List Expression → List Expression
below_pair (v ∷ k ∷ st) = st
below_pair _ = []

abbrev pub keyword_in : x.Pair → x.Keyword
keyword_in (x.Paired k v) = x.Named (name_in k) v

abbrev pub maybe_pair : Option code_pair.Pair → Option x.Pair
maybe_pair None = None
maybe_pair (Some p) = Some (pair_of p)

-- the node with both its trees
abbrev pub binary_of : BinaryNode → Expression → Expression → Expression
binary_of (node.Binary op) = x.Binary op
binary_of (node.Compare op) = x.Compare op
binary_of node.And = x.And
binary_of node.Or = x.Or
binary_of node.Index = x.Index
