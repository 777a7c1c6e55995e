-- The abstract syntax of the language, as plain data. Each constructor stands beside what it is in the text: names in capitals are
-- tokens, E is an expression, T a target, and B a block.
use Rattle.std.specs.Prelude.{ℕ, Bool, List, Option}
use Rattle.py_tree.specs.declared.operator.UnaryOp.{UnaryOp}
use Rattle.py_tree.specs.declared.operator.BinaryOp.{BinaryOp}
use Rattle.py_tree.specs.declared.operator.CompareOp.{CompareOp}
use Rattle.py_tree.specs.declared.operator.Const.{Const}
use Rattle.py_tree.specs.declared.statement.Import.{Import}

-- code points
abbrev pub Text : Type 0
Text = List ℕ

mutual
  pub data Expression : Type 0 where
    Nil : Expression  -- None
    True : Expression  -- True
    False : Expression  -- False
    Int : ℕ → Expression  -- INT
    Str : Text → Expression  -- STR {STR}
    Name : Text → Expression  -- NAME
    Tuple : Expressions → Expression  -- E, E, ..
    Listed : Expressions → Expression  -- [E, ..]
    Dict : Pairs → Expression  -- {E: E, ..}
    Unary : UnaryOp → Expression → Expression  -- -E
    Binary : BinaryOp → Expression → Expression → Expression  -- E + E
    Compare : CompareOp → Expression → Expression → Expression  -- E < E
    Is : Bool → Expression → Const → Expression  -- E is None, E is not None (true)
    Not : Expression → Expression  -- not E
    And : Expression → Expression → Expression  -- E and E
    Or : Expression → Expression → Expression  -- E or E
    Cond : Expression → Expression → Expression → Expression  -- second if first else third
    Attr : Expression → Text → Expression  -- E.NAME
    Index : Expression → Expression → Expression  -- E[E]
    Call : Expression → Expressions → Keywords → Expression  -- E(E, .., NAME=E, ..)

  pub data Expressions : Type 0 where
    end_of_expressions : Expressions
    more_expressions : Expression → Expressions → Expressions

  pub data Pair : Type 0 where
    Paired : Expression → Expression → Pair  -- E: E

  pub data Pairs : Type 0 where
    end_of_pairs : Pairs
    more_pairs : Pair → Pairs → Pairs

  pub data Keyword : Type 0 where
    Named : Text → Expression → Keyword  -- NAME=E

  pub data Keywords : Type 0 where
    end_of_keywords : Keywords
    more_keywords : Keyword → Keywords → Keywords

-- NAME: E = E
pub record Param : Type 0 where
  pub name : Text
  pub kind : Option Expression
  pub default : Option Expression

pub data Target : Type 0 where
  ToName : Text → Target  -- NAME
  ToAttr : Expression → Text → Target  -- E.NAME
  ToIndex : Expression → Expression → Target  -- E[E]
  ToNames : List Text → Target  -- NAME, NAME, ..

mutual
  -- a statement, with the physical line on which it begins
  pub data Statement : Type 0 where
    On : ℕ → Kind → Statement

  pub data Kind : Type 0 where
    Pass : Kind  -- pass
    Break : Kind  -- break
    Continue : Kind  -- continue
    Return : Option Expression → Kind  -- return E
    Raise : Option Expression → Kind  -- raise E
    Imports : List Import → Kind  -- import NAME as NAME, ..
    From : Text → List Import → Kind  -- from NAME import NAME as NAME, ..
    Eval : Expression → Kind  -- E
    Assign : Target → Expression → Kind  -- T = E
    Annotate : Target → Expression → Option Expression → Kind  -- T: E = E
    Augment : Target → BinaryOp → Expression → Kind  -- T += E
    If : Branches → Statements → Kind  -- if E: B elif E: B .. else: B
    While : Expression → Statements → Kind  -- while E: B
    For : Target → Expression → Statements → Kind  -- for T in E: B
    Try : Statements → Clauses → Kind  -- try: B except E as NAME: B ..
    Def : Function → Kind
    Class : ClassDef → Kind

  pub data Statements : Type 0 where
    end_of_statements : Statements
    more_statements : Statement → Statements → Statements

  -- a condition, with the physical line of its `if` or `elif`
  pub data Branch : Type 0 where
    Tested : ℕ → Expression → Statements → Branch

  pub data Branches : Type 0 where
    end_of_branches : Branches
    more_branches : Branch → Branches → Branches

  pub data Clause : Type 0 where
    Except : Option Expression → Option Text → Statements → Clause

  pub data Clauses : Type 0 where
    end_of_clauses : Clauses
    more_clauses : Clause → Clauses → Clauses

  pub data Function : Type 0 where
    Defined : Text → List Param → Option Expression → Statements → Function  -- def NAME(NAME: E = E, ..) -> E: B

  pub data ClassDef : Type 0 where
    Classed : Text → Option Expression → Statements → ClassDef  -- class NAME(E): B
