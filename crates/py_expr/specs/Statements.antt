-- No definition of the language: what is known of a simple statement that was read, and of the parts that end with the line.
use Rattle.std.specs.Prelude.{◌≡◌, ℕ, max, true, false, Bool, List, [], ◌∷◌, Option, Some, None}
use Rattle.py_tree.specs.Syntax as x
use Rattle.py_tree.specs.Syntax.{Text, Expression, Target, Kind}
use Rattle.py_tree.specs.Nesting.{nesting}
use Rattle.py_tree.specs.Joined.{expression_of, maybe_of, target_of, kind_of}
use Rattle.py_tree.specs.declared.expression.Expr.{Expr}
use Rattle.py_tree.specs.declared.expression.Target as tree
use Rattle.py_tree.specs.declared.expression.Target.TheVariants as made
use Rattle.py_tree.specs.declared.operator.BinaryOp.{BinaryOp}
use Rattle.py_tree.specs.declared.statement.Import.{Import}
use Rattle.py_tree.specs.declared.statement.StmtKind.{StmtKind}
use Rattle.py_lexer.specs.declared.token.Token.{Token}
use Rattle.py_lexer.specs.declared.token.Token.TheVariants as token
use Rattle.py_lexer.specs.declared.token.Keyword.{Keyword}
use Rattle.py_lexer.specs.declared.token.Keyword.TheVariants as word
use Rattle.py_lexer.specs.declared.token.Mark.TheVariants as mark
use Rattle.py_phrases.specs.declared.phrase.Built.{Built}
use Rattle.py_phrases.specs.declared.phrase.Built.TheVariants.{Shallow}
use Rattle.py_phrases.specs.declared.phrase.Phrase.{Phrase}
use Rattle.py_phrases.specs.Tokens as t
use Rattle.py_expr.specs.declared.form.Form as tree_form
use Rattle.py_expr.specs.Forms.{Head, form_of}
use Rattle.py_phrases.specs.Grammar.{Tokens, Spells, E, L}
use Rattle.py_expr.specs.Lines.{Augmented, HeadAt, Line, Value, Simple, Taken}
use Rattle.py_expr.specs.Depth.{form_nesting, maybe_nesting, kind_nesting}
use Rattle.py_phrases.specs.Phrases.{Is}
use Rattle.py_expr.specs.Readings.{IsBuilt}
use Rattle.py_phrases.specs.Targets.{Place, target_nesting}

-- the tokens are all of y, and what was built of it
pub record IsWhole {T Y : Type 0} (Stands : Tokens → Y → Type 0) (view : T → Y) (depth : Y → ℕ) (s : Tokens) (tree : Built T) : Type 0 where
  pub thing : Y
  pub stands : Stands s thing
  pub is_built : IsBuilt view depth thing tree

-- what the tokens are, or that they are nothing of that kind
abbrev pub WholeAt : {T Y : Type 0} → (Tokens → Y → Type 0) → (T → Y) → (Y → ℕ) → Tokens → Option (Built T) → Type 0
WholeAt Stands view depth s (Some tree) = IsWhole Stands view depth s tree
WholeAt Stands view depth s None = (y : _) → Stands s y → ⊥

abbrev pub StatementAt : Tokens → Option (Built StmtKind) → Type 0
StatementAt s found = WholeAt Simple kind_of kind_nesting s found

abbrev pub AllOfList : Tokens → Expression → Type 0
AllOfList s e = Spells L s [] e

abbrev pub AllOfExpression : Tokens → Expression → Type 0
AllOfExpression s e = Spells E s [] e

-- E ["=" L]
pub data Annotated : Tokens → Expression × Option Expression → Type 0 where
  annotated : {s m : Tokens} {k : Expression} {v : Option Expression} → Spells E s m k → Value m v → Annotated s (k, v)

abbrev pub annotation_of : Expr × Option Expr → Expression × Option Expression
annotation_of a = (expression_of a.0, maybe_of a.1)

abbrev pub annotation_nesting : Expression × Option Expression → ℕ
annotation_nesting a = max (nesting a.0) (maybe_nesting a.1)

-- the thing, exactly where nothing follows it
abbrev pub IsLast : {T : Type 0} → Built T → Tokens → Option (Built T) → Type 0
IsLast thing rest None = rest ≡ [] → ⊥
IsLast thing rest (Some last) = (last ≡ thing) × (rest ≡ [])

-- a statement is built of what was built of its one part
abbrev pub Makes : (Expression → Kind) → Built Expr → Built StmtKind → Type 0
Makes make value statement = (e : Expression) → IsBuilt expression_of nesting e value → IsBuilt kind_of kind_nesting (make e) statement

abbrev pub parts_of : tree.Target × Expr → Target × Expression
parts_of p = (target_of p.0, expression_of p.1)

abbrev pub parts_nesting : Target × Expression → ℕ
parts_nesting p = max (target_nesting p.0) (nesting p.1)

-- of a target and an expression
abbrev pub MakesOfBoth : (Target → Expression → Kind) → Built (tree.Target × Expr) → Built StmtKind → Type 0
MakesOfBoth make parts statement = (g : Target) (e : Expression) → IsBuilt parts_of parts_nesting (g, e) parts → IsBuilt kind_of kind_nesting (make g e) statement

-- the target from s up to r and the value that the tokens m are, exactly where they are there
abbrev pub PartsAt : (Tokens → Tokens → Target → Type 0) → Tokens → Tokens → Tokens → Option (Built (tree.Target × Expr)) → Type 0
PartsAt Aims s r m (Some parts) = (g : Target) × (e : Expression) × Aims s r g × AllOfList m e × IsBuilt parts_of parts_nesting (g, e) parts
PartsAt Aims s r m None = (g : Target) (e : Expression) → Aims s r g → AllOfList m e → ⊥

abbrev pub Parts : (Tokens → Tokens → Target → Type 0) → Phrase → Tokens → Option (Built (tree.Target × Expr)) → Type 0
Parts Aims phrase m found = (s r : Tokens) (e : Expression) → Is phrase L s r e → PartsAt Aims s r m found

abbrev pub annotated_of : tree.Target × (Expr × Option Expr) → Target × (Expression × Option Expression)
annotated_of p = (target_of p.0, annotation_of p.1)

abbrev pub annotated_nesting : Target × (Expression × Option Expression) → ℕ
annotated_nesting p = max (target_nesting p.0) (annotation_nesting p.1)

-- of a target and an annotation
abbrev pub Annotates : Built (tree.Target × (Expr × Option Expr)) → Built StmtKind → Type 0
Annotates parts statement =
    (g : Target) (k : Expression) (v : Option Expression) → IsBuilt annotated_of annotated_nesting (g, (k, v)) parts → IsBuilt kind_of kind_nesting (x.Annotate g k v) statement

-- the target with the annotation that the tokens are, exactly where they are one
abbrev pub AnnotatesAt : Target → Tokens → Option (Built (tree.Target × (Expr × Option Expr))) → Type 0
AnnotatesAt g s (Some parts) = (k : Expression) × (v : Option Expression) × Annotated s (k, v) × IsBuilt annotated_of annotated_nesting (g, (k, v)) parts
AnnotatesAt g s None = (y : Expression × Option Expression) → Annotated s y → ⊥

-- a module's name and the names taken from it, exactly where they stand there
abbrev pub FromAt : Tokens → Option (Text × List Import) → Type 0
FromAt s (Some p) = (r : Tokens) × (s ≡ token.Name p.0 ∷ t.import_ ∷ r) × Taken r p.1
FromAt s None = (n : Text) (r : Tokens) (is : List Import) → s ≡ token.Name n ∷ t.import_ ∷ r → Taken r is → ⊥

-- whether the target is a place, and no names
abbrev pub is_place : Built tree.Target → Bool
is_place (Shallow (made.Names names)) = false
is_place _ = true

-- exactly where a place stands at the front of s and r follows it, it is built, where it is nested at most 200 deep
abbrev pub IsPlaceBuilt : Tokens → Tokens → Option (Built tree.Target) → Type 0
IsPlaceBuilt s r (Some built) = (g : Target) × Place s r g × IsBuilt target_of target_nesting g built
IsPlaceBuilt s r None = (g : Target) → Place s r g → ⊥

abbrev pub BuildsPlace : Phrase → Option (Built tree.Target) → Type 0
BuildsPlace phrase built = (s r : Tokens) (e : Expression) → Is phrase L s r e → IsPlaceBuilt s r built

-- the operator of an augmented assignment
abbrev pub Augments : Tokens → BinaryOp → Tokens → Type 0
Augments s op r = (c : Token) × Augmented c op × (s ≡ c ∷ r)

-- no word of a simple statement
abbrev pub IsOther : Keyword → Type 0
IsOther word.Pass = ⊥
IsOther word.Break = ⊥
IsOther word.Continue = ⊥
IsOther word.Return = ⊥
IsOther word.Raise = ⊥
IsOther word.Import = ⊥
IsOther word.From = ⊥
IsOther _ = Unit {0}

-- begins neither with such a word nor as an annotation does
abbrev pub IsPlain : Tokens → Type 0
IsPlain (token.Word w ∷ r) = IsOther w
IsPlain (token.Name n ∷ token.Mark mark.Colon ∷ r) = ⊥
IsPlain (token.Name n ∷ token.Mark mark.Dot ∷ token.Name a ∷ token.Mark mark.Colon ∷ r) = ⊥
IsPlain _ = Unit {0}

abbrev pub HasNoWord : Tokens → Type 0
HasNoWord s = (w : Keyword) (r : Tokens) → s ≡ token.Word w ∷ r → ⊥

-- of what begins with a phrase
abbrev pub StatementBehind : Phrase → Tokens → Option (Built StmtKind) → Type 0
StatementBehind phrase behind found = (s : Tokens) (e : Expression) → IsPlain s → Is phrase L s behind e → StatementAt s found

-- ---- lines

abbrev pub FormAt : Tokens → Option (Built tree_form.Form) → Type 0
FormAt s found = WholeAt Line form_of form_nesting s found

abbrev pub HasNoHead : Tokens → Type 0
HasNoHead s = (r : Tokens) (h : Head) → HeadAt s r h → ⊥
