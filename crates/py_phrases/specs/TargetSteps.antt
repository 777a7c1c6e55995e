-- No definition of the language: the target that the steps of a phrase spell.
use Rattle.std.specs.Prelude.{List, [], ◌∷◌, ◌++◌, Option, Some, None}
use Rattle.py_tree.specs.Syntax as x
use Rattle.py_tree.specs.Syntax.{Text, Expression, Target}
use Rattle.py_tree.specs.declared.expression.Target as code
use Rattle.py_tree.specs.Joined.{target_of}
use Rattle.py_phrases.specs.declared.targets.Newest.{Newest}
use Rattle.py_phrases.specs.declared.phrase.Built.{Built}
use Rattle.py_phrases.specs.declared.phrase.Built.TheVariants.{TooDeep}
use Rattle.py_phrases.specs.Machine as m
use Rattle.py_phrases.specs.Machine.{Step, Steps}
use Rattle.py_phrases.specs.Emitted.{trees}
use Rattle.py_phrases.specs.Views.{step_of, steps_of}

-- ---- names

abbrev pub with_name : Step → Option (List Text) → Option (List Text)
with_name (m.PutName n) (Some names) = Some (names ++ n ∷ [])
with_name _ names = None

-- the names that the steps put, where they put nothing else
abbrev pub names_put : Steps → Option (List Text)
names_put [] = Some []
names_put (s ∷ o) = with_name s (names_put o)

abbrev pub several : Option (List Text) → Option Target
several (Some (a ∷ b ∷ names)) = Some (x.ToNames (a ∷ b ∷ names))
several _ = None

-- ---- targets

abbrev pub to_attribute : Text → List Expression → Option Target
to_attribute n [] = None
to_attribute n (e ∷ st) = Some (x.ToAttr e n)

abbrev pub to_index : List Expression → Option Target
to_index (i ∷ e ∷ st) = Some (x.ToIndex e i)
to_index _ = None

abbrev pub in_parentheses : Steps → Option Target
in_parentheses (m.MakeTuple n ∷ o) = several (names_put o)
in_parentheses _ = None

-- by the newest step and those before it
abbrev pub by_newest : Step → Steps → Option Target
by_newest (m.PutName n) o = Some (x.ToName n)
by_newest (m.MakeAttr n) o = to_attribute n (trees o)
by_newest m.MakeIndex o = to_index (trees o)
by_newest (m.MakeTuple n) o = several (names_put o)
by_newest m.Grouped o = in_parentheses o
by_newest _ o = None

abbrev pub target_in : Steps → Option Target
target_in [] = None
target_in (s ∷ o) = by_newest s o

-- what is said of a phrase that is nested too deep for a target of names
abbrev pub deep : Steps → Option (Built code.Target)
deep (m.MakeAttr n ∷ o) = Some TooDeep
deep (m.MakeIndex ∷ o) = Some TooDeep
deep _ = None

-- ---- as the code keeps them

abbrev pub maybe_target : Option code.Target → Option Target
maybe_target None = None
maybe_target (Some t) = Some (target_of t)

abbrev pub put_together : Option Newest → Steps
put_together None = []
put_together (Some n) = step_of n.step ∷ steps_of n.before.now
