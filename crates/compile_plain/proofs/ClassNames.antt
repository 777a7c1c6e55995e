-- The names of the classes of a module are those that its class statements write.
use Rattle.std.proofs.Common.{◌≡◌, List, [], ◌∷◌, ◌++◌, ◌∙◌, map, refl, ap}
use Rattle.std.specs.List.{flat_map}
use Rattle.std.proofs.lemmas.Simd.{map-map}
use Rattle.py_tree.specs.Syntax as x
use Rattle.py_tree.specs.Syntax.{Text, Statement, Statements}
use Rattle.py_tree.specs.Order.{of_scope}
use Rattle.symbols.specs.Classes.{Found, classes, classes_behind, class_behind}
use Rattle.symbols.specs.declared.outer.Outer.{Outer}
use Rattle.compile_plain.specs.Tables.{class_names, class_names_at}

named : (o : Outer) (earlier : List Found) (ss : List Statement) → map (λ f. f.class.name) (classes_behind o earlier ss) ≡ flat_map class_names_at ss
named o earlier [] = refl
named o earlier (x.On line (x.Class (x.Classed name base body)) ∷ rest) = ap (λ ns. name ∷ ns) (named o (earlier ++ class_behind o earlier line (x.Classed name base body) ∷ []) rest)
named o earlier (x.On line x.Pass ∷ rest) = named o earlier rest
named o earlier (x.On line x.Break ∷ rest) = named o earlier rest
named o earlier (x.On line x.Continue ∷ rest) = named o earlier rest
named o earlier (x.On line (x.Return e) ∷ rest) = named o earlier rest
named o earlier (x.On line (x.Raise e) ∷ rest) = named o earlier rest
named o earlier (x.On line (x.Imports is) ∷ rest) = named o earlier rest
named o earlier (x.On line (x.From from is) ∷ rest) = named o earlier rest
named o earlier (x.On line (x.Eval e) ∷ rest) = named o earlier rest
named o earlier (x.On line (x.Assign t e) ∷ rest) = named o earlier rest
named o earlier (x.On line (x.Annotate t kind e) ∷ rest) = named o earlier rest
named o earlier (x.On line (x.Augment t operator e) ∷ rest) = named o earlier rest
named o earlier (x.On line (x.If tested orelse) ∷ rest) = named o earlier rest
named o earlier (x.On line (x.While test body) ∷ rest) = named o earlier rest
named o earlier (x.On line (x.For t e body) ∷ rest) = named o earlier rest
named o earlier (x.On line (x.Try body clauses) ∷ rest) = named o earlier rest
named o earlier (x.On line (x.Def f) ∷ rest) = named o earlier rest

pub class_names_are : (o : Outer) (tree : Statements) → map (λ class. class.name) (classes o tree) ≡ class_names tree
class_names_are o tree = map-map (λ class. class.name) (λ (f : Found). f.class) (classes_behind o [] (of_scope tree)) ∙ named o [] (of_scope tree)
