-- The first place at which a test passes.
use Rattle.std.proofs.Common.{◌≡◌, ◌∙◌, Bool, true, false, List, [], ◌∷◌, Option, Some, ℕ, ◌+◌, refl, sym, ap}
use Rattle.std.specs.Prelude.{is_some, ◌||◌, if◌then◌else◌}
use Rattle.std.specs.List.{list_any, position, position_from}
use Rattle.std.specs.Str.{bytes_eq}
use Rattle.std.proofs.lemmas.Iterator.Adapters.{position_from-zero}
use Rattle.py_tree.specs.Syntax.{Text}
use Rattle.symbols.specs.Words.{among}
use Rattle.compile_plain.specs.Names.{place_in}

pub position_is : {X : Type 0} (test : X → Bool) (xs : List X) → position test xs ≡ position_from test 0 xs
position_is test xs = position_from-zero test xs

either : (b c : Bool) (found : Option ℕ) (i : ℕ) → c ≡ is_some found → (b || c) ≡ is_some (if b then Some i else found)
either true c found i e = refl
either false c found i e = e

any_is : {X : Type 0} (test : X → Bool) (i : ℕ) (xs : List X) → list_any test xs ≡ is_some (position_from test i xs)
any_is test i [] = refl
any_is test i (x ∷ xs) = either (test x) (list_any test xs) (position_from test (i + 1) xs) i (any_is test (i + 1) xs)

pub among_is : (name : Text) (names : List Text) → among name names ≡ is_some (place_in names name)
among_is name names = any_is (bytes_eq name) 0 names ∙ ap is_some (sym (position_is (bytes_eq name) names))
