-- How the arguments of a call bind to parameters.
use Rattle.std.specs.Prelude.{ℕ, zero, suc, Bool, true, ◌&&◌, if◌then◌else◌, List, [], ◌∷◌, length, replicate, Option, Some, None, is_some}
use Rattle.std.specs.List.{list_any, position}
use Rattle.std.specs.Str.{bytes_eq}
use Rattle.py_tree.specs.Syntax.{Text, Param}
use Rattle.gradual_types.specs.Values.{Value}
use Rattle.py_meaning.specs.Boundaries.{Origin, Receiver}

-- an argument, and from where its value comes; one by keyword has a name
pub record Argument : Type 0 where
  pub name : Option Text
  pub value : Value
  pub origin : Origin

abbrev pub has_keyword : List Argument → Bool
has_keyword args = list_any (λ a. is_some a.name) args

abbrev pub positional : List Argument → List Value
positional [] = []
positional (a ∷ args) = if is_some a.name then positional args else a.value ∷ positional args

-- the receiver of a bound method is its first argument
abbrev pub with_receiver : Value → List Argument → List Argument
with_receiver receiver args = record { name = None; value = receiver; origin = Receiver } ∷ args

-- ---- binding

-- for each parameter its argument, where it is given one
abbrev pub Given : Type 0
Given = List (Option Argument)

abbrev pub behind : Option Argument → Option Given → Option Given
behind first None = None
behind first (Some rest) = Some (first ∷ rest)

-- a parameter is given one argument at most
abbrev pub give_to : ℕ → Argument → Given → Option Given
give_to n a [] = None
give_to zero a (None ∷ rest) = Some (Some a ∷ rest)
give_to zero a (Some other ∷ rest) = None
give_to (suc n) a (first ∷ rest) = behind first (give_to n a rest)

-- the parameter of the i-th argument: the i-th, or the one that a keyword names
abbrev pub number_of : List Param → ℕ → Option Text → Option ℕ
number_of params i None = Some i
number_of params i (Some name) = position (λ p. bytes_eq name p.name) params

abbrev pub and_given : Option ℕ → Argument → Option Given → Option Given
and_given (Some n) a (Some given) = give_to n a given
and_given n a given = None

-- the arguments from the i-th on
abbrev pub give_from : List Param → ℕ → List Argument → Option Given → Option Given
give_from params i [] given = given
give_from params i (a ∷ args) given = give_from params (suc i) args (and_given (number_of params i a.name) a given)

-- a parameter without an argument has a default
abbrev pub is_complete : List Param → Given → Bool
is_complete (p ∷ ps) (Some a ∷ given) = is_complete ps given
is_complete (p ∷ ps) (None ∷ given) = is_some p.default && is_complete ps given
is_complete ps given = true

abbrev pub complete : List Param → Option Given → Option Given
complete params None = None
complete params (Some given) = if is_complete params given then Some given else None

-- none where the arguments don't bind
abbrev pub bound : List Param → List Argument → Option Given
bound params args = complete params (give_from params 0 args (Some (replicate (length params) None)))
