-- Going over iterables: lists, tuples, texts, ranges and dictionaries.
use Rattle.std.specs.Prelude.{ℕ, zero, suc, nat_lt, ◌==◌, Bool, if◌then◌else◌, List, [], ◌∷◌, map, length, slice_get, Option, Some, None}
use Rattle.std.specs.List.{range_with_len}
use Rattle.py_tree.specs.Syntax.{Text}
use Rattle.py_values.specs.declared.exception.ExcKind.TheVariants as kind
use Rattle.py_values.specs.declared.value.Home.{Home}
use Rattle.key_map.specs.Entries.{Entry}
use Rattle.gradual_types.specs.Values as v
use Rattle.gradual_types.specs.Values.{Value}
use Rattle.py_meaning.specs.Acts.{Act, Flow, On, Returned, Broke, Continued, Spent, ◌>>=◌, ◌>>◌, give, halt, pay, tick, choose}
use Rattle.py_meaning.specs.Modules.{World}
use Rattle.py_meaning.specs.Looks as seen
use Rattle.py_meaning.specs.Looks.{Seen, look, see_object, raise, type_error}
use Rattle.py_meaning.specs.Operands.{range_count, range_item}

abbrev pub characters : Text → List Value
characters text = map (λ point. v.Points (point ∷ [])) text

abbrev pub shown_keys : List (Entry Value Value) → List Value
shown_keys es = map (λ e. e.shown) es

-- ---- all items at once

abbrev pub gathered : World → Seen → Act (List Value)
gathered w (seen.Tuple vs) = pay (length vs) >> give vs
gathered w (seen.Listed h n vs) = pay (length vs) >> give vs
gathered w (seen.Points text) = pay (length text) >> give (characters text)
gathered w (seen.Mapped h n es) = pay (length es) >> give (shown_keys es)
gathered w (seen.Range start stop step) =
    pay (range_count start stop step) >> give (map (λ i. v.Int (range_item start step i)) (range_with_len 0 (range_count start stop step)))
gathered w other = type_error w

-- all items, once their number is paid
abbrev pub gather : World → Value → Act (List Value)
gather w x = look w x >>= gathered w

-- ---- loops

-- what a loop does once a turn has ended so
abbrev pub again : Flow → Act Flow → Act Flow
again On next = next
again Continued next = next
again Broke next = give On
again (Returned value) next = give (Returned value)

-- a turn over the next item, where there is one; before another the loop is under way again, which is what `back` tells
abbrev pub turn : Act (Unit {0}) → (Value → Act Flow) → Act Flow → Option Value → Act Flow
turn back body next None = give On
turn back body next (Some x) = do
  tick
  ended ← body x
  again ended (back >> next)

abbrev pub over_each : Act (Unit {0}) → (Value → Act Flow) → List Value → Act Flow
over_each back body [] = give On
over_each back body (x ∷ xs) = turn back body (over_each back body xs) (Some x)

-- with at most so many turns; each costs 1, so that the fuel ends before them
abbrev pub over_range : Act (Unit {0}) → (Value → Act Flow) → (ℕ → Option Value) → ℕ → ℕ → Act Flow
over_range back body item zero i = halt Spent
over_range back body item (suc turns) i = turn back body (over_range back body item turns (suc i)) (item i)

abbrev pub number_at : ℕ → (ℕ → Value) → ℕ → Option Value
number_at count number i = if nat_lt i count then Some (number i) else None

abbrev pub listed_at : ℕ → Seen → Option Value
listed_at i (seen.Listed h n vs) = slice_get vs i
listed_at i other = None

-- by place, so that items appended on the way are seen
abbrev pub over_list : World → Home → ℕ → Act (Unit {0}) → (Value → Act Flow) → ℕ → ℕ → Act Flow
over_list w h n back body zero i = halt Spent
over_list w h n back body (suc turns) i = do
  a ← see_object w h n
  turn back body (over_list w h n back body turns (suc i)) (listed_at i a)

-- a dictionary of another size than at the start raises RuntimeError at the next step, also at the one that would end
abbrev pub unless_resized : {A : Type 0} → World → ℕ → Act A → Seen → Act A
unless_resized w size next (seen.Mapped h n es) = choose (length es == size) next (raise w kind.RuntimeError)
unless_resized w size next other = next

abbrev pub over_dict : World → Home → ℕ → ℕ → Act (Unit {0}) → (Value → Act Flow) → List Value → Act Flow
over_dict w h n size back body [] = see_object w h n >>= unless_resized w size (give On)
over_dict w h n size back body (key ∷ keys) = see_object w h n >>= unless_resized w size (turn back body (over_dict w h n size back body keys) (Some key))

abbrev pub over : World → Act (Unit {0}) → (Value → Act Flow) → Seen → Act Flow
over w back body (seen.Tuple vs) = over_each back body vs
over w back body (seen.Points text) = over_each back body (characters text)
over w back body (seen.Listed h n vs) = λ s. over_list w h n back body (suc s.fuel) 0 s
over w back body (seen.Range start stop step) =
    λ s. over_range back body (number_at (range_count start stop step) (λ i. v.Int (range_item start step i))) (suc s.fuel) 0 s
over w back body (seen.Mapped h n es) = over_dict w h n (length es) back body (shown_keys es)
over w back body other = type_error w

-- with at most so many turns; each costs 1, so that the fuel ends before them
abbrev pub while_true : Act (Unit {0}) → Act Bool → Act Flow → ℕ → Act Flow
while_true back test body zero = halt Spent
while_true back test body (suc turns) = do
  goes_on ← test
  choose goes_on (turn back (λ x. body) (while_true back test body turns) (Some v.Nil)) (give On)
