-- What steps meet is met by going over iterables.
use Rattle.std.specs.Prelude.{ℕ, zero, suc, Bool, List, [], ◌∷◌, length, Option, Some, None}
use Rattle.py_values.specs.declared.exception.ExcKind.TheVariants as kind
use Rattle.py_values.specs.declared.value.Home.{Home}
use Rattle.gradual_types.specs.Values as v
use Rattle.gradual_types.specs.Values.{Value}
use Rattle.py_meaning.specs.Acts.{Act, Flow, On, Returned, Broke, Continued, Spent}
use Rattle.py_meaning.specs.Modules.{World}
use Rattle.py_meaning.specs.Looks as seen
use Rattle.py_meaning.specs.Looks.{Seen}
use Rattle.py_meaning.specs.Operands.{range_count, range_item}
use Rattle.py_meaning.specs.Iterables.{characters, shown_keys, gathered, gather, again, turn, over_each, over_range, number_at, listed_at, over_list, unless_resized, over_dict, over, while_true}
use Rattle.py_meaning.proofs.Steps.{Steps, Ticked, Both, Kept, ticked, seq, chosen, raises, errs, looks, sees}

module _ {w : World} (q : Steps w) where
  -- ---- all items at once

  pub gathers_seen : (a : Seen) → Kept q (gathered w a)
  gathers_seen (seen.Tuple vs) = seq q (q.pays _) (q.gives vs)
  gathers_seen (seen.Listed h n vs) = seq q (q.pays _) (q.gives vs)
  gathers_seen (seen.Points text) = seq q (q.pays _) (q.gives _)
  gathers_seen (seen.Mapped h n es) = seq q (q.pays _) (q.gives _)
  gathers_seen (seen.Range start stop step) = seq q (q.pays _) (q.gives _)
  gathers_seen other = errs q

  pub gathers : (x : Value) → Kept q (gather w x)
  gathers x = q.bind (looks q x) gathers_seen

  -- ---- loops

  pub agains : (ended : Flow) {next next' : Act Flow} → Both q next next' → Both q (again ended next) (again ended next')
  agains On h = h
  agains Continued h = h
  agains Broke h = q.gives On
  agains (Returned value) h = q.gives (Returned value)

-- a turn costs 1, and all of it is behind that
module _ {w : World} {p q : Steps w} (t : Ticked p q) {back : Act (Unit {0})} (hb : Kept p back) where
  pub turns : {body body' : Value → Act Flow} → ((x : Value) → Both p (body x) (body' x)) → {next next' : Act Flow} → Both p next next'
      → (x : Option Value) → Both q (turn back body next x) (turn back body' next' x)
  turns h hn None = q.gives On
  turns h hn (Some x) = t.by (p.bind (h x) (λ ended. agains p ended (seq p hb hn)))

module _ {w : World} (q : Steps w) {back : Act (Unit {0})} (hb : Kept q back) where
  pub whiles : {test test' : Act Bool} {body body' : Act Flow} → Both q test test' → Both q body body' → (budget : ℕ) → Both q (while_true back test body budget) (while_true back test' body' budget)
  whiles ht h zero = q.halts Spent
  whiles ht h (suc budget) = q.bind ht (λ goes_on. chosen q goes_on (turns (ticked q) hb (λ x. h) (whiles ht h budget) (Some v.Nil)) (q.gives On))

  module _ {body body' : Value → Act Flow} (h : (x : Value) → Both q (body x) (body' x)) where
    pub each : (xs : List Value) → Both q (over_each back body xs) (over_each back body' xs)
    each [] = q.gives On
    each (x ∷ xs) = turns (ticked q) hb h (each xs) (Some x)

    pub ranges : (item : ℕ → Option Value) (budget i : ℕ) → Both q (over_range back body item budget i) (over_range back body' item budget i)
    ranges item zero i = q.halts Spent
    ranges item (suc budget) i = turns (ticked q) hb h (ranges item budget (suc i)) (item i)

    pub lists : (i : Home) (n budget j : ℕ) → Both q (over_list w i n back body budget j) (over_list w i n back body' budget j)
    lists i n zero j = q.halts Spent
    lists i n (suc budget) j = q.bind (sees q i n) (λ a. turns (ticked q) hb h (lists i n budget (suc j)) (listed_at j a))

    pub resizes : (size : ℕ) {next next' : Act Flow} → Both q next next' → (a : Seen) → Both q (unless_resized w size next a) (unless_resized w size next' a)
    resizes size hn (seen.Mapped i n es) = chosen q _ hn (raises q kind.RuntimeError)
    resizes size hn other = hn

    pub dicts : (i : Home) (n size : ℕ) (keys : List Value) → Both q (over_dict w i n size back body keys) (over_dict w i n size back body' keys)
    dicts i n size [] = q.bind (sees q i n) (resizes size (q.gives On))
    dicts i n size (key ∷ keys) = q.bind (sees q i n) (resizes size (turns (ticked q) hb h (dicts i n size keys) (Some key)))

    pub overs : (a : Seen) → Both q (over w back body a) (over w back body' a)
    overs (seen.Tuple vs) = each vs
    overs (seen.Points text) = each (characters text)
    overs (seen.Listed i n vs) = q.at_state (λ s. lists i n (suc s.fuel) 0)
    overs (seen.Range start stop step) = q.at_state (λ s. ranges (number_at (range_count start stop step) (λ i. v.Int (range_item start step i))) (suc s.fuel) 0)
    overs (seen.Mapped i n es) = dicts i n (length es) (shown_keys es)
    overs other = errs q
