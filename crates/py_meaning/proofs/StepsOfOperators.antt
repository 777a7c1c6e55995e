-- What steps meet is met by operators, keys and comparisons.
use Rattle.std.specs.Prelude.{ℕ, zero, suc, ℤ, Bool, true, false, List, [], ◌∷◌, ◌++◌, Option, Some, None, IfSome}
use Rattle.py_tree.specs.declared.operator.BinaryOp.{BinaryOp}
use Rattle.py_tree.specs.declared.operator.BinaryOp.TheVariants.{Add}
use Rattle.py_tree.specs.declared.operator.CompareOp.{CompareOp}
use Rattle.py_tree.specs.declared.operator.CompareOp.TheVariants.{Eq, Ne, In, NotIn}
use Rattle.py_values.specs.declared.exception.ExcKind.TheVariants as kind
use Rattle.key_map.specs.Entries.{Entry, find_entry}
use Rattle.atom_ops.specs.Operands as o
use Rattle.atom_ops.specs.Operators.{Operation, Binary, Compare, place_in, row_of_known}
use Rattle.gradual_types.specs.Values as v
use Rattle.gradual_types.specs.Values.{Value}
use Rattle.py_meaning.specs.Acts.{Act}
use Rattle.py_meaning.specs.Modules.{World}
use Rattle.py_meaning.specs.Looks as seen
use Rattle.py_meaning.specs.Looks.{Seen, make}
use Rattle.py_meaning.specs.Operands.{operand, answered, by_table, truth, opposite, joined, combined, binary, number, at_number, at_place, item_at}
use Rattle.py_meaning.specs.PaidKeys.{Part, IsKey, IsNone, all_parts, of_tuple, of_seen, part_of, or_fault, key_of}
use Rattle.py_meaning.specs.Comparisons.{Deeper, tabled, identical, receivers_equal, bound_equal, pairs_equal, lists_equal, values_equal, entries_equal, dicts_equal, seen_equal, equal, pairs_ordered, lists_ordered, seen_ordered, ordered, is_among, contained, contains, compared, comparison}
use Rattle.py_meaning.proofs.Steps.{Steps, Kept, seq, chosen, raises, errs, or_raises, looks}

module _ {w : World} (q : Steps w) where
  -- ---- the table

  pub answers : (a : o.Answer) → Kept q (answered w a)
  answers (o.Gives a) = q.gives _
  answers (o.Raises k) = raises q k
  answers o.Looks = errs q

  pub tables : (operation : Operation) → Kept q (by_table w operation)
  tables operation = seq q (q.pays _) (answers (row_of_known operation).answer)

  pub truths : (x : Value) → Kept q (truth w x)
  truths x = q.bind (looks q x) (λ a. q.gives _)

  pub opposites : (x : Value) → Kept q (opposite w x)
  opposites x = q.bind (looks q x) (λ a. q.gives _)

  pub joins : (vs us : List Value) {made : List Value → Act Value} → ((all : List Value) → Kept q (made all)) → Kept q (joined w vs us made)
  joins vs us h = seq q (q.pays _) (h (vs ++ us))

  pub combines : (op : BinaryOp) (a b : Seen) → Kept q (combined w op a b)
  combines Add (seen.Tuple vs) (seen.Tuple us) = joins vs us (λ all. q.gives (v.Tuple (v.values all)))
  combines Add (seen.Listed h n vs) (seen.Listed i m us) = joins vs us (λ all. q.makes (v.Listed all))
  combines op a b = tables (Binary op (operand a) (operand b))

  pub binaries : (op : BinaryOp) (x y : Value) → Kept q (binary w op x y)
  binaries op x y = q.bind (looks q x) (λ a. q.bind (looks q y) (λ b. combines op a b))

  -- ---- places

  pub numbers : {A : Type 0} (count : ℕ) {act : ℕ → Act A} → ((n : ℕ) → Kept q (act n)) → (i : Option ℤ) → Kept q (at_number w count act i)
  numbers count h None = errs q
  numbers count h (Some i) = q.bind (or_raises q kind.IndexError (place_in count i)) h

  pub places : {A : Type 0} (count : ℕ) (i : Seen) {act : ℕ → Act A} → ((n : ℕ) → Kept q (act n)) → Kept q (at_place w count i act)
  places count i h = numbers count h (number i)

  pub items_at : (vs : List Value) (n : ℕ) → Kept q (item_at w vs n)
  items_at vs n = or_raises q kind.IndexError _

  -- ---- keys

  pub all_parts_kept : {part : Value → Act Part} → ((x : Value) → Kept q (part x)) → (xs : List Value) → Kept q (all_parts part xs)
  all_parts_kept h [] = q.gives _
  all_parts_kept h (x ∷ xs) = q.bind (h x) (λ first. q.bind (all_parts_kept h xs) (λ rest. q.gives _))

  pub tuples : (part : Option (Value → Act Part)) → IfSome part (λ one. (x : Value) → Kept q (one x)) → (xs : List Value) → Kept q (of_tuple part xs)
  tuples None h xs = q.gives _
  tuples (Some part) h xs = q.bind (q.pays _) (λ a. q.bind (all_parts_kept h xs) (λ parts. q.gives _))

  pub seen_parts : (part : Option (Value → Act Part)) → IfSome part (λ one. (x : Value) → Kept q (one x)) → (a : Seen) → Kept q (of_seen part a)
  seen_parts part h (seen.Points text) = seq q (q.pays _) (q.gives _)
  seen_parts part h (seen.Tuple xs) = tuples part h xs
  seen_parts part h _ = q.gives _

  pub parts : (levels : ℕ) (x : Value) → Kept q (part_of w levels x)
  parts zero x = q.bind (looks q x) (seen_parts None tt)
  parts (suc levels) x = q.bind (looks q x) (seen_parts (Some (part_of w levels)) (parts levels))

  pub faults : (part : Part) → Kept q (or_fault w part)
  faults (IsKey k x) = q.gives _
  faults (IsNone why) = raises q why

  pub keys : (x : Value) → Kept q (key_of w x)
  keys x = q.bind (parts 100 x) faults

  -- ---- `==`

  pub decides : (op : CompareOp) (a b : Seen) → Kept q (tabled w op a b)
  decides op a b = q.bind (tables (Compare op (operand a) (operand b))) (λ answer. q.gives _)

  pub receivers : (a b : Seen) → Kept q (receivers_equal w a b)
  receivers (seen.Points a) (seen.Points b) = decides Eq (seen.Points a) (seen.Points b)
  receivers _ _ = q.gives _

  pub bounds : (receiver method receiver' method' : Value) → Kept q (bound_equal w receiver method receiver' method')
  bounds receiver method receiver' method' = q.bind (looks q method) (λ f. q.bind (looks q method') (λ g.
      chosen q (identical f g) (q.bind (looks q receiver) (λ a. q.bind (looks q receiver') (λ b. receivers a b))) (q.gives false)))

  module _ {same : Value → Value → Act Bool} (h : (x y : Value) → Kept q (same x y)) where
    pub pairs : (xs ys : List Value) → Kept q (pairs_equal same xs ys)
    pairs (x ∷ xs) (y ∷ ys) = q.bind (q.pays 1) (λ a. q.bind (h x y) (λ b. chosen q b (pairs xs ys) (q.gives false)))
    pairs [] ys = q.gives true
    pairs (x ∷ xs) [] = q.gives true

    pub values_kept : (x : Value) (y : Option Value) → Kept q (values_equal same x y)
    values_kept x None = q.gives false
    values_kept x (Some y) = seq q (q.pays 1) (h x y)

    pub entries : (ds es : List (Entry Value Value)) → Kept q (entries_equal w same ds es)
    entries [] es = q.gives true
    entries (d ∷ ds) es = q.bind (keys d.shown) (λ found. q.bind (values_kept d.value (find_entry found.0 es)) (λ b. chosen q b (entries ds es) (q.gives false)))

  abbrev pub KeptDeeper : Deeper → Type 0
  KeptDeeper deeper = IfSome deeper (λ same. (x y : Value) → Kept q (same x y))

  pub lists : (deeper : Deeper) → KeptDeeper deeper → (xs ys : List Value) → Kept q (lists_equal w deeper xs ys)
  lists None h xs ys = raises q kind.RecursionError
  lists (Some same) h xs ys = chosen q _ (pairs h xs ys) (q.gives false)

  pub dicts : (deeper : Deeper) → KeptDeeper deeper → (ds es : List (Entry Value Value)) → Kept q (dicts_equal w deeper ds es)
  dicts None h ds es = raises q kind.RecursionError
  dicts (Some same) h ds es = chosen q _ (entries h ds es) (q.gives false)

  pub equals_seen : (deeper : Deeper) → KeptDeeper deeper → (a b : Seen) → Kept q (seen_equal w deeper a b)
  equals_seen deeper h (seen.Tuple xs) (seen.Tuple ys) = lists deeper h xs ys
  equals_seen deeper h (seen.Listed i n xs) (seen.Listed j m ys) = lists deeper h xs ys
  equals_seen deeper h (seen.Mapped i n ds) (seen.Mapped j m es) = dicts deeper h ds es
  equals_seen deeper h (seen.Range start stop step) (seen.Range start' stop' step') = q.gives _
  equals_seen deeper h (seen.Bound r f) (seen.Bound s g) = bounds r f s g
  equals_seen deeper h a b = chosen q (identical a b) (q.gives true) (decides Eq a b)

  pub equals : (levels : ℕ) (x y : Value) → Kept q (equal w levels x y)
  equals zero x y = q.bind (looks q x) (λ a. q.bind (looks q y) (λ b. equals_seen None tt a b))
  equals (suc levels) x y = q.bind (looks q x) (λ a. q.bind (looks q y) (λ b. equals_seen (Some (equal w levels)) (equals levels) a b))

  -- ---- order

  pub ordered_pairs : (op : CompareOp) {same less : Value → Value → Act Bool} → ((x y : Value) → Kept q (same x y)) → ((x y : Value) → Kept q (less x y))
      → (xs ys : List Value) → Kept q (pairs_ordered op same less xs ys)
  ordered_pairs op hs hl (x ∷ xs) (y ∷ ys) = q.bind (q.pays 1) (λ a. q.bind (hs x y) (λ b. chosen q b (ordered_pairs op hs hl xs ys) (hl x y)))
  ordered_pairs op hs hl [] ys = q.gives _
  ordered_pairs op hs hl (x ∷ xs) [] = q.gives _

  pub ordered_lists : (op : CompareOp) (same less : Deeper) → KeptDeeper same → KeptDeeper less → (xs ys : List Value) → Kept q (lists_ordered w op same less xs ys)
  ordered_lists op (Some same) (Some less) hs hl xs ys = ordered_pairs op hs hl xs ys
  ordered_lists op _ _ hs hl xs ys = raises q kind.RecursionError

  pub orders_seen : (op : CompareOp) (same less : Deeper) → KeptDeeper same → KeptDeeper less → (a b : Seen) → Kept q (seen_ordered w op same less a b)
  orders_seen op same less hs hl (seen.Tuple xs) (seen.Tuple ys) = ordered_lists op same less hs hl xs ys
  orders_seen op same less hs hl (seen.Listed i n xs) (seen.Listed j m ys) = ordered_lists op same less hs hl xs ys
  orders_seen op same less hs hl a b = decides op a b

  pub orders : (op : CompareOp) (levels : ℕ) (x y : Value) → Kept q (ordered w op levels x y)
  orders op zero x y = q.bind (looks q x) (λ a. q.bind (looks q y) (λ b. orders_seen op None None tt tt a b))
  orders op (suc levels) x y =
      q.bind (looks q x) (λ a. q.bind (looks q y) (λ b. orders_seen op (Some (equal w levels)) (Some (ordered w op levels)) (equals levels) (orders op levels) a b))

  -- ---- `in`

  pub among_kept : (x : Value) (ys : List Value) → Kept q (is_among w x ys)
  among_kept x [] = q.gives false
  among_kept x (y ∷ ys) = q.bind (q.pays 1) (λ a. q.bind (equals 100 x y) (λ b. chosen q b (q.gives true) (among_kept x ys)))

  pub contained_kept : (x : Value) (a b : Seen) → Kept q (contained w x a b)
  contained_kept x a (seen.Tuple ys) = among_kept x ys
  contained_kept x a (seen.Listed h n ys) = among_kept x ys
  contained_kept x a (seen.Mapped h n es) = q.bind (keys x) (λ found. q.gives _)
  contained_kept x a (seen.Range start stop step) = q.gives _
  contained_kept x a b = decides In a b

  pub contains_kept : (x y : Value) → Kept q (contains w x y)
  contains_kept x y = q.bind (looks q x) (λ a. q.bind (looks q y) (λ b. contained_kept x a b))

  -- ---- `a op b`

  pub compares : (op : CompareOp) (x y : Value) → Kept q (compared w op x y)
  compares Eq x y = equals 100 x y
  compares Ne x y = q.bind (equals 100 x y) (λ b. q.gives _)
  compares In x y = contains_kept x y
  compares NotIn x y = q.bind (contains_kept x y) (λ b. q.gives _)
  compares op x y = orders op 100 x y

  pub comparisons : (op : CompareOp) (x y : Value) → Kept q (comparison w op x y)
  comparisons op x y = q.bind (compares op x y) (λ answer. q.gives _)
