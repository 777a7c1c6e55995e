-- No definition of the language: that the order of keys is total, and that it tells keys apart as the test for the same key does.
use Rattle.std.proofs.Common.{◌≡◌, ◌&&◌, refl, ap, sym, ◌∙◌}
use Rattle.std.specs.Cmp.{IsPartialOrder, IsTotalOrder, partial_order_from_agreeing_total}
use Rattle.std.specs.Ordering.{as_partial_cmp, eq_by_cmp, is_eq, ordering_reverse, ordering_then}
use Rattle.std.specs.declared.cmp.Ordering.{Ordering}
use Rattle.std.specs.declared.cmp.Ordering.TheVariants.{Less, Equal, Greater}
use Rattle.std.proofs.lemmas.Cmp.{int_cmp_total, nat_list_cmp_total}
use Rattle.std.proofs.lemmas.Map.Text.{is_eq-slice_cmp}
use Rattle.key_map.specs.declared.key.Key as declared
use Rattle.key_map.specs.Keys.{Key, Keys, Nil, Int, Text, Tuple, end_of_keys, more_keys, same, all_same, key_of}
use Rattle.key_map.specs.KeyLaws.{same_is}
use Rattle.key_map.specs.Order.{order, order_of_items}

both : (o p : Ordering) → is_eq (ordering_then o p) ≡ is_eq o && is_eq p
both Less p = refl
both Equal p = refl
both Greater p = refl

mutual
  pub is_eq-order : (a b : Key) → is_eq (order a b) ≡ same a b
  is_eq-order Nil Nil = refl
  is_eq-order (Int a) (Int b) = refl
  is_eq-order (Text a) (Text b) = is_eq-slice_cmp a b
  is_eq-order (Tuple ks) (Tuple ls) = is_eq-order_of_items ks ls
  is_eq-order a b = refl

  is_eq-order_of_items : (ks ls : Keys) → is_eq (order_of_items ks ls) ≡ all_same ks ls
  is_eq-order_of_items end_of_keys end_of_keys = refl
  is_eq-order_of_items (more_keys a ks) (more_keys b ls) =
      both (order a b) (order_of_items ks ls) ∙ ap (λ z. z && is_eq (order_of_items ks ls)) (is_eq-order a b) ∙ ap (λ z. same a b && z) (is_eq-order_of_items ks ls)
  is_eq-order_of_items ks ls = refl

reversed_then : (o p : Ordering) → ordering_reverse (ordering_then o p) ≡ ordering_then (ordering_reverse o) (ordering_reverse p)
reversed_then Less p = refl
reversed_then Equal p = refl
reversed_then Greater p = refl

mutual
  antisymmetric : (a b : Key) → order a b ≡ ordering_reverse (order b a)
  antisymmetric Nil Nil = refl
  antisymmetric (Int a) (Int b) = int_cmp_total.antisymm a b
  antisymmetric (Text a) (Text b) = nat_list_cmp_total.antisymm a b
  antisymmetric (Tuple ks) (Tuple ls) = items_antisymmetric ks ls
  antisymmetric a b = refl

  items_antisymmetric : (ks ls : Keys) → order_of_items ks ls ≡ ordering_reverse (order_of_items ls ks)
  items_antisymmetric end_of_keys end_of_keys = refl
  items_antisymmetric (more_keys a ks) (more_keys b ls) =
      ap (λ z. ordering_then z (order_of_items ks ls)) (antisymmetric a b)
      ∙ ap (ordering_then (ordering_reverse (order b a))) (items_antisymmetric ks ls)
      ∙ sym (reversed_then (order b a) (order_of_items ls ks))
  items_antisymmetric ks ls = refl

tied : (a b : Key) → order a b ≡ Equal → a ≡ b
tied a b h = same_is a b (sym (is_eq-order a b) ∙ ap is_eq h)

congruent : (a b c : Key) → order a b ≡ Equal → order a c ≡ order b c
congruent a b c h = ap (λ z. order z c) (tied a b h)

-- two steps down, where a tie at the first keys leaves it to the others
steps : (a b c : Key) (o p q : Ordering) → (order a b ≡ Less → order b c ≡ Less → order a c ≡ Less) → (o ≡ Less → p ≡ Less → q ≡ Less)
    → ordering_then (order a b) o ≡ Less → ordering_then (order b c) p ≡ Less → ordering_then (order a c) q ≡ Less
steps a b c o p q first rest h k = by (order a b) (order b c) refl refl h k where
  by : (s t : Ordering) → order a b ≡ s → order b c ≡ t → ordering_then s o ≡ Less → ordering_then t p ≡ Less → ordering_then (order a c) q ≡ Less
  by Less Less e f h k = ap (λ z. ordering_then z q) (first e f)
  by Less Equal e f h k = ap (λ z. ordering_then z q) (sym (ap (order a) (tied b c f)) ∙ e)
  by Equal Less e f h k = ap (λ z. ordering_then z q) (congruent a b c e ∙ f)
  by Equal Equal e f h k = ap (λ z. ordering_then z q) (congruent a b c e ∙ f) ∙ rest h k
  by Less Greater e f h k = absurd cc
  by Equal Greater e f h k = absurd cc
  by Greater t e f h k = absurd cc

mutual
  transitive : (a b c : Key) → order a b ≡ Less → order b c ≡ Less → order a c ≡ Less
  transitive Nil Nil c h k = absurd cc
  transitive Nil b (Int c) h k = refl
  transitive Nil b (Text c) h k = refl
  transitive Nil b (Tuple ms) h k = refl
  transitive (Int a) (Int b) (Int c) h k = int_cmp_total.trans a b c h k
  transitive (Int a) b (Text c) h k = refl
  transitive (Int a) b (Tuple ms) h k = refl
  transitive (Text a) (Text b) (Text c) h k = nat_list_cmp_total.trans a b c h k
  transitive (Text a) b (Tuple ms) h k = refl
  transitive (Tuple ks) (Tuple ls) (Tuple ms) h k = items_transitive ks ls ms h k
  transitive a b c h k = absurd cc

  items_transitive : (ks ls ms : Keys) → order_of_items ks ls ≡ Less → order_of_items ls ms ≡ Less → order_of_items ks ms ≡ Less
  items_transitive end_of_keys end_of_keys ms h k = absurd cc
  items_transitive end_of_keys ls (more_keys c ms) h k = refl
  items_transitive (more_keys a ks) (more_keys b ls) (more_keys c ms) h k = steps a b c _ _ _ (transitive a b c) (items_transitive ks ls ms) h k
  items_transitive ks ls ms h k = absurd cc

pub keys_in_order : IsTotalOrder (λ a b. order (key_of a) (key_of b))
keys_in_order =
    record {
      antisymm = λ a b. antisymmetric (key_of a) (key_of b);
      trans = λ a b c. transitive (key_of a) (key_of b) (key_of c);
      congr = λ a b c. congruent (key_of a) (key_of b) (key_of c);
    }

pub ties_are_same : (a b : declared.Key) → same (key_of a) (key_of b) ≡ eq_by_cmp (λ x y. order (key_of x) (key_of y)) a b
ties_are_same a b = sym (is_eq-order (key_of a) (key_of b))

pub keys_in_partial_order : IsPartialOrder (λ a b. same (key_of a) (key_of b)) (as_partial_cmp (λ a b. order (key_of a) (key_of b)))
keys_in_partial_order = partial_order_from_agreeing_total (λ a b. order (key_of a) (key_of b)) keys_in_order (λ a b. refl) ties_are_same
