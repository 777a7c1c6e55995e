-- No definition of the language: that the test for the same key is an equality, and that hashers are given the same of the same keys.
use Rattle.std.proofs.Common.{◌≡◌, Bool, true, false, ◌&&◌, IsTrue, refl, ap, subst, ◌∙◌}
use Rattle.std.specs.Cmp.{IsEquivalence, both_ways}
use Rattle.std.proofs.lemmas.Bool.Decides.{Decides-int_eq}
use Rattle.std.proofs.lemmas.Slice.Eq.{bytes_eq-Decides}
use Rattle.key_map.specs.declared.key.Key as declared
use Rattle.key_map.specs.Keys.{Key, Keys, Nil, Int, Text, Tuple, end_of_keys, more_keys, same, all_same, key_of}
use Rattle.key_map.specs.Hashed.{writes}

both : (a b : Bool) → a && b ≡ true → (a ≡ true) × (b ≡ true)
both true true h = (refl, refl)
both true false h = absurd cc
both false b h = absurd cc

mutual
  pub same_is : (a b : Key) → same a b ≡ true → a ≡ b
  same_is Nil Nil h = refl
  same_is (Int a) (Int b) h = ap Int ((Decides-int_eq a b).0 h)
  same_is (Text a) (Text b) h = ap Text ((bytes_eq-Decides a b).0 h)
  same_is (Tuple ks) (Tuple ls) h = ap Tuple (all_same_are ks ls h)
  same_is a b h = absurd cc

  all_same_are : (ks ls : Keys) → all_same ks ls ≡ true → ks ≡ ls
  all_same_are end_of_keys end_of_keys h = refl
  all_same_are (more_keys a ks) (more_keys b ls) h =
      let parts = both (same a b) (all_same ks ls) h in ap (λ z. more_keys z ks) (same_is a b parts.0) ∙ ap (more_keys b) (all_same_are ks ls parts.1)
  all_same_are ks ls h = absurd cc

mutual
  pub itself : (a : Key) → same a a ≡ true
  itself Nil = refl
  itself (Int a) = (Decides-int_eq a a).1 refl
  itself (Text a) = (bytes_eq-Decides a a).1 refl
  itself (Tuple ks) = all_themselves ks

  all_themselves : (ks : Keys) → all_same ks ks ≡ true
  all_themselves end_of_keys = refl
  all_themselves (more_keys a ks) = ap (λ z. z && all_same ks ks) (itself a) ∙ all_themselves ks

symmetric : (a b : Key) → same a b ≡ true → same b a ≡ true
symmetric a b h = subst (λ z. same z a ≡ true) (same_is a b h) (itself a)

pub keys_equivalent : IsEquivalence (λ a b. same (key_of a) (key_of b))
keys_equivalent =
    record {
      refl = λ x. itself (key_of x);
      symm = λ x y. both_ways (same (key_of x) (key_of y)) (same (key_of y) (key_of x)) (symmetric (key_of x) (key_of y)) (symmetric (key_of y) (key_of x));
      congr = λ x y z h. ap (λ k. same k (key_of z)) (same_is (key_of x) (key_of y) h);
    }

pub alike_writes : (x y : declared.Key) → IsTrue (same (key_of x) (key_of y)) → writes (key_of x) ≡ writes (key_of y)
alike_writes x y h = ap writes (same_is (key_of x) (key_of y) h)
