-- Lists of keys.
use Rattle.std.proofs.Common.{◌≡◌, ◌≢◌, ◌<◌, ℕ, zero, suc, Bool, true, false, ◌&&◌, List, [], ◌∷◌, ◌++◌, drop, length, fold, refl, sym, ap, ◌∙◌, arith}
use Rattle.std.proofs.lemmas.List.Sums.{fold-append}
use Rattle.std.specs.Hash as fed
use Rattle.std.specs.declared.cmp.Ordering.TheVariants.{Less, Equal}
use Rattle.key_map.specs.declared.key.Key as declared
use Rattle.key_map.specs.Keys.{all_same, key_of, keys_of, same}
use Rattle.key_map.specs.Hashed.{count, all_writes}
use Rattle.key_map.specs.Order.{order_of_items}

never : (a : Bool) → false ≡ a && false
never true = refl
never false = refl

pub unlike : (xs ys : List declared.Key) → length xs ≢ length ys → false ≡ all_same (keys_of xs) (keys_of ys)
unlike [] [] h = absurd (h refl)
unlike [] (y ∷ ys) h = refl
unlike (x ∷ xs) [] h = refl
unlike (x ∷ xs) (y ∷ ys) h =
    let rest : length xs ≢ length ys = λ e. h (omega (arith, e)) in never (same (key_of x) (key_of y)) ∙ ap (λ z. same (key_of x) (key_of y) && z) (unlike xs ys rest)

pub counted : (xs : List declared.Key) → count (keys_of xs) ≡ length xs
counted [] = refl
counted (x ∷ xs) = omega (arith, counted xs)

pub written : {S : Type 0} (write : S → List ℕ → S) (s s' t : S) (xs : List declared.Key) (n : ℕ) → n ≡ length xs → s' ≡ fold write s (fed.usize n) → t ≡ fold write s' (all_writes (keys_of xs))
    → t ≡ fold write s (fed.usize (count (keys_of xs)) ++ all_writes (keys_of xs))
written write s s' t xs n h e f =
    f ∙ ap (λ z. fold write z (all_writes (keys_of xs))) (e ∙ ap (λ z. fold write s (fed.usize z)) (h ∙ sym (counted xs))) ∙ sym (fold-append write s (fed.usize (count (keys_of xs))) (all_writes (keys_of xs)))

pub ends_equal : (xs ys : List declared.Key) (i : ℕ) → i ≡ length xs → length xs ≡ length ys → Equal ≡ order_of_items (keys_of (drop i xs)) (keys_of (drop i ys))
ends_equal [] [] zero h e = refl
ends_equal (x ∷ xs) (y ∷ ys) (suc i) h e = ends_equal xs ys i (omega (arith, h)) (omega (arith, e))
ends_equal xs ys i h e = absurd (omega (arith, h, e))

pub ends_first : (xs ys : List declared.Key) (i : ℕ) → i ≡ length xs → length xs < length ys → Less ≡ order_of_items (keys_of (drop i xs)) (keys_of (drop i ys))
ends_first [] (y ∷ ys) zero h e = refl
ends_first (x ∷ xs) (y ∷ ys) (suc i) h e = ends_first xs ys i (omega (arith, h)) (omega (arith, e))
ends_first xs ys i h e = absurd (omega (arith, h, e))
