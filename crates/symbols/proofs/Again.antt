-- What is known of the bindings of a name, with one more, and what it says of the second of them.
use Rattle.std.specs.Prelude.{if◌then◌else◌}
use Rattle.std.proofs.Common.{◌≡◌, ℕ, ◌+◌, ◌<◌, ◌==◌, max, min, Bool, true, false, not, cond, ◌||◌, List, [], ◌∷◌, ◌++◌, length, get_or, take, filter, Option, Some, None, refl, sym, ap, subst, ◌∙◌, arith, unwrap_or, bit_and, bit_or}
use Rattle.std.specs.Option.{option_to_list}
use Rattle.std.proofs.lemmas.List.{take_more, append-nil}
use Rattle.std.proofs.lemmas.List.Folds.{list_any-append}
use Rattle.std.proofs.lemmas.Nat.Bits.{bit_at_and, bit_at_or, bit_at-zero, same_from_bits}
use Rattle.std.proofs.lemmas.Bool.{eqb-true, eq-eqb}
use Rattle.std.proofs.lemmas.Slice.Eq.{bytes_eq-Decides}
use Rattle.std.specs.Int.{bit_at}
use Rattle.std.specs.List.{list_any, flat_map}
use Rattle.std.specs.Str.{bytes_eq}
use Rattle.symbols.specs.declared.binding.Binding.{Binding}
use Rattle.symbols.specs.declared.binding.BindingKind.{BindingKind}
use Rattle.symbols.specs.declared.binding.BindingKind.TheVariants as by
use Rattle.symbols.specs.declared.repeats.Repeats.{Repeats}
use Rattle.symbols.specs.Bindings.{first_mentions, names_of}
use Rattle.symbols.specs.Faults.{bound_again, is_any, is_definition, is_named, second_binding}
use Rattle.symbols.specs.Kinds.{flag, meets}
use Rattle.symbols.specs.SpecialNames.{at}
use Rattle.symbols.specs.Repeats.{IsRepeats, Known, bound_with, second_line, seconds}

-- ---- sets of kinds

-- what two numbers have in common with a third
and-or : (a b w : ℕ) → bit_and (bit_or a b) w ≡ bit_or (bit_and a w) (bit_and b w)
and-or a b w = same_from_bits _ _ (λ i.
    let l : bit_at (bit_and (bit_or a b) w) i ≡ min (max (bit_at a i) (bit_at b i)) (bit_at w i) = bit_at_and (bit_or a b) w i ∙ ap (λ n. min n (bit_at w i)) (bit_at_or a b i) in
    let r : bit_at (bit_or (bit_and a w) (bit_and b w)) i ≡ max (min (bit_at a i) (bit_at w i)) (min (bit_at b i) (bit_at w i)) = bit_at_or (bit_and a w) (bit_and b w) i ∙ (λ j. max (bit_at_and a w i j) (bit_at_and b w i j)) in
    omega (arith, l, r))

or_left : (x y : ℕ) → bit_or x y ≡ 0 → x ≡ 0
or_left x y e = same_from_bits x 0 (λ i.
    let h : max (bit_at x i) (bit_at y i) ≡ 0 = sym (bit_at_or x y i) ∙ (ap (λ n. bit_at n i) e ∙ bit_at-zero i) in
    let z : bit_at x i ≡ 0 = omega (arith, h) in
    z ∙ sym (bit_at-zero i))

or_right : (x y : ℕ) → bit_or x y ≡ 0 → y ≡ 0
or_right x y e = same_from_bits y 0 (λ i.
    let h : max (bit_at x i) (bit_at y i) ≡ 0 = sym (bit_at_or x y i) ∙ (ap (λ n. bit_at n i) e ∙ bit_at-zero i) in
    let z : bit_at y i ≡ 0 = omega (arith, h) in
    z ∙ sym (bit_at-zero i))

or_none : (x y : ℕ) → not (bit_or x y == 0) ≡ (not (x == 0) || not (y == 0))
or_none x y = by (x == 0) (y == 0) (bit_or x y == 0) refl refl refl
  where
    by : (p q r : Bool) → (x == 0) ≡ p → (y == 0) ≡ q → (bit_or x y == 0) ≡ r → not r ≡ (not p || not q)
    by true true true ex ey er = refl
    by true true false ex ey er = let z : bit_or x y ≡ 0 = (λ j. bit_or (eqb-true x 0 ex j) (eqb-true y 0 ey j)) in let t : (bit_or x y == 0) ≡ true = eq-eqb (bit_or x y) 0 z in cc (t, er)
    by true false true ex ey er = let t : (y == 0) ≡ true = eq-eqb y 0 (or_right x y (eqb-true (bit_or x y) 0 er)) in cc (t, ey)
    by true false false ex ey er = refl
    by false q true ex ey er = let t : (x == 0) ≡ true = eq-eqb x 0 (or_left x y (eqb-true (bit_or x y) 0 er)) in cc (t, ex)
    by false q false ex ey er = refl

-- two sets together
meets-or : (w a b : ℕ) → meets w (bit_or a b) ≡ (meets w a || meets w b)
meets-or w a b = ap (λ n. not (n == 0)) (and-or a b w) ∙ or_none (bit_and a w) (bit_and b w)

or_false : (b : Bool) → (b || false) ≡ b
or_false true = refl
or_false false = refl

-- ---- one binding more

-- the first of a name
pub known_first : (b : Binding) (r : Repeats) → r.kinds.0 ≡ flag b.kind → r.second ≡ None → Known b [] r
known_first b r kinds second = record { kinds = λ w. ap (meets w) kinds ∙ sym (or_false (meets w (flag b.kind))); second = second }

-- a later one
pub known_more : (b : Binding) (bs : List Binding) (r s : Repeats) (more : Binding) → Known b bs r → s.kinds.0 ≡ bit_or r.kinds.0 (flag more.kind) → s.second ≡ Some (unwrap_or r.second more.line)
    → Known b (bs ++ more ∷ []) s
known_more b bs r s more known kinds second = record {
  kinds = λ w.
      let held : meets w s.kinds.0 ≡ (meets w r.kinds.0 || meets w (flag more.kind)) = ap (meets w) kinds ∙ meets-or w r.kinds.0 (flag more.kind) in
      let last : (meets w (flag more.kind) || false) ≡ meets w (flag more.kind) = or_false _ in
      held ∙ ((λ i. known.kinds w i || sym last i) ∙ sym (list_any-append (λ c. meets w (flag c.kind)) (b ∷ bs) (more ∷ [])));
  second = by bs known.second;
}
  where
    by : (cs : List Binding) → r.second ≡ second_line cs → s.second ≡ second_line (cs ++ more ∷ [])
    by [] e = second ∙ ap (λ o. Some (unwrap_or o more.line)) e
    by (x ∷ xs) e = second ∙ ap (λ o. Some (unwrap_or o more.line)) e

pub more_of : (earlier : List Binding) (known : Option Repeats) (k r : Repeats) (more : Binding) → known ≡ Some k → r.kinds.0 ≡ bit_or k.kinds.0 (flag more.kind) → r.second ≡ Some (unwrap_or k.second more.line)
    → IsRepeats earlier known → IsRepeats (earlier ++ more ∷ []) (Some r)
more_of [] known k r more is kinds second h = absurd (subst (IsRepeats []) is h)
more_of (b ∷ bs) known k r more is kinds second h = known_more b bs k r more (subst (IsRepeats (b ∷ bs)) is h) kinds second

-- the bindings of a name among these and one more
pub named_push : (name : List ℕ) (bs : List Binding) (b : Binding) → filter (is_named name) (bs ++ b ∷ []) ≡ filter (is_named name) bs ++ (if bytes_eq name b.name then b ∷ [] else [])
named_push name [] b = elim (bytes_eq name b.name) as (λ t. cond t (b ∷ []) [] ≡ (if t then b ∷ [] else [])) [ true ↦ refl | false ↦ refl ]
named_push name (x ∷ xs) b = elim (bytes_eq name x.name) as (λ t. cond t (x ∷ filter (is_named name) (xs ++ b ∷ [])) (filter (is_named name) (xs ++ b ∷ [])) ≡ cond t (x ∷ filter (is_named name) xs) (filter (is_named name) xs) ++ (if bytes_eq name b.name then b ∷ [] else [])) [
  | true ↦ ap (λ rest. x ∷ rest) (named_push name xs b)
  | false ↦ named_push name xs b
]

-- what is known of each name, one binding on
pub repeats_push : (bs : List Binding) (i : ℕ) (b : Binding) (old new : List ℕ → Option Repeats) (known : Option Repeats) (r : Repeats)
    → i < length bs → b ≡ get_or bs i b
    → ((name : List ℕ) → IsRepeats (filter (is_named name) (take i bs)) (old name))
    → known ≡ old b.name
    → ((earlier : List Binding) → IsRepeats earlier known → IsRepeats (earlier ++ b ∷ []) (Some r))
    → ((name : List ℕ) → new name ≡ (if bytes_eq name b.name then Some r else old name))
    → (name : List ℕ) → IsRepeats (filter (is_named name) (take (i + 1) bs)) (new name)
repeats_push bs i b old new known r lt is held found_known with_more put name =
    let split : filter (is_named name) (take (i + 1) bs) ≡ filter (is_named name) (take i bs) ++ (if bytes_eq name b.name then b ∷ [] else []) =
    ap (filter (is_named name)) (take_more bs i b lt ∙ ap (λ x. take i bs ++ x ∷ []) (sym is)) ∙ named_push name (take i bs) b in
    subst (λ bs'. IsRepeats bs' (new name)) (sym split) (subst (IsRepeats (filter (is_named name) (take i bs) ++ (if bytes_eq name b.name then b ∷ [] else []))) (sym (put name)) (by (bytes_eq name b.name) refl))
  where
    by : (t : Bool) → bytes_eq name b.name ≡ t → IsRepeats (filter (is_named name) (take i bs) ++ (if t then b ∷ [] else [])) (if t then Some r else old name)
    by true e =
        let same : old name ≡ known = ap old ((bytes_eq-Decides name b.name).0 e) ∙ sym found_known in
        with_more (filter (is_named name) (take i bs)) (subst (IsRepeats (filter (is_named name) (take i bs))) same (held name))
    by false e = subst (λ l. IsRepeats l (old name)) (sym (append-nil (filter (is_named name) (take i bs)))) (held name)

-- ---- the second of them

pub second_is : (w : ℕ) (bs : List Binding) (o : Option Repeats) → IsRepeats bs o → seconds w o ≡ second_binding (λ kind. meets w (flag kind)) bs
second_is w [] None h = refl
second_is w [] (Some r) h = absurd h
second_is w (a ∷ bs) None h = absurd h
second_is w (a ∷ []) (Some r) h = rw h.second (elim (meets w r.kinds.0) as (λ t. cond t (option_to_list {X = ℕ} None) [] ≡ []) [ true ↦ refl | false ↦ refl ])
second_is w (a ∷ b ∷ rest) (Some r) h = rw (h.second, h.kinds w) (elim (list_any (λ c. meets w (flag c.kind)) (a ∷ b ∷ rest)) as (λ t. cond t (option_to_list (Some b.line)) [] ≡ at b.line t) [ true ↦ refl | false ↦ refl ])

pub seconds_are : (w : ℕ) (bs : List Binding) (found : List ℕ → Option Repeats) → ((name : List ℕ) → IsRepeats (filter (is_named name) bs) (found name))
    → flat_map (λ name. seconds w (found name)) (first_mentions (names_of bs)) ≡ bound_with w bs
seconds_are w bs found held = λ i. flat_map (λ name. second_is w (filter (is_named name) bs) (found name) (held name) i) (first_mentions (names_of bs))

definition_is : (kind : BindingKind) → meets 7 (flag kind) ≡ is_definition kind
definition_is by.Import = refl
definition_is by.Def = refl
definition_is by.Class = refl
definition_is by.Other = refl

any_is : (kind : BindingKind) → meets 15 (flag kind) ≡ is_any kind
any_is by.Import = refl
any_is by.Def = refl
any_is by.Class = refl
any_is by.Other = refl

pub of_definitions : (n : ℕ) (bs : List Binding) → n ≡ 7 → bound_with n bs ≡ bound_again is_definition bs
of_definitions n bs e = ap (λ m. bound_with m bs) e ∙ (λ i. bound_again (λ kind. definition_is kind i) bs)

pub of_any : (n : ℕ) (bs : List Binding) → n ≡ 15 → bound_with n bs ≡ bound_again is_any bs
of_any n bs e = ap (λ m. bound_with m bs) e ∙ (λ i. bound_again (λ kind. any_is kind i) bs)
