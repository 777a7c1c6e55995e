-- The first of the faults of two lists.
use Rattle.std.proofs.Common.{◌≡◌, ◌⊎◌, inl, inr, ℕ, ◌+◌, ◌<◌, ◌≤◌, ◌==◌, ◌&&◌, ◌||◌, Bool, true, false, List, [], ◌∷◌, ◌++◌, Option, Some, None, if◌then◌else◌, refl, sym, ap, subst, ◌∙◌, arith, nat_lt, nat_le, take, length, get_or}
use Rattle.std.specs.List.{flat_map}
use Rattle.std.proofs.lemmas.Bool.{eqb-true, eqb-false, ltb-true, ltb-false, leb-true, leb-false}
use Rattle.std.proofs.lemmas.Grind.{flat_map-append}
use Rattle.std.proofs.lemmas.List.{append-nil, take_more}
use Rattle.py_tree.specs.Codes.{number_of}
use Rattle.py_tree.specs.declared.fault.Fault.{Fault}
use Rattle.symbols.specs.Faults.{In, IsFirst, IsNoLater}
use Rattle.symbols.specs.FirstFaults.{IsFirstOf, no_later}
use Rattle.module_load.specs.FirstOnes.{earlier}

-- ---- one of two lists

pub in_both : (f : Fault) (fs gs : List Fault) → In f (fs ++ gs) → In f fs ⊎ In f gs
in_both f [] gs h = inr h
in_both f (x ∷ fs) gs h = elim h [ inl e ↦ inl (inl e) | inr later ↦ elim (in_both f fs gs later) [ inl i ↦ inl (inr i) | inr i ↦ inr i ] ]

in_front : (f : Fault) (fs gs : List Fault) → In f fs → In f (fs ++ gs)
in_front f [] gs h = absurd h
in_front f (x ∷ fs) gs h = elim h [ inl e ↦ inl e | inr later ↦ inr (in_front f fs gs later) ]

in_back : (f : Fault) (fs gs : List Fault) → In f gs → In f (fs ++ gs)
in_back f [] gs h = h
in_back f (x ∷ fs) gs h = inr (in_back f fs gs h)

-- ---- the order

no_later_then : (f g h : Fault) → IsNoLater f g → IsNoLater g h → IsNoLater f h
no_later_then f g h a b = elim a [
  | inl lt ↦ elim b [ inl lt' ↦ inl (omega (arith, lt, lt')) | inr e' ↦ let l = e'.0 in inl (omega (arith, lt, l)) ]
  | inr e ↦ elim b [ inl lt' ↦ let l = e.0 in inl (omega (arith, l, lt')) | inr e' ↦ let l : f.line ≡ h.line = e.0 ∙ e'.0 in let m = e.1 in let n = e'.1 in inr (l, omega (arith, m, n)) ]
]

told : (f g : Fault) → no_later f g ≡ true → IsNoLater f g
told f g h = by (nat_lt f.line g.line) (f.line == g.line) (nat_le (number_of f.code) (number_of g.code)) refl refl refl h
  where
    by : (a b c : Bool) → nat_lt f.line g.line ≡ a → (f.line == g.line) ≡ b → nat_le (number_of f.code) (number_of g.code) ≡ c → (a || (b && c)) ≡ true → IsNoLater f g
    by true b c ea eb ec t = inl (ltb-true _ _ ea)
    by false true true ea eb ec t = inr (eqb-true _ _ eb, leb-true _ _ ec)
    by false true false ea eb ec t = absurd (cc)
    by false false c ea eb ec t = absurd (cc)

untold : (f g : Fault) → no_later f g ≡ false → IsNoLater g f
untold f g h = by (nat_lt f.line g.line) (f.line == g.line) (nat_le (number_of f.code) (number_of g.code)) refl refl refl h
  where
    by : (a b c : Bool) → nat_lt f.line g.line ≡ a → (f.line == g.line) ≡ b → nat_le (number_of f.code) (number_of g.code) ≡ c → (a || (b && c)) ≡ false → IsNoLater g f
    by true b c ea eb ec t = absurd (cc)
    by false true true ea eb ec t = absurd (cc)
    by false true false ea eb ec t = let l = eqb-true _ _ eb in let m = leb-false _ _ ec in inr (sym l, omega (arith, m))
    by false false c ea eb ec t = let l = ltb-false _ _ ea in let m = eqb-false _ _ eb in inl (omega (arith, l, m))

-- ---- the first of two lists

front_first : (fs gs : List Fault) (f g : Fault) → IsNoLater f g → IsFirst fs f → IsFirst gs g → IsFirst (fs ++ gs) f
front_first fs gs f g order a b = record {
  is_one = in_front f fs gs a.is_one;
  least = λ h i. elim (in_both h fs gs i) [ inl there ↦ a.least h there | inr there ↦ no_later_then f g h order (b.least h there) ];
}

back_first : (fs gs : List Fault) (f g : Fault) → IsNoLater g f → IsFirst fs f → IsFirst gs g → IsFirst (fs ++ gs) g
back_first fs gs f g order a b = record {
  is_one = in_back g fs gs b.is_one;
  least = λ h i. elim (in_both h fs gs i) [ inl there ↦ no_later_then g f h order (a.least h there) | inr there ↦ b.least h there ];
}

pub first_of_both : (fs gs : List Fault) (a b : Option Fault) → IsFirstOf fs a → IsFirstOf gs b → IsFirstOf (fs ++ gs) (earlier a b)
first_of_both fs gs None b ea hb = subst (λ (l : List Fault). IsFirstOf (l ++ gs) b) (sym ea) hb
first_of_both fs gs (Some f) None ha eb = subst (λ (l : List Fault). IsFirst (fs ++ l) f) (sym eb) (subst (λ (l : List Fault). IsFirst l f) (sym (append-nil fs)) ha)
first_of_both fs gs (Some f) (Some g) ha hb = by (no_later f g) refl
  where
    by : (t : Bool) → no_later f g ≡ t → IsFirstOf (fs ++ gs) (if t then Some f else Some g)
    by true e = front_first fs gs f g (told f g e) ha hb
    by false e = back_first fs gs f g (untold f g e) ha hb

-- the faults of one more element
pub first_with : {X : Type 0} (faults : X → List Fault) (xs : List X) (i : ℕ) (x : X) (a b : Option Fault) → i < length xs → x ≡ get_or xs i x → IsFirstOf (flat_map faults (take i xs)) a → IsFirstOf (faults x) b → IsFirstOf (flat_map faults (take (i + 1) xs)) (earlier a b)
first_with faults xs i x a b within is ha hb =
    let front = flat_map faults (take i xs) in
    let one : flat_map faults (get_or xs i x ∷ []) ≡ faults x = append-nil (faults (get_or xs i x)) ∙ ap faults (sym is) in
    let step : flat_map faults (take (i + 1) xs) ≡ front ++ faults x = ap (flat_map faults) (take_more xs i x within) ∙ flat_map-append faults (take i xs) (get_or xs i x ∷ []) ∙ ap (λ (l : List Fault). front ++ l) one in
    subst (λ (l : List Fault). IsFirstOf l (earlier a b)) (sym step) (first_of_both front (faults x) a b ha hb)

-- ---- one fault

pub first_alone : (f : Fault) → IsFirst (f ∷ []) f
first_alone f = record { is_one = inl refl; least = λ g i. elim i [ inl e ↦ inr (ap (λ (x : Fault). x.line) (sym e), same_number g e) | inr gone ↦ absurd gone ] }
  where
    same_number : (g : Fault) → g ≡ f → number_of f.code ≤ number_of g.code
    same_number g e = let n : number_of f.code ≡ number_of g.code = ap (λ (x : Fault). number_of x.code) (sym e) in omega (arith, n)
