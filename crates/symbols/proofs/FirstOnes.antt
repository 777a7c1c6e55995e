-- The first of some faults, with one more.
use Rattle.std.proofs.Common.{◌≡◌, ◌⊎◌, inl, inr, ◌==◌, ◌&&◌, ◌||◌, Bool, true, false, List, [], ◌∷◌, ◌++◌, None, refl, sym, ap, subst, ◌∙◌, arith, nat_lt, nat_le}
use Rattle.std.proofs.lemmas.Bool.{eqb-true, eqb-false, ltb-true, ltb-false, leb-true, leb-false}
use Rattle.py_tree.specs.Codes.{number_of}
use Rattle.py_tree.specs.declared.fault.Fault.{Fault}
use Rattle.symbols.specs.Faults.{In, IsFirst, IsNoLater}
use Rattle.symbols.specs.FirstFaults.{IsFirstOf, no_later}

in_push : (f : Fault) (fs : List Fault) (g : Fault) → In f (fs ++ g ∷ []) → In f fs ⊎ (f ≡ g)
in_push f [] g h = elim h [ inl e ↦ inr e | inr gone ↦ absurd gone ]
in_push f (x ∷ fs) g h = elim h [ inl e ↦ inl (inl e) | inr later ↦ elim (in_push f fs g later) [ inl i ↦ inl (inr i) | inr e ↦ inr e ] ]

in_more : (f : Fault) (fs : List Fault) (g : Fault) → In f fs → In f (fs ++ g ∷ [])
in_more f [] g h = absurd h
in_more f (x ∷ fs) g h = elim h [ inl e ↦ inl e | inr later ↦ inr (in_more f fs g later) ]

in_last : (fs : List Fault) (g : Fault) → In g (fs ++ g ∷ [])
in_last [] g = inl refl
in_last (x ∷ fs) g = inr (in_last fs g)

-- ---- the order

no_later_self : (f g : Fault) → g ≡ f → IsNoLater f g
no_later_self f g e = let l : f.line ≡ g.line = ap (λ (x : Fault). x.line) (sym e) in let n : number_of f.code ≡ number_of g.code = ap (λ (x : Fault). number_of x.code) (sym e) in inr (l, omega (arith, n))

no_later_then : (f g h : Fault) → IsNoLater f g → IsNoLater g h → IsNoLater f h
no_later_then f g h a b = elim a [
  | inl lt ↦ elim b [ inl lt' ↦ inl (omega (arith, lt, lt')) | inr e' ↦ let l = e'.0 in inl (omega (arith, lt, l)) ]
  | inr e ↦ elim b [ inl lt' ↦ let l = e.0 in inl (omega (arith, l, lt')) | inr e' ↦ let l : f.line ≡ h.line = e.0 ∙ e'.0 in let m = e.1 in let n = e'.1 in inr (l, omega (arith, m, n)) ]
]

-- ---- the test

told : (f g : Fault) → no_later f g ≡ true → IsNoLater f g
told f g h = by (nat_lt f.line g.line) (f.line == g.line) (nat_le (number_of f.code) (number_of g.code)) refl refl refl h
  where
    by : (a b c : Bool) → nat_lt f.line g.line ≡ a → (f.line == g.line) ≡ b → nat_le (number_of f.code) (number_of g.code) ≡ c → (a || (b && c)) ≡ true → IsNoLater f g
    by true b c ea eb ec t = inl (ltb-true _ _ ea)
    by false true true ea eb ec t = inr (eqb-true _ _ eb, leb-true _ _ ec)
    by false true false ea eb ec t = absurd (cc)
    by false false c ea eb ec t = absurd (cc)

untold : (f g : Fault) → no_later f g ≡ false → IsNoLater g f
untold f g h = by (nat_lt f.line g.line) (f.line == g.line) (nat_le (number_of f.code) (number_of g.code)) refl refl refl h
  where
    by : (a b c : Bool) → nat_lt f.line g.line ≡ a → (f.line == g.line) ≡ b → nat_le (number_of f.code) (number_of g.code) ≡ c → (a || (b && c)) ≡ false → IsNoLater g f
    by true b c ea eb ec t = absurd (cc)
    by false true true ea eb ec t = absurd (cc)
    by false true false ea eb ec t = let l = eqb-true _ _ eb in let m = leb-false _ _ ec in inr (sym l, omega (arith, m))
    by false false c ea eb ec t = let l = ltb-false _ _ ea in let m = eqb-false _ _ eb in inl (omega (arith, l, m))

-- ---- one fault more

pub first_alone : (before : List Fault) (g : Fault) → IsFirstOf before None → IsFirst (before ++ g ∷ []) g
first_alone before g none = record {
  is_one = in_last before g;
  least = λ h i. elim (in_push h before g i) [ inl there ↦ absurd (subst (In h) none there) | inr e ↦ no_later_self g h e ];
}

pub first_kept : (before : List Fault) (f g : Fault) → no_later f g ≡ true → IsFirst before f → IsFirst (before ++ g ∷ []) f
first_kept before f g t first = record {
  is_one = in_more f before g first.is_one;
  least = λ h i. elim (in_push h before g i) [ inl there ↦ first.least h there | inr e ↦ subst (IsNoLater f) (sym e) (told f g t) ];
}

pub first_new : (before : List Fault) (f g : Fault) → no_later f g ≡ false → IsFirst before f → IsFirst (before ++ g ∷ []) g
first_new before f g t first = record {
  is_one = in_last before g;
  least = λ h i. elim (in_push h before g i) [ inl there ↦ no_later_then g f h (untold f g t) (first.least h there) | inr e ↦ no_later_self g h e ];
}

-- ---- there is one first

pub first_same : (fs : List Fault) (f g : Fault) → IsFirst fs f → IsFirst fs g → (g.line ≡ f.line) × (number_of g.code ≡ number_of f.code)
first_same fs f g a b = by (a.least g b.is_one) (b.least f a.is_one)
  where
    by : IsNoLater f g → IsNoLater g f → (g.line ≡ f.line) × (number_of g.code ≡ number_of f.code)
    by (inl lt) (inl lt') = absurd (omega (arith, lt, lt'))
    by (inl lt) (inr e') = let l = e'.0 in absurd (omega (arith, lt, l))
    by (inr e) (inl lt') = let l = e.0 in absurd (omega (arith, l, lt'))
    by (inr e) (inr e') = let m = e.1 in let n = e'.1 in (e'.0, omega (arith, m, n))

pub first_of_none : (f : Fault) (fs : List Fault) → fs ≡ [] → IsFirst fs f → ⊥
first_of_none f fs none first = subst (In f) none first.is_one
