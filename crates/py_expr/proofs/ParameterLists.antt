-- Lists of parameters, as they are read one by one.
use Rattle.std.proofs.Common.{◌≡◌, ◌<◌, max, Bool, true, false, ◌||◌, List, [], ◌∷◌, ◌++◌, length, Option, Some, None, is_some, ◌⊎◌, inl, inr, refl, sym, ap, subst, ◌∙◌, append_assoc, arith}
use Rattle.py_tree.specs.Syntax.{Param}
use Rattle.py_tree.specs.Joined.{param_of}
use Rattle.py_tree.specs.declared.expression.Param as tree
use Rattle.py_phrases.specs.declared.phrase.Built.{Built}
use Rattle.py_phrases.specs.declared.phrase.Built.TheVariants.{Shallow, TooDeep}
use Rattle.py_phrases.specs.Tokens as t
use Rattle.py_phrases.specs.Grammar.{Tokens}
use Rattle.py_expr.specs.Forms.{params_of}
use Rattle.py_expr.specs.Lines as l
use Rattle.py_expr.specs.Lines.{Parameter, Parameters, defaults_last}
use Rattle.py_expr.specs.LineEnds.{Anything, EndsParameter}
use Rattle.py_expr.specs.Depth.{param_nesting, params_nesting}
use Rattle.py_expr.specs.Readings.{Same, IsBuilt, IsClosed, IsFound, FoundAt, BeforeParen, both_built}
use Rattle.py_expr.specs.Signatures.{Signature, IsParam, ParamAt}
use Rattle.py_expr.specs.declared.parameters.ReadParam.{ReadParam}
use Rattle.py_expr.specs.declared.found.Found as reading
use Rattle.py_expr.proofs.OneForm.{behind}
use Rattle.py_expr.proofs.FoundAt.{under}
use Rattle.py_expr.proofs.Shorter.{parameter_shorter}
use Rattle.py_expr.proofs.Defaults.{some_default, Later, is_later, some_more, ordered_more, disordered}

-- ---- with one more

nesting_more : (ps : List Param) (p : Param) → params_nesting (ps ++ p ∷ []) ≡ max (params_nesting ps) (param_nesting p)
nesting_more [] p = omega arith
nesting_more (a ∷ ps) p = let h = nesting_more ps p in omega (arith, h)

of_more : (xs : List tree.Param) (x : tree.Param) → params_of (xs ++ x ∷ []) ≡ params_of xs ++ param_of x ∷ []
of_more [] x = refl
of_more (a ∷ xs) x = ap (λ ys. param_of a ∷ ys) (of_more xs x)

pub more_shallow : (ps : List Param) (p : Param) (params : Built (List tree.Param)) (param : Built tree.Param) (xs ys : List tree.Param) (x : tree.Param) → IsBuilt params_of params_nesting ps params → IsBuilt param_of param_nesting p param
    → both_built params param ≡ Shallow (xs, x) → ys ≡ xs ++ x ∷ [] → IsBuilt params_of params_nesting (ps ++ p ∷ []) (Shallow ys)
more_shallow ps p (Shallow as') (Shallow a) xs ys x h g is more =
    let pairs : (as', a) ≡ (xs, x) = cc in
    let first : as' ≡ xs = ap (λ (p : List tree.Param × tree.Param). p.0) pairs in
    let second : a ≡ x = ap (λ (p : List tree.Param × tree.Param). p.1) pairs in
    let n = nesting_more ps p in
    let made : params_of ys ≡ ps ++ p ∷ [] = ap params_of (more ∙ ap (λ z. z ++ x ∷ []) (sym first) ∙ ap (λ z. as' ++ z ∷ []) (sym second)) ∙ of_more as' a ∙ ap (λ z. z ++ param_of a ∷ []) h.1 ∙ ap (λ z. ps ++ z ∷ []) g.1 in
    (omega (arith, n, h.0, g.0), made)
more_shallow ps p (Shallow as') TooDeep xs ys x h g is more = absurd cc
more_shallow ps p TooDeep param xs ys x h g is more = absurd cc

pub more_deep : (ps : List Param) (p : Param) (params : Built (List tree.Param)) (param : Built tree.Param) → IsBuilt params_of params_nesting ps params → IsBuilt param_of param_nesting p param
    → both_built params param ≡ TooDeep → IsBuilt params_of params_nesting (ps ++ p ∷ []) TooDeep
more_deep ps p (Shallow as') (Shallow a) h g is = absurd cc
more_deep ps p (Shallow as') TooDeep h g is = let n = nesting_more ps p in omega (arith, n, g)
more_deep ps p TooDeep param h g is = let n = nesting_more ps p in omega (arith, n, h)

-- ---- the parameters so far

pub record Back (q rest : Tokens) (ps zs : List Param) : Type 0 where
  pub others : List Param
  pub all : zs ≡ ps ++ others
  pub stand : BeforeParen rest q others

-- behind the parameters ps, from s on, those that stand at rest are the rest of those at s
pub record SoFar (s rest : Tokens) (params : Built (List tree.Param)) (defaults : Bool) : Type 0 where
  pub taken : List Param
  pub goes_on : (q : Tokens) (zs : List Param) → BeforeParen rest q zs → BeforeParen s q (taken ++ zs)
  pub comes_back : (q : Tokens) (zs : List Param) → BeforeParen s q zs → Back q rest taken zs
  pub is_built : IsBuilt params_of params_nesting taken params
  pub ordered : defaults_last taken ≡ true
  pub has_default : some_default taken ≡ defaults

pub none_yet : (s : Tokens) → SoFar s s (Shallow []) false
none_yet s = record { taken = []; goes_on = λ q zs d. d; comes_back = λ q zs d. record { others = zs; all = refl; stand = d }; is_built = (omega arith, refl); ordered = refl; has_default = refl }

append_none : (ps : List Param) → ps ++ [] ≡ ps
append_none [] = refl
append_none (p ∷ ps) = ap (λ z. p ∷ z) (append_none ps)

-- ---- at the end

nothing_left : (m q : Tokens) (zs : List Param) → BeforeParen (t.right_paren ∷ m) q zs → Same {A = List Param} [] zs m q
nothing_left m _ _ l.no_parameter = record { thing = refl; rest = refl }
nothing_left m q _ (l.last_parameter u) = elim u [ ]
nothing_left m q _ (l.next_parameter u us) = elim u [ ]

pub ended_found : (s rest m : Tokens) (params : Built (List tree.Param)) (defaults : Bool) → SoFar s rest params defaults → rest ≡ t.right_paren ∷ m → IsFound Signature Anything params_of params_nesting s params m
ended_found s rest m params defaults f h =
    record {
      thing = f.taken;
      stands = (subst (λ z. BeforeParen s m z) (append_none f.taken) (f.goes_on m [] (subst (λ z. BeforeParen z m []) (sym h) l.no_parameter)), f.ordered);
      only = λ q zs d i.
          let b = f.comes_back q zs d.0 in
          let x = nothing_left m q b.others (subst (λ z. BeforeParen z q b.others) h b.stand) in
          record { thing = sym (b.all ∙ ap (λ z. f.taken ++ z) (sym x.thing) ∙ append_none f.taken); rest = x.rest };
      is_built = f.is_built;
    }

-- ---- a parameter

paren_or_comma : {r q : Tokens} → t.comma ∷ r ≡ t.right_paren ∷ q → ⊥
paren_or_comma h = cc

-- what is built with one more
abbrev pub Pushes : Built (List tree.Param) → Built tree.Param → Built (List tree.Param) → Type 0
Pushes params param more = (ps : List Param) (p : Param) → IsBuilt params_of params_nesting ps params → IsBuilt param_of param_nesting p param → IsBuilt params_of params_nesting (ps ++ p ∷ []) more

module _ (rest r : Tokens) (param : Built tree.Param) (has_default : Bool) (read : IsParam rest param has_default r) where
  abbrev f : IsFound Parameter EndsParameter param_of param_nesting rest param r
  f = read.found

  not_ended : (q m : Tokens) → rest ≡ t.right_paren ∷ m → ⊥
  not_ended q m h = at (subst (λ z. Parameter z r f.thing) h f.stands) where
    at : Parameter (t.right_paren ∷ m) r f.thing → ⊥
    at u = elim u [ ]

  -- the rest of the parameters behind one with a comma
  comma_back : (m q : Tokens) (zs : List Param) → r ≡ t.comma ∷ m → BeforeParen rest q zs → Back q m (f.thing ∷ []) zs
  comma_back m q zs h d = at rest zs d refl where
    at : (y : Tokens) (zs : List Param) → BeforeParen y q zs → y ≡ rest → Back q m (f.thing ∷ []) zs
    at _ _ l.no_parameter e = absurd (not_ended q q (sym e))
    at y _ (l.last_parameter {p = p} u) e =
        let x = f.only (t.right_paren ∷ q) p (subst (λ z. Parameter z (t.right_paren ∷ q) p) e u) tt in absurd (paren_or_comma (sym h ∙ x.rest))
    at y _ (l.next_parameter {m = n} {p = p} {ps = ps} u us) e =
        let x = f.only (t.comma ∷ n) p (subst (λ z. Parameter z (t.comma ∷ n) p) e u) tt in
        let here : m ≡ n = ap behind (sym h ∙ x.rest) in
        record { others = ps; all = ap (λ z. z ∷ ps) (sym x.thing); stand = subst (λ z. BeforeParen z q ps) (sym here) us }

  -- what is known of the order, where it is kept and where not
  ordered_too : (ps : List Param) (defaults : Bool) → defaults_last ps ≡ true → some_default ps ≡ defaults → Later defaults has_default → EndsParameter r → defaults_last (ps ++ f.thing ∷ []) ≡ true
  ordered_too ps defaults h k later ends = ordered_more ps f.thing h (λ e. read.default ends ∙ later (sym k ∙ e))

  some_too : (ps : List Param) (defaults : Bool) → some_default ps ≡ defaults → Later defaults has_default → EndsParameter r → some_default (ps ++ f.thing ∷ []) ≡ has_default
  some_too ps defaults k later ends = some_more ps f.thing ∙ ap (λ b. b || is_some f.thing.default) k ∙ ap (λ b. defaults || b) (read.default ends) ∙ is_later defaults has_default later

  pub with_comma : (s m : Tokens) (params more : Built (List tree.Param)) (defaults : Bool) (so_far : SoFar s rest params defaults) → Later defaults has_default → r ≡ t.comma ∷ m → Pushes params param more → SoFar s m more has_default
  with_comma s m params more defaults so_far later h makes =
      let ends : EndsParameter r = subst EndsParameter (sym h) tt in
      record {
        taken = so_far.taken ++ f.thing ∷ [];
        goes_on = λ q zs d.
            let here : Parameters rest (t.right_paren ∷ q) (f.thing ∷ zs) = l.next_parameter (subst (λ z. Parameter rest z f.thing) h f.stands) d in
            subst (λ z. BeforeParen s q z) (sym (append_assoc so_far.taken (f.thing ∷ []) zs)) (so_far.goes_on q (f.thing ∷ zs) here);
        comes_back = λ q zs d.
            let b = so_far.comes_back q zs d in
            let x = comma_back m q b.others h b.stand in
            record { others = x.others; all = b.all ∙ ap (λ z. so_far.taken ++ z) x.all ∙ sym (append_assoc so_far.taken (f.thing ∷ []) x.others); stand = x.stand };
        is_built = makes so_far.taken f.thing so_far.is_built f.is_built;
        ordered = ordered_too so_far.taken defaults so_far.ordered so_far.has_default later ends;
        has_default = some_too so_far.taken defaults so_far.has_default later ends;
      }

  -- the last one
  last_back : (m q : Tokens) (zs : List Param) → r ≡ t.right_paren ∷ m → BeforeParen rest q zs → Same (f.thing ∷ []) zs m q
  last_back m q zs h d = at rest zs d refl where
    at : (y : Tokens) (zs : List Param) → BeforeParen y q zs → y ≡ rest → Same (f.thing ∷ []) zs m q
    at _ _ l.no_parameter e = absurd (not_ended q q (sym e))
    at y _ (l.last_parameter {p = p} u) e =
        let x = f.only (t.right_paren ∷ q) p (subst (λ z. Parameter z (t.right_paren ∷ q) p) e u) tt in
        record { thing = ap (λ z. z ∷ []) x.thing; rest = ap behind (sym h ∙ x.rest) }
    at y _ (l.next_parameter {m = n} {p = p} {ps = ps} u us) e =
        let x = f.only (t.comma ∷ n) p (subst (λ z. Parameter z (t.comma ∷ n) p) e u) tt in absurd (paren_or_comma (sym (sym h ∙ x.rest)))

  last_found : (s m : Tokens) (params more : Built (List tree.Param)) (defaults : Bool) (so_far : SoFar s rest params defaults) → Later defaults has_default → r ≡ t.right_paren ∷ m → Pushes params param more
      → IsFound Signature Anything params_of params_nesting s more m
  last_found s m params more defaults so_far later h makes =
      let stand : BeforeParen s m (so_far.taken ++ f.thing ∷ []) = so_far.goes_on m (f.thing ∷ []) (l.last_parameter (subst (λ z. Parameter rest z f.thing) h f.stands)) in
      record {
        thing = so_far.taken ++ f.thing ∷ [];
        stands = (stand, ordered_too so_far.taken defaults so_far.ordered so_far.has_default later (subst EndsParameter (sym h) tt));
        only = λ q zs d i.
            let b = so_far.comes_back q zs d.0 in
            let x = last_back m q b.others h b.stand in
            record { thing = sym (b.all ∙ ap (λ z. so_far.taken ++ z) (sym x.thing)); rest = x.rest };
        is_built = makes so_far.taken f.thing so_far.is_built f.is_built;
      }

  -- the first of the parameters that stand there is the one that was read
  record First (q : Tokens) (zs : List Param) : Type 0 where
    others : List Param
    all : zs ≡ f.thing ∷ others
    ends : EndsParameter r
    next : (r ≡ t.right_paren ∷ q) ⊎ ((m : Tokens) × (r ≡ t.comma ∷ m))

  first : (q : Tokens) (zs : List Param) → BeforeParen rest q zs → First q zs
  first q zs d = at rest zs d refl where
    at : (y : Tokens) (zs : List Param) → BeforeParen y q zs → y ≡ rest → First q zs
    at _ _ l.no_parameter e = absurd (not_ended q q (sym e))
    at y _ (l.last_parameter {p = p} u) e =
        let x = f.only (t.right_paren ∷ q) p (subst (λ z. Parameter z (t.right_paren ∷ q) p) e u) tt in
        record { others = []; all = ap (λ z. z ∷ []) (sym x.thing); ends = subst EndsParameter (sym x.rest) tt; next = inl x.rest }
    at y _ (l.next_parameter {m = n} {p = p} {ps = ps} u us) e =
        let x = f.only (t.comma ∷ n) p (subst (λ z. Parameter z (t.comma ∷ n) p) e u) tt in
        record { others = ps; all = ap (λ z. z ∷ ps) (sym x.thing); ends = subst EndsParameter (sym x.rest) tt; next = inr (n, x.rest) }

  -- neither a comma nor a parenthesis behind it
  not_closed : (s : Tokens) (params : Built (List tree.Param)) (defaults : Bool) (so_far : SoFar s rest params defaults) → ((m : Tokens) → r ≡ t.comma ∷ m → ⊥) → ((m : Tokens) → r ≡ t.right_paren ∷ m → ⊥)
      → (q : Tokens) (zs : List Param) → Signature s q zs → Anything q → ⊥
  not_closed s params defaults so_far comma paren q zs d i =
      let b = so_far.comes_back q zs d.0 in
      elim (first q b.others b.stand).next [ inl h ↦ paren q h | inr h ↦ comma h.0 h.1 ]

  pub closed_found : (s : Tokens) (params more : Built (List tree.Param)) (defaults : Bool) (so_far : SoFar s rest params defaults) → Later defaults has_default → ((m : Tokens) → r ≡ t.comma ∷ m → ⊥) → Pushes params param more
      → (o : Option (reading.Found (List tree.Param))) → IsClosed more r o → FoundAt Signature Anything params_of params_nesting s o
  closed_found s params more defaults so_far later comma makes None h = not_closed s params defaults so_far comma h
  closed_found s params more defaults so_far later comma makes (Some found) h = under h.0 refl (last_found s found.rest.now params more defaults so_far later h.1 makes)

  -- a parameter without a default behind one with a default
  pub out_of_order : (s : Tokens) (params : Built (List tree.Param)) (defaults : Bool) (so_far : SoFar s rest params defaults) → defaults ≡ true → has_default ≡ false → (q : Tokens) (zs : List Param) → Signature s q zs → Anything q → ⊥
  out_of_order s params defaults so_far some none q zs d i =
      let b = so_far.comes_back q zs d.0 in
      let x = first q b.others b.stand in
      let all : zs ≡ so_far.taken ++ f.thing ∷ x.others = b.all ∙ ap (λ z. so_far.taken ++ z) x.all in
      let no : defaults_last (so_far.taken ++ f.thing ∷ x.others) ≡ false = disordered so_far.taken f.thing x.others (so_far.has_default ∙ some) (read.default x.ends ∙ none) in
      let yes : true ≡ defaults_last zs = sym d.1 in
      let both : true ≡ false = yes ∙ ap defaults_last all ∙ no in
      absurd cc

pub no_parameter_there : (s rest : Tokens) (params : Built (List tree.Param)) (defaults : Bool) → SoFar s rest params defaults → ((m : Tokens) → rest ≡ t.right_paren ∷ m → ⊥) → ((q : Tokens) (z : Param) → Parameter rest q z → EndsParameter q → ⊥)
    → (q : Tokens) (zs : List Param) → Signature s q zs → Anything q → ⊥
no_parameter_there s rest params defaults so_far paren none q zs d i = at rest (so_far.comes_back q zs d.0).others (so_far.comes_back q zs d.0).stand refl where
  at : (y : Tokens) (zs : List Param) → BeforeParen y q zs → y ≡ rest → ⊥
  at _ _ l.no_parameter e = paren q (sym e)
  at y _ (l.last_parameter {p = p} u) e = none (t.right_paren ∷ q) p (subst (λ z. Parameter z (t.right_paren ∷ q) p) e u) tt
  at y _ (l.next_parameter {m = n} {p = p} {ps = ps} u us) e = none (t.comma ∷ n) p (subst (λ z. Parameter z (t.comma ∷ n) p) e u) tt

pub some_param : (s : Tokens) (o : Option ReadParam) (read : ReadParam) → o ≡ Some read → ParamAt s o → IsParam s read.built read.has_default read.rest.now
some_param s o read is h = subst (ParamAt s) is h

pub found_shorter : (s r : Tokens) (b : Built tree.Param) (has_default : Bool) → IsParam s b has_default r → length r < length s
found_shorter s r b has_default read = parameter_shorter read.found.stands
