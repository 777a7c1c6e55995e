-- The targets of a `for`, as they are read.
use Rattle.std.proofs.Common.{◌≡◌, ◌≤◌, Bool, true, false, List, [], ◌∷◌, length, Some, None, refl, sym, ap, subst, ◌∙◌, arith}
use Rattle.py_tree.specs.Syntax as syntax
use Rattle.py_tree.specs.Syntax.{Text, Target}
use Rattle.py_tree.specs.Joined.{target_of}
use Rattle.py_tree.specs.declared.expression.Target as tree
use Rattle.py_tree.specs.declared.expression.Target.TheVariants as made
use Rattle.py_lexer.specs.declared.token.Token.TheVariants as token
use Rattle.py_phrases.specs.declared.phrase.Built.TheVariants.{Shallow}
use Rattle.py_phrases.specs.Tokens as t
use Rattle.py_phrases.specs.Grammar.{Tokens}
use Rattle.py_expr.specs.LineEnds.{Anything}
use Rattle.py_expr.specs.Runs.{NameList, name_list, names_at, target_from}
use Rattle.py_expr.specs.Readings.{IsFound, BeforeIn, InParentheses}
use Rattle.py_expr.proofs.NameLists.{Shape, nothing, single, single_and_comma, several, shape, many_is_read, last_name, same_names, same_comma, same_rest}
use Rattle.py_expr.proofs.OneForm.{behind}
use Rattle.py_phrases.specs.Targets as target
use Rattle.py_phrases.specs.Targets.{Many, Names, target_nesting}

some_one : {A : Type 0} {a b : A} → Some a ≡ Some b → a ≡ b
some_one h = cc

none_some : {A : Type 0} {a : A} → None ≡ Some a → ⊥
none_some h = cc

-- what stands in parentheses is read as a list of two names or more
record ReadsParentheses (s r : Tokens) (z : Target) : Type 0 where
  names : List Text
  last : Bool
  is_target : z ≡ syntax.ToNames names
  is_read : names_at false s ≡ name_list names last (t.right_paren ∷ t.in_ ∷ r)
  enough : 2 ≤ length names

enough_names : {s r : Tokens} {names : List Text} → Many s r names → 2 ≤ length names
enough_names target.two_names = omega arith
enough_names target.two_names_and_comma = omega arith
enough_names (target.another_name m) = let h = enough_names m in omega (arith, h)

reads_parentheses : (s r : Tokens) (z : Target) → InParentheses s r z → ReadsParentheses s r z
reads_parentheses s r _ (target.many_names m) = elim m [ ]
reads_parentheses s r _ (target.names_in_parentheses {names = names} m) =
    let x = many_is_read false s (t.right_paren ∷ t.in_ ∷ r) names m tt in
    record { names = names; last = x.last; is_target = refl; is_read = x.is_read; enough = enough_names m }

parentheses_stand : (names : List Text) (last : Bool) (s r : Tokens) (l' : NameList) → Shape false s l' → l' ≡ name_list names last (t.right_paren ∷ t.in_ ∷ r) → 2 ≤ length names → InParentheses s r (syntax.ToNames names)
parentheses_stand names last s r _ nothing h few = let e : [] ≡ names = same_names h in let z : length names ≡ 0 = rw (sym e) refl in absurd (omega (arith, few, z))
parentheses_stand names last s r _ (single {a = a}) h few = let e : a ∷ [] ≡ names = same_names h in let z : length names ≡ 1 = rw (sym e) refl in absurd (omega (arith, few, z))
parentheses_stand names last s r _ (single_and_comma {a = a}) h few = let e : a ∷ [] ≡ names = same_names h in let z : length names ≡ 1 = rw (sym e) refl in absurd (omega (arith, few, z))
parentheses_stand names last s r _ (several {a = a} {b = b} {ns = ns} {r = q} m) h few =
    let e : a ∷ b ∷ ns ≡ names = same_names h in
    let p : q ≡ t.right_paren ∷ t.in_ ∷ r = same_rest h in
    target.names_in_parentheses (subst (λ z. Many s z names) p (subst (λ z. Many s q z) e m))

pub parentheses_found : (s m n r : Tokens) (names : List Text) (comma : Bool) → name_list names comma m ≡ names_at false s → 2 ≤ length names → m ≡ t.right_paren ∷ n → n ≡ t.in_ ∷ r
    → IsFound InParentheses Anything target_of target_nesting s (Shallow (made.Names names)) r
parentheses_found s m n r names comma read few closed ends =
    let here : m ≡ t.right_paren ∷ t.in_ ∷ r = closed ∙ ap (λ z. t.right_paren ∷ z) ends in
    record {
      thing = syntax.ToNames names;
      stands = parentheses_stand names comma s r (names_at false s) (shape false s) (sym read ∙ ap (name_list names comma) here) few;
      only = λ q z d h.
          let x = reads_parentheses s q z d in
          let both : name_list x.names x.last (t.right_paren ∷ t.in_ ∷ q) ≡ name_list names comma (t.right_paren ∷ t.in_ ∷ r) = sym x.is_read ∙ sym read ∙ ap (name_list names comma) here in
          let named : x.names ≡ names = same_names both in
          let rests : q ≡ r = ap (λ y. behind (behind y)) (same_rest both) in
          record { thing = sym (x.is_target ∙ ap syntax.ToNames named); rest = sym rests };
      is_built = (omega arith, refl);
    }

pub no_parentheses : (s m : Tokens) (names : List Text) (comma : Bool) → name_list names comma m ≡ names_at false s
    → ((r : Tokens) → 2 ≤ length names → m ≡ t.right_paren ∷ t.in_ ∷ r → ⊥) → (q : Tokens) (z : Target) → InParentheses s q z → Anything q → ⊥
no_parentheses s m names comma read none q z d h =
    let x = reads_parentheses s q z d in
    let both : name_list x.names x.last (t.right_paren ∷ t.in_ ∷ q) ≡ name_list names comma m = sym x.is_read ∙ sym read in
    let named : x.names ≡ names = same_names both in
    let rests : m ≡ t.right_paren ∷ t.in_ ∷ q = sym (same_rest both) in
    none q (subst (λ z. 2 ≤ length z) named x.enough) rests

-- what stands without parentheses
record ReadsBare (s r : Tokens) (z : Target) : Type 0 where
  names : List Text
  last : Bool
  is_target : target_from last names ≡ Some z
  is_read : names_at false s ≡ name_list names last (t.in_ ∷ r)

many_target : {s r : Tokens} {names : List Text} (last : Bool) → Many s r names → target_from last names ≡ Some (syntax.ToNames names)
many_target last target.two_names = refl
many_target last target.two_names_and_comma = refl
many_target last (target.another_name target.two_names) = refl
many_target last (target.another_name target.two_names_and_comma) = refl
many_target last (target.another_name (target.another_name m)) = refl

reads_bare : (s r : Tokens) (z : Target) → ((q : Tokens) → s ≡ t.left_paren ∷ q → ⊥) → BeforeIn s r z → ReadsBare s r z
reads_bare _ r _ bare (target.one_name {a = a}) = record { names = a ∷ []; last = false; is_target = refl; is_read = last_name false a (t.in_ ∷ r) tt }
reads_bare s r _ bare (target.many_names {names = names} m) =
    let x = many_is_read false s (t.in_ ∷ r) names m tt in
    record { names = names; last = x.last; is_target = many_target x.last m; is_read = x.is_read }
reads_bare _ r _ bare (target.names_in_parentheses {s = s} m) = absurd (bare s refl)

bare_stands : (names : List Text) (last : Bool) (s r : Tokens) (z : Target) (l' : NameList) → Shape false s l' → l' ≡ name_list names last (t.in_ ∷ r) → target_from last names ≡ Some z → BeforeIn s r z
bare_stands names last s r z _ nothing h is = let e : [] ≡ names = same_names h in absurd (none_some (subst (λ z'. target_from last z' ≡ Some z) (sym e) is))
bare_stands names last _ r z _ (single {a = a} {r = q}) h is =
    let e : a ∷ [] ≡ names = same_names h in
    let c : false ≡ last = same_comma h in
    let p : q ≡ t.in_ ∷ r = same_rest h in
    let f : Some (syntax.ToName a) ≡ Some z = subst (λ z'. target_from z' (a ∷ []) ≡ Some z) (sym c) (subst (λ z'. target_from last z' ≡ Some z) (sym e) is) in
    let g : syntax.ToName a ≡ z = some_one f in
    subst (λ y. BeforeIn (token.Name a ∷ y) r z) (sym p) (subst (λ y. BeforeIn (token.Name a ∷ t.in_ ∷ r) r y) g target.one_name)
bare_stands names last _ r z _ (single_and_comma {a = a} {r = q}) h is =
    let e : a ∷ [] ≡ names = same_names h in
    let c : true ≡ last = same_comma h in
    let f : None ≡ Some z = subst (λ z'. target_from z' (a ∷ []) ≡ Some z) (sym c) (subst (λ z'. target_from last z' ≡ Some z) (sym e) is) in
    absurd (none_some f)
bare_stands names last s r z _ (several {a = a} {b = b} {ns = ns} {last = w} {r = q} m) h is =
    let e : a ∷ b ∷ ns ≡ names = same_names h in
    let p : q ≡ t.in_ ∷ r = same_rest h in
    let f : Some (syntax.ToNames (a ∷ b ∷ ns)) ≡ Some z = subst (λ z'. target_from last z' ≡ Some z) (sym e) is in
    let g : syntax.ToNames (a ∷ b ∷ ns) ≡ z = some_one f in
    subst (λ y. BeforeIn s r y) g (target.many_names (subst (λ y. Many s y (a ∷ b ∷ ns)) p m))

names_deep : (last : Bool) (names : List Text) (z : Target) → target_from last names ≡ Some z → target_nesting z ≤ 200
names_deep last [] z h = absurd cc
names_deep false (a ∷ []) z h = let e : syntax.ToName a ≡ z = some_one h in subst (λ y. target_nesting y ≤ 200) e (omega arith)
names_deep true (a ∷ []) z h = absurd cc
names_deep last (a ∷ b ∷ names) z h = let e : syntax.ToNames (a ∷ b ∷ names) ≡ z = some_one h in subst (λ y. target_nesting y ≤ 200) e (omega arith)

pub bare_found : (s m r : Tokens) (names : List Text) (comma : Bool) (made' : tree.Target) → ((q : Tokens) → s ≡ t.left_paren ∷ q → ⊥) → name_list names comma m ≡ names_at false s → target_from comma names ≡ Some (target_of made') → m ≡ t.in_ ∷ r
    → IsFound BeforeIn Anything target_of target_nesting s (Shallow made') r
bare_found s m r names comma made' bare read is ends =
    record {
      thing = target_of made';
      stands = bare_stands names comma s r (target_of made') (names_at false s) (shape false s) (sym read ∙ ap (name_list names comma) ends) is;
      only = λ q z d h.
          let x = reads_bare s q z bare d in
          let both : name_list x.names x.last (t.in_ ∷ q) ≡ name_list names comma (t.in_ ∷ r) = sym x.is_read ∙ sym read ∙ ap (name_list names comma) ends in
          let named : x.names ≡ names = same_names both in
          let ended : x.last ≡ comma = same_comma both in
          let rests : q ≡ r = ap behind (same_rest both) in
          let found : Some z ≡ Some (target_of made') = sym x.is_target ∙ ap (λ y. target_from y x.names) ended ∙ ap (target_from comma) named ∙ is in
          let targets : z ≡ target_of made' = some_one found in
          record { thing = sym targets; rest = sym rests };
      is_built = (names_deep comma names (target_of made') is, refl);
    }

pub no_bare : (s m : Tokens) (names : List Text) (comma : Bool) → ((q : Tokens) → s ≡ t.left_paren ∷ q → ⊥) → name_list names comma m ≡ names_at false s
    → ((r : Tokens) (z : Target) → target_from comma names ≡ Some z → m ≡ t.in_ ∷ r → ⊥) → (q : Tokens) (z : Target) → BeforeIn s q z → Anything q → ⊥
no_bare s m names comma bare read none q z d h =
    let x = reads_bare s q z bare d in
    let both : name_list x.names x.last (t.in_ ∷ q) ≡ name_list names comma m = sym x.is_read ∙ sym read in
    let named : x.names ≡ names = same_names both in
    let ended : x.last ≡ comma = same_comma both in
    let rests : m ≡ t.in_ ∷ q = sym (same_rest both) in
    none q z (sym (ap (λ y. target_from y x.names) ended ∙ ap (target_from comma) named) ∙ x.is_target) rests
