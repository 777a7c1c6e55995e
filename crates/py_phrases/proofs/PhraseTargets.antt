-- The steps of a phrase tell whether it is a target, and which.
use Rattle.std.proofs.Common.{◌≡◌, ℕ, suc, ◌≤◌, ◌<◌, length, List, [], ◌∷◌, ◌++◌, Option, Some, None, refl, sym, ap, subst, ◌∙◌, arith}
use Rattle.py_tree.specs.Syntax as x
use Rattle.py_tree.specs.Syntax.{Text, Expression, Expressions, Target}
use Rattle.py_tree.specs.Nesting.{nesting, deepest}
use Rattle.py_lexer.specs.declared.token.Token.TheVariants as token
use Rattle.py_phrases.specs.Tokens as t
use Rattle.py_phrases.specs.Grammar as g
use Rattle.py_phrases.specs.Grammar.{Tokens, Level, P, E, L, Spells, Joined, Items}
use Rattle.py_phrases.specs.Ends.{IsEnd}
use Rattle.py_tree.specs.Joined.{target_of}
use Rattle.py_tree.specs.declared.expression.Target as code
use Rattle.py_phrases.specs.declared.machine.Step as code_step
use Rattle.py_phrases.specs.declared.phrase.Phrase.{Phrase}
use Rattle.py_phrases.specs.declared.phrase.Built.{Built}
use Rattle.py_phrases.specs.declared.phrase.Built.TheVariants.{Shallow, TooDeep}
use Rattle.py_phrases.specs.Phrases.{IsTarget, BuildsTarget}
use Rattle.py_phrases.specs.Views.{steps_of}
use Rattle.py_phrases.specs.Targets as l
use Rattle.py_phrases.specs.Targets.{Many, Place, Assigned}
use Rattle.py_phrases.specs.Targets.{target_nesting}
use Rattle.py_phrases.specs.Machine as m
use Rattle.py_phrases.specs.Machine.{Step, Steps, Read, read_to}
use Rattle.py_phrases.specs.Emitted.{emit, emit_text, emit_items, nestings}
use Rattle.py_phrases.specs.TargetSteps.{with_name, names_put, several, to_attribute, to_index, in_parentheses, target_in, deep, maybe_target}
use Rattle.py_phrases.proofs.Complete.{is_read}
use Rattle.py_phrases.proofs.Builds.{grows}
use Rattle.py_phrases.proofs.Nested.{nests}
use Rattle.py_phrases.proofs.TargetPhrases.{names_listed, as_phrase, many_items, many_is, assigned_is}

-- ---- names

-- {NAME ","} [NAME]
data NamesAt : Tokens → Tokens → List Text → Type 0 where
  no_names : {r : Tokens} → NamesAt r r []
  last_name : {r : Tokens} {n : Text} → NamesAt (token.Name n ∷ r) r (n ∷ [])
  next_name : {s r : Tokens} {n : Text} {ns : List Text} → NamesAt s r ns → NamesAt (token.Name n ∷ t.comma ∷ s) r (n ∷ ns)

-- a name that was put on the names before
record NamePut (s r : Tokens) (o : Steps) (all : List Text) : Type 0 where
  name : Text
  before : List Text
  front : s ≡ token.Name name ∷ r
  put : names_put o ≡ Some before
  all_are : all ≡ before ++ name ∷ []

put_on : (n : Text) (names : Option (List Text)) (all : List Text) → with_name (m.PutName n) names ≡ Some all → (before : List Text) × (names ≡ Some before) × (all ≡ before ++ n ∷ [])
put_on n None all h = absurd cc
put_on n (Some before) all h = (before, refl, cc)

no_text : {s r q : Tokens} {u : Text} (j : Joined s r u) (o : Steps) (all : List Text) → names_put (emit_text j o) ≡ Some all → NamePut s q o all
no_text g.one_text o all h = absurd cc
no_text (g.next_text j) o all h = absurd cc

name_put : {k : Level} {s r : Tokens} {e : Expression} (d : Spells k s r e) (o : Steps) (all : List Text) → names_put (emit d o) ≡ Some all → NamePut s r o all
name_put (g.a_name {n = n}) o all h = let y = put_on n (names_put o) all h in record { name = n; before = y.0; front = refl; put = y.1; all_are = y.2 }
name_put (g.a_text j) o all h = no_text j o all h
name_put (g.a_primary d) o all h = name_put d o all h
name_put (g.a_factor d) o all h = name_put d o all h
name_put (g.a_term d) o all h = name_put d o all h
name_put (g.uncompared d) o all h = name_put d o all h
name_put (g.affirmed d) o all h = name_put d o all h
name_put (g.a_conjunct d) o all h = name_put d o all h
name_put (g.a_disjunct d) o all h = name_put d o all h
name_put (g.unconditional d) o all h = name_put d o all h
name_put (g.single d) o all h = name_put d o all h
name_put _ o all h = absurd cc

record NamesPut (s r : Tokens) (o : Steps) (all : List Text) : Type 0 where
  names : List Text
  before : List Text
  front : NamesAt s r names
  put : names_put o ≡ Some before
  all_are : all ≡ before ++ names

empty_end : (ns : List Text) → ns ≡ ns ++ []
empty_end [] = refl
empty_end (n ∷ ns) = ap (λ z. n ∷ z) (empty_end ns)

names_between : (s r : Tokens) (n : Text) (ns : List Text) → s ≡ token.Name n ∷ t.comma ∷ r → (q : Tokens) → NamesAt r q ns → NamesAt s q (n ∷ ns)
names_between s r n ns h q i = subst (λ z. NamesAt z q (n ∷ ns)) (sym h) (next_name i)

last_between : (s r : Tokens) (n : Text) → s ≡ token.Name n ∷ r → NamesAt s r (n ∷ [])
last_between s r n h = subst (λ z. NamesAt z r (n ∷ [])) (sym h) last_name

append_one : (b : List Text) (n : Text) (ns : List Text) → (b ++ n ∷ []) ++ ns ≡ b ++ n ∷ ns
append_one [] n ns = refl
append_one (a ∷ b) n ns = ap (λ z. a ∷ z) (append_one b n ns)

items_put : {s r : Tokens} {es : Expressions} (i : Items s r es) (o : Steps) (all : List Text) → names_put (emit_items i o) ≡ Some all → NamesPut s r o all
items_put g.no_item o all h = record { names = []; before = all; front = no_names; put = h; all_are = empty_end all }
items_put {s = s} {r = r} (g.last_item d) o all h =
    let y = name_put d o all h in
    record { names = y.name ∷ []; before = y.before; front = last_between s r y.name y.front; put = y.put; all_are = y.all_are }
items_put {s = s} {r = r} (g.next_item {m = q} d i) o all h =
    let y = items_put i (emit d o) all h in
    let z = name_put d o y.before y.put in
    record {
      names = z.name ∷ y.names;
      before = z.before;
      front = names_between s q z.name y.names z.front r y.front;
      put = z.put;
      all_are = y.all_are ∙ ap (λ b. b ++ y.names) z.all_are ∙ append_one z.before z.name y.names;
    }

-- a name, a comma and names are many, if there are some
many_from : {s r : Tokens} (a : Text) (ns : List Text) → NamesAt s r ns → 1 ≤ length ns → Many (token.Name a ∷ t.comma ∷ s) r (a ∷ ns)
many_from a _ no_names h = absurd (omega arith)
many_from a _ last_name h = l.two_names
many_from a _ (next_name no_names) h = l.two_names_and_comma
many_from a _ (next_name {n = n} last_name) h = l.another_name (many_from n _ last_name (omega arith))
many_from a _ (next_name {n = n} (next_name i)) h = l.another_name (many_from n _ (next_name i) (omega arith))

several_are : (names : Option (List Text)) (g' : Target) → several names ≡ Some g' → (a : Text) × (b : Text) × (ns : List Text) × (names ≡ Some (a ∷ b ∷ ns)) × (g' ≡ x.ToNames (a ∷ b ∷ ns))
several_are None g' h = absurd cc
several_are (Some []) g' h = absurd cc
several_are (Some (a ∷ [])) g' h = absurd cc
several_are (Some (a ∷ b ∷ ns)) g' h = (a, b, ns, refl, cc)

record ManyAt (s r : Tokens) (g' : Target) : Type 0 where
  names : List Text
  many : Many s r names
  target_is : g' ≡ x.ToNames names

many_at_front : (s q r : Tokens) (g' : Target) (n a b : Text) (names ns : List Text) → s ≡ token.Name n ∷ t.comma ∷ q → NamesAt q r names → n ∷ names ≡ a ∷ b ∷ ns → g' ≡ x.ToNames (a ∷ b ∷ ns) → ManyAt s r g'
many_at_front s q r g' n a b names ns e h i k =
    let some_names : 1 ≤ length names = omega (arith, ap length i) in
    record { names = n ∷ names; many = subst (λ z. Many z r (n ∷ names)) (sym e) (many_from n names h some_names); target_is = k ∙ ap x.ToNames (sym i) }

first_of : (b names all : List Text) (n : Text) → Some [] ≡ Some b → all ≡ b ++ n ∷ [] → all ++ names ≡ n ∷ names
first_of b names all n h i = let none : [] ≡ b = cc in ap (λ z. z ++ names) (i ∙ ap (λ z. z ++ n ∷ []) (sym none))

items_many : {s q r : Tokens} {e : Expression} {es : Expressions} (d : Spells E s (t.comma ∷ q) e) (i : Items q r es) (g' : Target) → several (names_put (emit_items i (emit d []))) ≡ Some g' → ManyAt s r g'
items_many {s = s} {q = q} {r = r} d i g' h =
    let v = several_are (names_put (emit_items i (emit d []))) g' h in
    let y = items_put i (emit d []) (v.0 ∷ v.1 ∷ v.2) v.3 in
    let z = name_put d [] y.before y.put in
    many_at_front s q r g' z.name v.0 v.1 y.names v.2 z.front y.front (sym (y.all_are ∙ first_of z.before y.names y.before z.name z.put z.all_are)) v.4

no_text_many : {s r q : Tokens} {u : Text} (j : Joined s r u) (g' : Target) → in_parentheses (emit_text j []) ≡ Some g' → ManyAt s q g'
no_text_many g.one_text g' h = absurd cc
no_text_many (g.next_text j) g' h = absurd cc

many_at : {k : Level} {s r : Tokens} {e : Expression} (d : Spells k s r e) (g' : Target) → in_parentheses (emit d []) ≡ Some g' → ManyAt s r g'
many_at (g.a_text j) g' h = no_text_many j g' h
many_at (g.a_primary d) g' h = many_at d g' h
many_at (g.a_factor d) g' h = many_at d g' h
many_at (g.a_term d) g' h = many_at d g' h
many_at (g.uncompared d) g' h = many_at d g' h
many_at (g.affirmed d) g' h = many_at d g' h
many_at (g.a_conjunct d) g' h = many_at d g' h
many_at (g.a_disjunct d) g' h = many_at d g' h
many_at (g.unconditional d) g' h = many_at d g' h
many_at (g.single d) g' h = many_at d g' h
many_at (g.a_tuple d i) g' h = items_many d i g' h
many_at _ g' h = absurd cc

-- ---- what is found is a target

place_at : {s r : Tokens} (a g' : Target) → Place s r a → Some a ≡ Some g' → Assigned s r g'
place_at {s = s} {r = r} a g' p h = let same : a ≡ g' = cc in subst (λ z. Assigned s r z) same (l.to_place p)

names_at : {s r : Tokens} (g' : Target) → ManyAt s r g' → Assigned s r g'
names_at {s = s} {r = r} g' y = subst (λ a. Assigned s r a) (sym y.target_is) (l.to_names y.many)

names_in_at : {s r : Tokens} (g' : Target) → ManyAt s (t.right_paren ∷ r) g' → Assigned (t.left_paren ∷ s) r g'
names_in_at {s = s} {r = r} g' y = subst (λ a. Assigned (t.left_paren ∷ s) r a) (sym y.target_is) (l.to_names_in_parentheses y.many)

no_text_target : {s r q : Tokens} {u : Text} (j : Joined s r u) (g' : Target) → target_in (emit_text j []) ≡ Some g' → Assigned s q g'
no_text_target g.one_text g' h = absurd cc
no_text_target (g.next_text j) g' h = absurd cc

pub is_assigned : {k : Level} {s r : Tokens} {e : Expression} (d : Spells k s r e) (g' : Target) → target_in (emit d []) ≡ Some g' → Assigned s r g'
is_assigned (g.a_name {n = n}) g' h = place_at (x.ToName n) g' l.to_name h
is_assigned (g.an_attribute {e = e} {n = n} d) g' h = place_at (x.ToAttr e n) g' (l.to_attribute d) (sym (ap (to_attribute n) (grows d [])) ∙ h)
is_assigned (g.an_index {e = e} {i = j} d i) g' h = place_at (x.ToIndex e j) g' (l.to_index d i) (sym (ap to_index (grows i (emit d []) ∙ ap (λ st. j ∷ st) (grows d []))) ∙ h)
is_assigned (g.a_group d) g' h = names_in_at g' (many_at d g' h)
is_assigned (g.a_text j) g' h = no_text_target j g' h
is_assigned (g.a_primary d) g' h = is_assigned d g' h
is_assigned (g.a_factor d) g' h = is_assigned d g' h
is_assigned (g.a_term d) g' h = is_assigned d g' h
is_assigned (g.uncompared d) g' h = is_assigned d g' h
is_assigned (g.affirmed d) g' h = is_assigned d g' h
is_assigned (g.a_conjunct d) g' h = is_assigned d g' h
is_assigned (g.a_disjunct d) g' h = is_assigned d g' h
is_assigned (g.unconditional d) g' h = is_assigned d g' h
is_assigned (g.single d) g' h = is_assigned d g' h
is_assigned (g.a_tuple d i) g' h = names_at g' (items_many d i g' h)
is_assigned _ g' h = absurd cc

-- ---- a target is found

put_behind : (n : Text) (names : Option (List Text)) (before : List Text) → names ≡ Some before → with_name (m.PutName n) names ≡ Some (before ++ n ∷ [])
put_behind n names before h = ap (with_name (m.PutName n)) h

many_put : {s r : Tokens} {ns : List Text} (i : Many s r ns) (o : Steps) (before : List Text) → names_put o ≡ Some before → names_put (emit_items (many_items i) o) ≡ Some (before ++ ns)
many_put (l.two_names {a = a} {b = b}) o before h = put_behind b (with_name (m.PutName a) (names_put o)) (before ++ a ∷ []) (put_behind a (names_put o) before h) ∙ ap Some (append_one before a (b ∷ []))
many_put (l.two_names_and_comma {a = a} {b = b}) o before h = put_behind b (with_name (m.PutName a) (names_put o)) (before ++ a ∷ []) (put_behind a (names_put o) before h) ∙ ap Some (append_one before a (b ∷ []))
many_put (l.another_name {a = a} {names = ns} i) o before h = many_put i (m.PutName a ∷ o) (before ++ a ∷ []) (put_behind a (names_put o) before h) ∙ ap Some (append_one before a ns)

several_more : {s r : Tokens} {ns : List Text} (a : Text) → Many s r ns → several (Some (a ∷ ns)) ≡ Some (x.ToNames (a ∷ ns))
several_more a l.two_names = refl
several_more a l.two_names_and_comma = refl
several_more a (l.another_name i) = refl

many_found : {s r : Tokens} {ns : List Text} (i : Many s r ns) → in_parentheses (emit (many_is i) []) ≡ Some (x.ToNames ns)
many_found l.two_names = refl
many_found l.two_names_and_comma = refl
many_found (l.another_name {a = a} i) = ap several (many_put i (m.PutName a ∷ []) (a ∷ []) refl) ∙ several_more a i

pub is_found : {s r : Tokens} {g' : Target} (a : Assigned s r g') → target_in (emit (assigned_is a) []) ≡ Some g'
is_found (l.to_place l.to_name) = refl
is_found (l.to_place (l.to_attribute {a = n} d)) = ap (to_attribute n) (grows d [])
is_found (l.to_place (l.to_index {i = j} d i)) = ap to_index (grows i (emit d []) ∙ ap (λ st. j ∷ st) (grows d []))
is_found (l.to_names l.two_names) = refl
is_found (l.to_names l.two_names_and_comma) = refl
is_found (l.to_names (l.another_name i)) = many_found (l.another_name i)
is_found (l.to_names_in_parentheses i) = many_found i

-- ---- nesting

under : (a : Target) → suc (target_nesting a) ≤ nesting (as_phrase a)
under (x.ToName n) = omega arith
under (x.ToAttr e n) = omega arith
under (x.ToIndex e i) = omega arith
under (x.ToNames ns) = omega arith

flat : (ns : List Text) → deepest (names_listed ns) ≤ 1
flat [] = omega arith
flat (n ∷ ns) = omega (arith, flat ns)

abbrev steps_in : Option Read → Steps
steps_in None = []
steps_in (Some y) = y.steps

one_emitted : {s r : Tokens} {e f : Expression} (d : Spells L s r e) (d' : Spells L s r f) → IsEnd L r → emit d [] ≡ emit d' []
one_emitted d d' h = ap steps_in (sym (is_read d h) ∙ is_read d' h)

abbrev head_of : List ℕ → ℕ
head_of [] = 0
head_of (n ∷ st) = n

-- of the phrase and of the target
nestings_same : {s r : Tokens} {e : Expression} {a : Target} (d : Spells L s r e) → IsEnd L r → (i : Assigned s r a) → nesting e ≡ nesting (as_phrase a)
nestings_same d h i = ap head_of (sym (nests d []) ∙ ap nestings (one_emitted d (assigned_is i) h) ∙ nests (assigned_is i) [])

-- ---- what is said of a phrase

record DeepPlace (s r : Tokens) (e : Expression) : Type 0 where
  target : Target
  assigned : Assigned s r target
  nesting_is : nesting e ≡ suc (target_nesting target)

no_text_deep : {s r q : Tokens} {u : Text} (j : Joined s r u) (e : Expression) → deep (emit_text j []) ≡ Some TooDeep → DeepPlace s q e
no_text_deep g.one_text e h = absurd cc
no_text_deep (g.next_text j) e h = absurd cc

deep_place : {k : Level} {s r : Tokens} {e : Expression} (d : Spells k s r e) → deep (emit d []) ≡ Some TooDeep → DeepPlace s r e
deep_place (g.an_attribute {e = e} {n = n} d) h = record { target = x.ToAttr e n; assigned = l.to_place (l.to_attribute d); nesting_is = omega arith }
deep_place (g.an_index {e = e} {i = j} d i) h = record { target = x.ToIndex e j; assigned = l.to_place (l.to_index d i); nesting_is = omega arith }
deep_place (g.a_text j) h = no_text_deep j _ h
deep_place (g.a_primary d) h = deep_place d h
deep_place (g.a_factor d) h = deep_place d h
deep_place (g.a_term d) h = deep_place d h
deep_place (g.uncompared d) h = deep_place d h
deep_place (g.affirmed d) h = deep_place d h
deep_place (g.a_conjunct d) h = deep_place d h
deep_place (g.a_disjunct d) h = deep_place d h
deep_place (g.unconditional d) h = deep_place d h
deep_place (g.single d) h = deep_place d h
deep_place _ h = absurd cc

not_deep : {s r : Tokens} {a : Target} (i : Assigned s r a) → deep (emit (assigned_is i) []) ≡ None → nesting (as_phrase a) ≤ 2
not_deep (l.to_place l.to_name) h = omega arith
not_deep (l.to_place (l.to_attribute d)) h = absurd cc
not_deep (l.to_place (l.to_index d i)) h = absurd cc
not_deep (l.to_names {names = ns} i) h = omega (arith, flat ns)
not_deep (l.to_names_in_parentheses {names = ns} i) h = omega (arith, flat ns)

never_shallow : (o : Steps) (tree : code.Target) → deep o ≡ Some (Shallow tree) → ⊥
never_shallow [] tree h = cc
never_shallow (m.MakeAttr n ∷ o) tree h = cc
never_shallow (m.MakeIndex ∷ o) tree h = cc
never_shallow _ tree h = cc

-- the nesting of the phrase, as it was counted
abbrev pub Counted : ℕ → Steps → Type 0
Counted n o = (k : ℕ) (st : List ℕ) → nestings o ≡ k ∷ st → n ≡ k

counted : {k : Level} {s r : Tokens} {e : Expression} (d : Spells k s r e) (o : Steps) (n : ℕ) → o ≡ emit d [] → Counted n o → n ≡ nesting e
counted {e = e} d o n h c = c (nesting e) [] (ap nestings h ∙ nests d [])

deep_is : (s r : Tokens) (e : Expression) (d : Spells L s r e) → IsEnd L r → (o : Steps) → o ≡ emit d [] → (n : ℕ) → 201 < n → Counted n o → (built : Option (Built code.Target)) → built ≡ deep o → IsTarget s r built
deep_is s r e d h o i n far c None b = λ a j.
    let k = counted d o n i c in
    omega (arith, far, k, nestings_same d h j, not_deep j (sym (b ∙ ap deep (i ∙ one_emitted d (assigned_is j) h))))
deep_is s r e d h o i n far c (Some TooDeep) b =
    let y = deep_place d (sym (b ∙ ap deep i)) in
    let k = counted d o n i c in
    (y.target, y.assigned, omega (arith, far, k, y.nesting_is))
deep_is s r e d h o i n far c (Some (Shallow tree)) b = absurd (never_shallow o tree (sym b))

-- the steps, where they were counted and where they were looked at, are the phrase's

pub deep_builds : (phrase : Phrase) (counts looks : List code_step.Step) → counts ≡ phrase.steps.items → looks ≡ phrase.steps.items → (n : ℕ) → 201 < n → Counted n (steps_of counts)
    → (built : Option (Built code.Target)) → built ≡ deep (steps_of looks) → BuildsTarget phrase built
deep_builds phrase counts looks h i n far c built b = λ s r e y. deep_is s r e y.spells y.ends (steps_of phrase.steps.items) y.steps n far (subst (λ z. Counted n (steps_of z)) h c) built (b ∙ ap (λ z. deep (steps_of z)) i)

none_is : (s r : Tokens) (e : Expression) (d : Spells L s r e) → IsEnd L r → (o : Steps) → o ≡ emit d [] → None ≡ target_in o → (a : Target) → Assigned s r a → ⊥
none_is s r e d h o i b a j = let both : None ≡ Some a = b ∙ ap target_in (i ∙ one_emitted d (assigned_is j) h) ∙ is_found j in cc

pub none_builds : (phrase : Phrase) (looks : List code_step.Step) → looks ≡ phrase.steps.items → (found : Option code.Target) → found ≡ None → maybe_target found ≡ target_in (steps_of looks) → BuildsTarget phrase None
none_builds phrase looks i found f b = λ s r e y. none_is s r e y.spells y.ends (steps_of phrase.steps.items) y.steps (sym (ap maybe_target f) ∙ b ∙ ap (λ z. target_in (steps_of z)) i)

shallow_is : (s r : Tokens) (e : Expression) (d : Spells L s r e) → IsEnd L r → (o : Steps) → o ≡ emit d [] → (n : ℕ) → n ≤ 201 → Counted n o → (a : Target) → Some a ≡ target_in o → Assigned s r a × (target_nesting a ≤ 200)
shallow_is s r e d h o i n near c a b =
    let j = is_assigned d a (sym (b ∙ ap target_in i)) in
    let k = counted d o n i c in
    (j, omega (arith, near, k, nestings_same d h j, under a))

pub shallow_builds : (phrase : Phrase) (counts looks : List code_step.Step) → counts ≡ phrase.steps.items → looks ≡ phrase.steps.items → (n : ℕ) → n ≤ 201 → Counted n (steps_of counts)
    → (found : Option code.Target) (tree : code.Target) → found ≡ Some tree → maybe_target found ≡ target_in (steps_of looks) → BuildsTarget phrase (Some (Shallow tree))
shallow_builds phrase counts looks h i n near c found tree f b =
    λ s r e y. shallow_is s r e y.spells y.ends (steps_of phrase.steps.items) y.steps n near (subst (λ z. Counted n (steps_of z)) h c) (target_of tree) (sym (ap maybe_target f) ∙ b ∙ ap (λ z. target_in (steps_of z)) i)
