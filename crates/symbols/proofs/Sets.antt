-- Names as a set: what it holds after some are put into it in turn.
use Rattle.std.proofs.Common.{◌≡◌, ℕ, Bool, true, false, not, ◌&&◌, ◌||◌, List, [], ◌∷◌, ◌++◌, map, length, get_or, drop, ◌+◌, ◌<◌, filter, Bor, refl, sym, ap, ◌∙◌, subst, append_assoc}
use Rattle.std.proofs.lemmas.List.{append-nil, map-append, length-map, at_drop_more}
use Rattle.std.proofs.lemmas.List.Folds.{list_any-append}
use Rattle.std.proofs.lemmas.Slice.Eq.{bytes_eq-Decides}
use Rattle.std.specs.Cmp.Lexicographic.{nat_list_eq_equiv}
use Rattle.std.specs.List.{flat_map, list_any}
use Rattle.py_tree.specs.Syntax.{Statement}
use Rattle.py_tree.specs.Joined.{statement_of}
use Rattle.py_tree.specs.declared.statement.Stmt.{Stmt}
use Rattle.std.specs.Str.{bytes_eq}
use Rattle.indexmap.specs.IndexSet.{insert_key}
use Rattle.symbols.specs.Words.{among}
use Rattle.symbols.specs.Views.{seen}
use Rattle.symbols.specs.Bindings.{first_mentions}
use Rattle.symbols.specs.Names.{with_name, with_names}

-- ---- texts that are pointed to

abbrev pub pointed : List (Bor (List ℕ)) → List (List ℕ)
pointed keys = map (λ key. key.now) keys

pub list_any_pointed : (name : List ℕ) (keys : List (Bor (List ℕ))) → list_any (λ key. bytes_eq name key.now) keys ≡ among name (pointed keys)
list_any_pointed name [] = refl
list_any_pointed name (key ∷ keys) = ap (λ b. bytes_eq name key.now || b) (list_any_pointed name keys)

pub length_pointed : (keys : List (Bor (List ℕ))) → length keys ≡ length (pointed keys)
length_pointed keys = sym (length-map keys (λ key. key.now))

pub flat_map_pointed : (f : List ℕ → List ℕ) (keys : List (Bor (List ℕ))) → flat_map (λ key. f key.now) keys ≡ flat_map f (pointed keys)
flat_map_pointed f [] = refl
flat_map_pointed f (key ∷ keys) = ap (λ more. f key.now ++ more) (flat_map_pointed f keys)

pub pointed_insert_key : (keys : List (Bor (List ℕ))) (key : Bor (List ℕ)) → pointed (insert_key (λ a b. bytes_eq a.now b.now) keys key) ≡ with_name (pointed keys) key.now
pointed_insert_key keys key = by (among key.now (pointed keys)) refl
  where
    by : (b : Bool) → among key.now (pointed keys) ≡ b → pointed (insert_key (λ x y. bytes_eq x.now y.now) keys key) ≡ with_name (pointed keys) key.now
    by true e = rw (list_any_pointed key.now keys, e) refl
    by false e = rw (list_any_pointed key.now keys, e) (map-append (λ x. x.now) keys (key ∷ []))

-- ---- each name once

pub bytes_eq-swap : (a b : List ℕ) → bytes_eq a b ≡ bytes_eq b a
bytes_eq-swap = nat_list_eq_equiv.symm

-- whether a name isn't among these
abbrev pub is_new : List (List ℕ) → List ℕ → Bool
is_new names name = not (among name names)

-- a filter of a filter keeps what passes both
pub filter-filter : {X : Type 0} (p q r : X → Bool) (same : (x : X) → (q x && p x) ≡ r x) → (xs : List X) → filter p (filter q xs) ≡ filter r xs
filter-filter p q r same [] = refl
filter-filter {X} p q r same (x ∷ xs) = by (q x) refl (filter-filter p q r same xs)
  where
    by : (b : Bool) → q x ≡ b → filter p (filter q xs) ≡ filter r xs → filter p (filter q (x ∷ xs)) ≡ filter r (x ∷ xs)
    by true e rest = rw e (let here = same x in let s : p x ≡ r x = rw e at here in cc (s, rest))
    by false e rest = rw e (let here = same x in let s : false ≡ r x = rw e at here in rw (← s) rest)

-- a name among these is no new one, and neither is one equal to it
is_new-among : (names : List (List ℕ)) (name other : List ℕ) → among name names ≡ true → (not (bytes_eq name other) && is_new names other) ≡ is_new names other
is_new-among names name other there = by (bytes_eq name other) refl
  where
    by : (b : Bool) → bytes_eq name other ≡ b → (not (bytes_eq name other) && is_new names other) ≡ is_new names other
    by true e = rw e (sym (ap not (subst (λ n. among n names ≡ true) ((bytes_eq-Decides name other).0 e) there)))
    by false e = rw e refl

-- neither of two is one that isn't the other
not-or : (a b c : Bool) → a ≡ c → (not a && not b) ≡ not (b || (c || false))
not-or true true c e = refl
not-or true false c e = rw (← e) refl
not-or false true c e = refl
not-or false false c e = rw (← e) refl

-- a name is new among these and one more
is_new-push : (names : List (List ℕ)) (name other : List ℕ) → (not (bytes_eq name other) && is_new names other) ≡ is_new (names ++ name ∷ []) other
is_new-push names name other = not-or (bytes_eq name other) (among other names) (bytes_eq other name) (bytes_eq-swap name other) ∙ ap not (sym (list_any-append (bytes_eq other) names (name ∷ [])))

-- what is put behind these is each new name once
pub with_names-is : (more names : List (List ℕ)) → with_names names more ≡ names ++ filter (is_new names) (first_mentions more)
with_names-is [] names = sym (append-nil names)
with_names-is (name ∷ more) names = by (among name names) refl (with_names-is more)
  where
    by : (b : Bool) → among name names ≡ b → ((held : List (List ℕ)) → with_names held more ≡ held ++ filter (is_new held) (first_mentions more)) → with_names names (name ∷ more) ≡ names ++ filter (is_new names) (first_mentions (name ∷ more))
    by true e rest = rw e (rest names ∙ ap (λ new. names ++ new) (sym (filter-filter (is_new names) (λ other. not (bytes_eq name other)) (is_new names) (λ other. is_new-among names name other e) (first_mentions more))))
    by false e rest = rw e (rest (names ++ name ∷ []) ∙ (append_assoc names (name ∷ []) _ ∙ ap (λ new. names ++ name ∷ new) (sym (filter-filter (is_new names) (λ other. not (bytes_eq name other)) (is_new (names ++ name ∷ [])) (is_new-push names name) (first_mentions more)))))

-- every name is new to none
filter-is_new-nil : (names : List (List ℕ)) → filter (is_new []) names ≡ names
filter-is_new-nil [] = refl
filter-is_new-nil (name ∷ names) = ap (λ rest. name ∷ rest) (filter-is_new-nil names)

-- put in from the start, each name stands once, at its first place
pub with_names_first : (names : List (List ℕ)) → with_names [] names ≡ first_mentions names
with_names_first names = with_names-is names [] ∙ filter-is_new-nil (first_mentions names)

-- and those of a second list behind those of a first
pub with_names_append : (names more held : List (List ℕ)) → with_names held (names ++ more) ≡ with_names (with_names held names) more
with_names_append [] more held = refl
with_names_append (name ∷ names) more held = with_names_append names more (with_name held name)

pub with_names_both : (names more : List (List ℕ)) → with_names (with_names [] names) more ≡ first_mentions (names ++ more)
with_names_both names more = sym (with_names_append names more []) ∙ with_names_first (names ++ more)

pub with_names_three : (names more last : List (List ℕ)) → with_names (with_names (with_names [] names) more) last ≡ first_mentions (names ++ (more ++ last))
with_names_three names more last =
    ap (λ held. with_names held last) (sym (with_names_append names more [])) ∙ (sym (with_names_append (names ++ more) last []) ∙ (with_names_first ((names ++ more) ++ last) ∙ ap first_mentions (append_assoc names more last)))

-- ---- one statement on

pub names_step : (f : Statement → List (List ℕ)) (ss : List (Bor Stmt)) (i : ℕ) (s : Bor Stmt) (held new whole : List (List ℕ)) → i < length ss → s ≡ get_or ss i s → new ≡ with_names held (f (statement_of s.now))
    → with_names held (flat_map f (seen (drop i ss))) ≡ whole → with_names new (flat_map f (seen (drop (i + 1) ss))) ≡ whole
names_step f ss i s held new whole lt is added held_whole =
    let rest = flat_map f (seen (drop (i + 1) ss)) in
    let more : with_names held (flat_map f (seen (drop i ss))) ≡ with_names held (f (statement_of (get_or ss i s).now) ++ rest) = at_drop_more (λ xs. with_names held (flat_map f (seen xs))) ss i s lt in
    let here : with_names held (f (statement_of s.now) ++ rest) ≡ with_names held (flat_map f (seen (drop i ss))) = ap (λ (t : Bor Stmt). with_names held (f (statement_of t.now) ++ rest)) is ∙ sym more in
    ap (λ n. with_names n rest) added ∙ (sym (with_names_append (f (statement_of s.now)) rest held) ∙ (here ∙ held_whole))

-- ---- what a set holds

among_with_name : (name : List ℕ) (held : List (List ℕ)) (more : List ℕ) → among name (with_name held more) ≡ (among name held || bytes_eq name more)
among_with_name name held more = by (among more held) refl
  where
    last : (b : Bool) → (b || false) ≡ b
    last true = refl
    last false = refl

    both : (t : Bool) → bytes_eq name more ≡ t → among more held ≡ true → among name held ≡ (among name held || t)
    both true e there = let h : among name held ≡ true = subst (λ n. among n held ≡ true) (sym ((bytes_eq-Decides name more).0 e)) there in rw h refl
    both false e there = sym (last (among name held))

    by : (b : Bool) → among more held ≡ b → among name (with_name held more) ≡ (among name held || bytes_eq name more)
    by true e = rw e (both (bytes_eq name more) refl e)
    by false e = rw e (list_any-append (bytes_eq name) held (more ∷ []) ∙ ap (λ b. among name held || b) (last (bytes_eq name more)))

or-assoc : (a b c : Bool) → ((a || b) || c) ≡ (a || (b || c))
or-assoc true b c = refl
or-assoc false b c = refl

among_with_names : (name : List ℕ) (names held : List (List ℕ)) → among name (with_names held names) ≡ (among name held || among name names)
among_with_names name [] held = sym (none (among name held))
  where
    none : (b : Bool) → (b || false) ≡ b
    none true = refl
    none false = refl
among_with_names name (more ∷ names) held =
    among_with_names name names (with_name held more) ∙ (ap (λ b. b || among name names) (among_with_name name held more) ∙ or-assoc (among name held) (bytes_eq name more) (among name names))

-- whether some slot is among the methods
pub clash_is : (slots methods : List (List ℕ)) → list_any (λ slot. among slot (with_names [] methods)) slots ≡ list_any (λ slot. among slot methods) slots
clash_is slots methods = λ i. list_any (λ slot. among_with_names slot methods [] i) slots
