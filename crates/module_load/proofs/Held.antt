-- Names that are bound to modules.
use Rattle.std.proofs.Common.{◌≡◌, ℕ, ◌+◌, ◌<◌, ◌||◌, Bool, true, false, List, [], ◌∷◌, ◌++◌, if◌then◌else◌, drop, length, get_or, refl, sym, ap, subst, ◌∙◌}
use Rattle.std.specs.Str.{bytes_eq}
use Rattle.std.proofs.lemmas.List.{drop_more}
use Rattle.std.proofs.lemmas.List.Folds.{list_any-append}
use Rattle.std.proofs.lemmas.Slice.Eq.{bytes_eq-Decides}
use Rattle.py_tree.specs.Syntax.{Text}
use Rattle.symbols.specs.Names.{with_name}
use Rattle.symbols.specs.Words.{among}
use Rattle.symbols.specs.declared.outer.OuterBinding.{OuterBinding}
use Rattle.module_load.specs.Views.{with_module}
use Rattle.module_load.specs.RightDecisions.{held, is_module, module_names}
use Rattle.module_load.specs.declared.globals.ModuleGlobal.{ModuleGlobal}

or_false : (b : Bool) → (b || false) ≡ b
or_false true = refl
or_false false = refl

-- a name that is there, or is this one
among_push : (names : List Text) (new name : Text) → among name (names ++ new ∷ []) ≡ (among name names || bytes_eq name new)
among_push names new name = list_any-append (bytes_eq name) names (new ∷ []) ∙ ap (λ (b : Bool). among name names || b) (or_false (bytes_eq name new))

pub among_with : (names : List Text) (new name : Text) → among name (with_name names new) ≡ (among name names || bytes_eq name new)
among_with names new name = by (among new names) refl
  where
    known : (b : Bool) → bytes_eq name new ≡ b → among new names ≡ true → among name names ≡ (among name names || b)
    known true e there = let n : among name names ≡ true = subst (λ (x : Text). among x names ≡ true) (sym ((bytes_eq-Decides name new).0 e)) there in rw n refl
    known false e there = sym (or_false (among name names))

    by : (t : Bool) → among new names ≡ t → among name (if t then names else names ++ new ∷ []) ≡ (among name names || bytes_eq name new)
    by true there = known (bytes_eq name new) refl there
    by false there = among_push names new name

-- ---- one binding on

or_assoc : (a b c : Bool) → ((a || b) || c) ≡ (a || (b || c))
or_assoc true b c = refl
or_assoc false b c = refl

-- `names` and what is left of the bindings
abbrev pub Left : List OuterBinding → List Text → List OuterBinding → Type 0
Left bindings names left = (name : Text) → (among name names || among name (module_names left)) ≡ among name (module_names bindings)

pub at_binding : (bindings : List OuterBinding) (names : List Text) (i : ℕ) (b : OuterBinding) → i < length bindings → b ≡ get_or bindings i b → Left bindings names (drop i bindings) → Left bindings names (b ∷ drop (i + 1) bindings)
at_binding bindings names i b within is h = subst (Left bindings names) (drop_more bindings i b within ∙ ap (λ (x : OuterBinding). x ∷ drop (i + 1) bindings) (sym is)) h

names_with : (b : OuterBinding) (left : List OuterBinding) → is_module b.kind ≡ true → module_names (b ∷ left) ≡ b.name ∷ module_names left
names_with b left e = rw e refl

names_without : (b : OuterBinding) (left : List OuterBinding) → is_module b.kind ≡ false → module_names (b ∷ left) ≡ module_names left
names_without b left e = rw e refl

put : (bindings left : List OuterBinding) (names : List Text) (b : OuterBinding) → is_module b.kind ≡ true → Left bindings names (b ∷ left) → Left bindings (with_name names b.name) left
put bindings left names b it h name =
    let others = among name (module_names left) in
    ap (λ (t : Bool). t || others) (among_with names b.name name) ∙ or_assoc (among name names) (bytes_eq name b.name) others ∙ ap (λ (ns : List Text). among name names || among name ns) (sym (names_with b left it)) ∙ h name

passed : (bindings left : List OuterBinding) (names : List Text) (b : OuterBinding) → is_module b.kind ≡ false → Left bindings names (b ∷ left) → Left bindings names left
passed bindings left names b it h name = ap (λ (ns : List Text). among name names || among name ns) (sym (names_without b left it)) ∙ h name

pub further : (bindings left : List OuterBinding) (names new : List Text) (b : OuterBinding) → new ≡ with_module names b → Left bindings names (b ∷ left) → Left bindings new left
further bindings left names new b e h = subst (λ (ns : List Text). Left bindings ns left) (sym e) (by (is_module b.kind) refl)
  where
    by : (t : Bool) → is_module b.kind ≡ t → Left bindings (if t then with_name names b.name else names) left
    by true it = put bindings left names b it h
    by false it = passed bindings left names b it h

-- ---- the same names

pub held_same : (a b : List Text) (names : List Text) → ((name : Text) → among name a ≡ among name b) → held a names ≡ held b names
held_same a b [] h = refl
held_same a b (name ∷ names) h =
    let here : List ModuleGlobal → List ModuleGlobal = λ rest. record { name = name; holds_module = among name a } ∷ rest in
    ap here (held_same a b names h) ∙ ap (λ (t : Bool). record { name = name; holds_module = t } ∷ held b names) (h name)
