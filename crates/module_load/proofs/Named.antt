-- The faults of imports and of names have codes that their numbers determine.
use Rattle.std.proofs.Common.{◌≡◌, ℕ, ◌==◌, Bool, true, false, List, [], ◌∷◌, ◌++◌, if◌then◌else◌, codes, Option, Some, None, is_some, inl, inr, refl, sym, ap, ◌∙◌, arith}
use Rattle.std.specs.List.{flat_map}
use Rattle.std.specs.Str.{bytes_eq}
use Rattle.py_tree.specs.Syntax as x
use Rattle.py_tree.specs.Syntax.{Text, Kind, Statement, Statements}
use Rattle.py_tree.specs.TopPart.{top_imports}
use Rattle.py_tree.specs.Codes.{letter_of, number_of}
use Rattle.py_tree.specs.declared.code.Code.{Code}
use Rattle.py_tree.specs.declared.code.Code.TheVariants.{BadEncoding, FileTooLarge, TabIndentation, BadToken, NoForm, BadIndentation, MisplacedForm, TooDeep, IntegerTooLarge, MisplacedMarker, NotBuilt, BadBase, MemberClash, NoSuchModule, RefusedImport, ImportCycle, NoSuchName, BoundTwice, PlainImport, LateImport, SpecialName, TypeMismatch, UnboundArguments, NoSuchMember, BadOverride, PrimitiveMisuse, UnknownType, Effect, ForeignWrite, UnknownValue, UncaughtException, FuelSpent}
use Rattle.py_tree.specs.declared.fault.Fault.{Fault}
use Rattle.py_tree.specs.declared.statement.Import.{Import}
use Rattle.symbols.specs.Faults.{In, IsFirst, bad_bases, bound_twice, coded, faults, late_imports, member_clashes}
use Rattle.symbols.specs.ModuleKinds.{module_kind}
use Rattle.symbols.specs.SpecialNames.{module_context, special_lines}
use Rattle.symbols.specs.Words.{among, typing_name}
use Rattle.symbols.specs.declared.outer.Outer.{Outer}
use Rattle.symbols.specs.declared.resolved.ModuleKind.{ModuleKind}
use Rattle.symbols.proofs.FirstOnes.{first_same}
use Rattle.module_load.specs.declared.verdict.Verdict.{Verdict}
use Rattle.module_load.specs.declared.verdict.Verdict.TheVariants as verdict
use Rattle.module_load.specs.Decisions.{Decisions, global_named}
use Rattle.module_load.specs.Imports.{import_faults, is_annotations, is_own_static, members_faults, module_faults, modules_faults, reserved, statement_faults, taking_faults, unless}
use Rattle.module_load.specs.Markers.{is_marker_alone}
use Rattle.module_load.specs.Preparing.{fault}
use Rattle.module_load.proofs.FirstOnes.{in_both}

-- ---- codes of imports and names

-- the code of names with that number
abbrev numbered : ℕ → Code
numbered n =
    if n == 10 then BadBase
    else (if n == 11 then MemberClash
    else (if n == 12 then NoSuchModule
    else (if n == 13 then RefusedImport
    else (if n == 14 then ImportCycle
    else (if n == 15 then NoSuchName
    else (if n == 16 then BoundTwice
    else (if n == 17 then PlainImport
    else (if n == 18 then LateImport
    else SpecialName))))))))

-- the letter of such codes
abbrev letter : ℕ
letter = 78

of_its_number : (c : Code) → letter_of c ≡ letter → c ≡ numbered (number_of c)
of_its_number BadEncoding e = absurd (omega (arith, e))
of_its_number FileTooLarge e = absurd (omega (arith, e))
of_its_number TabIndentation e = absurd (omega (arith, e))
of_its_number BadToken e = absurd (omega (arith, e))
of_its_number NoForm e = absurd (omega (arith, e))
of_its_number BadIndentation e = absurd (omega (arith, e))
of_its_number MisplacedForm e = absurd (omega (arith, e))
of_its_number TooDeep e = absurd (omega (arith, e))
of_its_number IntegerTooLarge e = absurd (omega (arith, e))
of_its_number MisplacedMarker e = absurd (omega (arith, e))
of_its_number NotBuilt e = absurd (omega (arith, e))
of_its_number BadBase e = refl
of_its_number MemberClash e = refl
of_its_number NoSuchModule e = refl
of_its_number RefusedImport e = refl
of_its_number ImportCycle e = refl
of_its_number NoSuchName e = refl
of_its_number BoundTwice e = refl
of_its_number PlainImport e = refl
of_its_number LateImport e = refl
of_its_number SpecialName e = refl
of_its_number TypeMismatch e = absurd (omega (arith, e))
of_its_number UnboundArguments e = absurd (omega (arith, e))
of_its_number NoSuchMember e = absurd (omega (arith, e))
of_its_number BadOverride e = absurd (omega (arith, e))
of_its_number PrimitiveMisuse e = absurd (omega (arith, e))
of_its_number UnknownType e = absurd (omega (arith, e))
of_its_number Effect e = absurd (omega (arith, e))
of_its_number ForeignWrite e = absurd (omega (arith, e))
of_its_number UnknownValue e = absurd (omega (arith, e))
of_its_number UncaughtException e = absurd (omega (arith, e))
of_its_number FuelSpent e = absurd (omega (arith, e))

one_code : (c d : Code) → letter_of c ≡ letter → letter_of d ≡ letter → number_of c ≡ number_of d → c ≡ d
one_code c d ec ed e = of_its_number c ec ∙ ap numbered e ∙ sym (of_its_number d ed)

-- ---- lists of faults with such codes

abbrev pub AreNamed : List Fault → Type 0
AreNamed fs = (f : Fault) → In f fs → letter_of f.code ≡ letter

none_named : AreNamed []
none_named f i = absurd i

one_named : (line : ℕ) (code : Code) → letter_of code ≡ letter → AreNamed (fault line code ∷ [])
one_named line code e f i = elim i [ inl is ↦ ap (λ (g : Fault). letter_of g.code) is ∙ e | inr gone ↦ absurd gone ]

both_named : (fs gs : List Fault) → AreNamed fs → AreNamed gs → AreNamed (fs ++ gs)
both_named fs gs a b f i = elim (in_both f fs gs i) [ inl there ↦ a f there | inr there ↦ b f there ]

if_named : (t : Bool) (fs gs : List Fault) → AreNamed fs → AreNamed gs → AreNamed (if t then fs else gs)
if_named true fs gs a b = a
if_named false fs gs a b = b

unless_named : (t : Bool) (line : ℕ) (code : Code) → letter_of code ≡ letter → AreNamed (unless t (fault line code))
unless_named true line code e = none_named
unless_named false line code e = one_named line code e

all_named : {X : Type 0} (at : X → List Fault) (xs : List X) → ((x : X) → AreNamed (at x)) → AreNamed (flat_map at xs)
all_named at [] h = none_named
all_named at (x ∷ xs) h = both_named (at x) (flat_map at xs) (h x) (all_named at xs h)

coded_named : (code : Code) (lines : List ℕ) → letter_of code ≡ letter → AreNamed (coded code lines)
coded_named code [] e f i = absurd i
coded_named code (line ∷ lines) e f i = elim i [ inl is ↦ ap (λ (g : Fault). letter_of g.code) is ∙ e | inr there ↦ coded_named code lines e f there ]

-- ---- those of names

pub names_named : (o : Outer) (body : Statements) → AreNamed (faults o body)
names_named o body =
    let special = coded_named SpecialName (special_lines (module_context body) body) refl in
    let late = both_named (coded LateImport (late_imports body)) _ (coded_named LateImport (late_imports body) refl) special in
    let twice = both_named (coded BoundTwice (bound_twice body)) _ (coded_named BoundTwice (bound_twice body) refl) late in
    let clashes = both_named (coded MemberClash (member_clashes o body)) _ (coded_named MemberClash (member_clashes o body) refl) twice in
    both_named (coded BadBase (bad_bases o body)) _ (coded_named BadBase (bad_bases o body) refl) clashes

-- ---- those of imports

taking_named : (line : ℕ) (is : List Import) (found : Option Verdict) → AreNamed (taking_faults line is found)
taking_named line is None = one_named line NoSuchModule refl
taking_named line is (Some (verdict.Published globals)) = all_named (λ (i : Import). unless (is_some (global_named i.name globals)) (fault line NoSuchName)) is (λ i. unless_named (is_some (global_named i.name globals)) line NoSuchName refl)
taking_named line is (Some (verdict.Refused f)) = one_named line RefusedImport refl
taking_named line is (Some verdict.Plain) = one_named line PlainImport refl

module_named : (known : Decisions) (line : ℕ) (name : Text) → AreNamed (module_faults known line name)
module_named known line name = if_named (among name reserved) _ _ (one_named line NoSuchModule refl) (taking_named line [] (known name))

modules_named : (known : Decisions) (line : ℕ) (is : List Import) → AreNamed (modules_faults known line is)
modules_named known line is = if_named (is_marker_alone is) _ _ none_named (all_named (λ (i : Import). module_faults known line i.name) is (λ i. module_named known line i.name))

members_named : (known : Decisions) (importing : ModuleKind) (line : ℕ) (from : Text) (is : List Import) → AreNamed (members_faults known importing line from is)
members_named known importing line from is =
    let own = if_named (bytes_eq from (codes "__strict__")) _ _ (one_named line NoSuchModule refl) (taking_named line is (known from)) in
    let host = if_named (bytes_eq from (codes "__host__")) _ _ none_named own in
    let static = if_named (bytes_eq from (codes "__static__")) _ _ (all_named (λ (i : Import). unless (is_own_static importing i.name) (fault line NoSuchName)) is (λ i. unless_named (is_own_static importing i.name) line NoSuchName refl)) host in
    let typing = if_named (bytes_eq from (codes "typing")) _ _ (all_named (λ (i : Import). unless (is_some (typing_name i.name)) (fault line NoSuchName)) is (λ i. unless_named (is_some (typing_name i.name)) line NoSuchName refl)) static in
    if_named (bytes_eq from (codes "__future__")) _ _ (unless_named (is_annotations is) line NoSuchModule refl) typing

statement_named : (known : Decisions) (importing : ModuleKind) (s : Statement) → AreNamed (statement_faults known importing s)
statement_named known importing (x.On line (x.Imports is)) = modules_named known line is
statement_named known importing (x.On line (x.From from is)) = members_named known importing line from is
statement_named known importing (x.On line _) = none_named

pub imports_named : (known : Decisions) (body : Statements) → AreNamed (import_faults known body)
imports_named known body = all_named (statement_faults known (module_kind body)) (top_imports body) (statement_named known (module_kind body))

-- ---- there is one first

pub one_first : (fs : List Fault) (f g : Fault) → AreNamed fs → IsFirst fs f → IsFirst fs g → f ≡ g
one_first fs f g named a b = by f g (first_same fs g f b a) (named f a.is_one) (named g b.is_one)
  where
    by : (f g : Fault) → (f.line ≡ g.line) × (number_of f.code ≡ number_of g.code) → letter_of f.code ≡ letter → letter_of g.code ≡ letter → f ≡ g
    by f g same ef eg =
        let code : f.code ≡ g.code = one_code f.code g.code ef eg same.1 in
        ap (λ (line : ℕ). fault line f.code) same.0 ∙ ap (λ (c : Code). fault g.line c) code
