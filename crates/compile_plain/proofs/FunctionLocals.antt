-- The locals of a module's functions, by their numbers.
use Rattle.std.proofs.Common.{◌≡◌, ◌∙◌, ◌<◌, ℕ, suc, List, [], ◌∷◌, ◌++◌, map, length, Some, refl, sym, ap, arith}
use Rattle.std.specs.Prelude.{slice_get}
use Rattle.std.specs.Option.{option_map}
use Rattle.std.specs.List.{flat_map}
use Rattle.std.proofs.lemmas.List.{length-map, map-append}
use Rattle.std.proofs.lemmas.Option.{slice_get-map}
use Rattle.std.proofs.lemmas.Simd.{map-map}
use Rattle.py_tree.specs.Syntax as x
use Rattle.py_tree.specs.Syntax.{Text, Statement, Statements}
use Rattle.py_tree.specs.Order.{of_scope}
use Rattle.py_tree.specs.Joined.{function_of}
use Rattle.symbols.specs.Bindings.{locals}
use Rattle.symbols.specs.Functions as known
use Rattle.symbols.specs.Functions.{FunctionAt, function_locals}
use Rattle.symbols.specs.declared.resolved.FunctionLocals.{FunctionLocals}
use Rattle.py_meaning.specs.Modules.{FunctionIn, method_in, methods_in, functions, functions_from}
use Rattle.compile_plain.specs.Tables.{function_in}
use Rattle.compile_plain.specs.declared.functions.FunctionIn.{FunctionIn as Known}

abbrev at : List FunctionAt → List (List Text)
at fs = map (λ f. locals f.function) fs

abbrev inside : List FunctionIn → List (List Text)
inside fs = map (λ f. locals f.function) fs

of_methods : (n : ℕ) (ss : List Statement) → at (flat_map known.def_of ss) ≡ inside (flat_map (method_in n) ss)
of_methods n [] = refl
of_methods n (x.On line (x.Def f) ∷ rest) = ap (λ ls. locals f ∷ ls) (of_methods n rest)
of_methods n (x.On line (x.Class c) ∷ rest) = of_methods n rest
of_methods n (x.On line x.Pass ∷ rest) = of_methods n rest
of_methods n (x.On line x.Break ∷ rest) = of_methods n rest
of_methods n (x.On line x.Continue ∷ rest) = of_methods n rest
of_methods n (x.On line (x.Return e) ∷ rest) = of_methods n rest
of_methods n (x.On line (x.Raise e) ∷ rest) = of_methods n rest
of_methods n (x.On line (x.Imports is) ∷ rest) = of_methods n rest
of_methods n (x.On line (x.From from is) ∷ rest) = of_methods n rest
of_methods n (x.On line (x.Eval e) ∷ rest) = of_methods n rest
of_methods n (x.On line (x.Assign t e) ∷ rest) = of_methods n rest
of_methods n (x.On line (x.Annotate t kind e) ∷ rest) = of_methods n rest
of_methods n (x.On line (x.Augment t operator e) ∷ rest) = of_methods n rest
of_methods n (x.On line (x.If tested orelse) ∷ rest) = of_methods n rest
of_methods n (x.On line (x.While test body) ∷ rest) = of_methods n rest
of_methods n (x.On line (x.For t e body) ∷ rest) = of_methods n rest
of_methods n (x.On line (x.Try body clauses) ∷ rest) = of_methods n rest

of_class : (n : ℕ) (c : x.ClassDef) → at (known.methods_in c) ≡ inside (methods_in n c)
of_class n (x.Classed name base body) = of_methods n (of_scope body)

listed : (n : ℕ) (ss : List Statement) → at (flat_map known.functions_of ss) ≡ inside (functions_from n ss)
listed n [] = refl
listed n (x.On line (x.Def f) ∷ rest) = ap (λ ls. locals f ∷ ls) (listed n rest)
listed n (x.On line (x.Class c) ∷ rest) =
    map-append (λ f. locals f.function) (known.methods_in c) (flat_map known.functions_of rest)
    ∙ (ap (λ ls. ls ++ at (flat_map known.functions_of rest)) (of_class n c)
    ∙ (ap (λ ls. inside (methods_in n c) ++ ls) (listed (suc n) rest)
    ∙ sym (map-append (λ f. locals f.function) (methods_in n c) (functions_from (suc n) rest))))
listed n (x.On line x.Pass ∷ rest) = listed n rest
listed n (x.On line x.Break ∷ rest) = listed n rest
listed n (x.On line x.Continue ∷ rest) = listed n rest
listed n (x.On line (x.Return e) ∷ rest) = listed n rest
listed n (x.On line (x.Raise e) ∷ rest) = listed n rest
listed n (x.On line (x.Imports is) ∷ rest) = listed n rest
listed n (x.On line (x.From from is) ∷ rest) = listed n rest
listed n (x.On line (x.Eval e) ∷ rest) = listed n rest
listed n (x.On line (x.Assign t e) ∷ rest) = listed n rest
listed n (x.On line (x.Annotate t kind e) ∷ rest) = listed n rest
listed n (x.On line (x.Augment t operator e) ∷ rest) = listed n rest
listed n (x.On line (x.If tested orelse) ∷ rest) = listed n rest
listed n (x.On line (x.While test body) ∷ rest) = listed n rest
listed n (x.On line (x.For t e body) ∷ rest) = listed n rest
listed n (x.On line (x.Try body clauses) ∷ rest) = listed n rest

pub locals_are : (tree : Statements) → map (λ (l : FunctionLocals). l.locals) (function_locals tree) ≡ map (λ (f : FunctionIn). locals f.function) (functions tree)
locals_are tree = map-map (λ (l : FunctionLocals). l.locals) (λ (f : FunctionAt). record { line = f.line; locals = locals f.function }) (known.functions tree) ∙ listed 0 (of_scope tree)

counts_are : (tree : Statements) (fs : List Known) (ls : List FunctionLocals) → map function_in fs ≡ functions tree → ls ≡ function_locals tree → length ls ≡ length fs
counts_are tree fs ls is known =
    ap length known
    ∙ (sym (length-map (function_locals tree) (λ (l : FunctionLocals). l.locals))
    ∙ (ap length (locals_are tree)
    ∙ (length-map (functions tree) (λ (f : FunctionIn). locals f.function)
    ∙ (sym (ap length is) ∙ length-map fs function_in))))

-- the function at a place has locals there
pub has_locals : (tree : Statements) (fs : List Known) (ls : List FunctionLocals) (n : ℕ) → map function_in fs ≡ functions tree → ls ≡ function_locals tree → n < length fs → n < length ls
has_locals tree fs ls n is known within = omega (arith, within, counts_are tree fs ls is known)

-- and they are its own
pub locals_at : (tree : Statements) (fs : List Known) (ls : List FunctionLocals) (n : ℕ) (f : Known) (l : FunctionLocals)
    → map function_in fs ≡ functions tree → ls ≡ function_locals tree → slice_get fs n ≡ Some f → slice_get ls n ≡ Some l → l.locals ≡ locals (function_of f.function.now)
locals_at tree fs ls n f l is known at_f at_l =
    let all : map (λ (l : FunctionLocals). l.locals) ls ≡ map (λ (f : FunctionIn). locals f.function) (map function_in fs) =
    ap (map (λ (l : FunctionLocals). l.locals)) known ∙ (locals_are tree ∙ sym (ap (map (λ (f : FunctionIn). locals f.function)) is))
    in
    let left : slice_get (map (λ (l : FunctionLocals). l.locals) ls) n ≡ Some l.locals = slice_get-map (λ (l : FunctionLocals). l.locals) ls n ∙ ap (option_map (λ (l : FunctionLocals). l.locals)) at_l in
    let middle : slice_get (map function_in fs) n ≡ Some (function_in f) = slice_get-map function_in fs n ∙ ap (option_map function_in) at_f in
    let right : slice_get (map (λ (f : FunctionIn). locals f.function) (map function_in fs)) n ≡ Some (locals (function_of f.function.now)) =
    slice_get-map (λ (f : FunctionIn). locals f.function) (map function_in fs) n ∙ ap (option_map (λ (f : FunctionIn). locals f.function)) middle
    in
    let same : Some l.locals ≡ Some (locals (function_of f.function.now)) = sym left ∙ (ap (λ ns. slice_get ns n) all ∙ right) in
    cc
