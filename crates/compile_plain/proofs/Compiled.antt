-- What was compiled with the tables of a module stands for its trees, whatever it was resolved against.
use Rattle.std.proofs.Common.{◌≡◌, ◌∙◌, ℕ, List, map, Option, Some, None, sym, ap, subst}
use Rattle.py_tree.specs.Syntax.{Text, Statements}
use Rattle.symbols.specs.Bindings.{locals}
use Rattle.symbols.specs.declared.outer.Outer.{Outer}
use Rattle.py_meaning.specs.Modules.{FunctionIn, functions}
use Rattle.py_meaning.specs.Runs.{body_of}
use Rattle.bytecode.specs.declared.instr.Cell.{Cell}
use Rattle.compile_plain.specs.Names.{Names}
use Rattle.compile_plain.specs.Standing.{StandsIn, module_code, function_code}
use Rattle.compile_plain.specs.Statements.{body_code}
use Rattle.compile_plain.specs.Tables.{codes_of, own_names}
use Rattle.compile_plain.proofs.ClassNames.{class_names_are}
use Rattle.compile_plain.proofs.Stands.{code_stands}

abbrev with_classes : Statements → Option ℕ → Option (List Text) → List Text → Names
with_classes tree class names classes = record { tree = tree; classes = classes; class = class; locals = names }

pub module_is : (o : Outer) (tree : Statements) → module_code o tree ≡ body_code (own_names tree) tree
module_is o tree = ap (λ ns. body_code (with_classes tree None None ns) tree) (class_names_are o tree)

pub functions_are : (o : Outer) (tree : Statements) → map (function_code o tree) (functions tree) ≡ codes_of tree (functions tree)
functions_are o tree =
    ap (λ ns. map (λ (f : FunctionIn). body_code (with_classes tree f.class (Some (locals f.function)) ns) (body_of f.function)) (functions tree)) (class_names_are o tree)

pub compiled : (o : Outer) (tree : Statements) (body : List Cell) (blocks : List (List Cell)) → body ≡ body_code (own_names tree) tree → blocks ≡ codes_of tree (functions tree) → StandsIn o tree body blocks
compiled o tree body blocks b bs =
    subst (λ (c : List Cell). StandsIn o tree c blocks) (module_is o tree ∙ sym b)
    (subst (λ (cs : List (List Cell)). StandsIn o tree (module_code o tree) cs) (functions_are o tree ∙ sym bs) (code_stands o tree))
