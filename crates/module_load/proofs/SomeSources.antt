-- Each folder has sources.
use Rattle.std.proofs.Common.{◌≡◌, ℕ, zero, suc, true, List, [], ◌∷◌, Some, slice_get, chars, refl, sym, ap, subst, ◌∙◌}
use Rattle.std.proofs.lemmas.Bool.{and_from}
use Rattle.py_tree.specs.Syntax.{Statements}
use Rattle.py_tree.specs.Lawful.{all_stand, lawful, module_level}
use Rattle.py_tree.specs.Literals.{statements_fit}
use Rattle.py_tree.proofs.Inverse.{module_tree}
use Rattle.py_lexer.specs.EveryText.{HasSome}
use Rattle.py_lexer.proofs.Fitting.{lexed_fit}
use Rattle.py_blocks.proofs.Standing.{module_stands, module_fits}
use Rattle.module_load.specs.declared.source.Source.{Source}
use Rattle.module_load.specs.declared.source.SourceState.TheVariants as source
use Rattle.module_load.specs.Sources.{State, plain, faulty, tree}
use Rattle.module_load.specs.Preparing.{Prepares, a_module}
use Rattle.module_load.specs.Folders.{File, graph_of, IsSource, AreSources}
use Rattle.module_load.specs.EveryFolder.{EveryFolder}
use Rattle.module_load.proofs.Folders.{graph_length}
use Rattle.module_load.proofs.Phases.{rows_fit}
use Rattle.module_load.proofs.SomeState.{some_state}

-- the module that bytes prepare to is lawful
tree_lawful : {bytes : List ℕ} {body : Statements} → Prepares bytes (tree body) → lawful body ≡ true
tree_lawful (a_module {rows = rows} {body = body} small marker lexed formed built shallow marked) =
    and_from (all_stand module_level body) (statements_fit body) (module_stands rows body built) (module_fits rows body built (rows_fit formed (lexed_fit lexed)))

-- a state is that of a source
source_in : (file : File) (s : State) → Prepares file.1 s → (made : Source) × IsSource file made
source_in file plain d = (record { name = chars file.0; state = source.Plain; is_lawful = refl }, record { name = refl; state = d })
source_in file (faulty f) d = (record { name = chars file.0; state = source.Faulty f; is_lawful = refl }, record { name = refl; state = d })
source_in file (tree body) d =
    let made = module_tree body in (
      record { name = chars file.0; state = source.Tree made.0; is_lawful = ap lawful made.1 ∙ tree_lawful d },
      record { name = refl; state = subst (λ (b : Statements). Prepares file.1 (tree b)) (sym made.1) d },
    )

some_source : (file : File) → HasSome (IsSource file)
some_source file none = some_state file.1 (λ s d. let made = source_in file s d in none made.0 made.1)

no_sources : AreSources [] []
no_sources = record { as_many = refl; each = λ k file source p q. absurd cc }

one_before : (f : File) (files : List File) (s : Source) (list : List Source) → IsSource f s → AreSources files list → AreSources (f ∷ files) (s ∷ list)
one_before f files s list is are = record { as_many = ap suc are.as_many; each = at } where
  at : (k : ℕ) (file : File) (source : Source) → slice_get (f ∷ files) k ≡ Some file → slice_get (s ∷ list) k ≡ Some source → IsSource file source
  at zero file source p q =
      let same : f ≡ file = cc in
      let made : s ≡ source = cc in
      subst (λ (x : File). IsSource x source) same (subst (λ (x : Source). IsSource f x) made is)
  at (suc k) file source p q = are.each k file source p q

some_list : (files : List File) → HasSome (AreSources files)
some_list [] none = none [] no_sources
some_list (f ∷ files) none = some_source f (λ s is. some_list files (λ list are. none (s ∷ list) (one_before f files s list is are)))

pub some_sources : EveryFolder
some_sources files none = some_list files (λ list are. none (record { list = list; graph = graph_of list; each = sym (graph_length list) }) (record { list = are; graph = refl }))
