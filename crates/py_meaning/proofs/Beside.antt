-- What stands over some images stands over others that are alike on its need.
use Rattle.std.proofs.Common.{◌≡◌, ℕ, List, Option, Some, None, sym, ap, ◌∙◌, refl, map}
use Rattle.std.specs.Prelude.{slice_get}
use Rattle.std.specs.Option.{option_map}
use Rattle.std.proofs.lemmas.Option.{slice_get-map}
use Rattle.gradual_types.specs.Values.{Value}
use Rattle.gradual_types.specs.States.{State, Variable}
use Rattle.py_meaning.specs.Acts.{Run}
use Rattle.py_meaning.specs.Atoms.{Atoms, put_loaded, put_variable}
use Rattle.py_meaning.specs.Calls.{Oracle}
use Rattle.py_meaning.specs.Modules.{World, Setting, ModuleText, Loaded}
use Rattle.py_meaning.specs.Standing.{AreAlike, Admits, StandsFor, given_globals, with_atoms}
use Rattle.py_meaning.specs.Worlds.{given_facts}

-- atoms put in change no facts
facts_put : (atoms : Atoms) (l : Option (Option Loaded)) → option_map given_facts (option_map (option_map (put_loaded atoms)) l) ≡ option_map given_facts l
facts_put atoms None = refl
facts_put atoms (Some None) = refl
facts_put atoms (Some (Some l)) = refl

-- and the globals alike
abbrev put_given : Atoms → Option (Option (List Variable)) → Option (Option (List Variable))
put_given atoms xs = option_map (option_map (map (put_variable atoms))) xs

globals_put : (atoms : Atoms) (l : Option (Option Loaded)) → option_map given_globals (option_map (option_map (put_loaded atoms)) l) ≡ put_given atoms (option_map given_globals l)
globals_put atoms None = refl
globals_put atoms (Some None) = refl
globals_put atoms (Some (Some l)) = refl

alike_with_atoms : (atoms : Option Atoms) (need : List ℕ) (images others : List (Option Loaded)) → AreAlike need images others → AreAlike need (with_atoms atoms images) (with_atoms atoms others)
alike_with_atoms None need images others h = h
alike_with_atoms (Some atoms) need images others h = record {
  facts = λ m in_need.
      ap (option_map given_facts) (slice_get-map (option_map (put_loaded atoms)) images m) ∙ facts_put atoms (slice_get images m) ∙ h.facts m in_need
      ∙ sym (ap (option_map given_facts) (slice_get-map (option_map (put_loaded atoms)) others m) ∙ facts_put atoms (slice_get others m));
  globals = λ m in_need.
      ap (option_map given_globals) (slice_get-map (option_map (put_loaded atoms)) images m) ∙ globals_put atoms (slice_get images m) ∙ ap (put_given atoms) (h.globals m in_need)
      ∙ sym (ap (option_map given_globals) (slice_get-map (option_map (put_loaded atoms)) others m) ∙ globals_put atoms (slice_get others m));
}

chained : (need : List ℕ) (a b c : List (Option Loaded)) → AreAlike need a b → AreAlike need b c → AreAlike need a c
chained need a b c g h = record { facts = λ m i. g.facts m i ∙ h.facts m i; globals = λ m i. g.globals m i ∙ h.globals m i }

admits : (m : ℕ) (t : ModuleText) (need : List ℕ) (images others : List (Option Loaded)) (w : World) → AreAlike need images others → Admits m t need others w → Admits m t need images w
admits m t need images others w h a = record { text = a.text; atoms = a.atoms; alike = chained need _ _ _ (alike_with_atoms a.atoms need images others h) a.alike }

pub stands_beside : (Block : Type 0) (Does : Setting → Block → Oracle → State → Run Value → Type 0) (m : ℕ) (t : ModuleText) (need : List ℕ) (images others : List (Option Loaded)) (b : Block) (bs : List Block)
    → AreAlike need images others → StandsFor Block Does m t need images b bs → StandsFor Block Does m t need others b bs
stands_beside Block Does m t need images others b bs h s = record {
  as_many = s.as_many;
  body = λ w a. s.body w (admits m t need images others w h a);
  each_function = λ w a. s.each_function w (admits m t need images others w h a);
}
