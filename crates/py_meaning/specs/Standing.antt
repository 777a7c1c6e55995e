-- When code stands for trees. Code is of any kind of which it is said what its blocks do: `Does c b call s run` says that in the setting c the
-- block b comes from the state s to that run, where each call is answered so. Nothing here names a compiler or an instruction.
use Rattle.std.specs.Prelude.{◌≡◌, ◌≤◌, ℕ, true, List, length, slice_get, Option, Some, None}
use Rattle.std.specs.List.{Contains}
use Rattle.std.specs.Option.{option_map}
use Rattle.py_tree.specs.Syntax.{Statements}
use Rattle.py_values.specs.declared.value.Home.TheVariants as home
use Rattle.gradual_types.specs.declared.facts.Facts.{Facts}
use Rattle.gradual_types.specs.Values.{Value}
use Rattle.gradual_types.specs.States.{State, Variable}
use Rattle.py_meaning.specs.Acts.{Run, Gives, Halts, ◌>>=◌}
use Rattle.py_meaning.specs.Modules.{World, Setting, ModuleText, Loaded, KnownFunction, functions, function_of, is_own, text_of}
use Rattle.py_meaning.specs.Atoms.{Atoms, put_images}
use Rattle.py_meaning.specs.Calls.{Oracle}
use Rattle.py_meaning.specs.Runs.{body_of, body_setting, function_scope, result_of}
use Rattle.py_meaning.specs.Statements.{exec_all}
use Rattle.py_meaning.specs.Modes.{import_mode}
use Rattle.py_meaning.specs.Worlds.{body_facts, given_facts}

-- ---- what a block is to do

abbrev pub Job : Type 0
Job = Oracle → State → Run Value

-- the body of a module, which gives None
abbrev pub body_job : World → ℕ → Statements → Job
body_job w m tree call = exec_all (body_setting w m) call None tree >>= result_of (body_setting w m)

abbrev pub function_setting : World → ℕ → KnownFunction → Setting
function_setting w m f = record { world = w; scope = function_scope m f }

abbrev pub function_job : World → ℕ → KnownFunction → Job
function_job w m f call = exec_all (function_setting w m f) call None (body_of f.function) >>= result_of (function_setting w m f)

-- ---- what is asked of the answers

abbrev pub fuel_left : Run Value → ℕ
fuel_left (Gives s value) = s.fuel
fuel_left (Halts s why) = s.fuel

-- a call makes no fuel
abbrev pub MakesNoFuel : Oracle → Type 0
MakesNoFuel call = (m n : ℕ) (values : List Value) (s : State) → fuel_left (call m n values s) ≤ s.fuel

-- ---- worlds in which code is to do it

abbrev pub given_globals : Option Loaded → Option (List Variable)
given_globals l = option_map (λ l. l.image.globals) l

-- the same facts and globals on these modules
pub record AreAlike (need : List ℕ) (images others : List (Option Loaded)) : Type 0 where
  pub facts : (m : ℕ) → Contains need m → option_map given_facts (slice_get images m) ≡ option_map given_facts (slice_get others m)
  pub globals : (m : ℕ) → Contains need m → option_map given_globals (slice_get images m) ≡ option_map given_globals (slice_get others m)

-- with atoms put in, or as they are
abbrev pub with_atoms : Option Atoms → List (Option Loaded) → List (Option Loaded)
with_atoms None images = images
with_atoms (Some atoms) images = put_images atoms images

-- the module is in the world as it is written, and the images of its need are those given, under any rules
pub record Admits (m : ℕ) (t : ModuleText) (need : List ℕ) (images : List (Option Loaded)) (w : World) : Type 0 where
  pub text : text_of w m ≡ Some t
  pub atoms : Option Atoms
  pub alike : AreAlike need (with_atoms atoms images) w.images

-- ---- standing

-- the facts of a module are those of its trees over these images
abbrev pub AreFactsOf : List (Option Loaded) → ℕ → Statements → Facts → Type 0
AreFactsOf images m tree facts = facts ≡ body_facts (import_mode (home.Module m)) images facts.name m tree

module _ (Block : Type 0) (Does : Setting → Block → Oracle → State → Run Value → Type 0) where
  pub record IsBlockOf (c : Setting) (job : Job) (b : Block) : Type 0 where
    pub does : (call : Oracle) → MakesNoFuel call → (s : State) → Does c b call s (job call s)

  -- the blocks of a module do what its trees mean, over all images that agree with those of its need
  pub record StandsFor (m : ℕ) (t : ModuleText) (need : List ℕ) (images : List (Option Loaded)) (body_block : Block) (blocks : List Block) : Type 0 where
    pub as_many : length blocks ≡ length (functions t.tree)
    -- the body is run where the module is the own one
    pub body : (w : World) → Admits m t need images w → is_own w m ≡ true → IsBlockOf (body_setting w m) (body_job w m t.tree) body_block
    pub each_function : (w : World) → Admits m t need images w → (n : ℕ) (f : KnownFunction) (b : Block) → function_of w m n ≡ Some f → slice_get blocks n ≡ Some b → IsBlockOf (function_setting w m f) (function_job w m f) b

  -- Of an image: its facts are those of its trees, its code stands for them, and what its program carries beside the blocks, as tables of its
  -- classes, is that of its text: `Fits` says when it is, of whatever kind it is. Types come later: no tree has a fault of types, and no place
  -- has a type.
  pub record ImageStands (Tables : Type 0) (Fits : Tables → ModuleText → Type 0) (m : ℕ) (l : Loaded) (need : List ℕ) (images : List (Option Loaded)) (body_block : Block) (blocks : List Block) (tables : Tables) : Type 0 where
    pub facts : AreFactsOf images m l.tree l.image.facts
    pub code : StandsFor m (record { tree = l.tree; facts = l.image.facts }) need images body_block blocks
    pub carried : Fits tables (record { tree = l.tree; facts = l.image.facts })
