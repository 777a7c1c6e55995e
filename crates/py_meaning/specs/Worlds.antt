-- The worlds of runs: that in which the body of a module is run over the images of others, the image that it leaves, and the world of an entry.
use Rattle.std.specs.Prelude.{ℕ, suc, false, List, [], ◌∷◌, map, Option, Some, None}
use Rattle.py_tree.specs.Syntax as x
use Rattle.py_tree.specs.Syntax.{Text, Statements}
use Rattle.py_values.specs.declared.value.Home.TheVariants as home
use Rattle.heap_seg.specs.Modes.{Mode}
use Rattle.gradual_types.specs.declared.facts.Facts.{Facts}
use Rattle.gradual_types.specs.Values as v
use Rattle.gradual_types.specs.Values.{Value}
use Rattle.gradual_types.specs.States.{State}
use Rattle.py_meaning.specs.Modules.{World, Loaded}
use Rattle.py_meaning.specs.ModuleFacts.{facts_of}
use Rattle.py_meaning.specs.Outers.{outer_of}

abbrev pub no_facts : Facts
no_facts = record { name = []; is_static = false; signatures = []; classes = []; typed = []; hosts = [] }

abbrev pub given_facts : Option Loaded → Option Facts
given_facts None = None
given_facts (Some l) = Some l.image.facts

-- the host slots of a module, as long as nothing is known of them
abbrev pub host_slots : ℕ → ℕ → List Text → List Value
host_slots m n [] = []
host_slots m n (name ∷ names) = v.Host m n ∷ host_slots m (suc n) names

-- ---- the body of a module: that module is the own one, and no image of it is there before its body has run

-- before its facts are known, which they are by what its imports bind
abbrev pub bare_world : Mode → List (Option Loaded) → ℕ → Statements → World
bare_world mode images number body = record {
  mode = mode;
  home = home.Module number;
  own = record { tree = body; facts = no_facts };
  images = images;
  hosts = [];
}

abbrev pub body_facts : Mode → List (Option Loaded) → Text → ℕ → Statements → Facts
body_facts mode images name number body = facts_of (map given_facts images) (outer_of (bare_world mode images number body) name number body) body

-- of the module of that name and number, over these images
abbrev pub body_world : Mode → List (Option Loaded) → Text → ℕ → Statements → World
body_world mode images name number body = record (bare_world mode images number body) {
  own = record { tree = body; facts = body_facts mode images name number body };
  hosts = host_slots number 0 (body_facts mode images name number body).hosts;
}

-- what is kept of it once it has run
abbrev pub loaded : World → State → Loaded
loaded w s = record { tree = w.own.tree; image = record { facts = w.own.facts; globals = s.globals; objects = s.own; defaults = s.defaults } }

-- ---- a call with no module of its own, as that of an entry: its program is the empty one, and what it makes is the run's

-- under the rules of entries, or under those that let all go
abbrev pub entry_world : Mode → List (Option Loaded) → World
entry_world mode images = record {
  mode = mode;
  home = home.Run;
  own = record { tree = x.end_of_statements; facts = no_facts };
  images = images;
  hosts = [];
}
