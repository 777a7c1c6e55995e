-- Atoms put in for host values: in values, objects, states, images and worlds.
use Rattle.std.specs.Prelude.{ℕ, List, map, Option}
use Rattle.std.specs.Option.{option_map}
use Rattle.key_map.specs.Entries.{Entry}
use Rattle.gradual_types.specs.Values as v
use Rattle.gradual_types.specs.Values.{Value, Values, Content}
use Rattle.gradual_types.specs.States.{State, Variable, Default}
use Rattle.gradual_types.specs.Images.{Atom, atom_value}
use Rattle.py_meaning.specs.Modules.{World, Loaded}

-- which atom a host slot is given, by the number of its module and its own
abbrev pub Atoms : Type 0
Atoms = ℕ → ℕ → Atom

abbrev mutual
  pub put : Atoms → Value → Value
  put atoms (v.Host m n) = atom_value (atoms m n)
  put atoms (v.Tuple vs) = v.Tuple (put_all atoms vs)
  put atoms (v.Bound receiver method) = v.Bound (put atoms receiver) (put atoms method)
  put atoms other = other

  pub put_all : Atoms → Values → Values
  put_all atoms v.end_of_values = v.end_of_values
  put_all atoms (v.more_values x xs) = v.more_values (put atoms x) (put_all atoms xs)

abbrev pub put_entry : Atoms → Entry Value Value → Entry Value Value
put_entry atoms e = record { key = e.key; shown = put atoms e.shown; value = put atoms e.value }

abbrev pub put_content : Atoms → Content → Content
put_content atoms (v.Listed vs) = v.Listed (map (put atoms) vs)
put_content atoms (v.Mapped es) = v.Mapped (map (put_entry atoms) es)
put_content atoms (v.Instance class slots) = v.Instance class (map (option_map (put atoms)) slots)

abbrev pub put_variable : Atoms → Variable → Variable
put_variable atoms x = record x { value = option_map (put atoms) x.value }

abbrev pub put_default : Atoms → Default → Default
put_default atoms d = record d { value = put atoms d.value }

abbrev pub put_state : Atoms → State → State
put_state atoms s = record s {
  own = map (put_content atoms) s.own;
  others = map (map (put_content atoms)) s.others;
  locals = map (put_variable atoms) s.locals;
  globals = map (put_variable atoms) s.globals;
  defaults = map (put_default atoms) s.defaults;
}

abbrev pub put_loaded : Atoms → Loaded → Loaded
put_loaded atoms l = record l {
  image = record (l.image) {
    globals = map (put_variable atoms) l.image.globals;
    objects = map (put_content atoms) l.image.objects;
    defaults = map (put_default atoms) l.image.defaults;
  };
}

abbrev pub put_images : Atoms → List (Option Loaded) → List (Option Loaded)
put_images atoms images = map (option_map (put_loaded atoms)) images

-- so an import from the host gives the atom
abbrev pub put_world : Atoms → World → World
put_world atoms w = record w { images = put_images atoms w.images; hosts = map (put atoms) w.hosts }
