-- Looks at values, and what the rules of a run are asked.
use Rattle.std.specs.Prelude.{ℕ, zero, suc, ℤ, ◌==◌, ◌^◌, ◌+◌, ◌-◌, min, Bool, true, false, List, [], ◌∷◌, ◌++◌, length, slice_get, slice_set, if◌then◌else◌, Option, Some, None}
use Rattle.py_tree.specs.Syntax.{Text}
use Rattle.py_values.specs.declared.builtin.Builtin.{Builtin}
use Rattle.py_values.specs.declared.class_id.ClassId.{ClassId}
use Rattle.py_values.specs.declared.class_id.ClassId.TheVariants as id
use Rattle.py_values.specs.declared.exception.ExcKind.{ExcKind}
use Rattle.py_values.specs.declared.exception.ExcKind.TheVariants as kind
use Rattle.py_values.specs.declared.value.Home.{Home}
use Rattle.py_values.specs.declared.value.Home.TheVariants as home
use Rattle.key_map.specs.Entries.{Entry}
use Rattle.heap_seg.specs.declared.rules.Answer.{Answer}
use Rattle.heap_seg.specs.declared.rules.Answer.TheVariants as rules
use Rattle.gradual_types.specs.Values as v
use Rattle.gradual_types.specs.Values.{Value, Content}
use Rattle.gradual_types.specs.States.{State}
use Rattle.py_meaning.specs.Acts.{Act, Gives, Raised, Refused, ◌>>=◌, ◌>>◌, give, halt, done}
use Rattle.py_meaning.specs.Modules.{World}

-- a value that was looked at, with what its object holds: none is a host value
pub data Seen : Type 0 where
  Nil : Seen
  Truth : Bool → Seen
  Int : ℤ → Seen
  Prim64 : ℤ → Seen
  PrimBool : Bool → Seen
  Points : Text → Seen
  Tuple : List Value → Seen
  Range : ℤ → ℤ → ℤ → Seen
  Bound : Value → Value → Seen
  Listed : Home → ℕ → List Value → Seen
  Mapped : Home → ℕ → List (Entry Value Value) → Seen
  Instance : Home → ℕ → ClassId → List (Option Value) → Seen
  Class : ClassId → Seen
  Function : ℕ → ℕ → Seen
  Module : ℕ → Seen
  BuiltIn : Builtin → Seen
  Nowhere : Seen  -- a reference to no object; a well-formed state has none

-- ---- objects

abbrev pub same_home : Home → Home → Bool
same_home (home.Module m) (home.Module n) = m == n
same_home home.Host home.Host = true
same_home home.Run home.Run = true
same_home a b = false

-- an object is made behind the others of its home
abbrev pub make : World → Content → Act Value
make w content = λ s. Gives (record s { own = s.own ++ content ∷ [] }) (v.Object w.home (length s.own))

abbrev pub others_of : Home → List (List Content) → List Content
others_of (home.Module m) others = all (slice_get others m) where
  all : Option (List Content) → List Content
  all None = []
  all (Some objects) = objects
others_of other others = []

-- the objects of a home
abbrev pub objects_of : World → Home → State → List Content
objects_of w h s = if same_home h w.home then s.own else others_of h s.others

abbrev pub seen_content : Home → ℕ → Option Content → Seen
seen_content h n None = Nowhere
seen_content h n (Some (v.Listed vs)) = Listed h n vs
seen_content h n (Some (v.Mapped es)) = Mapped h n es
seen_content h n (Some (v.Instance c slots)) = Instance h n c slots

abbrev pub see_object : World → Home → ℕ → Act Seen
see_object w h n = λ s. Gives s (seen_content h n (slice_get (objects_of w h s) n))

-- ---- exceptions

-- an exception without arguments, made here
abbrev pub raise : {A : Type 0} → World → ExcKind → Act A
raise w k = make w (v.Instance (id.Exc k) (Some (v.Tuple v.end_of_values) ∷ [])) >>= λ e. halt (Raised e)

abbrev pub type_error : {A : Type 0} → World → Act A
type_error w = raise w kind.TypeError

abbrev pub or_raise : {A : Type 0} → World → ExcKind → Option A → Act A
or_raise w k None = raise w k
or_raise w k (Some a) = give a

abbrev pub or_type_error : {A : Type 0} → World → Option A → Act A
or_type_error w a = or_raise w kind.TypeError a

-- ---- the rules

abbrev pub ask : World → Answer → Act (Unit {0})
ask w rules.Go = done
ask w (rules.Raise k) = raise w k
ask w (rules.Refuse code) = halt (Refused code)

-- the one look: what isn't known yet is seen as None, where the rules let it be seen
abbrev pub look : World → Value → Act Seen
look w v.Nil = give Nil
look w (v.Truth b) = give (Truth b)
look w (v.Int n) = give (Int n)
look w (v.Prim64 n) = give (Prim64 n)
look w (v.PrimBool b) = give (PrimBool b)
look w (v.Points text) = give (Points text)
look w (v.Tuple vs) = give (Tuple (v.items vs))
look w (v.Range start stop step) = give (Range start stop step)
look w (v.Bound receiver method) = give (Bound receiver method)
look w (v.Object h n) = see_object w h n
look w (v.Class c) = give (Class c)
look w (v.Function m n) = give (Function m n)
look w (v.Module m) = give (Module m)
look w (v.BuiltIn b) = give (BuiltIn b)
look w (v.Host m n) = ask w w.mode.on_look >> give Nil

-- ---- writes

abbrev pub put_other : Home → ℕ → Content → State → State
put_other (home.Module m) n c s = record s { others = at s.others m } where
  at : List (List Content) → ℕ → List (List Content)
  at [] m = []
  at (objects ∷ rest) zero = slice_set objects n c ∷ rest
  at (objects ∷ rest) (suc m) = objects ∷ at rest m
put_other other n c s = s

abbrev pub put_content : World → Home → ℕ → Content → State → State
put_content w h n c s = if same_home h w.home then record s { own = slice_set s.own n c } else put_other h n c s

-- the test of a write to what was made at that home
abbrev pub may_write : World → Home → Act (Unit {0})
may_write w h = ask w (w.mode.on_write h)

-- the one write to an object; the rules have let it through before, where its test stands
abbrev pub write : World → Home → ℕ → Content → Act (Unit {0})
write w h n c = may_write w h >> λ s. Gives (put_content w h n c s) tt

-- the home of what a write to this value would change
abbrev pub home_of : Value → Option Home
home_of (v.Object h n) = Some h
home_of (v.Class (id.User m n)) = Some (home.Module m)
home_of (v.Function m n) = Some (home.Module m)
home_of (v.Module m) = Some (home.Module m)
home_of other = None

abbrev pub may_write_at : World → Option Home → Act (Unit {0})
may_write_at w None = done
may_write_at w (Some h) = may_write w h

-- the one way to the output; the rules have let it through before, where its test stands
abbrev pub print_out : World → Text → Act (Unit {0})
print_out w text = ask w w.mode.on_print >> λ s. Gives (record s { output = s.output ++ text }) tt

-- ---- checks

abbrev pub count_check : Act (Unit {0})
count_check = λ s. Gives (record s { checks = min (s.checks + 1) (2 ^ 64 - 1) }) tt
