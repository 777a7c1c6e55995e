-- In the world of a body the host slots hold their host values, and with atoms put in they hold these.
use Rattle.std.proofs.Common.{arith, sym, ap, subst, ◌∙◌}
use Rattle.std.proofs.lemmas.List.{length-map}
use Rattle.std.proofs.lemmas.Option.{slice_get-map}
use Rattle.std.specs.Option.{option_map}
use Rattle.std.specs.Prelude.{◌≡◌, refl, ℕ, zero, suc, ◌+◌, List, [], ◌∷◌, length, slice_get, Option, Some, None}
use Rattle.py_tree.specs.Syntax.{Text, Statements}
use Rattle.heap_seg.specs.Modes.{Mode}
use Rattle.gradual_types.specs.Values as v
use Rattle.gradual_types.specs.Values.{Value}
use Rattle.gradual_types.specs.Images as a
use Rattle.gradual_types.specs.Images.{Atom, atom_value}
use Rattle.py_meaning.specs.Modules.{World, Loaded}
use Rattle.py_meaning.specs.Atoms.{Atoms, put, put_world}
use Rattle.py_meaning.specs.Bound.{IsHostOrAtom, host, atom, HoldHosts}
use Rattle.py_meaning.specs.Worlds.{host_slots, body_world, body_facts}

-- ---- the host values

as_many_slots : (m first : ℕ) (names : List Text) → length (host_slots m first names) ≡ length names
as_many_slots m first [] = refl
as_many_slots m first (name ∷ names) = ap suc (as_many_slots m (suc first) names)

slot_is_host : (m first n : ℕ) (names : List Text) (value : Value) → slice_get (host_slots m first names) n ≡ Some value → value ≡ v.Host m (first + n)
slot_is_host m first n [] value h = absurd cc
slot_is_host m first zero (name ∷ names) value h = is_value ∙ ap (v.Host m) (omega arith) where
  is_value : value ≡ v.Host m first
  is_value = cc h
slot_is_host m first (suc n) (name ∷ names) value h = slot_is_host m (suc first) n names value h ∙ ap (v.Host m) (omega arith)

pub bodies_hold_hosts : (mode : Mode) (images : List (Option Loaded)) (name : Text) (number : ℕ) (body : Statements) → HoldHosts (body_world mode images name number body) number
bodies_hold_hosts mode images name number body = record {
  as_many = as_many_slots number 0 names;
  each = λ n value h. subst (IsHostOrAtom number n) (sym (slot_is_host number 0 n names value h ∙ ap (v.Host number) (omega arith))) host;
} where
  names : List Text
  names = (body_facts mode images name number body).hosts

-- ---- with atoms put in

stays : (atoms : Atoms) (known : Atom) → put atoms (atom_value known) ≡ atom_value known
stays atoms a.Nil = refl
stays atoms (a.Truth b) = refl
stays atoms (a.Int n) = refl
stays atoms (a.Points text) = refl

put_slot : (atoms : Atoms) (m n : ℕ) (value : Value) → IsHostOrAtom m n value → IsHostOrAtom m n (put atoms value)
put_slot atoms m n value host = atom (atoms m n)
put_slot atoms m n value (atom known) = subst (IsHostOrAtom m n) (sym (stays atoms known)) (atom known)

pub puts_hold_hosts : (atoms : Atoms) (w : World) (m : ℕ) → HoldHosts w m → HoldHosts (put_world atoms w) m
puts_hold_hosts atoms w m held = record {
  as_many = length-map w.hosts (put atoms) ∙ held.as_many;
  each = λ n value h. of_slot n value (slice_get w.hosts n) refl (sym (slice_get-map (put atoms) w.hosts n) ∙ h);
} where
  of_slot : (n : ℕ) (value : Value) (o : Option Value) → slice_get w.hosts n ≡ o → option_map (put atoms) o ≡ Some value → IsHostOrAtom m n value
  of_slot n value None e h = absurd cc
  of_slot n value (Some slot) e h = subst (IsHostOrAtom m n) is_value (put_slot atoms m n slot (held.each n slot e)) where
    is_value : put atoms slot ≡ value
    is_value = cc h
