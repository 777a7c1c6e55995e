-- Loops: a turn leads from the place of its test, or of its next item, to the place behind the loop.
use Rattle.std.proofs.Common.{◌≡◌, ℕ, zero, suc, ◌+◌, ◌≤◌, ◌<◌, List, [], ◌∷◌, length, Option, Some, None, Bool, true, false, refl, arith, leb-true}
use Rattle.std.specs.Prelude.{ℤ, slice_get, nat_le, ◌==◌, ◌-◌, if◌then◌else◌}
use Rattle.py_values.specs.declared.exception.ExcKind.TheVariants as kind
use Rattle.py_values.specs.declared.value.Home.{Home}
use Rattle.gradual_types.specs.Values as v
use Rattle.gradual_types.specs.Values.{Value}
use Rattle.gradual_types.specs.States.{State}
use Rattle.py_meaning.specs.Acts.{Act, Run, Gives, Halts, Halt, Spent, Flow, On, Returned, Broke, Continued, and_then, ◌>>=◌, ◌>>◌, give, tick, choose}
use Rattle.py_meaning.specs.Laws.{end_of}
use Rattle.py_meaning.specs.Modules.{World, Setting}
use Rattle.py_meaning.specs.Looks as seen
use Rattle.py_meaning.specs.Looks.{Seen, look, raise}
use Rattle.py_meaning.specs.Iterables.{characters, shown_keys, again, turn, over_each, over_range, over_list, over_dict, over, unless_resized, while_true}
use Rattle.py_meaning.specs.Calls.{Oracle}
use Rattle.py_meaning.proofs.FuelFalls.{Falls}
use Rattle.py_meaning.proofs.Keeps.{Keeps}
use Rattle.bytecode.specs.declared.instr.Cell.{Cell}
use Rattle.bytecode.specs.declared.instr.Instr.TheVariants as i
use Rattle.bytecode.specs.Iterators.{Iterator, Each, InList, InRange, InDict, Item, iterated, item_then, number_in}
use Rattle.bytecode.specs.Moves.{Open, looping}
use Rattle.bytecode.specs.Blocks.{Config, At, thrown, after, going, turning, opening, stepping, here}
use Rattle.compile_plain.specs.declared.targets.Targets.{Targets}
use Rattle.compile_plain.specs.Cells.{cell, in_while, in_for}
use Rattle.compile_plain.proofs.Comes.{Meets, Comes, both, from, acts, cell_step, flowing}

-- ---- fuel

pub meets_falls : {A : Type 0} (m : Act A) → Keeps Falls m → (s : State) → Meets (λ a t. t.fuel ≤ s.fuel) (m s)
meets_falls {A} m keeps s = go (m s) (keeps.by s) where
  go : (r : Run A) → Falls s (end_of r) → Meets (λ a t. t.fuel ≤ s.fuel) r
  go (Gives t a) h = h
  go (Halts t why) h = tt

pub tick_drops : (s : State) → Meets (λ u t. t.fuel < s.fuel) (tick s)
tick_drops s = go (nat_le 1 s.fuel) refl where
  go : (enough : Bool) → nat_le 1 s.fuel ≡ enough → Meets (λ (u : Unit {0}) t. t.fuel < s.fuel) (if enough then Gives (record s { fuel = s.fuel - 1 }) tt else Halts (record s { fuel = 0 }) Spent)
  go true e = let some = leb-true 1 s.fuel e in omega (arith, some)
  go false e = tt

module _ (c : Setting) (call : Oracle) (code : List Cell) (k : Targets) (around : Open) where
  abbrev w : World
  w = c.world

  abbrev out : State → Halt → Config
  out = thrown c k.raised around

  -- ---- over a test: `first` is the place of the body, `turn'` that of the line behind it, `tested` that of the test, and `last` that of its end
  module _ (first turn' tested last : ℕ) (back : Act (Unit {0})) (test : Act Bool) (body : Act Flow)
      (back_does : (s : State) → Comes c call code (At turn' [] around s) (going tested [] around) out (back s))
      (test_does : (s : State) → Comes c call code (At tested [] around s) (turning out first (last + 1) [] around) out (test s))
      (body_does : (s : State) → Comes c call code (At first [] around s) (flowing c call code (in_while k (last + 1) turn') turn' around) out (body s))
      (back_falls : Keeps Falls back) (test_falls : Keeps Falls test) (body_falls : Keeps Falls body) where
    agains_do : (f : Flow) (m : Act Flow) (s : State) → Comes c call code (At turn' [] around s) (flowing c call code k (last + 1) around) out (m s)
        → Comes c call code (flowing c call code (in_while k (last + 1) turn') turn' around f s) (flowing c call code k (last + 1) around) out (again f m s)
    agains_do On m s d = d
    agains_do Continued m s d = d
    agains_do Broke m s d = record { by = here }
    agains_do (Returned value) m s d = record { by = here }

    turned : (n : ℕ) (s t : State) → t.fuel ≤ s.fuel → s.fuel < suc n
        → ((y : State) → y.fuel < n → Comes c call code (At tested [] around y) (flowing c call code k (last + 1) around) out (while_true back test body n y))
        → (b : Bool) → Comes c call code (turning out first (last + 1) [] around b t) (flowing c call code k (last + 1) around) out (choose b (turn back (λ x. body) (while_true back test body n) (Some v.Nil)) (give On) t)
    turned n s t le lt more true =
        both c call code {f = going first [] around} {k = λ _. body >>= λ f. again f (back >> while_true back test body n)} (λ u y. y.fuel < t.fuel) (tick t) (tick_drops t) (record { by = here }) (λ u y drops.
        both c call code (λ f z. z.fuel ≤ y.fuel) (body y) (meets_falls body body_falls y) (body_does y) (λ f z le'.
        agains_do f (back >> while_true back test body n) z
        (both c call code {k = λ _. while_true back test body n} (λ u r. r.fuel ≤ z.fuel) (back z) (meets_falls back back_falls z) (back_does z) (λ u r le''. more r (omega (arith, le, lt, drops, le', le''))))))
    turned n s t le lt more false = record { by = here }

    pub while_does : (n : ℕ) (s : State) → s.fuel < n → Comes c call code (At tested [] around s) (flowing c call code k (last + 1) around) out (while_true back test body n s)
    while_does zero s lt = absurd (omega (arith, lt))
    while_does (suc n) s lt = both c call code (λ b t. t.fuel ≤ s.fuel) (test s) (meets_falls test test_falls s) (test_does s) (λ b t le. turned n s t le lt (λ y lt'. while_does n y lt') b)

  -- ---- over items: `first` is the place of the target, `turn'` that of the line behind the body, and `step` that of the next item
  module _ (first turn' step : ℕ) (back : Act (Unit {0})) (body : Value → Act Flow)
      (at_step : slice_get code step ≡ Some (cell ((in_for k (step + 1) turn').raised) (i.Next first)))
      (at_end : slice_get code (step + 1) ≡ Some (cell ((in_for k (step + 1) turn').raised) i.EndLoop))
      (back_does : (it : Iterator) (s : State) → Comes c call code (At turn' [] (looping it around) s) (going step [] (looping it around)) out (back s))
      (body_does : (it : Iterator) (x : Value) (s : State) → Comes c call code (At first (x ∷ []) (looping it around) s) (flowing c call code (in_for k (step + 1) turn') turn' (looping it around)) out (body x s))
      (back_falls : Keeps Falls back) (body_falls : (x : Value) → Keeps Falls (body x)) where
    abbrev end : ℕ
    end = step + 1 + 1

    agains_item : (it : Iterator) (f : Flow) (m : Act Flow) (s : State) → Comes c call code (At turn' [] (looping it around) s) (flowing c call code k end around) out (m s)
        → Comes c call code (flowing c call code (in_for k (step + 1) turn') turn' (looping it around) f s) (flowing c call code k end around) out (again f m s)
    agains_item it On m s d = d
    agains_item it Continued m s d = d
    agains_item it Broke m s d = acts c call code at_end here
    agains_item it (Returned value) m s d = record { by = here }

    -- a turn over the item, where there is one, from the loop's iterator to what is left of it
    turn_does : (it left : Iterator) (next : Act Flow) (s : State) → ((y : State) → y.fuel < s.fuel → Comes c call code (At step [] (looping left around) y) (flowing c call code k end around) out (next y))
        → (x : Option Value) → Comes c call code (stepping out first (step + 1) [] around.loops (looping it around) (item_then left x) s) (flowing c call code k end around) out (turn back body next x s)
    turn_does it left next s more None = acts c call code at_end here
    turn_does it left next s more (Some x) =
        both c call code {f = going first (x ∷ []) (looping left around)} {k = λ _. body x >>= λ f. again f (back >> next)} (λ u y. y.fuel < s.fuel) (tick s) (tick_drops s) (record { by = here }) (λ u y drops.
        both c call code (λ f z. z.fuel ≤ y.fuel) (body x y) (meets_falls (body x) (body_falls x) y) (body_does left x y) (λ f z le.
        agains_item left f (back >> next) z
        (both c call code {k = λ _. next} (λ u r. r.fuel ≤ z.fuel) (back z) (meets_falls back back_falls z) (back_does left z) (λ u r le'. more r (omega (arith, drops, le, le'))))))

    -- from the place of the next item
    abbrev Loops : Iterator → Act Flow → State → Type 0
    Loops it loop s = Comes c call code (At step [] (looping it around) s) (flowing c call code k end around) out (loop s)

    -- what the next item comes to
    abbrev steps_on : Iterator → Run Item → Config
    steps_on it r = after (stepping out first (step + 1) [] around.loops (looping it around)) out r

    each_does : (xs : List Value) (s : State) → Loops (Each xs) (over_each back body xs) s
    each_does [] s = from c call code (cell_step c call code at_step here) (acts c call code at_end here)
    each_does (x ∷ xs) s = from c call code (cell_step c call code at_step here) (turn_does (Each (x ∷ xs)) (Each xs) (over_each back body xs) s (λ y lt. each_does xs y) (Some x))

    range_does : (start stop by : ℤ) (n j : ℕ) (s : State) → s.fuel < n → Loops (InRange start stop by j) (over_range back body (number_in start stop by) n j) s
    range_does start stop by zero j s lt = absurd (omega (arith, lt))
    range_does start stop by (suc n) j s lt =
        from c call code (cell_step c call code at_step here) (turn_does (InRange start stop by j) (InRange start stop by (suc j)) (over_range back body (number_in start stop by) n (suc j)) s
        (λ y lt'. range_does start stop by n (suc j) y (omega (arith, lt, lt'))) (number_in start stop by j))

    list_does : (h : Home) (m n j : ℕ) (s : State) → s.fuel < n → Loops (InList h m j) (over_list w h m back body n j) s
    list_does h m zero j s lt = absurd (omega (arith, lt))
    list_does h m (suc n) j s lt =
        from c call code (cell_step c call code at_step here) (turn_does (InList h m j) (InList h m (suc j)) (over_list w h m back body n (suc j)) s
        (λ y lt'. list_does h m n (suc j) y (omega (arith, lt, lt'))) _)

    -- unless the size of the dictionary has changed
    module _ (it : Iterator) (size : ℕ) (next : Act Item) (next' : Act Flow) (s : State) (d : Comes c call code (steps_on it (next s)) (flowing c call code k end around) out (next' s)) where
      sized : (same : Bool) → Comes c call code (steps_on it (choose same next (raise w kind.RuntimeError) s)) (flowing c call code k end around) out (choose same next' (raise w kind.RuntimeError) s)
      sized true = d
      sized false = record { by = here }

      unless_does : (a : Seen) → Comes c call code (steps_on it (unless_resized w size next a s)) (flowing c call code k end around) out (unless_resized w size next' a s)
      unless_does (seen.Mapped h n es) = sized (length es == size)
      unless_does seen.Nil = d
      unless_does (seen.Truth b) = d
      unless_does (seen.Int n) = d
      unless_does (seen.Prim64 n) = d
      unless_does (seen.PrimBool b) = d
      unless_does (seen.Points points) = d
      unless_does (seen.Tuple vs) = d
      unless_does (seen.Range start stop by) = d
      unless_does (seen.Bound receiver method) = d
      unless_does (seen.Listed h n vs) = d
      unless_does (seen.Instance h n class slots) = d
      unless_does (seen.Class class) = d
      unless_does (seen.Function m n) = d
      unless_does (seen.Module m) = d
      unless_does (seen.BuiltIn b) = d
      unless_does seen.Nowhere = d

    dict_does : (h : Home) (n size : ℕ) (keys : List Value) (s : State) → Loops (InDict h n size keys) (over_dict w h n size back body keys) s
    dict_does h n size [] s =
        from c call code (cell_step c call code at_step here) (unless_does (InDict h n size []) size (give None) (give On) s (acts c call code at_end here) _)
    dict_does h n size (key ∷ keys) s =
        from c call code (cell_step c call code at_step here) (unless_does (InDict h n size (key ∷ keys)) size (give (Some (key, InDict h n size keys))) (turn back body (over_dict w h n size back body keys) (Some key)) s
        (turn_does (InDict h n size (key ∷ keys)) (InDict h n size keys) (over_dict w h n size back body keys) s (λ y lt. dict_does h n size keys y) (Some key)) _)

    -- from the place at which the loop is begun
    module _ (begin : ℕ) (at_begin : slice_get code begin ≡ Some (cell ((in_for k (step + 1) turn').raised) (i.Jump step))) where
      abbrev Begins : Seen → State → Type 0
      Begins a s = Comes c call code (after (opening begin [] around) out (iterated w a s)) (flowing c call code k end around) out (over w back body a s)

      begun : (it : Iterator) (loop : Act Flow) (s : State) → Loops it loop s → Comes c call code (At begin [] (looping it around) s) (flowing c call code k end around) out (loop s)
      begun it loop s d = from c call code (cell_step c call code at_begin here) d

      over_does : (a : Seen) (s : State) → Begins a s
      over_does (seen.Tuple vs) s = begun (Each vs) (over_each back body vs) s (each_does vs s)
      over_does (seen.Points points) s = begun (Each (characters points)) (over_each back body (characters points)) s (each_does (characters points) s)
      over_does (seen.Listed h n vs) s = begun (InList h n 0) (over_list w h n back body (suc s.fuel) 0) s (list_does h n (suc s.fuel) 0 s (omega arith))
      over_does (seen.Range start stop by) s = begun (InRange start stop by 0) (over_range back body (number_in start stop by) (suc s.fuel) 0) s (range_does start stop by (suc s.fuel) 0 s (omega arith))
      over_does (seen.Mapped h n es) s = begun (InDict h n (length es) (shown_keys es)) (over_dict w h n (length es) back body (shown_keys es)) s (dict_does h n (length es) (shown_keys es) s)
      over_does seen.Nil s = record { by = here }
      over_does (seen.Truth b) s = record { by = here }
      over_does (seen.Int n) s = record { by = here }
      over_does (seen.Prim64 n) s = record { by = here }
      over_does (seen.PrimBool b) s = record { by = here }
      over_does (seen.Bound receiver method) s = record { by = here }
      over_does (seen.Instance h n class slots) s = record { by = here }
      over_does (seen.Class class) s = record { by = here }
      over_does (seen.Function m n) s = record { by = here }
      over_does (seen.Module m) s = record { by = here }
      over_does (seen.BuiltIn b) s = record { by = here }
      over_does seen.Nowhere s = record { by = here }

      -- of what was looked at
      pub looked_does : (r : Run Seen) → Comes c call code (after (opening begin [] around) out (and_then r (iterated w))) (flowing c call code k end around) out (and_then r (over w back body))
      looked_does (Gives s a) = over_does a s
      looked_does (Halts s why) = record { by = here }
