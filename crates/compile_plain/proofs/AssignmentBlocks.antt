-- The code of assignments does what they mean.
use Rattle.std.proofs.Common.{◌≡◌, ℕ, ◌+◌, List, [], ◌∷◌, ◌++◌, map, length, Option, Some, Bool, true, false, refl, sym, subst, arith}
use Rattle.std.specs.Prelude.{◌==◌}
use Rattle.py_tree.specs.Syntax as x
use Rattle.py_tree.specs.Syntax.{Text, Expression, Target}
use Rattle.py_tree.specs.declared.operator.BinaryOp.{BinaryOp}
use Rattle.py_values.specs.declared.exception.ExcKind.TheVariants as kind
use Rattle.gradual_types.specs.declared.py_type.PyType.{PyType}
use Rattle.gradual_types.specs.Values.{Value}
use Rattle.gradual_types.specs.States.{State}
use Rattle.py_meaning.specs.Acts.{Run, Gives, Halts, and_then, give, choose}
use Rattle.py_meaning.specs.Modules.{World, Setting, ModuleText, text_of}
use Rattle.py_meaning.specs.Looks.{raise}
use Rattle.py_meaning.specs.Boundaries.{Origin}
use Rattle.py_meaning.specs.Names.{bind_name}
use Rattle.py_meaning.specs.Iterables.{gather}
use Rattle.py_meaning.specs.Calls.{Oracle}
use Rattle.py_meaning.specs.Expressions.{eval}
use Rattle.py_meaning.specs.Targets.{assign_all, assign, augment}
use Rattle.bytecode.specs.declared.instr.Cell.{Cell}
use Rattle.bytecode.specs.declared.instr.Handler.{Handler}
use Rattle.bytecode.specs.Moves.{Open}
use Rattle.bytecode.specs.Blocks.{At, thrown, after, going, pushing, spreading, Leads, here}
use Rattle.compile_plain.specs.Names.{Names}
use Rattle.compile_plain.specs.Expressions.{expr_end}
use Rattle.compile_plain.specs.Assignments.{store, assign_end, assign_code, augment_end, augment_code}
use Rattle.compile_plain.proofs.Places.{HasAt}
use Rattle.compile_plain.proofs.Comes.{Comes, from, cell_step, then_comes, then_on_comes, acts}
use Rattle.compile_plain.proofs.Sites.{site, names_at, sets}
use Rattle.compile_plain.proofs.ExpressionBlocks.{name_gets, peel}

module _ (w : World) (m : ℕ) (t : ModuleText) (text : text_of w m ≡ Some t) (class : Option ℕ) (locals : Option (List Text)) (result : PyType) (call : Oracle) (code : List Cell) where
  abbrev c : Setting
  c = site w m class locals result

  abbrev names : Names
  names = names_at t class locals

  -- the value is the top
  pub stores : (h : Handler) (name : Text) (pc : ℕ) (a : Value) (st : List Value) (around : Open) (s : State) → HasAt code pc (store names h name ∷ [])
      → Comes c call code (At pc (a ∷ st) around s) (going (pc + 1) st around) (thrown c h around) (bind_name c name a s)
  stores h name pc a st around s has =
      acts c call code has.0 (subst (λ r. Leads c call code (after (going (pc + 1) st around) (thrown c h around) r) (after (going (pc + 1) st around) (thrown c h around) (bind_name c name a s)))
      (sym (sets w m t text class result locals name (Some a) s)) here)

  -- the first value is the top, and there are as many as names
  stores_all : (h : Handler) (ns : List Text) (values : List Value) (pc : ℕ) (st : List Value) (around : Open) (s : State) → length values ≡ length ns → HasAt code pc (map (store names h) ns)
      → Comes c call code (At pc (values ++ st) around s) (going (pc + length ns) st around) (thrown c h around) (assign_all c ns values s)
  stores_all h [] [] pc st around s e has = record { by = subst (λ p. Leads c call code (At pc st around s) (At p st around s)) (omega arith) here }
  stores_all h [] (a ∷ values) pc st around s e has = absurd (omega (arith, e))
  stores_all h (name ∷ ns) [] pc st around s e has = absurd (omega (arith, e))
  stores_all h (name ∷ ns) (a ∷ values) pc st around s e has =
      then_on_comes c call code (bind_name c name a s) (stores h name pc a (values ++ st) around s (has.0, tt)) (λ y.
      subst (λ p. Comes c call code (At (pc + 1) (values ++ st) around y) (going p st around) (thrown c h around) (assign_all c ns values y)) (omega arith)
      (stores_all h ns values (pc + 1) st around y (omega (arith, e)) has.1))

  -- the items that were gathered are as many as names, or it raises
  unpacks : (h : Handler) (ns : List Text) (pc : ℕ) (st : List Value) (around : Open) → HasAt code (pc + 1) (map (store names h) ns) → (r : Run (List Value))
      → Comes c call code (after (spreading (pc + 1) st around) (thrown c h around) (and_then r (λ values. choose (length values == length ns) (give values) (raise w kind.ValueError))))
      (going (pc + 1 + length ns) st around) (thrown c h around) (and_then r (λ values. choose (length values == length ns) (assign_all c ns values) (raise w kind.ValueError)))
  unpacks h ns pc st around has (Halts y why) = record { by = here }
  unpacks h ns pc st around has (Gives y values) = by (length values == length ns) refl where
    by : (b : Bool) → (length values == length ns) ≡ b
        → Comes c call code (after (spreading (pc + 1) st around) (thrown c h around) (choose b (give values) (raise w kind.ValueError) y))
        (going (pc + 1 + length ns) st around) (thrown c h around) (choose b (assign_all c ns values) (raise w kind.ValueError) y)
    by true e = stores_all h ns values (pc + 1) st around y (grind (arith, e)) has
    by false e = record { by = here }

  pub assigns : (h : Handler) (target : Target) (origin : Origin) (pc : ℕ) (a : Value) (st : List Value) (around : Open) (s : State) → HasAt code pc (assign_code names h pc target)
      → Comes c call code (At pc (a ∷ st) around s) (going (assign_end names pc target) st around) (thrown c h around) (assign c call target origin a s)
  assigns h (x.ToName name) origin pc a st around s has = stores h name pc a st around s has
  assigns h (x.ToNames ns) origin pc a st around s has =
      from c call code (cell_step c call code has.0 here) (unpacks h ns pc st around has.1 (gather w a s))
  assigns h (x.ToAttr e name) origin pc a st around s has =
      peel w m t text class locals result call code h e pc (a ∷ st) around s _ has (λ object y has'. acts c call code has'.0 here)
  assigns h (x.ToIndex e d) origin pc a st around s has =
      peel w m t text class locals result call code h e pc (a ∷ st) around s _ has (λ object y has'.
      peel w m t text class locals result call code h d (expr_end names pc e) (object ∷ a ∷ st) around y _ has' (λ index z has''. acts c call code has''.0 here))

  pub augments : (h : Handler) (target : Target) (operator : BinaryOp) (right : Expression) (pc : ℕ) (st : List Value) (around : Open) (s : State) → HasAt code pc (augment_code names h pc target operator right)
      → Comes c call code (At pc st around s) (going (augment_end names pc target right) st around) (thrown c h around) (augment c call target operator (eval c call right) s)
  augments h (x.ToName name) operator right pc st around s has =
      then_comes c call code (name_gets w m t text class locals result call code h name pc st around s (has.0, tt)) (λ old y.
      peel w m t text class locals result call code h right (pc + 1) (old ∷ st) around y _ has.1 (λ value z has'.
      then_comes c call code {f = pushing (expr_end names (pc + 1) right + 1) st around} (acts c call code has'.0 here) (λ new u.
      stores h name (expr_end names (pc + 1) right + 1) new st around u has'.1)))
  augments h (x.ToAttr e name) operator right pc st around s has =
      let second = expr_end names pc e in
      let last = expr_end names (second + 1 + 1) right in
      peel w m t text class locals result call code h e pc st around s _ has (λ object y has'.
      then_comes c call code {f = pushing (second + 1 + 1) (object ∷ st) around} (acts c call code has'.0 (cell_step c call code has'.1.0 here)) (λ old z.
      peel w m t text class locals result call code h right (second + 1 + 1) (old ∷ object ∷ st) around z _ has'.1.1 (λ value u has''.
      then_comes c call code {f = pushing (last + 1) (object ∷ st) around} (acts c call code has''.0 here) (λ new r.
      acts c call code has''.1.0 (cell_step c call code has''.1.1.0 here)))))
  augments h (x.ToIndex e d) operator right pc st around s has =
      let second = expr_end names pc e in
      let third = expr_end names second d in
      let last = expr_end names (third + 1 + 1) right in
      peel w m t text class locals result call code h e pc st around s _ has (λ object y has'.
      peel w m t text class locals result call code h d second (object ∷ st) around y _ has' (λ index z has''.
      then_comes c call code {f = pushing (third + 1 + 1) (index ∷ object ∷ st) around} (acts c call code has''.0 (cell_step c call code has''.1.0 here)) (λ old u.
      peel w m t text class locals result call code h right (third + 1 + 1) (old ∷ index ∷ object ∷ st) around u _ has''.1.1 (λ value r has'''.
      then_comes c call code {f = pushing (last + 1) (index ∷ object ∷ st) around} (acts c call code has'''.0 here) (λ new q.
      acts c call code has'''.1.0 (cell_step c call code has'''.1.1.0 here))))))
  augments h (x.ToNames ns) operator right pc st around s has = record { by = here }
