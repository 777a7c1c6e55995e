-- The code of an expression does what the expression means.
use Rattle.std.proofs.Common.{◌≡◌, ℕ, ◌+◌, ◌*◌, List, [], ◌∷◌, ◌++◌, length, Option, Some, None, Bool, true, false, refl, sym, ap, ◌∙◌, subst, append_assoc}
use Rattle.std.specs.Prelude.{slice_get, codes}
use Rattle.std.specs.Str.{bytes_eq}
use Rattle.py_tree.specs.Syntax as x
use Rattle.py_tree.specs.Syntax.{Text, Expression, Expressions, Pairs, Keywords}
use Rattle.py_values.specs.declared.class_id.ClassId.{ClassId}
use Rattle.py_values.specs.declared.class_id.ClassId.TheVariants as id
use Rattle.py_values.specs.declared.exception.ExcKind.TheVariants as kind
use Rattle.symbols.specs.declared.binding.StaticName.{StaticName}
use Rattle.symbols.specs.declared.binding.StaticName.TheVariants as static
use Rattle.gradual_types.specs.declared.py_type.PyType.{PyType}
use Rattle.gradual_types.specs.Values as v
use Rattle.gradual_types.specs.Values.{Value}
use Rattle.gradual_types.specs.States.{State}
use Rattle.py_meaning.specs.Acts.{Act, Run, Gives, Halts, Halt, and_then, ◌>>=◌, ◌>>◌, give, pay, tick, choose, done}
use Rattle.py_meaning.specs.Modules.{World, Setting, ModuleText, text_of}
use Rattle.py_meaning.specs.Looks.{Seen, look, raise, type_error, make}
use Rattle.py_meaning.specs.Operands.{truth}
use Rattle.py_meaning.specs.Boundaries.{Origin}
use Rattle.py_meaning.specs.Names.{read_name}
use Rattle.py_meaning.specs.Arguments.{Argument}
use Rattle.py_meaning.specs.Classes.{Found}
use Rattle.py_meaning.specs.Calls.{Oracle, found_or_init, super_call, reached, is_instance}
use Rattle.py_meaning.specs.Expressions.{Form, Plain, Super, Static, converted, call_by, in_turn, called, eval, eval_all, eval_last, eval_pairs, eval_arguments, eval_keywords, last_origin, made_dict}
use Rattle.bytecode.specs.declared.instr.Cell.{Cell}
use Rattle.bytecode.specs.declared.instr.Handler.{Handler}
use Rattle.bytecode.specs.declared.instr.Instr.TheVariants as i
use Rattle.bytecode.specs.declared.instr.Shape.{Shape}
use Rattle.bytecode.specs.Callings.{arguments, ask_call, ask_base, base_method}
use Rattle.bytecode.specs.Moves.{Open, pairs, top, Asks, Pushes}
use Rattle.bytecode.specs.Blocks.{Config, At, thrown, after, pushing, testing, asking, Leads, here}
use Rattle.compile_plain.specs.Names.{Names, load, form_in}
use Rattle.compile_plain.specs.Cells.{cell}
use Rattle.compile_plain.specs.Expressions.{count, count_pairs, shape, base_end, base_code, static_end, static_code, call_end, call_code, expr_end, exprs_end, last_end, pairs_end, keywords_end, expr_code, exprs_code, last_code, pairs_code, keywords_code}
use Rattle.compile_plain.proofs.Places.{HasAt, has_front, has_behind, Ends, joined, expr_length, exprs_length, last_length, pairs_length, keywords_length}
use Rattle.compile_plain.proofs.Comes.{Meets, onto, onto_joined, Comes, chain, asks_both, both, then_comes, from, acts, takes_all, picks, cell_step, pushing_all}
use Rattle.compile_plain.proofs.Sites.{site, names_at, loads, forms}
use Rattle.compile_plain.proofs.ArgumentBlocks.{values_of, values_joined, AreShaped, flat, pairs_again, counted, flat_counted, shaped_met}

module _ (w : World) (m : ℕ) (t : ModuleText) (text : text_of w m ≡ Some t) (class : Option ℕ) (locals : Option (List Text)) (result : PyType) (call : Oracle) (code : List Cell) where
  abbrev c : Setting
  c = site w m class locals result

  abbrev names : Names
  names = names_at t class locals

  -- from that place, with these operands, the code pushes what the action gives
  abbrev pub Gives' : Handler → List Cell → ℕ → ℕ → Act Value → Type 0
  Gives' h cells pc q act = (st : List Value) (around : Open) (s : State) → HasAt code pc cells → Comes c call code (At pc st around s) (pushing q st around) (thrown c h around) (act s)

  abbrev pushing_args : ℕ → List Value → Open → List Argument → State → Config
  pushing_args p st around args s = At p (onto (values_of args) st) around s

  abbrev pushing_pairs : ℕ → List Value → Open → List (Value × Value) → State → Config
  pushing_pairs p st around ps s = At p (onto (flat ps) st) around s

  abbrev GivesArguments : Handler → List Cell → ℕ → ℕ → Act (List Argument) → Type 0
  GivesArguments h cells pc q act =
      (st : List Value) (around : Open) (s : State) → HasAt code pc cells → Comes c call code (At pc st around s) (pushing_args q st around) (thrown c h around) (act s)

  -- behind a jump
  jumped : (p q : ℕ) (h : Handler) {a : Config} {st : List Value} {around : Open} {out : State → Halt → Config} {r : Run Value} → slice_get code p ≡ Some (cell h (i.Jump q))
      → Comes c call code a (pushing p st around) out r → Comes c call code a (pushing q st around) out r
  jumped p q h {r = Gives y value} e d = record { by = chain c call code d.by (cell_step c call code e here) }
  jumped p q h {r = Halts y why} e d = record { by = d.by }

  pub name_gets : (h : Handler) (name : Text) (pc : ℕ) → Gives' h (cell h (load names name) ∷ []) pc (pc + 1) (read_name c name)
  name_gets h name pc st around s has =
      acts c call code has.0 (subst (λ a. Leads c call code a (after (pushing (pc + 1) st around) (thrown c h around) (read_name c name s))) (sym ((loads w m t text class result call locals name).by h pc st around s)) here)

  -- ---- calls, by their forms

  module _ (h : Handler) (args : Act (List Argument)) (s : Shape) (shaped : (u : State) → Meets (λ all y. AreShaped s.positional s.keywords all) (args u)) where
    -- the arguments behind a callee, and the call
    called_gets : (cells : List Cell) (pc q : ℕ) (callee : Value) → Ends pc cells q → GivesArguments h cells pc q args → (st : List Value) (around : Open) (u : State)
        → HasAt code pc (cells ++ cell h (i.Call s) ∷ [])
        → Comes c call code (At pc (callee ∷ st) around u) (pushing (q + 1) st around) (thrown c h around) ((args >>= λ all. tick >> (look w callee >>= λ a. called c call all a)) u)
    called_gets cells pc q callee ends gets st around u has =
        both c call code (λ all y. AreShaped s.positional s.keywords all) (args u) (shaped u) (gets (callee ∷ st) around u (has_front code pc cells _ has)) (λ all y is.
        takes_all c call code (values_of all) (callee ∷ st) (s.positional + length s.keywords)
        (λ vs st. top st (λ callee st. Asks st (ask_call w callee (arguments s.positional s.keywords vs) y))) (has_behind code _ ends has).0 is.1 refl
        (subst (λ l. Leads c call code (after (asking c call (thrown c h around) (q + 1) st around) (thrown c h around) (ask_call w callee l y)) (after (pushing (q + 1) st around) (thrown c h around) ((tick >> (look w callee >>= λ a. called c call all a)) y))) (sym is.0)
        (asks_both c call code (q + 1) st around (thrown c h around) _ _ (tick y) (λ i z. asks_both c call code (q + 1) st around (thrown c h around) _ _ (look w callee z) (λ a z. here)))))

  -- what is behind the test of a receiver
  module _ {B : Type 0} (go : B → State → Config) (out : State → Halt → Config) (name : Text) (at : State → Config) (k : Found → Act B) where
    unfound_leads : ((y : State) → Comes c call code (at y) go out (k None y)) → (b : Bool) (y : State)
        → Leads c call code (after (λ u. at) out ((choose {A = Found} b (give None) (raise w kind.AttributeError) >> done) y)) (after go out ((choose {A = Found} b (give None) (raise w kind.AttributeError) >>= k) y))
    unfound_leads i true y = (i y).by
    unfound_leads i false y = here

    found_leads : (f : Found) → ((y : State) → Comes c call code (at y) go out (k f y)) → (y : State)
        → Leads c call code (after (λ u. at) out ((found_or_init w name f >> done) y)) (after go out ((found_or_init w name f >>= k) y))
    found_leads (Some f) i y = (i y).by
    found_leads None i y = unfound_leads i (bytes_eq name (codes "__init__")) y

    checked_leads : (f : Found) → ((y : State) → Comes c call code (at y) go out (k f y)) → (b : Bool) (y : State)
        → Leads c call code (after (λ u. at) out ((choose b done (type_error w) >> (found_or_init w name f >> done)) y)) (after go out ((choose b done (type_error w) >> (found_or_init w name f >>= k)) y))
    checked_leads f i true y = found_leads f i y
    checked_leads f i false y = here

    receiver_leads : (f : Found) → ((y : State) → Comes c call code (at y) go out (k f y)) → (above : ClassId) (r : Run Seen)
        → Leads c call code (after (λ u. at) out (and_then r (λ object. choose (is_instance w above object) done (type_error w) >> (found_or_init w name f >> done))))
        (after go out (and_then r (λ object. choose (is_instance w above object) done (type_error w) >> (found_or_init w name f >>= k))))
    receiver_leads f i above (Gives y object) = checked_leads f i (is_instance w above object) y
    receiver_leads f i above (Halts y why) = here

-- `super().NAME(..)`
module _ (w : World) (m : ℕ) (t : ModuleText) (text : text_of w m ≡ Some t) (locals : Option (List Text)) (result : PyType) (call : Oracle) (code : List Cell) where
  -- the arguments behind a receiver, and the call of a method of a base
  reached_gets : (n : ℕ) (h : Handler) (args : Act (List Argument)) (s : Shape) → ((u : State) → Meets (λ all y. AreShaped s.positional s.keywords all) (args u)) → (cells : List Cell) (pc q : ℕ) (name : Text) (receiver : Value) → Ends pc cells q
      → GivesArguments w m t text (Some n) locals result call code h cells pc q args → (st : List Value) (around : Open) (u : State) → HasAt code pc (cells ++ cell h (i.CallBase name s) ∷ [])
      → Comes (site w m (Some n) locals result) call code (At pc (receiver ∷ st) around u) (pushing (q + 1) st around) (thrown (site w m (Some n) locals result) h around)
      ((args >>= λ all. tick >> reached (site w m (Some n) locals result) call (id.User m n) receiver all (base_method w (id.User m n) name)) u)
  reached_gets n h args s shaped cells pc q name receiver ends gets st around u has =
      let c = site w m (Some n) locals result in
      both c call code (λ all y. AreShaped s.positional s.keywords all) (args u) (shaped u) (gets (receiver ∷ st) around u (has_front code pc cells _ has)) (λ all y is.
      takes_all c call code (values_of all) (receiver ∷ st) (s.positional + length s.keywords)
      (λ vs st. top st (λ x st. Asks st (ask_base w (id.User m n) name x (arguments s.positional s.keywords vs) y))) (has_behind code _ ends has).0 is.1 refl
      (subst (λ l. Leads c call code (after (asking c call (thrown c h around) (q + 1) st around) (thrown c h around) (ask_base w (id.User m n) name receiver l y)) (after (pushing (q + 1) st around) (thrown c h around) ((tick >> reached c call (id.User m n) receiver all (base_method w (id.User m n) name)) y))) (sym is.0)
      (asks_both c call code (q + 1) st around (thrown c h around) _ _ (tick y) (λ i z. here))))

  super_gets : (class : Option ℕ) (h : Handler) (args : Act (List Argument)) (s : Shape) → ((u : State) → Meets (λ all y. AreShaped s.positional s.keywords all) (args u)) → (name : Text) (cells : List Cell) (pc q : ℕ) → Ends (pc + 1 + 1) cells q
      → GivesArguments w m t text class locals result call code h cells (pc + 1 + 1) q args
      → Gives' w m t text class locals result call code h (base_code (names_at t class locals) h class name s cells) pc (base_end class pc q) (super_call (site w m class locals result) call name args)
  super_gets None h args s shaped name cells pc q ends gets st around u has = acts (site w m None locals result) call code has.0 here
  super_gets (Some n) h args s shaped name cells pc q ends gets st around u has =
      let c = site w m (Some n) locals result in
      then_comes c call code (name_gets w m t text (Some n) locals result call code h (codes "self") pc st around u (has.0, tt)) (λ self y.
      from c call code (cell_step c call code has.1.0
      (receiver_leads w m t text (Some n) locals result call code (pushing (q + 1) st around) (thrown c h around) name (At (pc + 1 + 1) (self ∷ st) around) (λ found. args >>= λ all. tick >> reached c call (id.User m n) self all found)
      (base_method w (id.User m n) name) (λ y. reached_gets n h args s shaped cells (pc + 1 + 1) q name self ends gets st around y has.1.1) (id.User m n) (look w self y))) (record { by = here }))

module _ (w : World) (m : ℕ) (t : ModuleText) (text : text_of w m ≡ Some t) (class : Option ℕ) (locals : Option (List Text)) (result : PyType) (call : Oracle) (code : List Cell) where
  abbrev c' : Setting
  c' = site w m class locals result

  abbrev names' : Names
  names' = names_at t class locals

  converted_gets : (h : Handler) (name : StaticName) (origin : Origin) (q : ℕ) (value : Value) (st : List Value) (around : Open) (u : State) → HasAt code q (static_code h name)
      → Comes c' call code (At q (value ∷ st) around u) (pushing (static_end name q) st around) (thrown c' h around) (converted c' name origin value u)
  converted_gets h static.Int64 origin q value st around u has = record { by = here }
  converted_gets h static.CBool origin q value st around u has = record { by = here }
  converted_gets h static.Cast origin q value st around u has = record { by = here }
  converted_gets h static.Box origin q value st around u has = acts c' call code has.0 here
  converted_gets h static.Optional origin q value st around u has = acts c' call code has.0 here
  converted_gets h static.Any origin q value st around u has = acts c' call code has.0 here

  -- a call of that form, by what its parts do
  call_gets : (h : Handler) (s : Shape) (form : Form) (callee : Act Value) (args : Act (List Argument)) (last : Act Value) (origin : Origin) (pc p q r third : ℕ) (front behind base final : List Cell)
      → ((u : State) → Meets (λ all y. AreShaped s.positional s.keywords all) (args u))
      → Ends pc front third → Ends third behind p → Ends (pc + 1 + 1) base q → Ends pc final r
      → Gives' w m t text class locals result call code h front pc third callee → GivesArguments w m t text class locals result call code h behind third p args → GivesArguments w m t text class locals result call code h base (pc + 1 + 1) q args → Gives' w m t text class locals result call code h final pc r last
      → Gives' w m t text class locals result call code h (call_code names' h form s (front ++ behind) base final) pc (call_end form class pc p q r) (call_by c' call form callee args last origin)
  call_gets h s Plain callee args last origin pc p q r third front behind base final shaped e f g l callee_gets args_get base_gets last_gets st around u has =
      let inner = subst (HasAt code pc) (append_assoc front behind (cell h (i.Call s) ∷ [])) has in
      then_comes c' call code (callee_gets st around u (has_front code pc front _ inner)) (λ f' y.
      called_gets w m t text class locals result call code h args s shaped behind third p f' f args_get st around y (has_behind code _ e inner))
  call_gets h s (Super name) callee args last origin pc p q r third front behind base final shaped e f g l callee_gets args_get base_gets last_gets st around u has =
      super_gets w m t text locals result call code class h args s shaped name base pc q g base_gets st around u has
  call_gets h s (Static name) callee args last origin pc p q r third front behind base final shaped e f g l callee_gets args_get base_gets last_gets st around u has =
      then_comes c' call code (last_gets st around u (has_front code pc final _ has)) (λ value y.
      converted_gets h name origin r value st around y (has_behind code _ l has))

  -- ---- expressions

  abbrev GivesAll : Handler → List Cell → ℕ → ℕ → Act (List Value) → Type 0
  GivesAll h cells pc q act =
      (st : List Value) (around : Open) (s : State) → HasAt code pc cells → Comes c' call code (At pc st around s) (pushing_all c' call code q st around) (thrown c' h around) (act s)

  abbrev GivesPairs : Handler → List Cell → ℕ → ℕ → Act (List (Value × Value)) → Type 0
  GivesPairs h cells pc q act =
      (st : List Value) (around : Open) (s : State) → HasAt code pc cells → Comes c' call code (At pc st around s) (pushing_pairs w m t text class locals result call code q st around) (thrown c' h around) (act s)

  -- the arguments by their places, and those by keyword
  in_turn_get : (h : Handler) (a b : List Cell) (pc q r : ℕ) (first next : Act (List Argument)) → Ends pc a q → GivesArguments w m t text class locals result call code h a pc q first → GivesArguments w m t text class locals result call code h b q r next → GivesArguments w m t text class locals result call code h (a ++ b) pc r (in_turn first next)
  in_turn_get h a b pc q r first next e gets gets' st around u has =
      then_comes c' call code (gets st around u (has_front code pc a b has)) (λ args y.
      then_comes c' call code (gets' (onto (values_of args) st) around y (has_behind code b e has)) (λ keys z.
      record { by = subst (λ st'. Leads c' call code (At r (onto (values_of keys) (onto (values_of args) st)) around z) (At r st' around z)) (sym (ap (λ l. onto l st) (values_joined args keys) ∙ onto_joined (values_of args) (values_of keys) st)) here }))

  mutual
    pub eval_gets : (h : Handler) (e : Expression) (pc : ℕ) → Gives' w m t text class locals result call code h (expr_code names' h pc e) pc (expr_end names' pc e) (eval c' call e)
    eval_gets h x.Nil pc st around s has = acts c' call code has.0 here
    eval_gets h x.True pc st around s has = acts c' call code has.0 here
    eval_gets h x.False pc st around s has = acts c' call code has.0 here
    eval_gets h (x.Int n) pc st around s has = acts c' call code has.0 here
    eval_gets h (x.Str points) pc st around s has = acts c' call code has.0 here
    eval_gets h (x.Name name) pc st around s has = name_gets w m t text class locals result call code h name pc st around s has
    eval_gets h (x.Tuple es) pc st around s has =
        both c' call code (λ vs y. length vs ≡ count es) (eval_all c' call es s) (counted c' call es s) (all_get h es pc st around s (has_front code pc (exprs_code names' h pc es) _ has)) (λ vs y long.
        takes_all c' call code vs st (count es) (λ vs st. Pushes st ((pay (length vs) >> give (v.Tuple (v.values vs))) y)) (has_behind code _ (exprs_length names' h es pc) has).0 long refl here)
    eval_gets h (x.Listed es) pc st around s has =
        both c' call code (λ vs y. length vs ≡ count es) (eval_all c' call es s) (counted c' call es s) (all_get h es pc st around s (has_front code pc (exprs_code names' h pc es) _ has)) (λ vs y long.
        takes_all c' call code vs st (count es) (λ vs st. Pushes st ((pay (length vs) >> make w (v.Listed vs)) y)) (has_behind code _ (exprs_length names' h es pc) has).0 long refl here)
    eval_gets h (x.Dict ps) pc st around s has =
        both c' call code (λ vs y. length (flat vs) ≡ count_pairs ps * 2) (eval_pairs c' call ps s) (flat_counted c' call ps s) (pairs_get h ps pc st around s (has_front code pc (pairs_code names' h pc ps) _ has)) (λ vs y long.
        takes_all c' call code (flat vs) st (count_pairs ps * 2) (λ vs st. Pushes st (made_dict w (pairs vs) y)) (has_behind code _ (pairs_length names' h ps pc) has).0 long refl
        (subst (λ l. Leads c' call code (after (pushing (pairs_end names' pc ps + 1) st around) (thrown c' h around) (made_dict w l y)) (after (pushing (pairs_end names' pc ps + 1) st around) (thrown c' h around) (made_dict w vs y))) (sym (pairs_again vs)) here))
    eval_gets h (x.Unary operator e) pc st around s has =
        then_comes c' call code (eval_gets h e pc st around s (has_front code pc (expr_code names' h pc e) _ has)) (λ a y. acts c' call code (has_behind code _ (expr_length names' h e pc) has).0 here)
    eval_gets h (x.Binary operator e d) pc st around s has =
        let second = expr_end names' pc e in
        let rest = has_behind code _ (expr_length names' h e pc) has in
        then_comes c' call code (eval_gets h e pc st around s (has_front code pc (expr_code names' h pc e) _ has)) (λ a y.
        then_comes c' call code (eval_gets h d second (a ∷ st) around y (has_front code second (expr_code names' h second d) _ rest)) (λ b z.
        acts c' call code (has_behind code _ (expr_length names' h d second) rest).0 here))
    eval_gets h (x.Compare operator e d) pc st around s has =
        let second = expr_end names' pc e in
        let rest = has_behind code _ (expr_length names' h e pc) has in
        then_comes c' call code (eval_gets h e pc st around s (has_front code pc (expr_code names' h pc e) _ has)) (λ a y.
        then_comes c' call code (eval_gets h d second (a ∷ st) around y (has_front code second (expr_code names' h second d) _ rest)) (λ b z.
        acts c' call code (has_behind code _ (expr_length names' h d second) rest).0 here))
    eval_gets h (x.Is negated e constant) pc st around s has =
        then_comes c' call code (eval_gets h e pc st around s (has_front code pc (expr_code names' h pc e) _ has)) (λ a y. acts c' call code (has_behind code _ (expr_length names' h e pc) has).0 here)
    eval_gets h (x.Not e) pc st around s has =
        then_comes c' call code (eval_gets h e pc st around s (has_front code pc (expr_code names' h pc e) _ has)) (λ a y. acts c' call code (has_behind code _ (expr_length names' h e pc) has).0 here)
    eval_gets h (x.And e d) pc st around s has =
        let first = expr_end names' pc e + 1 in
        let rest = has_behind code _ (expr_length names' h e pc) has in
        then_comes c' call code (eval_gets h e pc st around s (has_front code pc (expr_code names' h pc e) _ has)) (λ a y.
        then_comes c' call code {f = testing first st (expr_end names' first d) (a ∷ st) around} {r = truth w a y} (acts c' call code rest.0 here) (λ b z.
        picks c' call code b (eval c' call d) (give a) z (eval_gets h d first st around z rest.1) (record { by = here })))
    eval_gets h (x.Or e d) pc st around s has =
        let first = expr_end names' pc e + 1 in
        let rest = has_behind code _ (expr_length names' h e pc) has in
        then_comes c' call code (eval_gets h e pc st around s (has_front code pc (expr_code names' h pc e) _ has)) (λ a y.
        then_comes c' call code {f = testing (expr_end names' first d) (a ∷ st) first st around} {r = truth w a y} (acts c' call code rest.0 here) (λ b z.
        picks c' call code b (give a) (eval c' call d) z (record { by = here }) (eval_gets h d first st around z rest.1)))
    eval_gets h (x.Cond test then' other) pc st around s has =
        let first = expr_end names' pc test + 1 in
        let second = expr_end names' first then' + 1 in
        let rest = has_behind code _ (expr_length names' h test pc) has in
        let jump = has_behind code _ (expr_length names' h then' first) rest.1 in
        then_comes c' call code (eval_gets h test pc st around s (has_front code pc (expr_code names' h pc test) _ has)) (λ a y.
        then_comes c' call code {f = testing first st second st around} {r = truth w a y} (acts c' call code rest.0 here) (λ b z.
        picks c' call code b (eval c' call then') (eval c' call other) z
        (jumped w m t text class locals result call code (expr_end names' first then') (expr_end names' second other) h jump.0 (eval_gets h then' first st around z (has_front code first (expr_code names' h first then') _ rest.1)))
        (eval_gets h other second st around z jump.1)))
    eval_gets h (x.Attr e name) pc st around s has =
        then_comes c' call code (eval_gets h e pc st around s (has_front code pc (expr_code names' h pc e) _ has)) (λ a y. acts c' call code (has_behind code _ (expr_length names' h e pc) has).0 here)
    eval_gets h (x.Index e d) pc st around s has =
        let second = expr_end names' pc e in
        let rest = has_behind code _ (expr_length names' h e pc) has in
        then_comes c' call code (eval_gets h e pc st around s (has_front code pc (expr_code names' h pc e) _ has)) (λ a y.
        then_comes c' call code (eval_gets h d second (a ∷ st) around y (has_front code second (expr_code names' h second d) _ rest)) (λ b z.
        acts c' call code (has_behind code _ (expr_length names' h d second) rest).0 here))
    eval_gets h (x.Call callee args keys) pc st around s has =
        let third = expr_end names' pc callee in
        let fourth = exprs_end names' third args in
        let base = exprs_end names' (pc + 1 + 1) args in
        subst (λ form. Comes c' call code (At pc st around s) (pushing (expr_end names' pc (x.Call callee args keys)) st around) (thrown c' h around) (call_by c' call form (eval c' call callee) (in_turn (eval_arguments c' call args) (eval_keywords c' call keys)) (eval_last c' call args) (last_origin c' args) s))
        (sym (forms w m t text class result locals callee))
        (call_gets h (shape args keys) (form_in names' callee) (eval c' call callee) (in_turn (eval_arguments c' call args) (eval_keywords c' call keys)) (eval_last c' call args) (last_origin c' args) pc
        (keywords_end names' fourth keys) (keywords_end names' base keys) (last_end names' pc args) third
        (expr_code names' h pc callee) (exprs_code names' h third args ++ keywords_code names' h fourth keys) (exprs_code names' h (pc + 1 + 1) args ++ keywords_code names' h base keys) (last_code names' h pc args)
        (shaped_met c' call args keys)
        (expr_length names' h callee pc) (joined (exprs_code names' h third args) (exprs_length names' h args third) (keywords_length names' h keys fourth))
        (joined (exprs_code names' h (pc + 1 + 1) args) (exprs_length names' h args (pc + 1 + 1)) (keywords_length names' h keys base)) (last_length names' h args pc)
        (eval_gets h callee pc)
        (in_turn_get h (exprs_code names' h third args) (keywords_code names' h fourth keys) third fourth (keywords_end names' fourth keys) (eval_arguments c' call args) (eval_keywords c' call keys) (exprs_length names' h args third) (args_get h args third) (keys_get h keys fourth))
        (in_turn_get h (exprs_code names' h (pc + 1 + 1) args) (keywords_code names' h base keys) (pc + 1 + 1) base (keywords_end names' base keys) (eval_arguments c' call args) (eval_keywords c' call keys) (exprs_length names' h args (pc + 1 + 1)) (args_get h args (pc + 1 + 1)) (keys_get h keys base))
        (last_gets h args pc)
        st around s has)

    all_get : (h : Handler) (es : Expressions) (pc : ℕ) → GivesAll h (exprs_code names' h pc es) pc (exprs_end names' pc es) (eval_all c' call es)
    all_get h x.end_of_expressions pc st around s has = record { by = here }
    all_get h (x.more_expressions e rest) pc st around s has =
        then_comes c' call code (eval_gets h e pc st around s (has_front code pc (expr_code names' h pc e) _ has)) (λ a y.
        then_comes c' call code (all_get h rest (expr_end names' pc e) (a ∷ st) around y (has_behind code _ (expr_length names' h e pc) has)) (λ vs z. record { by = here }))

    last_gets : (h : Handler) (es : Expressions) (pc : ℕ) → Gives' w m t text class locals result call code h (last_code names' h pc es) pc (last_end names' pc es) (eval_last c' call es)
    last_gets h x.end_of_expressions pc st around s has = acts c' call code has.0 here
    last_gets h (x.more_expressions e x.end_of_expressions) pc st around s has = eval_gets h e pc st around s has
    last_gets h (x.more_expressions e (x.more_expressions d rest)) pc st around s has = last_gets h (x.more_expressions d rest) pc st around s has

    pairs_get : (h : Handler) (ps : Pairs) (pc : ℕ) → GivesPairs h (pairs_code names' h pc ps) pc (pairs_end names' pc ps) (eval_pairs c' call ps)
    pairs_get h x.end_of_pairs pc st around s has = record { by = here }
    pairs_get h (x.more_pairs (x.Paired key value) rest) pc st around s has =
        let second = expr_end names' pc key in
        let more = has_behind code _ (expr_length names' h key pc) has in
        then_comes c' call code (eval_gets h key pc st around s (has_front code pc (expr_code names' h pc key) _ has)) (λ k y.
        then_comes c' call code (eval_gets h value second (k ∷ st) around y (has_front code second (expr_code names' h second value) _ more)) (λ a z.
        then_comes c' call code (pairs_get h rest (expr_end names' second value) (a ∷ k ∷ st) around z (has_behind code _ (expr_length names' h value second) more)) (λ ps u. record { by = here })))

    args_get : (h : Handler) (es : Expressions) (pc : ℕ) → GivesArguments w m t text class locals result call code h (exprs_code names' h pc es) pc (exprs_end names' pc es) (eval_arguments c' call es)
    args_get h x.end_of_expressions pc st around s has = record { by = here }
    args_get h (x.more_expressions e rest) pc st around s has =
        then_comes c' call code (eval_gets h e pc st around s (has_front code pc (expr_code names' h pc e) _ has)) (λ a y.
        then_comes c' call code (args_get h rest (expr_end names' pc e) (a ∷ st) around y (has_behind code _ (expr_length names' h e pc) has)) (λ args z. record { by = here }))

    keys_get : (h : Handler) (ks : Keywords) (pc : ℕ) → GivesArguments w m t text class locals result call code h (keywords_code names' h pc ks) pc (keywords_end names' pc ks) (eval_keywords c' call ks)
    keys_get h x.end_of_keywords pc st around s has = record { by = here }
    keys_get h (x.more_keywords (x.Named name e) rest) pc st around s has =
        then_comes c' call code (eval_gets h e pc st around s (has_front code pc (expr_code names' h pc e) _ has)) (λ a y.
        then_comes c' call code (keys_get h rest (expr_end names' pc e) (a ∷ st) around y (has_behind code _ (expr_length names' h e pc) has)) (λ args z. record { by = here }))

  -- an expression, and what is behind it
  pub peel : {B : Type 0} {g : B → State → Config} {f : Value → Act B} (h : Handler) (e : Expression) (pc : ℕ) (st : List Value) (around : Open) (s : State) (cells : List Cell)
      → HasAt code pc (expr_code names' h pc e ++ cells)
      → ((a : Value) (y : State) → HasAt code (expr_end names' pc e) cells → Comes c' call code (At (expr_end names' pc e) (a ∷ st) around y) g (thrown c' h around) (f a y))
      → Comes c' call code (At pc st around s) g (thrown c' h around) (and_then (eval c' call e s) f)
  peel h e pc st around s cells has i =
      then_comes c' call code (eval_gets h e pc st around s (has_front code pc (expr_code names' h pc e) cells has)) (λ a y. i a y (has_behind code cells (expr_length names' h e pc) has))
