-- What steps meet is met by expressions, where the oracles that answer their calls meet what is wanted behind the fuel of a call.
use Rattle.std.specs.Prelude.{ℕ, List, [], ◌++◌, length}
use Rattle.py_tree.specs.Syntax as x
use Rattle.py_tree.specs.Syntax.{Expression, Expressions, Pairs, Keywords}
use Rattle.atom_ops.specs.Operators as op
use Rattle.symbols.specs.declared.binding.StaticName.{StaticName}
use Rattle.symbols.specs.declared.binding.StaticName.TheVariants as static
use Rattle.gradual_types.specs.declared.py_type.PyType.TheVariants.{Dynamic, Int64, CBool}
use Rattle.gradual_types.specs.Values as v
use Rattle.gradual_types.specs.Values.{Value}
use Rattle.py_meaning.specs.Acts.{Act}
use Rattle.py_meaning.specs.Modules.{World, Scope}
use Rattle.py_meaning.specs.Operands.{operand}
use Rattle.py_meaning.specs.Boundaries.{Origin}
use Rattle.py_meaning.specs.Arguments.{Argument}
use Rattle.py_meaning.specs.Calls.{Oracle, boxed}
use Rattle.py_meaning.specs.Expressions.{Form, Plain, Super, Static, form_of, converted, last_origin, call_by, in_turn, filled, made_dict, eval, eval_all, eval_last, eval_pairs, eval_arguments, eval_keywords}
use Rattle.py_meaning.proofs.Steps.{Steps, Ticked, Both, Kept, at, seq, chosen, looks}
use Rattle.py_meaning.proofs.StepsOfOperators.{tables, truths, opposites, binaries, comparisons}
use Rattle.py_meaning.proofs.StepsOfNames.{passes, reads, gets_attribute, gets_item}
use Rattle.py_meaning.proofs.StepsOfMethods.{puts_pairs}
use Rattle.py_meaning.proofs.StepsOfCalls.{calls, supers}

module _ {w : World} (q : Steps w) where
  pub converts : (k : Scope) (name : StaticName) (origin : Origin) (value : Value) → Kept q (converted (at w k) name origin value)
  converts k static.Int64 origin value = passes q k origin Int64 value
  converts k static.CBool origin value = passes q k origin CBool value
  converts k static.Cast origin value = passes q k origin Dynamic value
  converts k _ origin value = q.gives (boxed value)

  pub fills : (pairs : List (Value × Value)) (dict : Value) → Kept q (filled w pairs dict)
  fills pairs (v.Object h n) = seq q (puts_pairs q h n pairs) (q.gives (v.Object h n))
  fills pairs _ = q.gives _

  pub makes_dict : (pairs : List (Value × Value)) → Kept q (made_dict w pairs)
  makes_dict pairs = q.bind (seq q (q.pays (length pairs)) (q.makes (v.Mapped []))) (fills pairs)

  pub in_turns : {first first' next next' : Act (List Argument)} → Both q first first' → Both q next next' → Both q (in_turn first next) (in_turn first' next')
  in_turns hf hn = q.bind hf (λ args. q.bind hn (λ keys. q.gives (args ++ keys)))

module _ {w : World} {p q : Steps w} (t : Ticked p q) {call call' : Oracle} (hc : (m n : ℕ) (values : List Value) → Both p (call m n values) (call' m n values)) (k : Scope) where
  pub calls_by : (form : Form) {callee callee' last last' : Act Value} {arguments arguments' : Act (List Argument)} (origin : Origin)
      → Both q callee callee' → Both q arguments arguments' → Both q last last'
      → Both q (call_by (at w k) call form callee arguments last origin) (call_by (at w k) call' form callee' arguments' last' origin)
  calls_by Plain origin hf ha hl = q.bind hf (λ f. q.bind ha (λ args. t.by (p.bind (looks p f) (λ a. calls p hc k args a))))
  calls_by (Super name) origin hf ha hl = supers t hc k name ha
  calls_by (Static name) origin hf ha hl = q.bind hl (converts q k name origin)

  mutual
    pub evals : (e : Expression) → Both q (eval (at w k) call e) (eval (at w k) call' e)
    evals x.Nil = q.gives _
    evals x.True = q.gives _
    evals x.False = q.gives _
    evals (x.Int n) = q.gives _
    evals (x.Str text) = q.gives _
    evals (x.Name name) = reads q k name
    evals (x.Tuple es) = q.bind (evals_all es) (λ vs. q.bind (q.pays _) (λ a. q.gives _))
    evals (x.Listed es) = q.bind (evals_all es) (λ vs. q.bind (q.pays _) (λ a. q.makes (v.Listed vs)))
    evals (x.Dict ps) = q.bind (evals_pairs ps) (makes_dict q)
    evals (x.Unary operator e) = q.bind (evals e) (λ value. q.bind (looks q value) (λ a. tables q (op.Unary operator (operand a))))
    evals (x.Binary operator e d) = q.bind (evals e) (λ left. q.bind (evals d) (λ right. binaries q operator left right))
    evals (x.Compare operator e d) = q.bind (evals e) (λ left. q.bind (evals d) (λ right. comparisons q operator left right))
    evals (x.Is negated e constant) = q.bind (evals e) (λ value. q.bind (looks q value) (λ a. tables q (op.Is negated (operand a) constant)))
    evals (x.Not e) = q.bind (evals e) (opposites q)
    evals (x.And e d) = q.bind (evals e) (λ left. q.bind (truths q left) (λ holds. chosen q holds (evals d) (q.gives left)))
    evals (x.Or e d) = q.bind (evals e) (λ left. q.bind (truths q left) (λ holds. chosen q holds (q.gives left) (evals d)))
    evals (x.Cond test then' other) = q.bind (evals test) (λ value. q.bind (truths q value) (λ holds. chosen q holds (evals then') (evals other)))
    evals (x.Attr e name) = q.bind (evals e) (λ object. gets_attribute q object name)
    evals (x.Index e i) = q.bind (evals e) (λ object. q.bind (evals i) (λ index. gets_item q object index))
    evals (x.Call callee args keys) =
        calls_by (form_of (at w k) callee) (last_origin (at w k) args) (evals callee) (in_turns q (evals_arguments args) (evals_keywords keys)) (evals_last args)

    pub evals_all : (es : Expressions) → Both q (eval_all (at w k) call es) (eval_all (at w k) call' es)
    evals_all x.end_of_expressions = q.gives []
    evals_all (x.more_expressions e rest) = q.bind (evals e) (λ value. q.bind (evals_all rest) (λ values. q.gives _))

    pub evals_last : (es : Expressions) → Both q (eval_last (at w k) call es) (eval_last (at w k) call' es)
    evals_last x.end_of_expressions = q.gives v.Nil
    evals_last (x.more_expressions e x.end_of_expressions) = evals e
    evals_last (x.more_expressions e (x.more_expressions d rest)) = evals_last (x.more_expressions d rest)

    pub evals_pairs : (ps : Pairs) → Both q (eval_pairs (at w k) call ps) (eval_pairs (at w k) call' ps)
    evals_pairs x.end_of_pairs = q.gives []
    evals_pairs (x.more_pairs (x.Paired key value) rest) = q.bind (evals key) (λ a. q.bind (evals value) (λ b. q.bind (evals_pairs rest) (λ pairs. q.gives _)))

    pub evals_arguments : (es : Expressions) → Both q (eval_arguments (at w k) call es) (eval_arguments (at w k) call' es)
    evals_arguments x.end_of_expressions = q.gives []
    evals_arguments (x.more_expressions e rest) = q.bind (evals e) (λ value. q.bind (evals_arguments rest) (λ args. q.gives _))

    pub evals_keywords : (ks : Keywords) → Both q (eval_keywords (at w k) call ks) (eval_keywords (at w k) call' ks)
    evals_keywords x.end_of_keywords = q.gives []
    evals_keywords (x.more_keywords (x.Named name e) rest) = q.bind (evals e) (λ value. q.bind (evals_keywords rest) (λ args. q.gives _))
