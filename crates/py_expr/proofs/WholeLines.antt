-- Lines: a head, a head with a statement behind it, or a statement.
use Rattle.std.proofs.Common.{◌≡◌, max, [], Option, Some, None, Result, Ok, Err, IfOk, option_map, refl, sym, ap, subst}
use Rattle.std.specs.declared.alloc.AllocError.{AllocError}
use Rattle.py_tree.specs.Syntax.{Kind}
use Rattle.py_tree.specs.Joined.{kind_of}
use Rattle.py_tree.specs.declared.statement.StmtKind.{StmtKind}
use Rattle.py_expr.specs.declared.form.Head as tree_head
use Rattle.py_expr.specs.declared.form.Form as tree
use Rattle.py_expr.specs.declared.form.Form.TheVariants as made
use Rattle.py_phrases.specs.declared.phrase.Built.{Built}
use Rattle.py_phrases.specs.declared.phrase.Built.TheVariants.{Shallow, TooDeep}
use Rattle.py_phrases.specs.Grammar.{Tokens}
use Rattle.py_expr.specs.Forms as form
use Rattle.py_expr.specs.Forms.{Form, Head, head_of, form_of}
use Rattle.py_expr.specs.Depth.{head_nesting, kind_nesting, form_nesting}
use Rattle.py_expr.specs.Lines as l
use Rattle.py_expr.specs.Lines.{HeadAt, Simple, Line}
use Rattle.py_expr.specs.LineEnds.{Anything}
use Rattle.py_expr.specs.Readings.{IsBuilt, IsFound, built_on, both_built}
use Rattle.py_expr.specs.Statements.{IsWhole, WholeAt, FormAt}
use Rattle.py_phrases.proofs.Builds.{one_front}
use Rattle.py_expr.proofs.OneForm.{OneFront, no_head}
use Rattle.py_expr.proofs.Wholes.{whole_under, both_are}

one : OneFront
one k s r q d e y h z h' = let a = one_front y h z h' in record { thing = a.tree; rest = a.rest }

abbrev IsHead : Tokens → Built tree_head.Head → Tokens → Type 0
IsHead s h r = IsFound HeadAt Anything head_of head_nesting s h r

-- ---- built

simple_built : (k : Kind) (b : Built StmtKind) → IsBuilt kind_of kind_nesting k b → IsBuilt form_of form_nesting (form.Simple k) (built_on made.Simple b)
simple_built k (Shallow a) h = (h.0, ap form.Simple h.1)
simple_built k TooDeep h = h

header_built : (h : Head) (b : Built tree_head.Head) → IsBuilt head_of head_nesting h b → IsBuilt form_of form_nesting (form.Header h None) (built_on (λ z. made.Header z None) b)
header_built h (Shallow a) d = (d.0, ap (λ z. form.Header z None) d.1)
header_built h TooDeep d = d

with_built : (h : Head) (k : Kind) (b : Built (tree_head.Head × StmtKind)) → IsBuilt (λ (p : tree_head.Head × StmtKind). (head_of p.0, kind_of p.1)) (λ (p : Head × Kind). max (head_nesting p.0) (kind_nesting p.1)) (h, k) b
    → IsBuilt form_of form_nesting (form.Header h (Some k)) (built_on (λ p. made.Header p.0 (Some p.1)) b)
with_built h k (Shallow a) d = (d.0, ap (λ (p : Head × Kind). form.Header p.0 (Some p.1)) d.1)
with_built h k TooDeep d = d

-- ---- what the tokens are

pub header_there : (s r : Tokens) (h : Built tree_head.Head) (b : Built tree.Form) → IsHead s h r → r ≡ [] → b ≡ built_on (λ z. made.Header z None) h → IsWhole Line form_of form_nesting s b
header_there s r h b f e is =
    whole_under is (record {
      thing = form.Header f.thing None;
      stands = l.a_head (subst (λ z. HeadAt s z f.thing) e f.stands);
      is_built = header_built f.thing h f.is_built;
    })

header_with_there : (s r : Tokens) (h : Built tree_head.Head) (k : Built StmtKind) (b : Built tree.Form) → IsHead s h r → IsWhole Simple kind_of kind_nesting r k → b ≡ built_on (λ p. made.Header p.0 (Some p.1)) (both_built h k)
    → IsWhole Line form_of form_nesting s b
header_with_there s r h k b f g is =
    whole_under is (record {
      thing = form.Header f.thing (Some g.thing);
      stands = l.a_head_with f.stands g.stands;
      is_built = with_built f.thing g.thing (both_built h k) (both_are head_of head_nesting kind_of kind_nesting f.thing g.thing h k f.is_built g.is_built);
    })

no_line_behind : (s r : Tokens) (h : Built tree_head.Head) → IsHead s h r → (r ≡ [] → ⊥) → ((k : Kind) → Simple r k → ⊥) → (y : Form) → Line s y → ⊥
no_line_behind s r h f more none _ (l.a_head {h = a} u) = more (f.only [] a u tt).rest
no_line_behind s r h f more none _ (l.a_head_with {m = m} {h = a} {k = k} u i) = none k (subst (λ z. Simple z k) (sym (f.only m a u tt).rest) i)
no_line_behind s r h f more none _ (l.a_statement {k = k} i) = no_head one s r f.thing k f.stands i

pub header_before_there : (r : Tokens) (h : Built tree_head.Head) (k : Option (Built StmtKind)) (o : Option (Built tree.Form)) → (r ≡ [] → ⊥) → WholeAt Simple kind_of kind_nesting r k
    → o ≡ option_map (λ z. built_on (λ p. made.Header p.0 (Some p.1)) (both_built h z)) k → (s : Tokens) → IsHead s h r → FormAt s o
header_before_there r h (Some k) o more g is = λ s f. subst (FormAt s) (sym is) (header_with_there s r h k (built_on (λ p. made.Header p.0 (Some p.1)) (both_built h k)) f g refl)
header_before_there r h None o more none is = λ s f. subst (FormAt s) (sym is) (no_line_behind s r h f more none)

pub simple_there : (s : Tokens) (k : Built StmtKind) (b : Built tree.Form) → IsWhole Simple kind_of kind_nesting s k → b ≡ built_on made.Simple k → IsWhole Line form_of form_nesting s b
simple_there s k b f is = whole_under is (record { thing = form.Simple f.thing; stands = l.a_statement f.stands; is_built = simple_built f.thing k f.is_built })

pub no_line : (s : Tokens) → ((r : Tokens) (h : Head) → HeadAt s r h → ⊥) → ((k : Kind) → Simple s k → ⊥) → (y : Form) → Line s y → ⊥
no_line s heads none _ (l.a_head {h = a} u) = heads [] a u
no_line s heads none _ (l.a_head_with {m = m} {h = a} u i) = heads m a u
no_line s heads none _ (l.a_statement {k = k} i) = none k i

pub headed_ok : (s r : Tokens) (h : Built tree_head.Head) (o : Result (Option (Built tree.Form)) AllocError) → IsHead s h r → IfOk o (λ found. (q : Tokens) → IsHead q h r → FormAt q found) → IfOk o (FormAt s)
headed_ok s r h (Ok o) f k = k s f
headed_ok s r h (Err e) f k = tt
