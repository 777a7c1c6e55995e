-- What `line_form` answers, of what was read.
use Rattle.std.proofs.Common.{◌≡◌, ◌≤◌, ◌<◌, ℕ, inl, inr, Ok, Err, refl, sym, subst, ◌∙◌}
use Rattle.py_tree.specs.declared.code.Code.TheVariants as code
use Rattle.py_tree.specs.declared.fault.Stop.{Stop}
use Rattle.py_tree.specs.declared.fault.Stop.TheVariants as stop
use Rattle.py_expr.specs.declared.form.Form as tree
use Rattle.py_phrases.specs.declared.phrase.Built.{Built}
use Rattle.py_phrases.specs.declared.phrase.Built.TheVariants.{Shallow, TooDeep}
use Rattle.py_phrases.specs.Grammar.{Tokens}
use Rattle.py_expr.specs.Forms.{Form, form_of}
use Rattle.py_expr.specs.Depth.{form_nesting}
use Rattle.py_expr.specs.Lines.{Line}
use Rattle.py_expr.specs.Statements.{IsWhole}
use Rattle.py_expr.specs.LineAnswers.{IsSo, IsAnswered}
use Rattle.py_phrases.proofs.Builds.{one_front}
use Rattle.py_expr.proofs.OneForm.{OneFront, one_line}

one : OneFront
one k s r q d e y h z h' = let a = one_front y h z h' in record { thing = a.tree; rest = a.rest }

pub shallow_whole : (s : Tokens) (b : Built tree.Form) (a : tree.Form) → b ≡ Shallow a → IsWhole Line form_of form_nesting s b → IsWhole Line form_of form_nesting s (Shallow a)
shallow_whole s b a is f = subst (λ z. IsWhole Line form_of form_nesting s z) is f

pub deep_whole : (s : Tokens) (b : Built tree.Form) → b ≡ TooDeep → IsWhole Line form_of form_nesting s b → IsWhole Line form_of form_nesting s TooDeep
deep_whole s b is f = subst (λ z. IsWhole Line form_of form_nesting s z) is f

pub shallow_so : (s : Tokens) (line : ℕ) (a : tree.Form) → IsWhole Line form_of form_nesting s (Shallow a) → IsSo s line (Ok a)
shallow_so s line a f =
    let few = f.is_built.0 in
    let same : form_of a ≡ f.thing = f.is_built.1 in
    (subst (Line s) (sym same) f.stands, subst (λ z. form_nesting z ≤ 200) (sym same) few)

pub shallow_answered : (s : Tokens) (line : ℕ) (a : tree.Form) → IsWhole Line form_of form_nesting s (Shallow a) → IsAnswered s line (Ok a)
shallow_answered s line a f y d =
    let few = f.is_built.0 in
    let same : f.thing ≡ y = one_line one s f.thing y f.stands d in
    (f.is_built.1 ∙ same, subst (λ z. form_nesting z ≤ 200) same few)

pub deep_so : (s : Tokens) (line : ℕ) (o : Stop) → o ≡ stop.Fault (record { line = line; code = code.TooDeep }) → IsWhole Line form_of form_nesting s TooDeep → IsSo s line (Err o)
deep_so s line o is f = subst (λ z. IsSo s line (Err z)) (sym is) (inr (refl, record { form = f.thing; spelled = f.stands; deep = f.is_built }))

pub deep_answered : (s : Tokens) (line : ℕ) (o : Stop) → o ≡ stop.Fault (record { line = line; code = code.TooDeep }) → IsWhole Line form_of form_nesting s TooDeep → IsAnswered s line (Err o)
deep_answered s line o is f = subst (λ z. IsAnswered s line (Err z)) (sym is) (λ y d. (refl, subst (λ z. 200 < form_nesting z) (one_line one s f.thing y f.stands d) f.is_built))

pub none_so : (s : Tokens) (line : ℕ) (o : Stop) → o ≡ stop.Fault (record { line = line; code = code.NoForm }) → ((y : Form) → Line s y → ⊥) → IsSo s line (Err o)
none_so s line o is none = subst (λ z. IsSo s line (Err z)) (sym is) (inl (refl, none))

pub none_answered : (s : Tokens) (line : ℕ) (o : Stop) → o ≡ stop.Fault (record { line = line; code = code.NoForm }) → ((y : Form) → Line s y → ⊥) → IsAnswered s line (Err o)
none_answered s line o is none = subst (λ z. IsAnswered s line (Err z)) (sym is) (λ y d. absurd (none y d))
