-- The literals of a form fit where those among its tokens do.
use Rattle.std.proofs.Common.{◌≡◌, true, ◌&&◌, List, ◌∷◌, Option, refl, sym, ◌∙◌}
use Rattle.std.proofs.lemmas.Bool.{and_from}
use Rattle.py_tree.specs.Syntax.{Expression, Param, Kind}
use Rattle.py_tree.specs.Literals.{fits, maybe_fits, params_fit, target_fits, kind_fits}
use Rattle.py_tree.specs.declared.operator.BinaryOp.{BinaryOp}
use Rattle.py_lexer.specs.declared.token.Token.{Token}
use Rattle.py_lexer.specs.Literals.{tokens_fit}
use Rattle.py_phrases.specs.Grammar.{Tokens}
use Rattle.py_phrases.proofs.Fitting.{Fit, phrase_fits, names_fit, place_fits, assigned_fits}
use Rattle.py_expr.specs.Lines as l
use Rattle.py_expr.specs.Lines.{Augmented, Annotation, Default, Parameters, Result, Base, HeadAt, Value, Simple, Line}
use Rattle.py_expr.specs.Literals.{head_fits, form_fits}
use Rattle.py_expr.specs.Forms.{Form, Head}

past_augmented : {c : Token} {op : BinaryOp} → Augmented c op → (r : Tokens) → tokens_fit (c ∷ r) ≡ tokens_fit r
past_augmented l.plus_equal r = refl
past_augmented l.minus_equal r = refl
past_augmented l.star_equal r = refl
past_augmented l.double_slash_equal r = refl
past_augmented l.percent_equal r = refl

-- ---- parameters, results and bases

annotation_fits : {s r : Tokens} {k : Option Expression} → Annotation s r k → tokens_fit s ≡ true → Fit (maybe_fits k) r
annotation_fits l.unannotated h = (refl, h)
annotation_fits (l.annotated d) h = phrase_fits d h

default_fits : {s r : Tokens} {k : Option Expression} → Default s r k → tokens_fit s ≡ true → Fit (maybe_fits k) r
default_fits l.no_default h = (refl, h)
default_fits (l.a_default d) h = phrase_fits d h

parameters_fit : {s r : Tokens} {ps : List Param} → Parameters s r ps → tokens_fit s ≡ true → Fit (params_fit ps) r
parameters_fit l.no_parameter h = (refl, h)
parameters_fit (l.last_parameter (l.a_parameter {k = k} {d = d} a b)) h =
    let y = annotation_fits a h in let z = default_fits b y.1 in
    (and_from (maybe_fits k && maybe_fits d) true (and_from (maybe_fits k) (maybe_fits d) y.0 z.0) refl, z.1)
parameters_fit (l.next_parameter {ps = ps} (l.a_parameter {k = k} {d = d} a b) rest) h =
    let x = annotation_fits a h in let y = default_fits b x.1 in let z = parameters_fit rest y.1 in
    (and_from (maybe_fits k && maybe_fits d) (params_fit ps) (and_from (maybe_fits k) (maybe_fits d) x.0 y.0) z.0, z.1)

result_fits : {s r : Tokens} {k : Option Expression} → Result s r k → tokens_fit s ≡ true → Fit (maybe_fits k) r
result_fits l.no_result h = (refl, h)
result_fits (l.a_result d) h = phrase_fits d h

base_fits : {s r : Tokens} {b : Option Expression} → Base s r b → tokens_fit s ≡ true → Fit (maybe_fits b) r
base_fits l.no_base h = (refl, h)
base_fits l.empty_base h = (refl, h)
base_fits l.named_base h = (refl, h)
base_fits l.dotted_base h = (refl, h)

-- ---- heads

head_at_fits : {s r : Tokens} {head : Head} → HeadAt s r head → tokens_fit s ≡ true → Fit (head_fits head) r
head_at_fits (l.an_if d) h = phrase_fits d h
head_at_fits (l.an_elif d) h = phrase_fits d h
head_at_fits l.an_else h = (refl, h)
head_at_fits (l.a_while d) h = phrase_fits d h
head_at_fits (l.a_for {g = g} {e = e} n d) h = let y = names_fit n h in let z = phrase_fits d y.1 in (and_from (target_fits g) (fits e) y.0 z.0, z.1)
head_at_fits l.a_try h = (refl, h)
head_at_fits l.an_except h = (refl, h)
head_at_fits (l.an_except_of d) h = phrase_fits d h
head_at_fits (l.an_except_as d) h = phrase_fits d h
head_at_fits (l.a_def {ps = ps} {k = k} p last q) h = let y = parameters_fit p h in let z = result_fits q y.1 in (and_from (params_fit ps) (maybe_fits k) y.0 z.0, z.1)
head_at_fits (l.a_class b) h = base_fits b h

-- ---- simple statements

value_fits : {s : Tokens} {e : Option Expression} → Value s e → tokens_fit s ≡ true → maybe_fits e ≡ true
value_fits l.no_value h = refl
value_fits (l.a_value d) h = (phrase_fits d h).0

simple_fits : {s : Tokens} {k : Kind} → Simple s k → tokens_fit s ≡ true → kind_fits k ≡ true
simple_fits l.a_pass h = refl
simple_fits l.a_break h = refl
simple_fits l.a_continue h = refl
simple_fits l.a_return h = refl
simple_fits (l.a_return_of d) h = (phrase_fits d h).0
simple_fits l.a_raise h = refl
simple_fits (l.a_raise_of d) h = (phrase_fits d h).0
simple_fits (l.an_import is) h = refl
simple_fits (l.a_from is) h = refl
simple_fits (l.an_expression d) h = (phrase_fits d h).0
simple_fits (l.an_assignment {g = g} {e = e} t d) h = let y = assigned_fits t h in and_from (target_fits g) (fits e) y.0 (phrase_fits d y.1).0
simple_fits (l.an_annotation {k = k} {v = v} d u) h = let y = phrase_fits d h in and_from (fits k) (maybe_fits v) y.0 (value_fits u y.1)
simple_fits (l.an_attribute_annotation {k = k} {v = v} d u) h = let y = phrase_fits d h in and_from (fits k) (maybe_fits v) y.0 (value_fits u y.1)
simple_fits (l.an_augmentation {m = m} {g = g} {e = e} c p d) h = let y = place_fits p h in and_from (target_fits g) (fits e) y.0 (phrase_fits d (sym (past_augmented c m) ∙ y.1)).0

pub form_fits_there : {s : Tokens} {f : Form} → Line s f → tokens_fit s ≡ true → form_fits f ≡ true
form_fits_there (l.a_head d) h = (head_at_fits d h).0
form_fits_there (l.a_head_with {h = head} {k = k} d e) h = let y = head_at_fits d h in and_from (head_fits head) (kind_fits k) y.0 (simple_fits e y.1)
form_fits_there (l.a_statement d) h = simple_fits d h
