use Rattle.std.proofs.Common.{◌≡◌, ◌∷◌, length, ap, subst, arith}
use Rattle.py_phrases.specs.Tokens as t
use Rattle.py_expr.specs.Signatures.{ParamAt}
use Rattle.py_expr.proofs.Defaults.{Later, none_before}
use Rattle.py_expr.proofs.ParameterLists.{ended_found, with_comma, closed_found, found_shorter, out_of_order, no_parameter_there, some_param}
use Rattle.py_expr.proofs.parameters.parameters.Goals as goal
use Rattle.py_expr.proofs.parameters.parameters.Goals.{else-defaults-via-then-defaults+else-not-read, else-defaults-via-else-defaults}

pub returns-in-Some : goal.returns-in-Some
returns-in-Some c = ended_found c.args.tokens.now c.loop-behind.rest.now c.in-Some.behind.now c.loop-behind.params c.loop-behind.defaults c.loop-behind.invariant c.in-Some.ensures

pub returns-in_default-2 : goal.returns-in_default-2
returns-in_default-2 c =
    no_parameter_there c.args.tokens.now c.loop-behind.rest.now c.loop-behind.params c.loop-behind.defaults c.loop-behind.invariant c.in_default.ensures (subst (ParamAt c.loop-behind.rest.now) c.in_default-2.is c.in_ok-read.ensures)

pub returns-then-not-read : goal.returns-then-not-read
returns-then-not-read c =
    let read = c.in-Some-2.read in
    out_of_order c.loop-behind.rest.now read.rest.now read.built read.has_default (some_param c.loop-behind.rest.now c.in_ok-read.field-0 read c.in-Some-2.is c.in_ok-read.ensures) c.args.tokens.now c.loop-behind.params
    c.loop-behind.defaults c.loop-behind.invariant c.if-defaults.true c.if-not-read.true

pub returns-in_default-after_mark : goal.returns-in_default-after_mark
returns-in_default-after_mark c =
    let read = c.in-Some-2.read in
    let later : Later c.loop-behind.defaults read.has_default
    = elim c.else-defaults.branch [ else-defaults-via-then-defaults+else-not-read w ↦ λ e. w.if-not-read.false | else-defaults-via-else-defaults w ↦ none_before c.loop-behind.defaults read.has_default w.if-defaults.false ] in
    closed_found c.loop-behind.rest.now read.rest.now read.built read.has_default (some_param c.loop-behind.rest.now c.in_ok-read.field-0 read c.in-Some-2.is c.in_ok-read.ensures) c.args.tokens.now c.loop-behind.params
    c.in_ok-params.params c.loop-behind.defaults c.loop-behind.invariant later c.in_default-after_mark.ensures c.in_ok-params.ensures c.closed.result c.closed.ensures

pub loop-behind-smaller : goal.loop-behind-smaller
loop-behind-smaller c =
    let read = c.in-Some-2.read in
    let h = found_shorter c.loop-behind.rest.now read.rest.now read.built read.has_default (some_param c.loop-behind.rest.now c.in_ok-read.field-0 read c.in-Some-2.is c.in_ok-read.ensures) in
    let e : length c.in-Some-2.read.rest.now ≡ length (t.comma ∷ c.in-Some-after_mark.more.now) = ap length c.in-Some-after_mark.ensures in
    omega (arith, h, e)

pub loop-behind-preserved : goal.loop-behind-preserved
loop-behind-preserved c =
    let read = c.in-Some-2.read in
    let later : Later c.loop-behind.defaults read.has_default
    = elim c.else-defaults.branch [ else-defaults-via-then-defaults+else-not-read w ↦ λ e. w.if-not-read.false | else-defaults-via-else-defaults w ↦ none_before c.loop-behind.defaults read.has_default w.if-defaults.false ] in
    with_comma c.loop-behind.rest.now read.rest.now read.built read.has_default (some_param c.loop-behind.rest.now c.in_ok-read.field-0 read c.in-Some-2.is c.in_ok-read.ensures) c.args.tokens.now c.in-Some-after_mark.more.now
    c.loop-behind.params c.in_ok-params.params c.loop-behind.defaults c.loop-behind.invariant later c.in-Some-after_mark.ensures c.in_ok-params.ensures
