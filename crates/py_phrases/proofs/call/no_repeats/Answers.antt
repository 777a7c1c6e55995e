use Rattle.std.proofs.Common.{◌≡◌, ◌+◌, ◌∷◌, ◌++◌, take, drop, sym, ap, subst, ◌∙◌}
use Rattle.py_phrases.specs.Machine.{no_repeats}
use Rattle.py_phrases.specs.Views.{texts_of}
use Rattle.py_phrases.proofs.SeenNames.{Seen, none_seen, seen_next, seen_again, next_text, newer_texts}
use Rattle.py_phrases.proofs.call.no_repeats.Goals as goal

pub loop-name-init : goal.loop-name-init
loop-name-init c = none_seen c.new-seen.result c.new-seen.ensures.empty

pub loop-name-preserved : goal.loop-name-preserved
loop-name-preserved c =
    let texts = texts_of (take c.loop-name.name-index c.args.names.now) in
    let more = next_text c.args.names.now c.loop-name.name-index c.name-item.result c.as_slice.result.now c.loop-name-test.true c.name-item.is c.as_slice.ensures.points in
    subst (λ z. Seen z c.insert.new.self) (sym more) (seen_next texts c.as_slice.result c.loop-name.seen c.insert.new.self c.in_ok-insert.field-0 c.loop-name.invariant c.in_ok-insert.ensures.added c.if-not-branch.false c.in_ok-insert.ensures.updates)

pub returns-then-not-branch : goal.returns-then-not-branch
returns-then-not-branch c =
    let names = c.args.names.now in
    let i = c.loop-name.name-index in
    let texts = texts_of (take i names) in
    let more = next_text names i c.name-item.result c.as_slice.result.now c.loop-name-test.true c.name-item.is c.as_slice.ensures.points in
    let all : texts_of names ≡ texts_of (drop (i + 1) names) ++ c.as_slice.result.now ∷ texts = newer_texts names (i + 1) ∙ ap (λ z. texts_of (drop (i + 1) names) ++ z) more in
    sym (ap no_repeats all ∙ seen_again texts (texts_of (drop (i + 1) names)) c.as_slice.result c.loop-name.seen c.in_ok-insert.field-0 c.loop-name.invariant c.in_ok-insert.ensures.added c.if-not-branch.true)
