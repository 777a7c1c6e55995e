use Rattle.std.proofs.Common.{refl, sym, subst, ◌∙◌}
use Rattle.std.proofs.lemmas.Option.{slice_get_read}
use Rattle.py_phrases.specs.Views.{mode_of, level_of, frames_of, steps_of}
use Rattle.py_phrases.specs.Readers.{Steps}
use Rattle.py_phrases.proofs.Reading.{stopped}
use Rattle.py_phrases.proofs.reader.Reader.run.Goals as goal

pub returns-in-None-clause-stops : goal.returns-in-None-clause-stops
returns-in-None-clause-stops c =
    let token = c.index-tokens-place.result in
    let got = slice_get_read c.args.tokens.now _ c.loop-place.place token refl c.loop-place-test.true c.index-tokens-place.is in
    let moves = subst (Steps (mode_of c.loop-place.mode) token c.loop-place.self c.step.new.self) c.in-None.is c.in_ok-next.ensures in
    stopped (level_of c.args.whole) (mode_of c.loop-place.mode) c.args.tokens.now c.loop-place.place token (frames_of c.loop-place.self.frames.items) (frames_of c.step.new.self.frames.items)
    (steps_of c.loop-place.self.steps.items) (steps_of c.step.new.self.steps.items) got moves (sym c.ends_before.ensures ∙ c.if-not-ends_before.false) ∙ c.loop-place.invariant
