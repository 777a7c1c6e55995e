use Rattle.std.proofs.Common.{[], ◌∷◌, subst}
use Rattle.py_phrases.specs.Readers.{calls}
use Rattle.py_phrases.proofs.Calling.{called_acts}
use Rattle.py_phrases.proofs.reader.Reader.call.Goals as goal

pub returns : goal.returns
returns c =
    called_acts c.args.self.now c.keep.new.self c.put.new.self c.args.name.now c.in-Some.call c.frames.result.now c.put.result c.frames.ensures
    (subst (calls c.frames.result.now (c.args.name.now ∷ [])) c.in-Some.is c.in_ok-call.ensures) c.keep.ensures.frames c.keep.ensures.steps c.put.ensures
