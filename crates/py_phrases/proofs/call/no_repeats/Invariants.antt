use Rattle.std.proofs.Common.{take}
use Rattle.py_phrases.specs.Views.{texts_of}
use Rattle.py_phrases.proofs.SeenNames.{Seen}
use Rattle.py_phrases.proofs.call.no_repeats.Given as goal

abbrev pub invariant-loop-name : goal.invariant-loop-name
invariant-loop-name l = Seen (texts_of (take l.name-index l.names)) l.seen
