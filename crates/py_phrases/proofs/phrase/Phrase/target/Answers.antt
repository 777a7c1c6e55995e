use Rattle.std.proofs.Common.{arith}
use Rattle.py_phrases.proofs.PhraseTargets.{deep_builds, shallow_builds, none_builds}
use Rattle.py_phrases.proofs.phrase.Phrase.target.Goals as goal

pub returns-then-branch : goal.returns-then-branch
returns-then-branch c = record {
  target =
      deep_builds c.args.self.now c.deref.result.now c.deref-then-branch.result.now c.deref.ensures.value c.deref-then-branch.ensures.value c.in_ok-nesting_of.field-0 (omega (arith, c.if-branch.true)) c.in_ok-nesting_of.ensures
      c.deep.result c.deep.ensures;
}

pub returns-in-Some : goal.returns-in-Some
returns-in-Some c = record {
  target =
      shallow_builds c.args.self.now c.deref.result.now c.deref-2.result.now c.deref.ensures.value c.deref-2.ensures.value c.in_ok-nesting_of.field-0 (omega (arith, c.if-branch.false)) c.in_ok-nesting_of.ensures c.in_ok-target.field-0
      c.in-Some.target c.in-Some.is c.in_ok-target.ensures;
}

pub returns-in-None : goal.returns-in-None
returns-in-None c = record { target = none_builds c.args.self.now c.deref-2.result.now c.deref-2.ensures.value c.in_ok-target.field-0 c.in-None.is c.in_ok-target.ensures }
