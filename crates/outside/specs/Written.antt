-- A sink in memory: what a call of it does.
use Rattle.std.specs.Prelude.{◌≡◌, ℕ, min, Bool, true, false, List, ◌++◌, length, take, Result, Ok, Err}
use Rattle.outside.specs.declared.sink.SinkFault.{SinkFault}
use Rattle.outside.specs.declared.sink.SinkFault.TheVariants.{Failed, Memory}
use Rattle.outside.specs.Calls.{next_count, is_due}

-- A sink in memory: what was written to it, the most bytes that it takes at once, the numbers of the calls that are to
-- fail, and how many calls and faults there were.
pub record SinkState : Type 0 where
  pub written : List ℕ
  pub most : ℕ
  pub failing : List ℕ
  pub calls : ℕ
  pub faults : ℕ

-- Whether the next call is to fail.
abbrev pub call_fails : SinkState → Bool
call_fails sink = is_due sink.failing sink.calls

-- The sink after a call that took those bytes, after one that failed, and after one that had no memory.
abbrev pub after_writing : SinkState → List ℕ → SinkState
after_writing sink bytes = record sink { written = sink.written ++ bytes; calls = next_count sink.calls }

abbrev pub after_failure : SinkState → SinkState
after_failure sink = record sink { calls = next_count sink.calls; faults = next_count sink.faults }

abbrev pub after_call : SinkState → SinkState
after_call sink = record sink { calls = next_count sink.calls }

-- What a writing does: it fails exactly where it is to, and else takes as many bytes as it may.
abbrev pub AnswersWrite : Result ℕ SinkFault → Bool → List ℕ → SinkState → SinkState → Type 0
AnswersWrite (Ok n) fails bytes before now = (fails ≡ false) × (n ≡ min before.most (length bytes)) × (now ≡ after_writing before (take n bytes))
AnswersWrite (Err Failed) fails bytes before now = (fails ≡ true) × (now ≡ after_failure before)
AnswersWrite (Err Memory) fails bytes before now = (fails ≡ false) × (now ≡ after_call before)
