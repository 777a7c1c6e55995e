-- The three answers of the rules of a run.
use Rattle.py_values.specs.declared.value.Home.{Home}
use Rattle.heap_seg.specs.declared.rules.Answer.{Answer}

pub record Mode : Type 0 where
  pub on_write : Home → Answer  -- to a write to an object of that home
  pub on_print : Answer
  pub on_look : Answer  -- to a look at a host value
