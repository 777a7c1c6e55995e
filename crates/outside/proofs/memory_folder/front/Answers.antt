use Rattle.std.proofs.Common.{ap, ◌∙◌, take}
use Rattle.std.proofs.lemmas.List.{take_min}
use Rattle.outside.proofs.memory_folder.front.Goals as goal

pub returns-clause-value : goal.returns-clause-value
returns-clause-value c = ap (λ n. take n c.args.bytes.now) c.min.ensures ∙ take_min 1048577 c.args.bytes.now
