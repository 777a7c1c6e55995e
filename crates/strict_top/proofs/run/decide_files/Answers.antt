use denote.Param.Send.{arg_send, arg_sync, param_send, param_sync}
use Rattle.std.proofs.Common.{map}
use Rattle.std.proofs.lemmas.Result.{IfOk-weaker}
use Rattle.module_load.specs.declared.strict_python.StrictPython.{StrictPython}
use Rattle.module_load.specs.Folders.{file_of}
use Rattle.module_load.proofs.Crossing.{source_send, source_sync}
use Rattle.strict_top.specs.Steps.{AreDecided}
use Rattle.strict_top.proofs.WorldOfFiles.{IsPythonWorld, world_of_files}
use Rattle.strict_top.proofs.run.decide_files.Goals as goal

pub decide_alone-requires-send-L-Source : goal.decide_alone-requires-send-L-Source
decide_alone-requires-send-L-Source c κs = search (source_send, param_send, arg_send)

pub decide_alone-requires-sync-L-Source : goal.decide_alone-requires-sync-L-Source
decide_alone-requires-sync-L-Source c κs = search (source_sync, param_sync, arg_sync)

pub returns : goal.returns
returns c =
    let files = map file_of c.args.files.now in
    let loads : StrictPython = record {} in
    IfOk-weaker c.decide_alone.result (λ verdicts. IsPythonWorld loads c.in_ok-all.all verdicts) (λ verdicts. AreDecided files verdicts)
    (λ verdicts whole. world_of_files files loads c.in_ok-all.all verdicts c.in_ok-all.ensures whole) c.decide_alone.ensures
