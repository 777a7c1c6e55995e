use denote.Param.Send.{arg_send, arg_sync, param_send, param_sync}
use Rattle.std.proofs.Common.{map, sym, subst}
use Rattle.std.specs.Arc.{arc_value}
use Rattle.std.proofs.lemmas.Result.{IfOk-weaker}
use Rattle.module_load.specs.declared.strict_python.StrictPython.{StrictPython}
use Rattle.module_load.specs.Folders.{IsSources, file_of}
use Rattle.module_load.proofs.Crossing.{source_send, source_sync}
use Rattle.strict_top.specs.Steps.{AreDecided}
use Rattle.strict_top.proofs.WorldOfFiles.{IsPythonWorld, world_of_files}
use Rattle.strict_top.proofs.beside.decide_beside.Goals as goal

pub load_all-requires-send-L-Source : goal.load_all-requires-send-L-Source
load_all-requires-send-L-Source g c κs = search (source_send, param_send, arg_send)

pub load_all-requires-sync-L-Source : goal.load_all-requires-sync-L-Source
load_all-requires-sync-L-Source g c κs = search (source_sync, param_sync, arg_sync)

pub returns : goal.returns
returns g c =
    let files = map file_of c.args.files.now in
    let loads : StrictPython = record {} in
    let all = arc_value c.in_ok-all-2.all in
    let sources : IsSources files all = subst (IsSources files) (sym c.in_ok-all-2.ensures.ok) c.in_ok-all.ensures in
    IfOk-weaker c.load_all.result (λ verdicts. IsPythonWorld loads all verdicts) (λ verdicts. AreDecided files verdicts)
    (λ verdicts whole. world_of_files files loads all verdicts sources whole) c.load_all.ensures
