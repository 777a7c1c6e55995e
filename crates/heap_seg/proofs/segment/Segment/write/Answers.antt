use Rattle.std.proofs.Common.{refl}
use Rattle.std.proofs.lemmas.Result.{on_ok_weaker, on_err_weaker}
use Rattle.heap_seg.proofs.Places.{changed_at, same_at}
use Rattle.heap_seg.proofs.segment.Segment.write.Goals as goal

pub returns-clause-ok : goal.returns-clause-ok
returns-clause-ok c =
    on_ok_weaker c.apply.result
    (λ made. record {
      thing = changed_at c.args.self.now.objects.items c.args.place c.index_mut.result.now c.apply.new.self c.args.change c.index_mut.ensures.value made;
      others = record { home = refl; globals = refl; defaults = refl };
    }) c.apply.ensures.ok

pub returns-clause-err : goal.returns-clause-err
returns-clause-err c =
    on_err_weaker c.apply.result
    (λ same. record {
      things = same_at c.args.self.now.objects.items c.args.place c.index_mut.result.now c.apply.new.self c.index_mut.ensures.value same;
      others = record { home = refl; globals = refl; defaults = refl };
    }) c.apply.ensures.err
