use Rattle.std.proofs.Common.{List, inl, subst}
use Rattle.worm_run.specs.declared.plan.Stop.{Stop}
use Rattle.worm_program.specs.Together.{AreStopsOf, DrainsUnstopped}
use Rattle.worm_program.proofs.together.run_together.Goals as goal

pub returns-in-Ok-clause-ended : goal.returns-in-Ok-clause-ended
returns-in-Ok-clause-ended g c =
    let end = c.in-Ok.end in
    let told = c.in-Ok.ensures in
    inl (record {
      workers = c.requires;
      end = end;
      exact = told.exact;
      runs = told.runs;
      later = told.later;
      delivers = told.delivers;
      stopped = subst (λ (l : List Stop). AreStopsOf l c.stops_by_worker.result) c.as_slice-in-Ok.ensures.value
          c.stops_by_worker.ensures;
      drained = subst
          (λ (l : List Stop). DrainsUnstopped c.args.most l end.net c.drain_unstopped-fault.result
          c.drain_unstopped-fault.new.net)
          c.as_slice.ensures.value c.drain_unstopped-fault.ensures;
    })
