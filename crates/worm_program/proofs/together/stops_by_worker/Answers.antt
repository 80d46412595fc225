use Rattle.std.proofs.Common.{inl, inr, ◌≡◌, ◌<◌, None, length, arith, subst, sym, ◌∙◌}
use Rattle.std.specs.Prelude.{slice_index_or, slice_set}
use Rattle.std.proofs.lemmas.Bool.{cases_eq}
use Rattle.std.proofs.lemmas.List.{get_or-set_same, get_or-set_other, length-set}
use Rattle.worm_program.specs.Together.{stop_turn}
use Rattle.worm_program.proofs.together.stops_by_worker.Goals as goal

pub loop-worker-preserved : goal.loop-worker-preserved
loop-worker-preserved c =
    let table = c.loop-worker.table in
    let i = c.loop-worker.worker in
    let v = c.stopped_turn.result in
    let all = c.loop-worker.invariant.all in
    let there : i < length table = omega arith in
    record {
      all = length-set table i v ∙ all;
      done = λ w below. elim (cases_eq w i) [
        | inl same ↦ subst (λ n. slice_index_or (slice_set table i v) n None ≡ stop_turn c.args.stops.now n) (sym same)
            (get_or-set_same table i v None there ∙ c.stopped_turn.ensures)
        | inr differ ↦ get_or-set_other table i w v None differ ∙ c.loop-worker.invariant.done w (omega arith)
      ];
    }
