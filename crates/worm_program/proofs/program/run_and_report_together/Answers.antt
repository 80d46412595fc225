use Rattle.std.proofs.Common.{Bool, true, nat_le, ℕ, ◌≡◌, ◌≤◌, ap, inl, inr, arith}
use Rattle.std.proofs.KnownBytes.{Keeps-refl}
use Rattle.std.proofs.lemmas.Result.{err_from_is_err_and}
use Rattle.worm_mesh.specs.Address.{node_count}
use Rattle.worm_report.specs.Seen.{seen}
use Rattle.worm_report.specs.Report.{report}
use Rattle.worm_text.specs.Network.{view}
use Rattle.worm_alone.specs.Programs.{stream}
use Rattle.worm_program.specs.Together.{plan_of, summary_with}
use Rattle.worm_program.proofs.ByWorkers.{not_accepted, together_so}
use Rattle.worm_alone.proofs.Scripts.{accepted_script}
use Rattle.worm_program.proofs.program.run_and_report_together.Goals as goal

-- what the test for the nodes tells
at_most : (is_so : Bool) (n m : ℕ) → is_so ≡ nat_le n m → is_so ≡ true → n ≤ m
at_most is_so n m e p = grind arith

-- where the texts are not accepted
pub returns-in_err-accepted : goal.returns-in_err-accepted
returns-in_err-accepted g c =
    let p = err_from_is_err_and c.from_residual.result c.from_residual.ensures.1 in
    let out = g.W.Write.contents c.args.out.now in
    rw (p.1, p.2) (not_accepted (g.G.Gate.may_stop c.args.gate.now) (g.G.Gate.may_pass c.args.gate.now)
    (plan_of c.args.options.now) c.args.options.now.drain (stream out out) c.args.network.now c.args.traffic.now
    c.in_err-accepted.field-0.0 c.in_err-accepted.ensures.err (Keeps-refl out))

-- where there is no memory for the network, which has the nodes
pub returns-in_default : goal.returns-in_default
returns-in_default g c =
    let config = view c.in_ok-accepted.accepted.config in
    let said = c.in_ok-accepted.ensures in
    let nodes : c.args.options.now.workers ≤ node_count config.radices =
    at_most c.has_nodes.result c.args.options.now.workers (node_count config.radices) c.has_nodes.ensures
    c.if-not-has_nodes.false in
    inl (
      inr record {
        config = config;
        script = c.in_ok-accepted.accepted.script;
        accepted = record { of_network = said.network; of_traffic = said.traffic };
        nodes = nodes;
      },
      Keeps-refl (g.W.Write.contents c.args.out.now),
    )

pub returns : goal.returns
returns g c =
    let stop = g.G.Gate.may_stop c.args.gate.now in
    let pass = g.G.Gate.may_pass c.args.gate.now in
    let options = c.args.options.now in
    let accepted = c.in_ok-accepted.accepted in
    let said = c.in_ok-accepted.ensures in
    let ended = c.in-Ok.ended in
    let told = report (seen ended.net) in
    together_so stop pass c.args.network.now c.args.traffic.now (plan_of options) options.drain
    (stream (g.W.Write.contents c.args.out.now) (g.W.Write.contents c.report_run.new.out)) ended.fault
    (told (summary_with (plan_of options) options.drain ended.stops c.not_offered.result))
    (record {
      config = view accepted.config;
      script = accepted.script;
      accepted = record { of_network = said.network; of_traffic = said.traffic };
      opening = c.in-Some.net;
      fresh = c.in-Some.ensures;
      closing = ended.net;
      table = ended.stops;
      leads = c.in-Ok.ensures.ended;
      reported = ap (λ n. told (summary_with (plan_of options) options.drain ended.stops n)) c.not_offered.ensures;
    })
    (accepted_script said.network.format (view accepted.config) accepted.script said.network.keeps said.traffic.keeps
    said.in_order)
    c.report_run.result c.report_run.ensures
