use Rattle.std.proofs.Common.{ap, inl}
use Rattle.std.proofs.KnownBytes.{Keeps-refl}
use Rattle.std.proofs.lemmas.Result.{err_from_is_err_and}
use Rattle.worm_text.specs.Network.{view}
use Rattle.worm_text.specs.ScriptView.{said_of}
use Rattle.worm_report.specs.Seen.{seen}
use Rattle.worm_report.specs.Report.{report}
use Rattle.worm_alone.specs.Programs.{stream}
use Rattle.worm_core.proofs.NeverRefused.{never_refused}
use Rattle.worm_alone.proofs.Scripts.{accepted_script}
use Rattle.worm_alone.proofs.Reporting.{not_accepted, reported_so}
use Rattle.worm_alone.proofs.alone.run_and_report.Goals as goal

-- where the texts are not accepted
pub returns-in_err-accepted : goal.returns-in_err-accepted
returns-in_err-accepted g c =
    let p = err_from_is_err_and c.from_residual.result c.from_residual.ensures.1 in
    let out = g.W.Write.contents c.args.out.now in
    rw (p.1, p.2) (not_accepted c.args.network.now c.args.traffic.now c.args.turns c.args.drain (stream out out)
    c.in_err-accepted.field-0.0 c.in_err-accepted.ensures.err (Keeps-refl out))

-- where there is no memory for the network
pub returns-in_default : goal.returns-in_default
returns-in_default g c = inl (
  record {
    config = view c.in_ok-accepted.accepted.config;
    of_network = c.in_ok-accepted.ensures.network;
    so_far = inl (said_of c.in_ok-accepted.accepted.script, c.in_ok-accepted.ensures.traffic);
  },
  Keeps-refl (g.W.Write.contents c.args.out.now),
)

pub returns : goal.returns
returns g c =
    reported_so c.args.network.now c.args.traffic.now c.args.turns c.args.drain c.run_script-ending.result
    (stream (g.W.Write.contents c.args.out.now) (g.W.Write.contents c.report_run.new.out))
    (report (seen c.run_script-ending.new.net) c.summary_of-summary.result) c.report_run.result
    (record {
      config = view c.in_ok-accepted.accepted.config;
      of_network = c.in_ok-accepted.ensures.network;
      script = c.in_ok-accepted.accepted.script;
      of_traffic = c.in_ok-accepted.ensures.traffic;
      opening = c.in-Some.net;
      fresh = c.in-Some.ensures;
      closing = c.run_script-ending.new.net;
      run = c.run_script-ending.ensures;
      reported = ap (report (seen c.run_script-ending.new.net)) c.summary_of-summary.ensures;
    })
    (never_refused c.in_ok-accepted.accepted.config.radices.items c.in_ok-accepted.accepted.config.channels.items
    c.in_ok-accepted.accepted.script
    (accepted_script c.in_ok-accepted.ensures.network.format
    (view c.in_ok-accepted.accepted.config) c.in_ok-accepted.accepted.script
    c.in_ok-accepted.ensures.network.keeps c.in_ok-accepted.ensures.traffic.keeps
    c.in_ok-accepted.ensures.in_order)
    c.in_ok-accepted.accepted.config.depth _ c.in-Some.net c.run_script-ending.new.net c.in-Some.ensures c.args.turns
    c.args.drain c.run_script-ending.result.stopped c.run_script-ending.result.fault c.run_script-ending.ensures)
    c.report_run.ensures
