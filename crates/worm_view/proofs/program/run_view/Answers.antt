use Rattle.std.proofs.Common.{rules}
use Rattle.worm_view.specs.Programs.{stream}
use Rattle.worm_view.proofs.Drawing.{failed_reading}
use Rattle.worm_view.proofs.program.run_view.Goals as goal

pub returns : goal.returns
returns g c = record {
  ok = search rules;
  err = failed_reading c.args.form
      (stream (g.N.Read.remaining c.args.network.now) (g.N.Read.remaining c.read_both.new.network))
      (stream (g.R.Read.remaining c.args.report.now) (g.R.Read.remaining c.read_both.new.report))
      (stream (g.W.Write.contents c.args.out.now) (g.W.Write.contents c.draw_texts.new.out))
      c.in_ok-texts.texts.network.items c.in_ok-texts.texts.report.items c.as_slice-network.result.now
      c.as_slice-report.result.now c.draw_texts.result
      c.in_ok-texts.ensures.ok c.as_slice-network.ensures.value c.as_slice-report.ensures.value
      c.draw_texts.ensures.err;
}
