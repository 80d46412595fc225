-- What was drawn is a drawing of the two texts.
use Rattle.std.proofs.Common.{ℕ, List, inr, sym, subst}
use Rattle.std.proofs.KnownBytes.{Keeps-refl}
use Rattle.std.proofs.lemmas.Result.{err_from_is_err_and}
use Rattle.worm_text.specs.Network.{view}
use Rattle.worm_view.specs.Programs.{Accepts, IsDrawing, IsDrawn, stream}
use Rattle.worm_view.proofs.Drawing.{drew, failed, refused}
use Rattle.worm_view.proofs.Owned.{are_channels}
use Rattle.worm_view.proofs.program.draw_texts.Goals as goal

pub drawn-requires : goal.drawn-requires
drawn-requires g c =
    let accepted = c.in_ok-accepted.accepted in
    let is = c.in_ok-accepted.ensures.ok in
    are_channels is.format (view accepted.config) is.keeps

-- where the texts are not both accepted
pub returns-in_err-accepted-clause-err : goal.returns-in_err-accepted-clause-err
returns-in_err-accepted-clause-err g c =
    let p = err_from_is_err_and c.from_residual.result c.from_residual.ensures.1 in
    let out = g.W.Write.contents c.args.out.now in
    rw (p.1, p.2) (refused c.args.form c.args.network.now c.args.report.now (stream out out)
    c.in_err-accepted.field-0.0 c.in_err-accepted.ensures.err (Keeps-refl out))

-- where there is no memory for the drawing
pub returns-in_default-clause-err : goal.returns-in_default-clause-err
returns-in_default-clause-err g c =
    let accepted = c.in_ok-accepted.accepted in (
      inr (record {
        said = view accepted.config;
        shape = accepted.shape;
        rows = accepted.rows.items;
        accepted = c.in_ok-accepted.ensures.ok;
      }),
      Keeps-refl (g.W.Write.contents c.args.out.now),
    )

pub returns : goal.returns
returns g c =
    let accepted = c.in_ok-accepted.accepted in
    let network = c.args.network.now in
    let report = c.args.report.now in
    let form = c.args.form in
    let accepts : Accepts network report =
    record {
      said = view accepted.config;
      shape = accepted.shape;
      rows = accepted.rows.items;
      accepted = c.in_ok-accepted.ensures.ok;
    } in
    let of_texts : IsDrawing form network report c.as_str.result.now =
    record {
      accepts = accepts;
      drawn = subst (λ (l : List ℕ). IsDrawn form (view accepted.config) accepted.shape accepted.rows.items l)
          (sym c.as_str.ensures.value) c.in-Ok.ensures;
    } in
    let out = stream (g.W.Write.contents c.args.out.now) (g.W.Write.contents c.write_drawing.new.out) in
    let result = c.write_drawing.result in
    record {
      ok = drew form network report c.as_str.result.now out result of_texts c.write_drawing.ensures.ok;
      err = failed form network report c.as_str.result.now out result of_texts c.write_drawing.ensures.fault
          c.write_drawing.ensures.err;
    }
