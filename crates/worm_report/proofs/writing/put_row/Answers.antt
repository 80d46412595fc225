use Rattle.std.proofs.Common.{[], ◌∷◌}
use Rattle.worm_report.proofs.Written.{then_breaks_off, breaks_off, line_added}
use Rattle.worm_report.proofs.writing.put_row.Goals as goal

pub returns-in_err-make_room : goal.returns-in_err-make_room
returns-in_err-make_room g c = breaks_off [] c.args.row [] c.from_residual.ensures.1 c.in_err-make_room.ensures

pub returns : goal.returns
returns g c =
    then_breaks_off [] (c.args.row ∷ []) c.in_ok-make_room.ensures
    (line_added c.add.result c.make_room.new.desk.page c.add.new.self c.args.row c.add.ensures.ok c.add.ensures.err)
