use Rattle.worm_report.proofs.Written.{page_turned}
use Rattle.worm_report.proofs.writing.make_room.Goals as goal

pub returns-then-is_full : goal.returns-then-is_full
returns-then-is_full g c = page_turned c.args.desk.now.page c.turn_page.new.page c.turn_page.ensures.empty
    c.turn_page.ensures.given
