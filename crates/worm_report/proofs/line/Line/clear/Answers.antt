use Rattle.std.proofs.Common.{rules}
use Rattle.std.proofs.lemmas.List.{drop_all}
use Rattle.worm_report.proofs.line.Line.clear.Goals as goal

pub returns : goal.returns
returns c = search (rules, drop_all)
