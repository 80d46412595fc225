use Rattle.std.proofs.Common.{ap, sym, ◌∙◌}
use Rattle.worm_flit.specs.declared.Lane.{Lane}
use Rattle.worm_script.specs.Script.{lane_of}
use Rattle.worm_script.specs.declared.entry.Act.{Act}
use Rattle.worm_script.specs.declared.entry.Act.TheVariants.{Close}
use Rattle.worm_script.specs.declared.entry.Entry.{Entry}
use Rattle.worm_script.proofs.NextOfSource.{source_at}
use Rattle.worm_script.proofs.due.Due.source.Goals as goal

pub returns : goal.returns
returns c =
    let other : Entry = record { turn = 0; act = Close (record { src = 0; dst = 0; class = 0 }) } in
    ap (λ (l : Lane). l.src) (c.lane.ensures ∙ ap (λ (a : Act). lane_of a) (sym (c.act.ensures other)))
    ∙ sym (source_at c.args.self.now c.args.i other c.requires)
