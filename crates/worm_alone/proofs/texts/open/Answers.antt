use Rattle.std.proofs.Common.{ap, sym, Err}
use Rattle.std.proofs.lemmas.List.{length-map}
use Rattle.worm_text.specs.Network.{view}
use Rattle.worm_alone.proofs.Configs.{kept_config}
use Rattle.worm_alone.proofs.texts.open.Goals as goal

pub unreachable-requires : goal.unreachable-requires
unreachable-requires c =
    c.in-Err-BadConfig.ensures.bad.0 (ap (λ e. Err e) c.in-Err-BadConfig.field-0-is)
    (kept_config c.requires.0 (view c.args.config.now) _
    (sym (length-map c.args.config.now.classes.items _)) c.requires.1)
