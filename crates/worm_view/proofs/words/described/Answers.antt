-- The version is all that a parse reads of what is said of the program.
use Rattle.std.proofs.Common.{◌∙◌, ap, true}
use Rattle.clap.specs.Simple.{app_of_fields, on_top}
use Rattle.worm_view.proofs.words.described.Goals as goal

pub returns : goal.returns
returns c =
    ap app_of_fields c.about.ensures ∙ ap app_of_fields c.version.ensures
    ∙ ap (on_top (λ s. record s { has_version = true })) c.new.ensures.app
