-- The command has its three words in their order.
use Rattle.std.proofs.Common.{◌∙◌, ap₂, rules}
use Rattle.std.proofs.lemmas.Result.{IfOk-weaker}
use Rattle.clap.specs.Simple.{with_rule}
use Rattle.worm_view.specs.Commands.{command}
use Rattle.worm_view.proofs.words.command.Goals as goal

pub returns : goal.returns
unfolding command
returns c =
    let one = c.in_ok-arg.ensures.shape (search rules)
    ∙ ap₂ with_rule c.described.ensures c.network_word.ensures.rule in
    let two = c.in_ok-arg-2.ensures.shape (search rules) ∙ ap₂ with_rule one c.text_word.ensures.rule in
    IfOk-weaker c.arg-3.result _ _ (λ r h. h.shape (search rules) ∙ ap₂ with_rule two c.waits_word.ensures.rule)
    c.arg-3.ensures
