-- The command has its arguments in their order.
use Rattle.std.proofs.Common.{◌≡◌, ◌∙◌, [], ◌∷◌, Some, ap, ap₂, codes, false, rules, true}
use Rattle.std.proofs.lemmas.Result.{IfOk-weaker}
use Rattle.clap.specs.Simple.{App, app_of, app_of_fields, new_app, on_top, with_rule}
use Rattle.clap.specs.Walk.{Rule, rule_of}
use Rattle.clap.specs.declared.builder.arg.Arg.{Arg}
use Rattle.clap.specs.declared.builder.value_parser.ValueParser.{ValueParser}
use Rattle.clap.specs.declared.builder.value_parser.ValueParser.TheVariants.{Unsigned}
use Rattle.worm_words.specs.Commands.{command, drain_option, number, turns_option, workers_option}
use Rattle.worm_words.proofs.words.command.Goals as goal

-- the command before it has arguments
abbrev bare : App
bare = on_top (λ s. record s { disable_help_flag = true; disable_version_flag = true }) (new_app (codes "wormrun"))

pub returns : goal.returns
unfolding command
returns c =
    let bare_is : app_of c.disable_version_flag.result ≡ bare =
    ap app_of_fields c.disable_version_flag.ensures
    ∙ ap (on_top (λ s. record s { disable_version_flag = true })) (ap app_of_fields c.disable_help_flag.ensures
    ∙ ap (on_top (λ s. record s { disable_help_flag = true })) c.new-4.ensures.app) in
    let turns_range : c.range.result ≡ Unsigned 0 1000000 =
    rw (c.new.ensures.start, c.new.ensures.end, c.value_parser.ensures) at c.range.ensures in
    let workers_range : c.range-2.result ≡ Unsigned 1 16 =
    rw (c.new-2.ensures.start, c.new-2.ensures.end, c.value_parser-2.ensures) at c.range-2.ensures in
    let drain_range : c.range-3.result ≡ Unsigned 0 1000000 =
    rw (c.new-3.ensures.start, c.new-3.ensures.end, c.value_parser-3.ensures) at c.range-3.ensures in
    let turns_is : rule_of c.required.result ≡ turns_option =
    ap rule_of c.required.ensures ∙ ap (λ (r : Rule). record r { required = true })
    (c.number-turns.ensures.rule ∙ ap (number (codes "turns")) turns_range) in
    let workers_is : rule_of c.default_value.result ≡ workers_option =
    ap rule_of c.default_value.ensures ∙ ap (λ (r : Rule). record r { defaults = codes "1" ∷ [] })
    (c.number-workers.ensures.rule ∙ ap (number (codes "workers")) workers_range) in
    let drain_is : rule_of c.default_value-2.result ≡ drain_option =
    ap rule_of c.default_value-2.ensures ∙ ap (λ (r : Rule). record r { defaults = codes "0" ∷ [] })
    (c.number-drain.ensures.rule ∙ ap (number (codes "drain")) drain_range) in
    let one = c.in_ok-arg.ensures.shape (search rules) ∙ ap₂ with_rule bare_is c.file.ensures.rule in
    let two = c.in_ok-arg-2.ensures.shape (search rules) ∙ ap₂ with_rule one c.file-2.ensures.rule in
    let three = c.in_ok-arg-3.ensures.shape (search rules) ∙ ap₂ with_rule two turns_is in
    let four = c.in_ok-arg-4.ensures.shape (search rules) ∙ ap₂ with_rule three workers_is in
    IfOk-weaker c.arg-5.result _ _ (λ r h. h.shape (search rules) ∙ ap₂ with_rule four drain_is) c.arg-5.ensures
