use Rattle.std.proofs.Common.{◌∙◌, ap, codes}
use Rattle.std.proofs.lemmas.Result.{IfOk-weaker}
use Rattle.clap.specs.Words.{App, with_rule}
use Rattle.command_line.specs.Apps.{gen_app, place_rule, with_options}
use Rattle.command_line.proofs.apps.gen_app.Goals as goal

pub returns : goal.returns
unfolding gen_app
returns c =
    let size = λ (app : App). with_rule app (place_rule (codes "SIZE")) in
    let before = c.in_ok-command.ensures ∙ ap with_options c.bare.ensures in
    IfOk-weaker c.with_place.result _ _ (λ command is. is ∙ ap size before) c.with_place.ensures
