use Rattle.std.proofs.Common.{◌∙◌, ap, codes}
use Rattle.std.proofs.lemmas.Result.{IfOk-weaker}
use Rattle.clap.specs.Words.{App, with_rule}
use Rattle.command_line.specs.Apps.{check_app, place_rule, with_options}
use Rattle.command_line.proofs.apps.check_app.Goals as goal

pub returns : goal.returns
unfolding check_app
returns c =
    let netlist = λ (app : App). with_rule app (place_rule (codes "NETLIST")) in
    let spec = λ (app : App). with_rule app (place_rule (codes "SPEC")) in
    let before = c.in_ok-with_netlist.ensures ∙ ap netlist (c.in_ok-command.ensures ∙ ap with_options c.bare.ensures) in
    IfOk-weaker c.with_place-2.result _ _ (λ command is. is ∙ ap spec before) c.with_place-2.ensures
