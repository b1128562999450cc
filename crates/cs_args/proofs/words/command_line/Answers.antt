use Rattle.std.proofs.Common.{◌≡◌, ◌∙◌, ap₂, codes, rules, true}
use Rattle.std.proofs.lemmas.Result.{IfOk-weaker}
use Rattle.clap.specs.Words.{app_of, new_app, rule_of, with_rule}
use Rattle.clap.specs.Simple.{on_top}
use Rattle.cs_args.specs.Words.{data_rule, script_rule}
use Rattle.cs_args.proofs.words.command_line.Goals as goal

pub returns : goal.returns
returns c =
    let file_is : rule_of c.action-data.result ≡ data_rule = search rules in
    let script_is : rule_of c.default_value-script.result ≡ script_rule = search rules in
    let base : app_of c.disable_version_flag.result ≡ on_top (λ s. record s { disable_help_flag = true; disable_version_flag = true }) (new_app (codes "content_store")) = search rules in
    let one = c.in_ok-arg.ensures.shape (search rules) ∙ ap₂ with_rule base file_is in
    let two = c.in_ok-arg-2.ensures.shape (search rules) ∙ ap₂ with_rule one script_is in
    IfOk-weaker c.arg-3.result _ _ (λ r h. h.shape c.generated.ensures.local ∙ ap₂ with_rule two c.generated.ensures.rule) c.arg-3.ensures
