-- Options that are added to a command.
use Rattle.std.proofs.Common.{◌≡◌, false, ap₂, ◌∙◌}
use Rattle.clap.specs.Words.{AddsArg, App, Rule, app_of, rule_of, with_rule}
use Rattle.clap.specs.declared.builder.arg.Arg.{Arg}
use Rattle.clap.specs.declared.builder.command.Command.{Command}

pub added : (old new : Command) (option : Arg) (app : App) (rule : Rule) → AddsArg old option new → app_of old ≡ app
    → option.global ≡ false → rule_of option ≡ rule → app_of new ≡ with_rule app rule
added old new option app rule adds old_is local rule_is = adds.shape local ∙ ap₂ with_rule old_is rule_is
