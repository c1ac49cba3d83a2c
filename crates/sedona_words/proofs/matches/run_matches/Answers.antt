use Rattle.std.proofs.Common.{◌∙◌, sym}
use Rattle.clap.specs.Words.{app_of}
use Rattle.sedona_words.specs.Command.{texts}
use Rattle.sedona_words.proofs.Found.{found, refused}
use Rattle.sedona_words.proofs.matches.run_matches.Goals as goal

pub returns-in-Ok : goal.returns-in-Ok
returns-in-Ok c = found (app_of c.in_ok-command.command) (texts c.args.words.now) c.in-Ok.matches c.in_ok-command.ensures c.in-Ok.ensures.matches c.in-Ok.ensures.kinds

pub returns : goal.returns
returns c = sym (refused (app_of c.in_ok-command.command) (texts c.args.words.now) c.in-Err.error c.in_ok-command.ensures c.in-Err.ensures.kinds
    (λ memory. c.in_default.not-OutOfMemory (c.kind.ensures ∙ memory)))
