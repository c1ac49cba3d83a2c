use Rattle.std.proofs.lemmas.Result.{IfOk-weaker}
use Rattle.sedona_words.proofs.Added.{added}
use Rattle.sedona_words.proofs.run_command.run_command.Goals as goal

pub returns : goal.returns
returns c =
    let one = added _ _ _ _ _ c.in_ok-command.ensures c.bare_command.ensures c.needed_option.ensures.local c.needed_option.ensures.rule in
    let two = added _ _ _ _ _ c.in_ok-command-2.ensures one c.needed_option-2.ensures.local c.needed_option-2.ensures.rule in
    let three = added _ _ _ _ _ c.in_ok-command-3.ensures two c.needed_option-3.ensures.local c.needed_option-3.ensures.rule in
    let four = added _ _ _ _ _ c.in_ok-command-4.ensures three c.needed_option-4.ensures.local c.needed_option-4.ensures.rule in
    let five = added _ _ _ _ _ c.in_ok-command-5.ensures four c.needed_option-5.ensures.local c.needed_option-5.ensures.rule in
    let six = added _ _ _ _ _ c.in_ok-command-6.ensures five c.needed_option-6.ensures.local c.needed_option-6.ensures.rule in
    let seven = added _ _ _ _ _ c.in_ok-command-7.ensures six c.option_or.ensures.local c.option_or.ensures.rule in
    let eight = added _ _ _ _ _ c.in_ok-command-8.ensures seven c.option_or-2.ensures.local c.option_or-2.ensures.rule in
    IfOk-weaker c.arg-9.result _ _ (λ command adds. added _ _ _ _ _ adds eight c.option_or-3.ensures.local c.option_or-3.ensures.rule) c.arg-9.ensures
