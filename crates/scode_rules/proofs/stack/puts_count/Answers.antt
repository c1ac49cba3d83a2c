use Rattle.scode_rules.proofs.stack.puts_count.Goals as goal

pub returns-in-Answer-clause-count : goal.returns-in-Answer-clause-count
returns-in-Answer-clause-count c = rw c.in-Answer.is (λ cells long. c.answer_count.ensures.count cells)
