use Rattle.app_file.proofs.OtherLimits.{file_under_more, one_file_under, one_opened_under, opens_under_more, stands_under}
use Rattle.app_file.proofs.laws.a_larger_data_limit_reads_the_same.Goals as goal

pub returns-clause-stands : goal.returns-clause-stands
returns-clause-stands c = λ m limit other bytes a. stands_under m other a limit bytes

pub returns-clause-file : goal.returns-clause-file
returns-clause-file c = file_under_more

pub returns-clause-opens : goal.returns-clause-opens
returns-clause-opens c = opens_under_more

pub returns-clause-one_file : goal.returns-clause-one_file
returns-clause-one_file c = λ m limit other bytes a b tables told.
    one_file_under m limit other a b tables told bytes

pub returns-clause-one_opened : goal.returns-clause-one_opened
returns-clause-one_opened c = λ m limit other image a b tables told.
    one_opened_under m limit other a b tables told c.stores_open_to_one.ensures.slot
    c.stores_open_to_one.ensures.payload image
