use Rattle.scode_state.proofs.Written.{fit_stays, part_changes, primitive_changes, str_part_changes, value_leaf}
use Rattle.scode_mem.specs.Blocks.{put_at}
use Rattle.scode_state.proofs.laws.one_part_changes.Goals as goal

pub returns-clause-part : goal.returns-clause-part
returns-clause-part c = λ image class base path part bytes new at v tables fits whole there low high e.
    part_changes image class base path part bytes new at tables fits whole there
    (value_leaf (put_at bytes at new) part v e) low high v e

pub returns-clause-fit : goal.returns-clause-fit
returns-clause-fit c = λ image class base path part bytes new at v tables fits whole there low high e own.
    fit_stays image class base path part bytes new at tables fits whole there
    (value_leaf (put_at bytes at new) part v e) low high own

pub returns-clause-primitive : goal.returns-clause-primitive
returns-clause-primitive c = λ image class base path offset p bytes new tables fits whole there wide.
    primitive_changes image class base path offset bytes new tables fits whole p there wide

pub returns-clause-str : goal.returns-clause-str
returns-clause-str c = λ image class base path offset n i bytes new tables fits whole there within.
    str_part_changes image class base path offset bytes new tables fits whole n i there within
