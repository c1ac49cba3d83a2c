use Rattle.std.proofs.Common.{Some, None}
use Rattle.scode_engine.proofs.Begins.{begins_here}
use Rattle.scode_engine.proofs.roots.begin.Goals as goal

pub returns-in-Some-clause-begins : goal.returns-in-Some-clause-begins
returns-in-Some-clause-begins c =
    begins_here c.cells_lead_to_parts.ensures.object_found c.args.image.now c.args.class c.args.place c.requires.agree
    c.args.zeros.now c.args.number c.from.result c.index-zeros-from.result c.as_slice-zeros.result.now c.args.cells.now
    c.begin_with.new.cells c.args.argument (Some c.in-Some.value) c.requires.zeros c.requires.room c.from.ensures
    c.index-zeros-from.is c.as_slice-zeros.ensures c.in-Some.is c.requires.value c.begin_with.ensures

pub returns-in-None-clause-begins : goal.returns-in-None-clause-begins
returns-in-None-clause-begins c =
    begins_here c.cells_lead_to_parts.ensures.object_found c.args.image.now c.args.class c.args.place c.requires.agree
    c.args.zeros.now c.args.number c.from.result c.index-zeros-from.result c.as_slice-zeros.result.now c.args.cells.now
    c.begin_with-in-None.new.cells c.args.argument None c.requires.zeros c.requires.room c.from.ensures
    c.index-zeros-from.is c.as_slice-zeros.ensures c.in-None.is c.requires.value c.begin_with-in-None.ensures
