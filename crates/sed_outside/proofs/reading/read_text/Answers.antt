use Rattle.std.proofs.Common.{List, ℕ, Ok, Err, sym, subst}
use Rattle.sed_outside.specs.declared.files.FileFault.TheVariants.{Failed}
use Rattle.sed_outside.specs.Steps.{UnlessFree}
use Rattle.sed_outside.specs.Reads.{HasReads, TextOf, is_want}
use Rattle.sed_outside.proofs.OneRead.{of_call}
use Rattle.sed_outside.proofs.reading.read_text.Goals as goal

pub returns-in-Ok : goal.returns-in-Ok
returns-in-Ok g c =
    subst (λ (text : List ℕ). HasReads g.F.Files c.args.files.now c.read.new.self (λ reads. UnlessFree is_want (TextOf c.args.name.now Failed reads) (Ok text)))
    (sym c.new.ensures)
    (of_call g.F.Files c.args.files.now c.read.new.self c.args.name.now c.new-text.result.items c.read.new.into.items (Ok tt) c.new-text.ensures.items
    c.in-Ok.ensures.ok c.in-Ok.ensures.files c.in-Ok.ensures.writes c.in-Ok.ensures.cause c.in-Ok.ensures.counts)

pub returns-in-Err : goal.returns-in-Err
returns-in-Err g c =
    of_call g.F.Files c.args.files.now c.read.new.self c.args.name.now c.new-text.result.items c.read.new.into.items (Err c.in-Err.fault) c.new-text.ensures.items
    c.in-Err.ensures.ok c.in-Err.ensures.files c.in-Err.ensures.writes c.in-Err.ensures.cause c.in-Err.ensures.counts
