use Rattle.std.proofs.Common.{[], ◌∙◌, ℕ, Ok, pos, ap, sym, subst}
use Rattle.sed_typed.specs.declared.operators.TextCall.TheVariants as calls
use Rattle.scode_cells.specs.declared.cell.Cell.{Cell}
use Rattle.scode_cells.specs.declared.cell.Cell.TheVariants as cell
use Rattle.scode_access.specs.Strs.{Calls, Reads}
use Rattle.scode_access.proofs.OnStrs.{length_calls, length_reads, length_traps, may_kind}
use Rattle.scode_access.proofs.strs.length_in.Goals as goal

pub text_of-requires-clause-kind : goal.text_of-requires-clause-kind
text_of-requires-clause-kind c =
    may_kind c.args.image.now c.args.v c.args.pool.now c.strs_are_found.ensures.objects
    (length_reads c.args.image.now c.args.pool.now c.args.v c.requires)

pub text_of-requires-clause-may : goal.text_of-requires-clause-may
text_of-requires-clause-may c = length_reads c.args.image.now c.args.pool.now c.args.v c.requires

pub returns-in-Ok : goal.returns-in-Ok
returns-in-Ok c =
    subst (λ (v : Cell). Calls calls.Length c.args.v [] c.args.image.now c.args.pool.now (Ok v))
    (sym (c.number_cell.ensures ∙ ap (λ (n : ℕ). cell.Int (pos n)) c.count_of.ensures))
    (length_calls c.args.image.now c.args.pool.now c.args.v c.in-Ok.text
    (subst (Reads c.args.image.now c.args.v c.args.pool.now) c.in-Ok.is c.text_of.ensures))

pub returns-in-Err : goal.returns-in-Err
returns-in-Err c =
    length_traps c.args.image.now c.args.pool.now c.args.v c.in-Err.trap
    (subst (Reads c.args.image.now c.args.v c.args.pool.now) c.in-Err.is c.text_of.ensures)
