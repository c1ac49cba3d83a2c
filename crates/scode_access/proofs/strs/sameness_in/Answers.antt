use Rattle.std.proofs.Common.{◌∷◌, [], ℕ, List, Ok, ap, sym, subst, ◌∙◌}
use Rattle.std.specs.Str.{bytes_eq}
use Rattle.sed_typed.specs.declared.operators.TextCall.TheVariants as calls
use Rattle.sed_engine.specs.Texts.{characters}
use Rattle.scode_cells.specs.declared.cell.Cell.{Cell}
use Rattle.scode_vm.specs.Tops.{truth_cell}
use Rattle.scode_access.specs.Strs.{Calls, Reads}
use Rattle.scode_access.proofs.OnStrs.{may_kind, same_calls, same_reads, same_reads_other, same_traps, same_traps_other}
use Rattle.scode_access.proofs.strs.sameness_in.Goals as goal

pub text_of-requires-clause-kind : goal.text_of-requires-clause-kind
text_of-requires-clause-kind c =
    may_kind c.args.image.now c.args.v c.args.pool.now c.strs_are_found.ensures.objects
    (same_reads c.args.image.now c.args.pool.now c.args.v c.args.other c.requires)

pub text_of-requires-clause-may : goal.text_of-requires-clause-may
text_of-requires-clause-may c = same_reads c.args.image.now c.args.pool.now c.args.v c.args.other c.requires

pub text_of-requires-in-Ok-clause-kind : goal.text_of-requires-in-Ok-clause-kind
text_of-requires-in-Ok-clause-kind c =
    may_kind c.args.image.now c.args.other c.args.pool.now c.strs_are_found.ensures.objects
    (same_reads_other c.args.image.now c.args.pool.now c.args.v c.args.other c.in-Ok.a
    (subst (Reads c.args.image.now c.args.v c.args.pool.now) c.in-Ok.is c.text_of.ensures) c.requires)

pub text_of-requires-in-Ok-clause-may : goal.text_of-requires-in-Ok-clause-may
text_of-requires-in-Ok-clause-may c =
    same_reads_other c.args.image.now c.args.pool.now c.args.v c.args.other c.in-Ok.a
    (subst (Reads c.args.image.now c.args.v c.args.pool.now) c.in-Ok.is c.text_of.ensures) c.requires

pub returns-in-Ok-text_of : goal.returns-in-Ok-text_of
returns-in-Ok-text_of c =
    subst (λ (v : Cell). Calls calls.Equals c.args.v (c.args.other ∷ []) c.args.image.now c.args.pool.now (Ok v))
    (sym (c.sameness.ensures
    ∙ ap (λ (x : List ℕ). truth_cell (bytes_eq (characters x) (characters c.as_bytes-in-Ok-text_of.result.now)))
    c.as_bytes.ensures.same
    ∙ ap (λ (x : List ℕ). truth_cell (bytes_eq (characters c.in-Ok.a) (characters x)))
    c.as_bytes-in-Ok-text_of.ensures.same))
    (same_calls c.args.image.now c.args.pool.now c.args.v c.args.other c.in-Ok.a c.in-Ok-text_of.b
    (subst (Reads c.args.image.now c.args.v c.args.pool.now) c.in-Ok.is c.text_of.ensures)
    (subst (Reads c.args.image.now c.args.other c.args.pool.now) c.in-Ok-text_of.is c.text_of-in-Ok.ensures))

pub returns-in-Err-text_of : goal.returns-in-Err-text_of
returns-in-Err-text_of c =
    same_traps_other c.args.image.now c.args.pool.now c.args.v c.args.other c.in-Ok.a c.in-Err-text_of.trap
    (subst (Reads c.args.image.now c.args.v c.args.pool.now) c.in-Ok.is c.text_of.ensures)
    (subst (Reads c.args.image.now c.args.other c.args.pool.now) c.in-Err-text_of.is c.text_of-in-Ok.ensures)

pub returns-in-Err : goal.returns-in-Err
returns-in-Err c =
    same_traps c.args.image.now c.args.pool.now c.args.v c.args.other c.in-Err.trap
    (subst (Reads c.args.image.now c.args.v c.args.pool.now) c.in-Err.is c.text_of.ensures)
