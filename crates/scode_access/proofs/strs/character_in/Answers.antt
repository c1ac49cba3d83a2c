use Rattle.std.proofs.Common.{◌≡◌, subst}
use Rattle.std.specs.Prelude.{ℤ, length, pos, slice_index}
use Rattle.std.specs.Int.{w32}
use Rattle.std.proofs.lemmas.Int.{to_z-of_z}
use Rattle.sed_engine.specs.Stops.{map_ok}
use Rattle.sed_engine.specs.Texts.{index_within}
use Rattle.scode_cells.specs.declared.cell.Cell.TheVariants as cell
use Rattle.scode_vm.specs.Doings.{as_stop}
use Rattle.scode_access.specs.Strs.{Reads, as_text}
use Rattle.scode_access.proofs.OnStrs.{byte_calls, byte_reads, byte_traps, may_kind}
use Rattle.scode_access.proofs.strs.character_in.Goals as goal

pub text_of-requires-clause-kind : goal.text_of-requires-clause-kind
text_of-requires-clause-kind c =
    may_kind c.args.image.now c.args.v c.args.pool.now c.strs_are_found.ensures.objects
    (byte_reads c.args.image.now c.args.pool.now c.args.v c.args.index c.requires)

pub text_of-requires-clause-may : goal.text_of-requires-clause-may
text_of-requires-clause-may c = byte_reads c.args.image.now c.args.pool.now c.args.v c.args.index c.requires

pub returns-in-Ok : goal.returns-in-Ok
returns-in-Ok c =
    let told = subst (λ (m : ℤ). as_stop c.byte_of.result
    ≡ map_ok (λ i. cell.Int (pos (slice_index (as_text c.args.v c.in-Ok.text) i)))
    (index_within (length (as_text c.args.v c.in-Ok.text)) m)) (to_z-of_z w32 c.args.index c.ranges.index) c.byte_of.ensures in
    byte_calls c.args.image.now c.args.pool.now c.args.v c.args.index c.in-Ok.text c.byte_of.result
    (subst (Reads c.args.image.now c.args.v c.args.pool.now) c.in-Ok.is c.text_of.ensures) told

pub returns-in-Err : goal.returns-in-Err
returns-in-Err c =
    byte_traps c.args.image.now c.args.pool.now c.args.v c.args.index c.in-Err.trap
    (subst (Reads c.args.image.now c.args.v c.args.pool.now) c.in-Err.is c.text_of.ensures)
