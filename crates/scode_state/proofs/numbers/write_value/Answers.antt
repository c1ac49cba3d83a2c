use Rattle.std.proofs.Common.{◌≡◌, ◌∙◌, ℕ, sym, ap, subst}
use Rattle.sed_value.specs.SlotType.{width_of}
use Rattle.scode_mem.specs.Blocks.{Held, with_number}
use Rattle.scode_state.specs.Cells.{value_number}
use Rattle.scode_state.specs.Stands.{IsStored}
use Rattle.scode_state.proofs.Putting.{prim_stored}
use Rattle.scode_state.proofs.Spelled.{value_again}
use Rattle.scode_state.proofs.numbers.write_value.Goals as goal

pub returns-clause-path : goal.returns-clause-path
returns-clause-path c = λ image class base path at.
    let old = c.args.pool.now in
    let v = c.args.v.now in
    let p = c.args.p in
    let now : c.write.new.self ≡ with_number old c.args.b c.args.at (width_of p) (value_number v) =
    c.write.ensures ∙ ap (λ (w : ℕ). with_number old c.args.b c.args.at w c.number_of_value.result) c.width.ensures
    ∙ ap (with_number old c.args.b c.args.at (width_of p)) c.number_of_value.ensures in
    subst (λ (new : Held). IsStored image class base path old new c.args.b v) (sym now)
    (prim_stored image class base path old c.args.b c.args.at p at (value_number v) v
    (value_again p v c.requires.kind))
