use Rattle.std.proofs.Common.{◌≡◌, ◌∙◌, ℕ, Result, refl, sym, ap, subst}
use Rattle.std.specs.Prelude.{IfOk}
use Rattle.std.specs.Int.{bytes_high_first}
use Rattle.sed_value.specs.SlotType.{width_of}
use Rattle.sed_value.specs.declared.value.Value.{Value}
use Rattle.sed_engine.specs.Stops.{Stop}
use Rattle.scode_code.specs.Contents.{primitive_from}
use Rattle.scode_mem.specs.Blocks.{Held, with_number}
use Rattle.scode_state.specs.Stands.{IsStored}
use Rattle.scode_state.proofs.Putting.{prim_stored}
use Rattle.scode_state.proofs.numbers.write_cell.Goals as goal

pub returns-clause-path : goal.returns-clause-path
returns-clause-path c = λ image class base path at.
    let old = c.args.pool.now in
    let number = c.kept_number.result in
    let p = c.args.p in
    let now : c.write.new.self ≡ with_number old c.args.b c.args.at (width_of p) number =
    c.write.ensures ∙ ap (λ (w : ℕ). with_number old c.args.b c.args.at w number) c.width.ensures in
    let Stores : Held → Value → Type 0 = λ new v. IsStored image class base path old new c.args.b v in
    subst (λ (r : Result Value Stop). IfOk r (λ v. Stores c.write.new.self v)) (sym c.kept_number.ensures.again)
    (subst (λ (new : Held). Stores new (primitive_from p (bytes_high_first (width_of p) number))) (sym now)
    (prim_stored image class base path old c.args.b c.args.at p at number
    (primitive_from p (bytes_high_first (width_of p) number)) refl))
