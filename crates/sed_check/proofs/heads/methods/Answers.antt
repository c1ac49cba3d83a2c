use Rattle.std.proofs.Common.{[], IfOk, subst}
use Rattle.std.specs.Vec.Iter.{into_iter_items}
use Rattle.sed_program.specs.Methods.{methods_of}
use Rattle.sed_check.specs.Parts.{AreMethods, Grows}
use Rattle.sed_check.proofs.Made.{if_ok, made_from}
use Rattle.sed_check.proofs.heads.methods.Goals as goal

pub returns : goal.returns
returns c =
    let units = c.args.tables.now in
    let given = into_iter_items c.into_iter-left.result in
    let left = into_iter_items c.all_methods.new.bodies in
    if_ok
    (λ v. Grows units (methods_of units) [] given v.items left)
    (λ v. AreMethods units c.args.bodies.items v.items)
    c.all_methods.result
    (λ v grows. made_from units c.args.bodies.items given v.items left c.into_iter-left.ensures.rest grows)
    (subst
    (λ u. IfOk c.all_methods.result (λ v. Grows u (methods_of u) [] given v.items left))
    c.ordered.ensures
    c.all_methods.ensures)
