use Rattle.std.proofs.Common.{◌≡◌, Bool, ap, arith, length, Some}
use Rattle.std.proofs.lemmas.List.{length-reverse}
use Rattle.scode_image.specs.declared.image.Image.{Image}
use Rattle.scode_code.specs.Wants.{needs}
use Rattle.scode_rules.specs.Words.{shape}
use Rattle.scode_verify.specs.Words.{carried}
use Rattle.scode_verify.proofs.walk.leave_kinds.Goals as goal

pub leave-requires : goal.leave-requires
leave-requires c =
    let k = c.args.kinds.now in
    let stands : carried k.stands k.locals.items k.stack.items ≡ Some (shape k.locals.items k.stack.items) =
    ap (λ (b : Bool). carried b k.locals.items k.stack.items) c.requires.stands in
    let room = c.requires.room (shape k.locals.items k.stack.items) stands in
    let long = length-reverse k.stack.items in
    let same = ap (λ (i : Image). length (needs i (shape k.locals.items k.stack.items) c.args.op)) c.image.ensures in
    omega (arith, room, long, same)
