use Rattle.std.proofs.Common.{◌≡◌, Bool, ap, ◌∙◌, Some}
use Rattle.scode_code.specs.Kinds.{Shape}
use Rattle.scode_rules.specs.Words.{shape}
use Rattle.scode_verify.specs.Words.{arrives_by, carried}
use Rattle.scode_verify.proofs.Watching.{arrives_then}
use Rattle.scode_verify.proofs.walk.go_on.Goals as goal

pub returns-clause-watched : goal.returns-clause-watched
returns-clause-watched c =
    let k = c.args.kinds.now in
    let m = c.args.places.now.method.now in
    let image = c.args.image.now in
    let left = c.leave_kinds.new.kinds in
    let before = shape k.locals.items k.stack.items in
    let stands : carried k.stands k.locals.items k.stack.items ≡ Some (shape k.locals.items k.stack.items) =
    ap (λ (b : Bool). carried b k.locals.items k.stack.items) c.if-not-kinds.false in
    c.see_target.ensures image left.locals.items left.stack.items
    (c.in_ok-leave_kinds.ensures.watched m c.requires.watched)
    (ap (λ (s : Shape). arrives_by image m s c.args.op) c.in_ok-leave_kinds.ensures.kinds
    ∙ arrives_then image m before c.args.op (c.requires.arrives before stands))
