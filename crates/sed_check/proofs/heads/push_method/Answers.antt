use Rattle.std.proofs.Common.{◌≡◌, ◌∷◌, [], ◌++◌, true, rules, Some, sym, ap, ◌∙◌}
use Rattle.std.specs.Option.{option_to_list}
use Rattle.std.specs.Vec.Iter.{into_iter_items}
use Rattle.sed_classes.specs.Members.{is_method, kit_of}
use Rattle.sed_check.specs.Parts.{method_at}
use Rattle.sed_check.proofs.Made.{grows_one, grows_same, one_method}
use Rattle.sed_check.proofs.heads.push_method.Goals as goal

pub returns : goal.returns
returns c =
    let units = c.args.ordered.now in
    let at = method_at c.args.number c.args.class (kit_of units c.args.class) in
    let m = c.args.member.now in
    let yes : is_method m ≡ true = search rules in
    grows_same
    units
    (at m ∷ [])
    _
    c.args.into.now.items
    (into_iter_items c.args.bodies.now)
    c.push.new.self.items
    (into_iter_items c.next.new.self)
    (one_method at m yes)
    (grows_one
    units
    (at m)
    c.in_ok-method.method
    c.args.into.now.items
    (into_iter_items c.args.bodies.now)
    c.push.new.self.items
    (into_iter_items c.next.new.self)
    c.in_ok-method.ensures.declared
    (c.next.ensures.items
    ∙ ap
    (λ o. option_to_list o ++ into_iter_items c.next.new.self)
    (c.in-Some.is ∙ ap Some (sym c.in_ok-method.ensures.body)))
    c.in_ok-push.ensures.items)
