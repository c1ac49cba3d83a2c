use Rattle.std.proofs.Common.{◌≡◌, true, false, length, sym, ap, ◌∙◌}
use Rattle.sed_classes.specs.Declarations.{all_classes}
use Rattle.sed_outline.specs.Rounds.{item}
use Rattle.sed_outline.proofs.Inside.{held_at}
use Rattle.sed_outline.proofs.holding.holds_itself.Goals as goal

pub returns-then-is_known : goal.returns-then-is_known
returns-then-is_known c =
    let known : item false c.args.settled.now c.args.class ≡ true = sym c.is_known.ensures ∙ c.if-is_known.true in
    sym (c.requires.settled.apart c.args.class (length (all_classes c.args.based.now)) known)

pub returns : goal.returns
returns c =
    held_at
    c.args.based.now
    c.args.inside.now
    c.in_ok-held.held.items
    c.args.class
    c.is_known-2.result
    c.requires.inside
    c.in_ok-held.ensures
    (c.is_known-2.ensures ∙ ap (λ r. item false r c.args.class) c.as_slice.ensures.value)
