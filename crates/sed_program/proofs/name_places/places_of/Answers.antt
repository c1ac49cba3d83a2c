use Rattle.std.proofs.Common.{List, ℕ, sym, subst, arith}
use Rattle.sed_classes.specs.Members.{members_of}
use Rattle.sed_program.specs.Places.{IsPlacedIn}
use Rattle.sed_program.proofs.Noted.{placed_all, placed_more, placed_none}
use Rattle.sed_program.proofs.name_places.places_of.Goals as goal

pub loop-class-init : goal.loop-class-init
loop-class-init c = placed_none c.args.part c.args.classes.now c.new-all.result.items c.new-all.ensures.items

pub loop-class-preserved : goal.loop-class-preserved
loop-class-preserved c =
    placed_more
    c.args.part
    c.args.classes.now
    c.loop-class.class
    c.loop-class.all.items
    c.push.new.self.items
    c.new.result
    c.in_ok-push.ensures.items
    (subst
    (λ (row : List ℕ). IsPlacedIn c.args.part (members_of c.args.classes.now c.loop-class.class) row)
    (sym c.new.ensures)
    c.in_ok-places.ensures)
    c.loop-class.invariant

pub returns : goal.returns
returns c =
    placed_all c.args.part c.args.classes.now c.loop-class.class c.loop-class.all.items (omega arith) c.loop-class.invariant
