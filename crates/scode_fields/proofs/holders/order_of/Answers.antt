use Rattle.scode_fields.proofs.Visiting.{went_badly}
use Rattle.scode_fields.proofs.Walks.{circle_breaks}
use Rattle.scode_fields.proofs.holders.order_of.Goals as goal

pub returns-then-not-branch : goal.returns-then-not-branch
returns-then-not-branch c =
    circle_breaks c.args.image.now c.requires
    (went_badly c.args.image.now c.loop-class.walk c.go.new.walk _ c.in_ok-go.field-0 c.if-not-branch.true
    c.in_ok-go.ensures)
