use Rattle.std.proofs.Common.{◌≡◌, ℤ, sym, ◌∙◌, subst, to_z-of_z}
use Rattle.dasp_msg.specs.declared.due.Due.TheVariants.{Spent}
use Rattle.dasp_msg.specs.Posted.{due_of}
use Rattle.dasp_session.proofs.DueLemmas.{spent-true}
use Rattle.dasp_session.proofs.ticking.has_spent.Goals as goal

pub returns-in-Spent-clause-spent : goal.returns-in-Spent-clause-spent
returns-in-Spent-clause-spent c = λ posted like.
    sym (spent-true c.args.moment posted
    (subst (λ (t : ℤ). due_of posted t ≡ Spent) (to_z-of_z c.ranges.moment) (sym (c.due.ensures.posted posted like) ∙ c.in-Spent.is)))
