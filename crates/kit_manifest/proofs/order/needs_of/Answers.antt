use Rattle.std.proofs.Common.{◌+◌, arith, sym, subst, ◌∙◌, ap}
use Rattle.std.proofs.lemmas.Bool.{false≢true}
use Rattle.kit_manifest.proofs.Kits.{Needs, Needs-yes, Needs-not}
use Rattle.kit_manifest.proofs.order.needs_of.Goals as goal
use Rattle.kit_manifest.proofs.order.needs_of.Goals.{then-depends_on+in_ok-push, else-depends_on}

pub loop-other-preserved : goal.loop-other-preserved
loop-other-preserved c = elim c.if-depends_on.branch [
  | then-depends_on+in_ok-push w ↦
      subst (λ needs. Needs c.args.list.now c.args.place needs (c.loop-other.other + 1)) (sym (ap (λ v. v.items) w.needs-is ∙ w.in_ok-push.ensures.items))
      (Needs-yes c.args.list.now c.args.place c.loop-other.needs.items c.loop-other.other c.loop-other.invariant (c.depends_on.ensures.0 w.if-depends_on.true))
  | else-depends_on w ↦
      subst (λ needs. Needs c.args.list.now c.args.place needs (c.loop-other.other + 1)) (sym (ap (λ v. v.items) w.needs-is))
      (Needs-not c.args.list.now c.args.place c.loop-other.needs.items c.loop-other.other c.loop-other.invariant (λ depends. false≢true (sym w.if-depends_on.false ∙ c.depends_on.ensures.1 depends)))
]

pub returns : goal.returns
returns c = λ j. (c.loop-other.invariant.needed j, λ depends. c.loop-other.invariant.found j (omega (arith, depends.0)) depends)
