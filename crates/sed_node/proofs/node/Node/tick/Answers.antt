use Rattle.std.proofs.Common.{ℤ, w64, subst}
use Rattle.std.proofs.lemmas.Int.{to_z-of_z}
use Rattle.sed_node.specs.Doing.{Ticks}
use Rattle.sed_node.proofs.node.Node.tick.Goals as goal

pub tick-requires-clause-stands : goal.tick-requires-clause-stands
tick-requires-clause-stands g c = c.self.invariant

pub invariant_of-self : goal.invariant_of-self
invariant_of-self g c =
    let stands = c.self.invariant in
    (_, (c.tick.ensures.ticks stands.0 stands.1).stands)

pub returns : goal.returns
returns g c = record {
  ticks = rw (← c.self.view_is) (λ n stands.
      subst (λ (ticks : ℤ). Ticks g.E.Engine c.self.inside.kept c.tick.new.self n ticks c.tick.result.traps c.tick.new.out)
      (to_z-of_z w64 c.args.ticks c.ranges.ticks) (c.tick.ensures.ticks n stands));
}
