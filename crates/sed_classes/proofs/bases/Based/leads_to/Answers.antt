use Rattle.std.proofs.Common.{◌<◌, ◌-◌, sym, ap, ◌∙◌, arith}
use Rattle.std.proofs.lemmas.Bool.{ne_eqb}
use Rattle.sed_classes.specs.Bases.{base_of, comes_to}
use Rattle.sed_classes.proofs.Climbs.{comes_more}
use Rattle.sed_classes.proofs.bases.Based.leads_to.Goals as goal

pub climb-preserved : goal.climb-preserved
climb-preserved c =
    let some : 0 < c.climb.left = omega arith in
    ap (comes_to (base_of c.args.self.now) c.args.place (c.climb.left - 1)) c.base_of-next-in-climb.ensures
    ∙ sym (comes_more (base_of c.args.self.now) c.args.place c.climb.left c.in-Some.at some (ne_eqb c.in-Some.at c.args.place c.if-at-place.false))
    ∙ ap (comes_to (base_of c.args.self.now) c.args.place c.climb.left) (sym c.in-Some.is)
    ∙ c.climb.invariant
