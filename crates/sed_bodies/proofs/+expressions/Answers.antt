use Rattle.std.proofs.Common.{rules, ◌≡◌, IfOk, ◌<◌, Option, length, subst, arith}
use Rattle.sed_faults.specs.declared.fault.Fault.{Fault}
use Rattle.sed_terms.specs.declared.judged.Judged.{Judged}
use Rattle.sed_terms.specs.Term.{Term}
use Rattle.sed_bodies.proofs.LinkRows.{no_links, some_links}
use Rattle.sed_bodies.proofs.Rows.{row_falls}
use Rattle.sed_bodies.proofs.+expressions.Goals as goal

-- an item is smaller than its row
pub calls::arguments-judge-requires : goal.calls::arguments-judge-requires
calls::arguments-judge-requires g t c κs within =
    let lt : c.loop-i.i < length c.args.args.now = omega (arith, c.loop-i-test.true) in
    (omega (arith, row_falls c.args.args.now c.loop-i.i c.index-args-i.result lt c.index-args-i.is), search rules)

pub chains::links-step-requires : goal.chains::links-step-requires
chains::links-step-requires g t c κs within =
    let lt : c.loop-link.link-index < length c.args.links.now = omega (arith, c.loop-link-test.true) in
    (omega (arith, row_falls c.args.links.now c.loop-link.link-index c.link-item.result lt c.link-item.is), search rules)

pub chains::chain-returns-in-None : goal.chains::chain-returns-in-None
chains::chain-returns-in-None g t c =
    subst (λ (z : Judged Term (Option Fault)). IfOk c.judge.result (λ r. r ≡ z))
    (no_links (g.N.Lookup.names c.args.within.now.names.now) c.args.within.now.body c.args.within.now.scope.now c.args.at c.args.x.now c.args.steps.now c.in-None.ensures.cases) c.judge.ensures

pub chains::chain-returns-in_ok-x-in-Some : goal.chains::chain-returns-in_ok-x-in-Some
chains::chain-returns-in_ok-x-in-Some g t c =
    subst (λ (z : Judged Term (Option Fault)). IfOk c.links.result (λ r. r ≡ z))
    (some_links (g.N.Lookup.names c.args.within.now.names.now) c.args.within.now.body c.args.within.now.scope.now c.args.at c.args.x.now c.in-Some.link.now c.in-Some.rest.now c.args.steps.now
    c.in_ok-x-in-Some.x c.in-Some.ensures.cases.0 c.in_ok-x-in-Some.ensures) c.links.ensures
