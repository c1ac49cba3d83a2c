use Rattle.std.proofs.Common.{rules, sym}
use Rattle.printed_app.specs.Application.{link_line}
use Rattle.printed_app.proofs.Sequence.{all_put, one_fails, one_more}
use Rattle.printed_app.proofs.links.put_links.Goals as goal

pub loop-n-preserved : goal.loop-n-preserved
loop-n-preserved g c =
    one_more link_line c.args.app.now.links c.loop-n.n c.in-Some.link (sym c.in-Some.ensures)
    c.loop-n.invariant c.in_ok-put_link-in-Some.ensures

pub returns-in_err-put_link-in-Some : goal.returns-in_err-put_link-in-Some
returns-in_err-put_link-in-Some g c =
    one_fails link_line c.args.app.now.links c.loop-n.n c.in-Some.link (sym c.in-Some.ensures)
    c.loop-n.invariant c.in_err-put_link-in-Some.ensures c.from_residual.ensures.0

pub returns : goal.returns
returns g c = all_put link_line c.args.app.now.links c.loop-n.n (search rules) c.loop-n.invariant
