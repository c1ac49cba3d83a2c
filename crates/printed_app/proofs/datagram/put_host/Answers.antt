use Rattle.std.proofs.Common.{◌≡◌, length, rules}
use Rattle.printed_app.proofs.Dotted.{part_by_part}
use Rattle.printed_app.proofs.datagram.put_host.Goals as goal

pub returns-clause-text : goal.returns-clause-text
returns-clause-text c =
    let four : length c.args.ip.now ≡ 4 = search rules in
    part_by_part c.args.ip.now c.args.line.now.items _ _ _ _ _ _ _ four
    c.put_part.ensures.text c.put.ensures.text c.put_part-2.ensures.text c.put-2.ensures.text
    c.put_part-3.ensures.text c.put-3.ensures.text c.put_part-4.ensures.text
