use Rattle.std.proofs.Common.{arith, length-append}
use Rattle.std.specs.List.{flat_map}
use Rattle.sed_wire.proofs.WritingLemmas.{appends-then}
use Rattle.comp_tree.specs.Parts.{link_bytes, links_at, no_id, u2}
use Rattle.app_parts.proofs.links.put_link_part.Goals as goal

pub returns-clause-bytes : goal.returns-clause-bytes
returns-clause-bytes g c = appends-then _ _ _ (flat_map link_bytes (links_at c.args.id.0 c.args.app.now.links)) (u2 no_id) c.put_links_at.ensures.bytes c.put_u2.ensures.bytes

pub returns-clause-short : goal.returns-clause-short
returns-clause-short g c =
    let whole = length-append (flat_map link_bytes (links_at c.args.id.0 c.args.app.now.links)) (u2 no_id) in
    let short = c.put_links_at.ensures.short in
    omega (arith, whole, short)
