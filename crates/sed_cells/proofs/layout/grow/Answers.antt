use Rattle.std.proofs.Common.{◌≡◌, ◌∙◌, ◌-◌, ◌<◌, ℕ, List, ◌++◌, length, ap, arith}
use Rattle.std.proofs.Math.ListN.{set}
use Rattle.std.proofs.lemmas.List.{get_or_default, length-append}
use Rattle.sed_cells.specs.declared.layout.Node.{Node}
use Rattle.sed_cells.specs.Layouts.{no_node, node_at, pieces_of, room_below, children}
use Rattle.sed_cells.proofs.Growing.{length-children}
use Rattle.sed_cells.proofs.layout.grow.Goals as goal

pub returns-clause-nodes : goal.returns-clause-nodes
returns-clause-nodes c =
    let program = c.args.program.now in
    let items = c.args.nodes.now.items in
    let done = c.args.done in
    let x = c.index-node.result.now in
    let more = children done 0 (room_below x.stands x.room) (pieces_of program x.stands) in
    let len : c.len-first.result ≡ length items = omega (arith, c.len-first.ensures, c.args.nodes.now.ok.0) in
    let inside : done < length items = omega (arith, c.requires, c.args.nodes.now.ok.0) in
    let x_is : x ≡ node_at items done = c.index-node.ensures ∙ get_or_default items done x no_node inside in
    let new_is : c.push_pieces.new.nodes.items ≡ items ++ more = c.in_ok-push_pieces.ensures.nodes in
    let count_is : c.len.result - c.len-first.result ≡ length (pieces_of program x.stands) =
    omega (arith, c.len.ensures, c.push_pieces.new.nodes.ok.0, ap length new_is, length-append items more, length-children done 0 (room_below x.stands x.room) (pieces_of program x.stands), len) in
    let node : Node → ℕ → ℕ → Node = λ y first count. record { parent = y.parent; step = y.step; first = first; count = count; room = y.room; stands = y.stands } in
    ap (λ (ns : List Node). set ns done (node x c.len-first.result (c.len.result - c.len-first.result))) new_is
    ∙ ap (λ (n : ℕ). set (items ++ more) done (node x c.len-first.result n)) count_is
    ∙ ap (λ (n : ℕ). set (items ++ more) done (node x n (length (pieces_of program x.stands)))) len
    ∙ ap (λ (y : Node). set (items ++ children done 0 (room_below y.stands y.room) (pieces_of program y.stands)) done (node y (length items) (length (pieces_of program y.stands)))) x_is
