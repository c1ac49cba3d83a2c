use Rattle.std.proofs.Common.{◌∷◌, [], ◌++◌, ℕ, Option, refl, sym, ap, subst, arith, length-append}
use Rattle.std.specs.Option.{option_and_then}
use Rattle.row_tree.specs.Chains.{IsChild}
use Rattle.row_tree.specs.declared.tree_rows.TreeRow.{TreeRow}
use Rattle.row_tree.proofs.Chaining.{Walked, walked_begin, walked_end, walked_more, walked_over, walked_stuck}
use Rattle.row_tree.proofs.chain.chain.Goals as goal

pub loop-init : goal.loop-init
loop-init c = rw c.new-places.ensures.items (record { walked = walked_begin c.args.rows.now c.args.up c.args.first; size = refl })

pub returns-in_default-clause-chain : goal.returns-in_default-clause-chain
returns-in_default-clause-chain c =
    rw c.new.ensures (walked_end c.args.rows.now c.args.up c.args.first c.loop.at c.loop.places.items c.loop.invariant.walked c.in_default.is)

pub returns-in_default-child_at-clause-none : goal.returns-in_default-child_at-clause-none
returns-in_default-child_at-clause-none c =
    λ same. walked_stuck c.args.rows.now c.args.up c.args.first c.loop.at c.loop.places.items c.loop.invariant.walked c.in-Some.id c.in-Some.is c.in_default-child_at.ensures.child

pub loop-preserved : goal.loop-preserved
loop-preserved c =
    let ps = c.loop.places.items in
    let child = subst (λ (o : Option ℕ). IsChild c.args.rows.now c.args.up o c.in-Some-child_at.place) (sym c.in-Some.is) c.in-Some-child_at.ensures.child in
    let more = walked_more c.args.rows.now c.args.up c.args.first c.loop.at ps c.loop.invariant.walked c.requires c.in-Some-child_at.place child in
    rw c.in_ok-push.ensures.items
    (record {
      walked = subst (Walked c.args.rows.now c.args.up c.args.first (ps ++ c.in-Some-child_at.place ∷ [])) (ap (λ (o : Option TreeRow). option_and_then (λ (r : TreeRow). r.next_sibling) o) c.row_at-row.ensures) more;
      size = omega (arith, length-append ps (c.in-Some-child_at.place ∷ []), c.loop.invariant.size);
    })

pub returns-in-None-clause-chain : goal.returns-in-None-clause-chain
returns-in-None-clause-chain c =
    rw c.new-in-None.ensures (walked_end c.args.rows.now c.args.up c.args.first c.loop.at c.loop.places.items c.loop.invariant.walked c.in-None.is)

pub returns-in-Some-at-clause-none : goal.returns-in-Some-at-clause-none
returns-in-Some-at-clause-none c =
    λ same. walked_over c.args.rows.now c.args.up c.args.first c.loop.at c.loop.places.items c.loop.invariant.walked c.requires (omega (arith, c.loop.invariant.size)) c.in-Some-at.field-0 c.in-Some-at.is
