use Rattle.std.proofs.Common.{◌≡◌, ◌∙◌, Bool, true, false, sym, ap, subst}
use Rattle.std.specs.Prelude.{Err, Ok}
use Rattle.row_tree.specs.Reached.{AllReached, LacksOne, StayWithin}
use Rattle.row_tree.specs.declared.refusal.TreeRefusal.TheVariants.{NoTree}
use Rattle.row_tree.proofs.Trees.{has_all, has_chains, has_root, is_tree, only_children, stay}
use Rattle.row_tree.proofs.tree.children.Goals as goal

pub returns-then-not-has_root-clause-none : goal.returns-then-not-has_root-clause-none
returns-then-not-has_root-clause-none c =
    λ same others tree.
    let has : c.has_root.result ≡ true = c.has_root.ensures.1 (has_root c.args.rows.now c.requires others tree) in
    let lacks : c.has_root.result ≡ false = c.if-not-has_root.true in
    let no : ◌≡◌ {A = Bool} true false = sym has ∙ lacks in
    absurd (cc)

pub returns-in-Err-clause-none : goal.returns-in-Err-clause-none
returns-in-Err-clause-none c =
    λ same others tree.
    has_chains c.args.rows.now c.requires others tree
    (c.in-Err.ensures.none (ap Err (let is : c.in-Err.refusal ≡ NoTree = cc in is)))

pub reach-requires : goal.reach-requires
reach-requires c = subst StayWithin (sym c.as_slice.ensures) (stay c.args.rows.now c.requires c.in-Ok.lists c.in-Ok.ensures.lists)

pub returns-then-all-clause-tree : goal.returns-then-all-clause-tree
returns-then-all-clause-tree c =
    let all = subst AllReached c.as_slice.ensures (c.in-Ok-reach.ensures.all (ap Ok c.if-all.true)) in
    is_tree c.args.rows.now c.requires c.in-Ok.lists c.in-Ok.ensures.lists (c.has_root.ensures.0 c.if-not-has_root.false) all

pub returns-then-all-clause-only : goal.returns-then-all-clause-only
returns-then-all-clause-only c = λ others tree id. only_children c.args.rows.now c.requires others tree c.in-Ok.lists c.in-Ok.ensures.lists id

pub returns-in-Ok-reach-clause-none : goal.returns-in-Ok-reach-clause-none
returns-in-Ok-reach-clause-none c =
    λ same others tree.
    has_all c.args.rows.now c.requires others tree c.in-Ok.lists c.in-Ok.ensures.lists
    (subst LacksOne c.as_slice.ensures (c.in-Ok-reach.ensures.lacks (ap Ok c.if-all.false)))

pub returns-then-all-clause-within : goal.returns-then-all-clause-within
returns-then-all-clause-within c = stay c.args.rows.now c.requires c.in-Ok.lists c.in-Ok.ensures.lists
