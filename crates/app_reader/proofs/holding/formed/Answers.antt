use Rattle.std.proofs.Common.{◌≡◌, ◌∙◌, ℕ, List, Bool, true, false, sym, ap, subst}
use Rattle.std.proofs.lemmas.List.{length-map}
use Rattle.std.specs.Prelude.{Err, length, IsTrue, ◌↔◌}
use Rattle.std.specs.List.{All}
use Rattle.row_tree.specs.Reached.{StayWithin}
use Rattle.row_tree.specs.TreeRows.{Ascend}
use Rattle.row_tree.specs.Tree.{IsTreeOf, children_in}
use Rattle.row_tree.specs.declared.tree_rows.TreeRow.{TreeRow}
use Rattle.row_tree.specs.declared.refusal.TreeRefusal.TheVariants.{NoTree}
use Rattle.app_front.specs.declared.rows.FileRow.{FileRow}
use Rattle.app_reader.specs.FormedFile.{GivesItsValues, IsFormedFile, tree_row, tree_rows}
use Rattle.app_reader.specs.Checks.{SiblingsDiffer}
use Rattle.app_reader.proofs.holding.formed.Goals as goal

contradicts : {A : Type 0} (b : Bool) → IsTrue b → b ≡ false → A
contradicts b held is = absurd (let no : ◌≡◌ {A = Bool} true false = sym held ∙ is in cc)

same_size : (rows : List FileRow) (n : ℕ) → n ≡ length (tree_rows rows) → n ≡ length rows
same_size rows n is = is ∙ length-map rows tree_row

pub returns-then-not-are_ascending-clause-none : goal.returns-then-not-are_ascending-clause-none
returns-then-not-are_ascending-clause-none g c =
    λ same others is. contradicts c.are_ascending.result (c.are_ascending.ensures.1 (subst Ascend (sym c.requires.tree) is.ascend)) c.if-not-are_ascending.true

pub returns-in-Err-clause-none : goal.returns-in-Err-clause-none
returns-in-Err-clause-none g c =
    λ same others is. c.in-Err.ensures.none (ap Err (let refusal : c.in-Err.refusal ≡ NoTree = cc in refusal)) others
    (subst (λ (ts : List TreeRow). IsTreeOf ts others) (sym c.requires.tree) is.tree)

pub is_checked-requires-clause-differ : goal.is_checked-requires-clause-differ
is_checked-requires-clause-differ g c =
    let differ = c.in-Ok-siblings_differ.ensures in
    subst (λ (rows : List FileRow). IsTrue c.in-Ok-siblings_differ.differ ↔ SiblingsDiffer rows c.as_slice-3.result.now) c.as_slice.ensures
    (subst (λ (lists : List (List ℕ)). IsTrue c.in-Ok-siblings_differ.differ ↔ SiblingsDiffer c.as_slice.result.now lists) (c.as_slice-2.ensures ∙ sym c.as_slice-3.ensures) differ)

pub is_checked-requires-clause-tree : goal.is_checked-requires-clause-tree
is_checked-requires-clause-tree g c =
    subst (λ (lists : List (List ℕ)). IsTreeOf (tree_rows c.args.file.now.rows) (children_in (tree_rows c.args.file.now.rows) lists)) (sym c.as_slice-3.ensures)
    (subst (λ (ts : List TreeRow). IsTreeOf ts (children_in ts c.in-Ok.lists)) c.requires.tree c.in-Ok.ensures.tree)

pub is_checked-requires-clause-size : goal.is_checked-requires-clause-size
is_checked-requires-clause-size g c =
    ap (λ (lists : List (List ℕ)). length lists) c.as_slice-3.ensures
    ∙ same_size c.args.file.now.rows (length c.in-Ok.lists) (subst (λ (ts : List TreeRow). length c.in-Ok.lists ≡ length ts) c.requires.tree c.in-Ok.ensures.size)

pub is_checked-requires-clause-within : goal.is_checked-requires-clause-within
is_checked-requires-clause-within g c = subst StayWithin (sym c.as_slice-3.ensures) c.in-Ok.ensures.within

pub returns-then-not-is_checked-clause-none : goal.returns-then-not-is_checked-clause-none
returns-then-not-is_checked-clause-none g c =
    λ same others is.
    let m = g.E.Engine.meaning c.args.engine.now in
    let f = c.args.file.now in
    let only = c.in-Ok.ensures.only others (subst (λ (ts : List TreeRow). IsTreeOf ts others) (sym c.requires.tree) is.tree) in
    let all : ◌≡◌ {A = ℕ → List ℕ} others (children_in (tree_rows f.rows) c.in-Ok.lists) =
    λ i id. (only id ∙ ap (λ (ts : List TreeRow). children_in ts c.in-Ok.lists id) c.requires.tree) i in
    let formed = subst (λ (lists : List (List ℕ)). IsFormedFile m f (children_in (tree_rows f.rows) lists)) (sym c.as_slice-3.ensures) (subst (IsFormedFile m f) all is) in
    contradicts c.is_checked.result ((c.is_checked.ensures m (sym c.schema.ensures.same) is.gives).1 formed) c.if-not-is_checked.true

pub returns-then-give-clause-formed : goal.returns-then-give-clause-formed
returns-then-give-clause-formed g c =
    let m = g.E.Engine.meaning c.args.engine.now in
    let f = c.args.file.now in
    let gives = subst (All (GivesItsValues m)) c.as_slice-4.ensures (c.in-Ok-all_give.ensures.0 c.if-give.true) in
    subst (λ (lists : List (List ℕ)). IsFormedFile m f (children_in (tree_rows f.rows) lists)) c.as_slice-3.ensures
    ((c.is_checked.ensures m (sym c.schema.ensures.same) gives).0 c.if-not-is_checked.false)

pub returns-then-give-clause-only : goal.returns-then-give-clause-only
returns-then-give-clause-only g c =
    λ others is id.
    c.in-Ok.ensures.only others (subst (λ (ts : List TreeRow). IsTreeOf ts others) (sym c.requires.tree) is.tree) id
    ∙ ap (λ (ts : List TreeRow). children_in ts c.in-Ok.lists id) c.requires.tree

pub returns-then-give-clause-size : goal.returns-then-give-clause-size
returns-then-give-clause-size g c =
    same_size c.args.file.now.rows (length c.in-Ok.lists) (subst (λ (ts : List TreeRow). length c.in-Ok.lists ≡ length ts) c.requires.tree c.in-Ok.ensures.size)

pub returns-in-Ok-all_give-clause-none : goal.returns-in-Ok-all_give-clause-none
returns-in-Ok-all_give-clause-none g c =
    λ same others is.
    let m = g.E.Engine.meaning c.args.engine.now in
    contradicts c.in-Ok-all_give.give (c.in-Ok-all_give.ensures.1 (subst (All (GivesItsValues m)) (sym c.as_slice-4.ensures) is.gives)) c.if-give.false
