use Rattle.std.proofs.Common.{◌≡◌, ◌∙◌, List, false, sym, ap, subst}
use Rattle.std.specs.Prelude.{map}
use Rattle.std.specs.List.{All}
use Rattle.sub_table.specs.Link.{Link}
use Rattle.sub_table.specs.Links.{AreInOrder}
use Rattle.app_file.specs.Text.{greatest_of}
use Rattle.row_tree.specs.TreeRows.{Ascend}
use Rattle.app_front.specs.declared.rows.FileRow.{FileRow}
use Rattle.app_reader.specs.FormedFile.{IsLinkIn, tree_rows}
use Rattle.app_reader.specs.Checks.{AreKinds, SiblingsDiffer}
use Rattle.app_reader.proofs.Together.{IsChecked, formed_if, refuted}
use Rattle.app_reader.proofs.holding.is_checked.Goals as goal

pub returns-then-not-are_kinds : goal.returns-then-not-are_kinds
returns-then-not-are_kinds c =
    λ m same gives.
    formed_if c.args.file.now c.args.lists.now (subst Ascend c.requires.rows c.requires.ascend) c.requires.size c.requires.within m false c.requires.tree gives
    (refuted (AreKinds m c.as_slice-rows.result.now) (IsChecked m c.args.file.now c.args.lists.now) c.are_kinds.result (c.are_kinds.ensures m same) c.if-not-are_kinds.true
    (λ is. subst (AreKinds m) (sym c.as_slice-rows.ensures) is.kinds))

pub returns-then-not-differ : goal.returns-then-not-differ
returns-then-not-differ c =
    λ m same gives.
    formed_if c.args.file.now c.args.lists.now (subst Ascend c.requires.rows c.requires.ascend) c.requires.size c.requires.within m false c.requires.tree gives
    (refuted (SiblingsDiffer c.args.file.now.rows c.args.lists.now) (IsChecked m c.args.file.now c.args.lists.now) c.args.differ c.requires.differ c.if-not-differ.true (λ is. is.siblings))

pub are_links-requires-clause-rows : goal.are_links-requires-clause-rows
are_links-requires-clause-rows c = c.requires.rows ∙ ap (λ (rows : List FileRow). tree_rows rows) (sym c.as_slice-rows.ensures)

pub returns-then-not-are_links : goal.returns-then-not-are_links
returns-then-not-are_links c =
    λ m same gives.
    formed_if c.args.file.now c.args.lists.now (subst Ascend c.requires.rows c.requires.ascend) c.requires.size c.requires.within m false c.requires.tree gives
    (refuted (All (IsLinkIn m c.as_slice-rows.result.now) c.as_slice-links.result.now) (IsChecked m c.args.file.now c.args.lists.now) c.are_links.result (c.are_links.ensures m same) c.if-not-are_links.true
    (λ is. subst (λ (rows : List FileRow). All (IsLinkIn m rows) c.as_slice-links.result.now) (sym c.as_slice-rows.ensures)
    (subst (λ (links : List Link). All (IsLinkIn m c.args.file.now.rows) links) (sym c.as_slice-links.ensures) is.links)))

pub returns-then-not-are_in_order : goal.returns-then-not-are_in_order
returns-then-not-are_in_order c =
    λ m same gives.
    formed_if c.args.file.now c.args.lists.now (subst Ascend c.requires.rows c.requires.ascend) c.requires.size c.requires.within m false c.requires.tree gives
    (refuted (AreInOrder c.as_slice-links.result.now) (IsChecked m c.args.file.now c.args.lists.now) c.are_in_order.result c.are_in_order.ensures c.if-not-are_in_order.true
    (λ is. subst AreInOrder (sym c.as_slice-links.ensures) is.order))

pub returns-then-not-has_greatest : goal.returns-then-not-has_greatest
returns-then-not-has_greatest c =
    λ m same gives.
    formed_if c.args.file.now c.args.lists.now (subst Ascend c.requires.rows c.requires.ascend) c.requires.size c.requires.within m false c.requires.tree gives
    (refuted (c.args.file.now.greatest ≡ greatest_of (map (λ (r : FileRow). r.id.0) c.args.file.now.rows)) (IsChecked m c.args.file.now c.args.lists.now) c.has_greatest.result c.has_greatest.ensures c.if-not-has_greatest.true
    (λ is. is.greatest))

pub returns : goal.returns
returns c =
    λ m same gives.
    formed_if c.args.file.now c.args.lists.now (subst Ascend c.requires.rows c.requires.ascend) c.requires.size c.requires.within m c.version_allows.result c.requires.tree gives (
      λ yes. record {
        kinds = subst (AreKinds m) c.as_slice-rows.ensures ((c.are_kinds.ensures m same).0 c.if-not-are_kinds.false);
        siblings = c.requires.differ.0 c.if-not-differ.false;
        links = subst (λ (links : List Link). All (IsLinkIn m c.args.file.now.rows) links) c.as_slice-links.ensures
            (subst (λ (rows : List FileRow). All (IsLinkIn m rows) c.as_slice-links.result.now) c.as_slice-rows.ensures ((c.are_links.ensures m same).0 c.if-not-are_links.false));
        order = subst AreInOrder c.as_slice-links.ensures (c.are_in_order.ensures.0 c.if-not-are_in_order.false);
        greatest = c.has_greatest.ensures.0 c.if-not-has_greatest.false;
        short = c.version_allows.ensures.0 yes;
      },
      λ is. c.version_allows.ensures.1 is.short,
    )
