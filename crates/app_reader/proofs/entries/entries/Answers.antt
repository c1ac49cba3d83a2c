use Rattle.std.proofs.Common.{◌<◌, List, [], ◌∷◌, ◌++◌, length, ℕ, sym, ap, subst, ◌∙◌, arith}
use Rattle.std.specs.List.{Contains}
use Rattle.comp_tree.specs.declared.loaded.Loaded.{Loaded}
use Rattle.app_reader.specs.Entries.{entry_with}
use Rattle.app_reader.proofs.EntryLemmas.{list_there, one_entry_more}
use Rattle.app_reader.proofs.entries.entries.Goals as goal

pub entry-requires : goal.entry-requires
entry-requires c =
    λ place there.
    let lists = c.args.lists.now in
    let k = c.loop-place.place in
    let size = c.requires.size in
    let lt : k < length lists = omega arith in
    let inside : place < length lists =
    c.requires.within k place (subst (λ (xs : List ℕ). Contains xs place) (c.as_slice.ensures ∙ sym (list_there c.args.rows.now lists k c.index-lists-place.result c.index-lists-place.is lt)) there) in
    omega arith

pub loop-place-preserved : goal.loop-place-preserved
loop-place-preserved c =
    let rows = c.args.rows.now in
    let lists = c.args.lists.now in
    let entry = c.in_ok-entry.entry in
    let k = c.loop-place.place in
    let lt : k < length rows = omega arith in
    c.in_ok-push.ensures.items
    ∙ ap (λ (es : List Loaded). es ++ entry ∷ []) c.loop-place.invariant
    ∙ one_entry_more rows lists k c.index-rows-place.result c.index-lists-place.result entry c.requires.ascend c.requires.size lt c.index-rows-place.is c.index-lists-place.is
    (c.in_ok-entry.ensures ∙ ap (entry_with rows c.index-rows-place.result) c.as_slice.ensures)
