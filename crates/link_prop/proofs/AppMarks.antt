-- The marks of the tree and those of the links together.
use Rattle.std.proofs.Common.{ℕ, ◌≡◌, ◌⊎◌, inl, inr, Bool, true, false, refl, sym, ◌∙◌, ap, subst}
use Rattle.std.specs.Prelude.{Result, Ok, Err, IfOk, MatchResult, IsTrue, List, ◌==◌, ◌||◌, ◌&&◌, not, if◌then◌else◌}
use Rattle.std.proofs.lemmas.Bool.Decides.{nat_tests}
use Rattle.std.proofs.Common.{arith}
use Rattle.sed_value.specs.declared.id.Id.{Id}
use Rattle.sed_value.specs.declared.refusal.Refusal.{Refusal}
use Rattle.sed_engine.specs.declared.engine.Engine.{Ghosts}
use Rattle.node_table.specs.declared.marks.Parts.{Parts}
use Rattle.node_table.specs.Marks.{all_parts, without_parts}
use Rattle.sub_table.specs.Link.{Link}
use Rattle.sub_table.specs.Marked.{Marked, has_mark}
use Rattle.comp_tree.specs.Application.{is_live}
use Rattle.comp_tree.specs.Held.{Held, components_of}
use Rattle.comp_tree.specs.Marks.{KeepsMarks, Part, added_at, is_among, marks_at, no_marks, parts_in}
use Rattle.comp_tree.specs.Marks.Part.{Tree, Config, Runtime}
use Rattle.comp_tree.specs.Parts.{link_part}
use Rattle.comp_tree.proofs.MarkCalls.{keeps_same}
use Rattle.link_prop.specs.Linked.{Linked}
use Rattle.link_prop.specs.Marks.{AppPart, KeepsAppMarks, Tells, is_in_mask, is_in_row, is_marked, links_of_new, no_links}
use Rattle.link_prop.specs.Marks.AppPart.{OfTree, OfLinks}
use Rattle.link_prop.proofs.LinkParts.{neither}
use Rattle.sed_value.proofs.Truths.{either_true as or_keeps}

either : (a b : Bool) → (a || b) ≡ true → (b ≡ true) ⊎ (a ≡ true)
either true b h = inr refl
either false b h = inl h

-- these links are marked besides, and the others have the same bytes
module _ {E : Type 0} (g : Ghosts E) (own : ℕ → Parts) (linked : ℕ → Bool) (before after : Linked E) (tree : KeepsMarks g own before.tree after.tree)
    (marks : (id place : ℕ) → has_mark after.marks id place ≡ (linked id || has_mark before.marks id place))
    (bytes : (id : ℕ) → linked id ≡ false → link_part id before.links ≡ link_part id after.links) where
  told : Tells g before after
  told id place (OfTree part) clear = tree.tells id place part clear
  told id place OfLinks clear =
      let both = neither (linked id) (has_mark before.marks id place) (sym (marks id place) ∙ clear) in
      (both.1, bytes id both.0)

  set : (id place : ℕ) (part : AppPart) → IsTrue (is_live (components_of g after.tree).by_id id) → is_marked after id place part ≡ true
      → (is_marked before id place part ≡ true) ⊎ (is_in_row own linked id part ≡ true)
  set id place (OfTree part) live is = tree.sets id place part live is
  set id place OfLinks live is = either (linked id) (has_mark before.marks id place) (sym (marks id place) ∙ is)

  kept : (id place : ℕ) (part : AppPart) → IsTrue (is_live (components_of g after.tree).by_id id) → is_marked before id place part ≡ true → is_marked after id place part ≡ true
  kept id place (OfTree part) live is = tree.clears_none id place part live is
  kept id place OfLinks live is = marks id place ∙ or_keeps (linked id) (has_mark before.marks id place) is

  pub keeps_app : KeepsAppMarks g own linked before after
  keeps_app = record { tells = told; sets = set; clears_none = kept }

-- a call of the tree
pub keeps_tree : {E : Type 0} (g : Ghosts E) (own : ℕ → Parts) (before after : Linked E) → KeepsMarks g own before.tree after.tree → after.links ≡ before.links → after.marks ≡ before.marks → KeepsAppMarks g own no_links before after
keeps_tree g own before after tree links marks =
    keeps_app g own no_links before after tree (λ id place. ap (λ (m : Marked). has_mark m id place) marks)
    (λ id out. ap (link_part id) (sym links))

-- the same, of what is kept inside
pub keeps_own : {E : Type 0} (g : Ghosts E) (own : ℕ → Parts) (tree after : Held E) (links : List Link) (marks : Marked) (old : Linked E)
    → (let was : Linked E = record { tree = tree; links = links; marks = marks } in was) ≡ old → KeepsMarks g own tree after
    → KeepsAppMarks g own no_links old (record { tree = after; links = links; marks = marks })
keeps_own g own tree after links marks old is keeps =
    let new : Linked _ = record { tree = after; links = links; marks = marks } in
    subst (λ (x : Linked _). KeepsAppMarks g own no_links x new) is (keeps_tree g own (record { tree = tree; links = links; marks = marks }) new keeps refl refl)

-- a component that comes, or not
pub keeps_added : {E : Type 0} (g : Ghosts E) (parent : ℕ) (before after : Linked E) (r : Result Id Refusal)
    → MatchResult r (λ id. KeepsMarks g (added_at parent id.0) before.tree after.tree) (λ _. KeepsMarks g no_marks before.tree after.tree)
    → MatchResult r (λ id. (q place : ℕ) → has_mark after.marks q place ≡ (links_of_new id.0 q || has_mark before.marks q place)) (λ _. after.marks ≡ before.marks)
    → after.links ≡ before.links
    → MatchResult r (λ id. KeepsAppMarks g (added_at parent id.0) (links_of_new id.0) before after) (λ _. KeepsAppMarks g no_marks no_links before after)
keeps_added g parent before after (Ok id) tree marks links =
    keeps_app g (added_at parent id.0) (links_of_new id.0) before after tree marks (λ q out. ap (link_part q) (sym links))
keeps_added g parent before after (Err e) tree marks links = keeps_tree g no_marks before after tree links marks

-- links alone
pub keeps_links : {E : Type 0} (g : Ghosts E) (own : ℕ → Parts) (linked : ℕ → Bool) (before after : Linked E) → after.tree ≡ before.tree
    → ((id place : ℕ) → has_mark after.marks id place ≡ (linked id || has_mark before.marks id place))
    → ((id : ℕ) → linked id ≡ false → link_part id before.links ≡ link_part id after.links) → KeepsAppMarks g own linked before after
keeps_links g own linked before after same = keeps_app g own linked before after (keeps_same g own before.tree after.tree same)

-- nothing has changed
pub keeps_all : {E : Type 0} (g : Ghosts E) (own : ℕ → Parts) (linked : ℕ → Bool) (before after : Linked E) → after ≡ before → KeepsAppMarks g own linked before after
keeps_all g own linked before after same = subst (λ x. KeepsAppMarks g own linked before x) (sym same) (record {
  tells = λ id place part clear. (clear, refl);
  sets = λ id place part live set. inl set;
  clears_none = λ id place part live set. set;
})

-- ---- a component that is added

among_all : (part : Part) → is_among part all_parts ≡ true
among_all Tree = refl
among_all Config = refl
among_all Runtime = refl

pub all_set : {E : Type 0} (h : Linked E) (new : ℕ) (was : Marked) → ((at : ℕ) → marks_at h.tree new at ≡ all_parts) → ((id place : ℕ) → has_mark h.marks id place ≡ (links_of_new new id || has_mark was id place))
    → (at : ℕ) (part : AppPart) → is_marked h new at part ≡ true
all_set h new was own links at (OfTree part) = ap (is_among part) (own at) ∙ among_all part
all_set h new was own links at OfLinks =
    let yes : (new == new) ≡ true = grind (arith, nat_tests) in
    links new at ∙ ap (λ (b : Bool). b || has_mark was new at) yes

pub added_set : {E : Type 0} (h : Linked E) (was : Marked) (r : Result Id Refusal) → IfOk r (λ id. (at : ℕ) → marks_at h.tree id.0 at ≡ all_parts)
    → MatchResult r (λ id. (q place : ℕ) → has_mark h.marks q place ≡ (links_of_new id.0 q || has_mark was q place)) (λ _. h.marks ≡ was)
    → IfOk r (λ id. (at : ℕ) (part : AppPart) → is_marked h id.0 at part ≡ true)
added_set h was (Ok id) own links = all_set h id.0 was own links
added_set h was (Err e) own links = own

-- ---- settling

without : (b c : Bool) → (b && not c) ≡ (if c then false else b)
without true true = refl
without true false = refl
without false true = refl
without false false = refl

among_without : (part : Part) (fewer p : Parts) → is_among part (without_parts fewer p) ≡ (if is_among part fewer then false else is_among part p)
among_without Tree fewer p = without p.tree fewer.tree
among_without Config fewer p = without p.config fewer.config
among_without Runtime fewer p = without p.runtime fewer.runtime

settled_here : (part : Part) (fewer p : Parts) (here : Bool) → is_among part (if here then without_parts fewer p else p) ≡ (if here && is_among part fewer then false else is_among part p)
settled_here part fewer p true = among_without part fewer p
settled_here part fewer p false = refl

pub marks_settled : {E : Type 0} (before after : Linked E) (id place mask : ℕ)
    → ((other at : ℕ) → marks_at after.tree other at ≡ (if (other == id) && (at == place) then without_parts (parts_in mask) (marks_at before.tree other at) else marks_at before.tree other at))
    → ((other at : ℕ) → has_mark after.marks other at ≡ (if ((other == id) && (at == place)) && is_in_mask mask OfLinks then false else has_mark before.marks other at))
    → (other at : ℕ) (part : AppPart) → is_marked after other at part ≡ (if ((other == id) && (at == place)) && is_in_mask mask part then false else is_marked before other at part)
marks_settled before after id place mask own links other at (OfTree part) =
    ap (is_among part) (own other at) ∙ settled_here part (parts_in mask) (marks_at before.tree other at) ((other == id) && (at == place))
marks_settled before after id place mask own links other at OfLinks = links other at
