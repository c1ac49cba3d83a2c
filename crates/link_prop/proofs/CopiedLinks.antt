-- What copies along links leave.
use Rattle.std.proofs.Common.{ℕ, ℤ, ◌≡◌, Bool, true, false, ◌+◌, ◌<◌, ◌≤◌, refl, sym, ◌∙◌, ap, arith, take}
use Rattle.std.specs.Prelude.{IsTrue, List, [], ◌∷◌, length, not, ◌==◌, if◌then◌else◌, slice_index_or}
use Rattle.std.specs.List.{All, fold}
use Rattle.std.proofs.lemmas.List.Elements.{All-filter}
use Rattle.std.proofs.lemmas.List.Filters.{length-filter_both}
use Rattle.std.proofs.lemmas.List.Sums.{fold_more}
use Rattle.sed_engine.specs.declared.call.Callback.TheVariants.{Changed}
use Rattle.sed_engine.specs.declared.call.Root.TheVariants.{Callback}
use Rattle.sed_engine.specs.Code.{Meaning}
use Rattle.sub_table.specs.Link.{Link, most_links}
use Rattle.sub_table.specs.Links.{links_into}
use Rattle.comp_tree.specs.Application.{Components, is_live, value_at}
use Rattle.comp_tree.specs.Calls.{Call, Counted, callback_argument, then_run}
use Rattle.comp_tree.specs.Links.{copy, copy_along, has_changed, with_value}
use Rattle.comp_tree.specs.Whole.{IsLink}
use Rattle.link_prop.specs.Linked.{one_if}
use Rattle.link_prop.proofs.AlikeComponents.{AreAlike, alike_change, alike_more, alike_run, alike_same, class_at, link_stays, live_stays}

pub few_into : (id : ℕ) (links : List Link) → length links ≤ most_links → length (links_into id links) ≤ most_links
few_into id links few =
    let both = length-filter_both (λ (l : Link). l.to == id) (λ (l : Link). not (l.to == id)) (λ l. refl) links in
    omega (arith, both, few)

pub all_into : (P : Link → Type 0) (id : ℕ) (links : List Link) → All P links → All P (links_into id links)
all_into P id links are = All-filter (λ (l : Link). l.to == id) P links are

module _ (m : Meaning) (turns : ℕ) (moment : ℤ) where
  pub alike_copy : (s : Counted) (l : Link) → AreAlike s.left.by_id (copy_along m turns moment s l).left.by_id
  alike_copy s l = by_test (has_changed m s.left (copy m s.left l) l.to l.to_slot)
    where
      alike_stored : AreAlike s.left.by_id (copy m s.left l).by_id
      alike_stored = alike_change s.left.by_id l.to (with_value m l.to_slot (value_at m s.left.by_id l.from l.from_slot)) (λ c. refl)

      by_test : (b : Bool) → AreAlike s.left.by_id (if b then then_run (record { left = copy m s.left l; traps = s.traps }) (λ a. Call m a l.to Changed l.to_slot turns moment) else record { left = copy m s.left l; traps = s.traps }).left.by_id
      by_test true = alike_more s.left.by_id (copy m s.left l).by_id _ alike_stored (alike_run m (copy m s.left l) l.to (Callback Changed) (callback_argument Changed l.to_slot) turns moment)
      by_test false = alike_stored

  pub alike_copies : (links : List Link) (s : Counted) → AreAlike s.left.by_id (fold (copy_along m turns moment) s links).left.by_id
  alike_copies [] s = alike_same s.left.by_id
  alike_copies (l ∷ links) s =
      alike_more s.left.by_id (copy_along m turns moment s l).left.by_id _ (alike_copy s l) (alike_copies links (copy_along m turns moment s l))

-- the copies along the first links, however many calls have trapped before
pub record CopiedSoFar (m : Meaning) (turns : ℕ) (moment : ℤ) (start now : Components) (links : List Link) (n traps : ℕ) : Type 0 where
  pub far : (before : ℕ) → fold (copy_along m turns moment) (record { left = start; traps = before }) (take n links) ≡ (let s : Counted = record { left = now; traps = before + traps } in s)
  pub few : traps ≤ n

module _ (m : Meaning) (turns : ℕ) (moment : ℤ) (start now : Components) (links : List Link) (n traps : ℕ) (was : CopiedSoFar m turns moment start now links n traps) where
  pub linked_now : (d : Link) → n < length links → All (IsLink m start.by_id) links → IsLink m now.by_id (slice_index_or links n d)
  linked_now d lt typed =
      link_stays m start.by_id now.by_id
      (λ id k e. ap (λ (s : Counted). class_at s.left.by_id id) (sym (was.far 0)) ∙ alike_copies m turns moment (take n links) (record { left = start; traps = 0 }) id ∙ e)
      (slice_index_or links n d) (typed n d lt)

  pub copied_more : (d : Link) (after : Components) (r : Bool) → n < length links
      → ((k : ℕ) → copy_along m turns moment (record { left = now; traps = k }) (slice_index_or links n d) ≡ (let s : Counted = record { left = after; traps = k + one_if r } in s))
      → CopiedSoFar m turns moment start after links (n + 1) (traps + one_if r)
  copied_more d after r lt each = record {
    far = λ before.
        fold_more (copy_along m turns moment) (record { left = start; traps = before }) links n d lt
        ∙ ap (λ (s : Counted). copy_along m turns moment s (slice_index_or links n d)) (was.far before) ∙ each (before + traps)
        ∙ ap (λ (k : ℕ). (let s : Counted = record { left = after; traps = k } in s)) (grouped before);
    few = one_more r;
  }
    where
      grouped : (before : ℕ) → (before + traps) + one_if r ≡ before + (traps + one_if r)
      grouped before = omega arith

      one_more : (r : Bool) → traps + one_if r ≤ n + 1
      one_more true = omega (arith, was.few)
      one_more false = omega (arith, was.few)

-- the target is live after a copy too
pub live_copied : (m : Meaning) (a : Components) (l : Link) → IsTrue (is_live a.by_id l.to) → IsTrue (is_live (copy m a l).by_id l.to)
live_copied m a l live =
    live_stays m a.by_id (copy m a l).by_id
    (λ id k e. alike_change a.by_id l.to (with_value m l.to_slot (value_at m a.by_id l.from l.from_slot)) (λ c. refl) id ∙ e) l.to live
