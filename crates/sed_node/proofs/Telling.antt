-- What is told at a place, one part after another.
use Rattle.std.proofs.Common.{◌≡◌, ◌∙◌, ℕ, Bool, true, false, List, [], ◌∷◌, ◌++◌, refl, sym, ap, arith}
use Rattle.std.specs.Prelude.{◌&&◌, ◌||◌, ◌==◌, not, nat_eq, nat_lt, if◌then◌else◌, Option, Some}
use Rattle.std.specs.Cmp.Lexicographic.{pointwise}
use Rattle.std.specs.List.{AllByRecursion, fold}
use Rattle.std.specs.Option.{option_map_or}
use Rattle.std.proofs.lemmas.Bool.Decides.{nat_tests}
use Rattle.std.proofs.lemmas.List.Sums.{fold-append}
use Rattle.sed_engine.specs.Code.{Meaning}
use Rattle.comp_tree.specs.Application.{is_live}
use Rattle.sub_table.specs.declared.part.Part.{Part}
use Rattle.sub_table.specs.declared.part.Part.TheVariants.{Tree, Config, Runtime, Links}
use Rattle.sub_table.specs.Parts.{is_part}
use Rattle.sub_table.specs.Table.{with_event}
use Rattle.sox_events.specs.Due.{before_it, rank}
use Rattle.node_events.specs.Events.{PartAt, Telling, bytes_of, differs_from, has_room_at, is_due, told}
use Rattle.node_events.specs.Events.{told_if_due}
use Rattle.sed_node.proofs.Parts.{Split}
use Rattle.sed_value.proofs.Truths.{and_right as second_true}

and_false : (b : Bool) → (b && false) ≡ false
and_false true = refl
and_false false = refl

itself_part : (part : Part) → is_part part part ≡ true
itself_part Tree = refl
itself_part Config = refl
itself_part Runtime = refl
itself_part Links = refl

apart_parts : (part other : Part) → nat_lt (rank other) (rank part) ≡ true → is_part part other ≡ false
apart_parts Tree Tree less = absurd (let no : false ≡ true = less in cc)
apart_parts Tree Config less = refl
apart_parts Tree Runtime less = refl
apart_parts Tree Links less = refl
apart_parts Config Tree less = refl
apart_parts Config Config less = absurd (let no : false ≡ true = less in cc)
apart_parts Config Runtime less = refl
apart_parts Config Links less = refl
apart_parts Runtime Tree less = refl
apart_parts Runtime Config less = refl
apart_parts Runtime Runtime less = absurd (let no : false ≡ true = less in cc)
apart_parts Runtime Links less = refl
apart_parts Links Tree less = refl
apart_parts Links Config less = refl
apart_parts Links Runtime less = refl
apart_parts Links Links less = absurd (let no : false ≡ true = less in cc)

same_bytes : (bytes : List ℕ) → pointwise nat_eq bytes bytes ≡ true
same_bytes [] = refl
same_bytes (b ∷ bytes) = ap (λ (x : Bool). x && pointwise nat_eq bytes bytes)
    (let one : nat_eq b b ≡ true = grind (arith, nat_tests) in one) ∙ same_bytes bytes

module _ (m : Meaning) (place : ℕ) where
  abbrev due : Telling → PartAt → Bool
  due t p = is_due m t.node.application t.node.subscriptions place p.id p.part

  abbrev NoneDue : Telling → List PartAt → Type 0
  NoneDue t parts = AllByRecursion (λ (p : PartAt). due t p ≡ false) parts

  by_test : (t : Telling) (p : PartAt) (room is : Bool) → has_room_at t.node.sessions place ≡ room → due t p ≡ is
      → told_if_due m place t p
      ≡ (if room && is then told place p.id p.part (bytes_of m t.node.application p.id p.part) t else t)
  by_test t p room is has_room is_due_now =
      ap (λ (b : Bool). if b && due t p then told place p.id p.part (bytes_of m t.node.application p.id p.part) t else
      t) has_room
      ∙ ap (λ (b : Bool). if room && b then told place p.id p.part (bytes_of m t.node.application p.id p.part) t else t)
      is_due_now

  -- a part that is due, where there is room
  pub told_is : (t : Telling) (p : PartAt) → has_room_at t.node.sessions place ≡ true → due t p ≡ true
      → told_if_due m place t p ≡ told place p.id p.part (bytes_of m t.node.application p.id p.part) t
  told_is t p room is = by_test t p true true room is

  -- a part that is not due
  passed_is : (t : Telling) (p : PartAt) → due t p ≡ false → told_if_due m place t p ≡ t
  passed_is t p not_due = by_room (has_room_at t.node.sessions place) refl
    where
      by_room : (b : Bool) → has_room_at t.node.sessions place ≡ b → told_if_due m place t p ≡ t
      by_room true room = by_test t p true false room not_due
      by_room false room = by_test t p false false room not_due

  -- where there is no room, nothing is told
  full_is : (t : Telling) (p : PartAt) → has_room_at t.node.sessions place ≡ false → told_if_due m place t p ≡ t
  full_is t p room = by_due (due t p) refl
    where
      by_due : (b : Bool) → due t p ≡ b → told_if_due m place t p ≡ t
      by_due true is = by_test t p false true room is
      by_due false is = by_test t p false false room is

  pub none_told : (t : Telling) (parts : List PartAt) → NoneDue t parts → fold (told_if_due m place) t parts ≡ t
  none_told t [] none = refl
  none_told t (p ∷ parts) none = ap (λ (x : Telling). fold (told_if_due m place) x parts) (passed_is t p none.0)
      ∙ none_told t parts none.1

  pub full_told : (t : Telling) (parts : List PartAt) → has_room_at t.node.sessions place ≡ false
      → fold (told_if_due m place) t parts ≡ t
  full_told t [] room = refl
  full_told t (p ∷ parts) room = ap (λ (x : Telling). fold (told_if_due m place) x parts) (full_is t p room)
      ∙ full_told t parts room

  -- ---- a part that was told

  module _ (t : Telling) (id : ℕ) (part : Part) where
    abbrev after : Telling
    after = told place id part (bytes_of m t.node.application id part) t

    -- what was not due before it is not due after it
    kept_before : (q : PartAt) → before_it id part q.id q.part ≡ true → due t q ≡ false → due after q ≡ false
    kept_before q before not_due =
        ap (λ (o : Option (Option (List ℕ))). is_live t.node.application.components.by_id q.id
        && option_map_or (differs_from (bytes_of m t.node.application q.id q.part)) o false) (unchanged q before)
        ∙ not_due
      where
        other_id : (q : PartAt) → nat_lt q.id id ≡ true → ((place == place && q.id == id) && is_part part q.part)
            ≡ false
        other_id q less =
            ap (λ (b : Bool). (place == place && b) && is_part part q.part)
            (let apart : (q.id == id) ≡ false = grind (arith, nat_tests, less) in apart)
            ∙ ap (λ (b : Bool). b && is_part part q.part) (and_false (place == place))

        other_part : (q : PartAt) → nat_lt q.id id ≡ false → before_it id part q.id q.part ≡ true
            → ((place == place && q.id == id) && is_part part q.part) ≡ false
        other_part q least before =
            ap (λ (b : Bool). (place == place && q.id == id) && b)
            (apart_parts part q.part (second_true (q.id == id) _
            (sym (ap (λ (b : Bool). b || (q.id == id && nat_lt (rank q.part) (rank part))) least) ∙ before)))
            ∙ and_false (place == place && q.id == id)

        is_other : (q : PartAt) (b : Bool) → nat_lt q.id id ≡ b → before_it id part q.id q.part ≡ true
            → ((place == place && q.id == id) && is_part part q.part) ≡ false
        is_other q true less before = other_id q less
        is_other q false least before = other_part q least before

        unchanged : (q : PartAt) → before_it id part q.id q.part ≡ true
            → with_event place id part (bytes_of m t.node.application id part) t.node.subscriptions place q.id q.part
            ≡ t.node.subscriptions place q.id q.part
        unchanged q before =
            ap (λ (b : Bool). if b then Some (Some (bytes_of m t.node.application id part)) else t.node.subscriptions
            place q.id q.part)
            (is_other q (nat_lt q.id id) refl before)

    -- nor is the part itself
    told_once : due after (record { id = id; part = part }) ≡ false
    told_once =
        ap (λ (o : Option (Option (List ℕ))). is_live t.node.application.components.by_id id
        && option_map_or (differs_from (bytes_of m t.node.application id part)) o false) itself
        ∙ ap (λ (b : Bool). is_live t.node.application.components.by_id id && not b)
        (same_bytes (bytes_of m t.node.application id part))
        ∙ and_false (is_live t.node.application.components.by_id id)
      where
        itself : with_event place id part (bytes_of m t.node.application id part) t.node.subscriptions place id part
            ≡ Some (Some (bytes_of m t.node.application id part))
        itself =
            ap (λ (b : Bool). if b then Some (Some (bytes_of m t.node.application id part)) else t.node.subscriptions
            place id part)
            (ap (λ (b : Bool). (place == place && id == id) && b) (itself_part part)
            ∙ (let here : ((place == place && id == id) && true) ≡ true = grind (arith, nat_tests) in here))

    all_kept : (first : List PartAt) → AllByRecursion (λ (q : PartAt). before_it id part q.id q.part ≡ true) first
        → NoneDue t first → NoneDue after first
    all_kept [] before none = tt
    all_kept (q ∷ first) before none = (kept_before q before.0 none.0, all_kept first before.1 none.1)

    -- to begin anew after it comes to the same
    pub told_anew : (all : List PartAt) (s : Split all id part) → has_room_at t.node.sessions place ≡ true
        → is_due m t.node.application t.node.subscriptions place id part ≡ true → NoneDue t s.first
        → fold (told_if_due m place) after all ≡ fold (told_if_due m place) t all
    told_anew all s room is none =
        let p : PartAt = record { id = id; part = part } in
        let then_after : fold (told_if_due m place) after (s.first ++ p ∷ s.later)
        ≡ fold (told_if_due m place) after s.later =
        fold-append (told_if_due m place) after s.first (p ∷ s.later)
        ∙ ap (λ (x : Telling). fold (told_if_due m place) x (p ∷ s.later))
        (none_told after s.first (all_kept s.first s.before none))
        ∙ ap (λ (x : Telling). fold (told_if_due m place) x s.later) (passed_is after p told_once) in
        let then_t : fold (told_if_due m place) t (s.first ++ p ∷ s.later) ≡ fold (told_if_due m place) after s.later =
        fold-append (told_if_due m place) t s.first (p ∷ s.later)
        ∙ ap (λ (x : Telling). fold (told_if_due m place) x (p ∷ s.later)) (none_told t s.first none)
        ∙ ap (λ (x : Telling). fold (told_if_due m place) x s.later) (told_is t p room is) in
        ap (fold (told_if_due m place) after) s.parted ∙ then_after ∙ sym then_t
        ∙ sym (ap (fold (told_if_due m place) t) s.parted)
