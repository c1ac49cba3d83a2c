-- The marks agree with rows that are old ones, or have no last event; each call that subscribes or drops leaves such.
use Rattle.std.proofs.Common.{◌≡◌, ◌∙◌, ℕ, Bool, true, false, List, Option, Some, None, refl, sym, ap}
use Rattle.std.specs.Prelude.{◌==◌, ◌&&◌, if◌then◌else◌}
use Rattle.sed_engine.specs.declared.engine.Engine.{Ghosts}
use Rattle.link_prop.specs.Linked.{Linked}
use Rattle.sub_table.specs.declared.part.Part.{Part}
use Rattle.sub_table.specs.Events.{subscribed}
use Rattle.sub_table.specs.Parts.{is_in}
use Rattle.sub_table.specs.Table.{Subscriptions, is_at, nothing_subscribed, with_subscribed, without_place, without_subscribed}
use Rattle.sox_events.specs.Due.{AllMarksAgree, OnlyForgets, has_event, lives, of_the_live}

-- what agrees with the old rows
pub forgetting_agrees : {E : Type 0} (g : Ghosts E) (a : Linked E) (before after : Subscriptions) → OnlyForgets before after
    → AllMarksAgree g a before → AllMarksAgree g a after
forgetting_agrees g a before after forgets agree place id part bytes last clear =
    agree place id part bytes (sym (forgets place id part (ap has_event last)) ∙ last) clear

-- ---- what the calls leave

-- a row that is another by a test, which has its last event from the old one
by_test : (b : Bool) (row old new : Option (Option (List ℕ))) → new ≡ (if b then row else old) → (has_event row ≡ true → row ≡ old)
    → has_event new ≡ true → new ≡ old
by_test true row old new is forgets told = is ∙ forgets (sym (ap has_event is) ∙ told)
by_test false row old new is forgets told = is

by_life : (b : Bool) (old new : Option (Option (List ℕ))) → new ≡ (if b then old else None) → has_event new ≡ true → new ≡ old
by_life true old new is told = is
by_life false old new is told = absurd (let no : false ≡ true = sym (ap has_event is) ∙ told in cc)

nothing : (old : Option (Option (List ℕ))) → false ≡ true → None ≡ old
nothing old told = absurd (let no : false ≡ true = told in cc)

same_event : (old : Option (Option (List ℕ))) → has_event (subscribed old) ≡ true → subscribed old ≡ old
same_event None told = absurd (let no : false ≡ true = told in cc)
same_event (Some last) told = refl

-- there is nothing that could be forgotten
pub nothing_agrees : {E : Type 0} (g : Ghosts E) (a : Linked E) (subs : Subscriptions)
    → ((p i : ℕ) (part : Part) → subs p i part ≡ nothing_subscribed p i part) → AllMarksAgree g a subs
nothing_agrees g a subs is =
    forgetting_agrees g a nothing_subscribed subs (λ p i part told. is p i part)
    (λ p i part bytes last clear. absurd (let no : ◌≡◌ {A = Option (Option (List ℕ))} None (Some (Some bytes)) = last in cc))

module _ (before after : Subscriptions) where
  pub subscribing_forgets : (place id mask : ℕ) → ((p i : ℕ) (part : Part) → after p i part ≡ with_subscribed place id mask before p i part)
      → OnlyForgets before after
  subscribing_forgets place id mask is p i part =
      by_test (is_at place id p i && is_in mask part) (subscribed (before p i part)) (before p i part) (after p i part)
      (is p i part) (same_event (before p i part))

  pub unsubscribing_forgets : (place id mask : ℕ) → ((p i : ℕ) (part : Part) → after p i part ≡ without_subscribed place id mask before p i part)
      → OnlyForgets before after
  unsubscribing_forgets place id mask is p i part =
      by_test (is_at place id p i && is_in mask part) None (before p i part) (after p i part) (is p i part) (nothing (before p i part))

  pub ending_forgets : (place : ℕ) → ((p i : ℕ) (part : Part) → after p i part ≡ without_place place before p i part)
      → OnlyForgets before after
  ending_forgets place is p i part =
      by_test (p == place) None (before p i part) (after p i part) (is p i part) (nothing (before p i part))

  pub dying_forgets : {E : Type 0} (g : Ghosts E) (a : Linked E) → ((p i : ℕ) (part : Part) → after p i part ≡ of_the_live g a before p i part)
      → OnlyForgets before after
  dying_forgets g a is p i part = by_life (lives g a i) (before p i part) (after p i part) (is p i part)
