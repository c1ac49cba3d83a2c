-- Saves are of what is kept.
use Rattle.std.proofs.Common.{◌≡◌, ℕ, Bool, true, false, List, [], ◌∷◌, refl, sym, ap, arith}
use Rattle.std.specs.Prelude.{Option, Some, None, not, if◌then◌else◌}
use Rattle.std.specs.List.{All}
use Rattle.std.proofs.lemmas.List.Elements.{All-append, All-cons}
use Rattle.sed_engine.specs.Code.{Meaning}
use Rattle.comp_tree.specs.Application.{Application}
use Rattle.comp_tree.specs.Parts.{Kept}
use Rattle.node_events.specs.Delivering.{delivered}
use Rattle.node_events.specs.Mishap.{Mishap, is_disk_failed}
use Rattle.node_events.specs.Node.{Node, Setup}
use Rattle.node_events.specs.Running.{Event, IsSavedIn, comes, listed, one_event, passes, run}
use Rattle.node_events.specs.Saving.{Save, is_too_long, save_of}
use Rattle.node_events.proofs.Replies.{delivery_saves}

saved_is : (m : Meaning) (slot : ℕ) (a : Application) (mishap : Mishap) (save : Save) → save_of m slot a mishap ≡ Some save → save.application ≡ Kept m a
saved_is m slot a mishap save = by_test (is_too_long m slot a)
  where
    by_test : (b : Bool) → (if b then None else Some (record { application = Kept m a; acknowledged = not (is_disk_failed mishap) })) ≡ Some save → save.application ≡ Kept m a
    by_test true is = absurd (no is)
      where
        no : ◌≡◌ {A = Option Save} None (Some save) → ⊥
        no is = cc
    by_test false is = ap (λ (o : Option Save). application_in o) (sym is)
      where
        application_in : Option Save → Application
        application_in None = Kept m a
        application_in (Some save) = save.application

-- the saves of one event: none, or one, of what is kept of the application that the event found
module _ (m : Meaning) (s : Setup) where
  abbrev IsOne : Node → Event → Save → Type 0
  IsOne n event save = ((one_event m s n event).saves ≡ save ∷ []) × (save.application ≡ Kept m n.application)

  one_listed : (n : Node) (event : Event) (o : Option Save) → (one_event m s n event).saves ≡ listed o
      → ((save : Save) → o ≡ Some save → save.application ≡ Kept m n.application) → All (IsOne n event) (listed o)
  one_listed n event None is kept = λ k d lt. absurd (omega arith)
  one_listed n event (Some save) is kept = All-cons (IsOne n event) save [] (is, kept save refl) (λ k d lt. absurd (omega arith))

  each_of_one : (n : Node) (event : Event) → All (IsOne n event) (one_event m s n event).saves
  each_of_one n (comes from None mishap) = λ k d lt. absurd (omega arith)
  each_of_one n (comes from (Some heard) mishap) =
      one_listed n (comes from (Some heard) mishap) (delivered m s n from (Some heard) mishap).save refl
      (λ save is. saved_is m s.slot n.application mishap save (delivery_saves m s n from heard mishap save is).is)
  each_of_one n (passes moment) = λ k d lt. absurd (omega arith)

  -- with one more event before them
  behind : (n : Node) (event : Event) (events : List Event) (save : Save)
      → IsSavedIn m s (one_event m s n event).node events save → IsSavedIn m s n (event ∷ events) save
  behind n event events save is = record {
    before = event ∷ is.before;
    event = is.event;
    later = is.later;
    parted = ap (λ (es : List Event). event ∷ es) is.parted;
    began = is.began;
    kept = is.kept;
  }

  pub all_saved : (n : Node) (events : List Event) → All (IsSavedIn m s n events) (run m s n events).saves
  all_saved n [] = λ k d lt. absurd (omega arith)
  all_saved n (event ∷ events) =
      let rest = all_saved (one_event m s n event).node events in
      All-append (IsSavedIn m s n (event ∷ events)) (one_event m s n event).saves (run m s (one_event m s n event).node events).saves
      (λ k d lt.
      let one = each_of_one n event k d lt in
      record { before = []; event = event; later = events; parted = refl; began = one.0; kept = one.1 })
      (λ k d lt. behind n event events _ (rest k d lt))
