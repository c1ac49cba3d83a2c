-- A store that is attached and opened, before anything is done with its payload.
use Rattle.std.proofs.Common.{◌≡◌, ℕ, true, List, [], ◌∷◌, ◌++◌, Some, Result, Ok, Err, refl, sym, ap, subst, inr}
use Rattle.disk_model.specs.declared.disk.Disk.{Ghosts as DiskGhosts}
use Rattle.sed_outside.specs.Steps.{AndThen, stops, goes_on}
use Rattle.sedona_cli.specs.declared.refusal.Refusal.{Refusal}
use Rattle.sedona_cli.specs.Outside.{Ask, Attaches, Opens, Unheld, Spares, AsksDisk}
use Rattle.sedona_cli.specs.Program.{OrWants}
use Rattle.sedona_cli.specs.Refusals.{is_want}
use Rattle.sedona_cli.specs.Store.{OpenedOrWants, StoreAttached, StoreOpened}
use Rattle.sedona_cli.proofs.Asking.{both_disk, same_disk}
use Rattle.sedona_cli.proofs.Building.{for_certain, match_both}

-- the steps, with what is done then
abbrev pub WithPayload : {X : Type 0} → List ℕ → (List ℕ → List Ask → Result X Refusal → Type 0) → List Ask → Result X Refusal → Type 0
WithPayload store N = AndThen (StoreAttached store) (λ (attached : Unit {0}). AndThen StoreOpened N)

-- a store that was attached and opened is spared
pub found_spares : (store payload : List ℕ) (front back : List Ask) → StoreAttached store front (Ok tt) → StoreOpened back (Ok payload) → Spares (Some store) (front ++ back)
found_spares store payload front back attached opened =
    subst (λ (f : List Ask). Spares (Some store) (f ++ back)) (sym attached) (subst (λ (b : List Ask). Spares (Some store) (Attaches store true ∷ b)) (sym opened) (record { unwritten = refl; attached = inr (refl, refl) }))

-- it was not attached
pub not_attached : {T X : Type 0} (D : DiskGhosts T) (d e : T) (store : List ℕ) (N : List ℕ → List Ask → Result X Refusal → Type 0) (refusal : Refusal) → AsksDisk D d e (λ asks. StoreAttached store asks (Err refusal))
    → AsksDisk D d e (λ asks. OrWants (Some store) (WithPayload store N) asks (Err refusal))
not_attached D d e store N refusal has =
    same_disk D d e (λ asks. StoreAttached store asks (Err refusal)) (λ asks. OrWants (Some store) (WithPayload store N) asks (Err refusal))
    (λ asks held. for_certain (is_want refusal) (Spares (Some store) asks) (WithPayload store N asks (Err refusal)) (ap is_want held.1) (stops refusal held refl)) has

-- what opening asked ends it
opened_stops : {X : Type 0} (store : List ℕ) (N : List ℕ → List Ask → Result X Refusal → Type 0) (refusal : Refusal) (front back : List Ask) → StoreAttached store front (Ok tt) → OpenedOrWants back (Err refusal)
    → OrWants (Some store) (WithPayload store N) (front ++ back) (Err refusal)
opened_stops store N refusal front back attached held =
    match_both (is_want refusal) (back ≡ Opens Unheld ∷ []) (StoreOpened back (Err refusal)) (Spares (Some store) (front ++ back)) (WithPayload store N (front ++ back) (Err refusal))
    (λ unheld. subst (λ (f : List Ask). Spares (Some store) (f ++ back)) (sym attached)
    (subst (λ (b : List Ask). Spares (Some store) (Attaches store true ∷ b)) (sym unheld) (record { unwritten = refl; attached = inr (refl, refl) })))
    (λ opened. goes_on front back tt refl attached (stops refusal opened refl)) held

pub not_opened : {T X : Type 0} (D : DiskGhosts T) (d e h : T) (store : List ℕ) (N : List ℕ → List Ask → Result X Refusal → Type 0) (refusal : Refusal) → AsksDisk D d e (λ asks. StoreAttached store asks (Ok tt))
    → AsksDisk D e h (λ asks. OpenedOrWants asks (Err refusal)) → AsksDisk D d h (λ asks. OrWants (Some store) (WithPayload store N) asks (Err refusal))
not_opened D d e h store N refusal first second =
    both_disk D d e h (λ asks. StoreAttached store asks (Ok tt)) (λ asks. OpenedOrWants asks (Err refusal)) (λ asks. OrWants (Some store) (WithPayload store N) asks (Err refusal))
    (λ front back attached held. opened_stops store N refusal front back attached held) first second
