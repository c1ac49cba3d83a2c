-- The steps of a path, from the App down.
use Rattle.std.proofs.Common.{◌≡◌, ℕ, suc, List, [], ◌∷◌, ◌++◌, Option, Some, Result, Ok, Err, sym, ap, ◌∙◌}
use Rattle.std.proofs.Common.{reverse}
use Rattle.std.specs.List.{flat_map}
use Rattle.std.proofs.lemmas.List.{append-nil, reverse-append}
use Rattle.std.proofs.lemmas.List.Concat.{flat_map-append}
use Rattle.std.specs.Prelude.{IsErr}
use Rattle.sed_typed.specs.Classes.{reached}
use Rattle.sed_outside.specs.declared.sink.Sink.{Ghosts}
use Rattle.sed_outside.specs.declared.sink.SinkFault.{SinkFault}
use Rattle.printed_app.specs.Puts.{Puts}
use Rattle.printed_app.proofs.Sequence.{stops, text_is, then_put}

-- the last step stands behind the others
pub flat_map-reverse : (f : ℕ → List ℕ) (x : ℕ) (xs : List ℕ) →
    flat_map f (reverse (x ∷ xs)) ≡ flat_map f (reverse xs) ++ f x
flat_map-reverse f x xs =
    ap (flat_map f) (reverse-append (x ∷ []) xs) ∙ flat_map-append f (reverse xs) (x ∷ [])
    ∙ ap (λ l. flat_map f (reverse xs) ++ l) (append-nil (f x))

-- the last step behind those from the App to the parent
way_down : (f : ℕ → List ℕ) (next : ℕ → Option ℕ) (steps less : ℕ) (at up : Option ℕ) (id : ℕ) →
    steps ≡ suc less → at ≡ Some id → up ≡ next id →
    flat_map f (reverse (reached next less up)) ++ f id ≡ flat_map f (reverse (reached next steps at))
way_down f next steps less at up id more there above =
    ap (λ (o : Option ℕ). flat_map f (reverse (reached next less o)) ++ f id) above
    ∙ sym (flat_map-reverse f id (reached next less (next id)))
    ∙ ap (λ (n : ℕ). flat_map f (reverse (reached next n (Some id)))) (sym more)
    ∙ ap (λ (o : Option ℕ). flat_map f (reverse (reached next steps o))) (sym there)

-- the steps to the parent were put, and then the last one
pub way_put : {O : Type 0} {g : Ghosts O} {a b c : O} {r : Result (Unit {0}) SinkFault} (f : ℕ → List ℕ)
    (next : ℕ → Option ℕ) (steps less : ℕ) (at up : Option ℕ) (id : ℕ) → steps ≡ suc less → at ≡ Some id →
    up ≡ next id → Puts g a b (flat_map f (reverse (reached next less up))) (Ok tt) → Puts g b c (f id) r →
    Puts g a c (flat_map f (reverse (reached next steps at))) r
way_put f next steps less at up id more there above front last =
    text_is (way_down f next steps less at up id more there above) (then_put front last)

-- the steps to the parent were not put
pub way_stops : {O : Type 0} {g : Ghosts O} {a b : O} {e : SinkFault} {r : Result (Unit {0}) SinkFault}
    (f : ℕ → List ℕ) (next : ℕ → Option ℕ) (steps less : ℕ) (at up : Option ℕ) (id : ℕ) → steps ≡ suc less →
    at ≡ Some id → up ≡ next id → Puts g a b (flat_map f (reverse (reached next less up))) (Err e) → IsErr r →
    Puts g a b (flat_map f (reverse (reached next steps at))) r
way_stops f next steps less at up id more there above front err =
    text_is (way_down f next steps less at up id more there above) (stops (f id) front err)
