-- Two engines that are asked the same, and choose alike, give the same.
use Rattle.std.proofs.Common.{◌≡◌, ◌<◌, ℕ, ℤ, List, [], ◌∷◌, Option, Some, None, Result, Ok, Err, refl, sym, ap, subst, ◌∙◌}
use Rattle.std.specs.Prelude.{IfSome, IsSomeAnd}
use Rattle.std.specs.FinMap as map
use Rattle.sed_value.specs.declared.value.Value.{Value}
use Rattle.sed_typed.specs.Contents.{Contents}
use Rattle.sed_engine.specs.declared.call.AddRefusal.{AddRefusal}
use Rattle.sed_engine.specs.declared.call.AddRefusal.TheVariants.{DataFull, Memory}
use Rattle.sed_engine.specs.declared.call.CallEnd.{CallEnd}
use Rattle.sed_engine.specs.declared.call.Place.{Place}
use Rattle.sed_engine.specs.declared.call.Root.{Root}
use Rattle.sed_engine.specs.Code.{Meaning, Object, Places, called, new_object, root_of, slot_value, with_slot}
use Rattle.sedona_laws.specs.Steps.{Gave, State, Step, add, call, get, remove, set, nothing, place_or, this_end, this_value, Adds, AreSteps, AtOnePlace, Calls, ChooseAlike, Gets, HadMemory, IsStep, Removes, Sets}

-- states with the same parts
same_state : (a b : State) → a.meaning ≡ b.meaning → a.live ≡ b.live → a.statics ≡ b.statics → a.limit ≡ b.limit → a ≡ b
same_state a b meaning live statics limit = λ i. record { meaning = meaning i; live = live i; statics = statics i; limit = limit i }

-- what both say of an object that is there
both : {X : Type 0} (o : Option Object) (a b : X) (P : Object → Type 0) (f : Object → X) → IsSomeAnd o P → IfSome o (λ x. a ≡ f x) → IfSome o (λ x. b ≡ f x) → a ≡ b
both None a b P f there first second = absurd there
both (Some o) a b P f there first second = first ∙ sym second

-- ---- one call

-- each says the same of its answer and of what it leaves
abbrev IsOne : Gave → Gave → State → State → Type 0
IsOne gave given new end = (gave ≡ given) × (new ≡ end)

module _ (class : ℕ) (old new end : State) where
  same_rest : (r s : Result Place AddRefusal) → Adds class r old new → Adds class s old end → new.live ≡ end.live → new ≡ end
  same_rest r s h k live = same_state new end (h.meaning ∙ sym k.meaning) live (h.statics ∙ sym k.statics) (h.limit ∙ sym k.limit)

  no_full : (p : Place) → ◌≡◌ {A = Result Place AddRefusal} (Ok p) (Err DataFull) → ⊥
  no_full p same = cc

  add_one : (r s : Result Place AddRefusal) → Adds class r old new → Adds class s old end → HadMemory (place_or r) → HadMemory (place_or s) → AtOnePlace (place_or r) (place_or s) → IsOne (place_or r) (place_or s) new end
  add_one (Ok p) (Ok q) h k had also at = (
    ap (λ (n : Place). place_or (Ok n)) at,
    same_rest (Ok p) (Ok q) h k (h.added ∙ ap (λ (n : Place). map.insert old.live n.0 (new_object old.meaning class)) at ∙ sym k.added),
  )
  add_one (Ok p) (Err DataFull) h k had also at = absurd (no_full p (h.full.1 (k.full.0 refl)))
  add_one (Err DataFull) (Ok q) h k had also at = absurd (no_full q (k.full.1 (h.full.0 refl)))
  add_one (Err DataFull) (Err DataFull) h k had also at = (refl, same_rest (Err DataFull) (Err DataFull) h k (h.refused ∙ sym k.refused))
  add_one (Err Memory) s h k had also at = absurd had
  add_one (Ok p) (Err Memory) h k had also at = absurd also
  add_one (Err DataFull) (Err Memory) h k had also at = absurd also

remove_one : (p : ℕ) (old new end : State) → Removes p old new → Removes p old end → IsOne nothing nothing new end
remove_one p old new end h k = (
  refl,
  same_state new end (h.meaning ∙ sym k.meaning) (h.removed ∙ sym k.removed) (h.statics ∙ sym k.statics) (h.limit ∙ sym k.limit),
)

get_one : (p s : ℕ) (a b : Value) (old new end : State) → Gets p s a old new → Gets p s b old end → IsOne (this_value a) (this_value b) new end
get_one p s a b old new end h k = (
  ap this_value (both (map.get old.live p) a b _ (λ (o : Object). slot_value old.meaning o s) h.property h.value k.value),
  h.same ∙ sym k.same,
)

set_one : (p s : ℕ) (v : Value) (old new end : State) → Sets p s v old new → Sets p s v old end → IsOne nothing nothing new end
set_one p s v old new end h k = (
  refl,
  same_state new end (h.meaning ∙ sym k.meaning)
      (both (map.get old.live p) new.live end.live _ (λ (o : Object). map.insert old.live p (with_slot old.meaning o s v)) h.storable h.written k.written)
      (h.statics ∙ sym k.statics) (h.limit ∙ sym k.limit),
)

call_one : (p : ℕ) (r : Root) (v : Value) (turns : ℕ) (ticks : ℤ) (a b : CallEnd) (old new end : State) → Calls p r v turns ticks a old new → Calls p r v turns ticks b old end
    → IsOne (this_end a) (this_end b) new end
call_one p r v turns ticks a b old new end h k = (
  ap this_end (both (map.get old.live p) a b _ (λ (o : Object). (root_of old.meaning o old.statics r v turns ticks).end) h.live h.end k.end),
  same_state new end (h.meaning ∙ sym k.meaning)
      (both (map.get old.live p) new.live end.live _ (λ (o : Object). map.insert old.live p (called o (root_of old.meaning o old.statics r v turns ticks))) h.live h.left k.left)
      (both (map.get old.live p) new.statics end.statics _ (λ (o : Object). (root_of old.meaning o old.statics r v turns ticks).statics) h.live h.statics k.statics)
      (h.limit ∙ sym k.limit),
)

one_step : (step : Step) (gave given : Gave) (old new end : State) → IsStep step gave old new → IsStep step given old end → HadMemory gave → HadMemory given → AtOnePlace gave given → IsOne gave given new end
one_step (add class) (place_or r) (place_or s) old new end h k had also at = add_one class old new end r s h k had also at
one_step (remove p) nothing nothing old new end h k had also at = remove_one p old new end h k
one_step (get p s) (this_value a) (this_value b) old new end h k had also at = get_one p s a b old new end h k
one_step (set p s v) nothing nothing old new end h k had also at = set_one p s v old new end h k
one_step (call p r v turns ticks) (this_end a) (this_end b) old new end h k had also at = call_one p r v turns ticks a b old new end h k
one_step (add class) (place_or r) nothing old new end h k had also at = absurd k
one_step (add class) (place_or r) (this_value b) old new end h k had also at = absurd k
one_step (add class) (place_or r) (this_end b) old new end h k had also at = absurd k
one_step (add class) nothing given old new end h k had also at = absurd h
one_step (add class) (this_value a) given old new end h k had also at = absurd h
one_step (add class) (this_end a) given old new end h k had also at = absurd h
one_step (remove p) nothing (place_or s) old new end h k had also at = absurd k
one_step (remove p) nothing (this_value b) old new end h k had also at = absurd k
one_step (remove p) nothing (this_end b) old new end h k had also at = absurd k
one_step (remove p) (place_or r) given old new end h k had also at = absurd h
one_step (remove p) (this_value a) given old new end h k had also at = absurd h
one_step (remove p) (this_end a) given old new end h k had also at = absurd h
one_step (get p s) (this_value a) (place_or t) old new end h k had also at = absurd k
one_step (get p s) (this_value a) nothing old new end h k had also at = absurd k
one_step (get p s) (this_value a) (this_end b) old new end h k had also at = absurd k
one_step (get p s) (place_or r) given old new end h k had also at = absurd h
one_step (get p s) nothing given old new end h k had also at = absurd h
one_step (get p s) (this_end a) given old new end h k had also at = absurd h
one_step (set p s v) nothing (place_or t) old new end h k had also at = absurd k
one_step (set p s v) nothing (this_value b) old new end h k had also at = absurd k
one_step (set p s v) nothing (this_end b) old new end h k had also at = absurd k
one_step (set p s v) (place_or r) given old new end h k had also at = absurd h
one_step (set p s v) (this_value a) given old new end h k had also at = absurd h
one_step (set p s v) (this_end a) given old new end h k had also at = absurd h
one_step (call p r v turns ticks) (this_end a) (place_or t) old new end h k had also at = absurd k
one_step (call p r v turns ticks) (this_end a) nothing old new end h k had also at = absurd k
one_step (call p r v turns ticks) (this_end a) (this_value b) old new end h k had also at = absurd k
one_step (call p r v turns ticks) (place_or t) given old new end h k had also at = absurd h
one_step (call p r v turns ticks) nothing given old new end h k had also at = absurd h
one_step (call p r v turns ticks) (this_value a) given old new end h k had also at = absurd h

-- ---- one after another

pub steps_one : (steps : List Step) (gave given : List Gave) (old new end : State) → AreSteps steps gave old new → AreSteps steps given old end → ChooseAlike gave given → (gave ≡ given) × (new ≡ end)
steps_one [] [] [] old new end h k alike = (refl, h ∙ sym k)
steps_one [] [] (b ∷ given) old new end h k alike = absurd k
steps_one [] (a ∷ gave) given old new end h k alike = absurd h
steps_one (step ∷ steps) [] given old new end h k alike = absurd h
steps_one (step ∷ steps) (a ∷ gave) [] old new end h k alike = absurd k
steps_one (step ∷ steps) (a ∷ gave) (b ∷ given) old new end h k alike =
    let first : IsOne a b h.0 k.0 = one_step step a b old h.0 k.0 h.1 k.1 alike.0 alike.1 alike.2 in
    let rest : (gave ≡ given) × (new ≡ end) =
    steps_one steps gave given h.0 new end h.2 (subst (λ (s : State). AreSteps steps given s end) (sym first.1) k.2) alike.3 in
    (ap (λ (g : Gave). g ∷ gave) first.0 ∙ ap (λ (more : List Gave). b ∷ more) rest.0, rest.1)
