-- Locals of cells, and the values that they stand for.
use Rattle.std.proofs.Common.{◌≡◌, ℕ, ◌<◌, List, [], ◌∷◌, drop, get_or, length, Option, Some, None, Result, Ok, refl, sym, ap, subst, ◌∙◌}
use Rattle.std.specs.Prelude.{slice_get, slice_set}
use Rattle.std.specs.Option.{option_map}
use Rattle.std.proofs.lemmas.List.{length-map, map-set}
use Rattle.std.proofs.lemmas.Option.{slice_get-map, slice_get-get_or, slice_get_within}
use Rattle.sed_engine.specs.declared.call.Place.{Place}
use Rattle.sed_engine.specs.State.{Shared, State, answers, gives, then_do}
use Rattle.sed_engine.specs.Steps.{with_local}
use Rattle.sed_engine.specs.Stops.{Stop, map_ok, there}
use Rattle.sed_engine.specs.Values.{Val}
use Rattle.scode_ops.specs.declared.op.Op.TheVariants as op
use Rattle.scode_code.specs.Effect.{no_push}
use Rattle.scode_code.specs.Fields.{Setting}
use Rattle.scode_code.specs.Machine.{Onward}
use Rattle.scode_code.specs.Steps.{effect}
use Rattle.scode_cells.specs.declared.cell.Cell.{Cell}
use Rattle.scode_vm.specs.Seen.{val_of, vals}
use Rattle.scode_vm.specs.Doings.{EndsTyped}

local_there : (w : Setting) (place : Place) (locals : List Cell) (i : ℕ) (d : Cell) → i < length locals
    → slice_get (vals w place locals) i ≡ Some (val_of w place (get_or locals i d))
local_there w place locals i d lt =
    slice_get-map (val_of w place) locals i ∙ ap (option_map (val_of w place)) (slice_get-get_or locals i d lt)

local_stored : (w : Setting) (place : Place) (locals : List Cell) (i : ℕ) (v : Cell) → i < length locals
    → with_local (vals w place locals) i (val_of w place v) ≡ Ok (vals w place (slice_set locals i v))
local_stored w place locals i v lt =
    ap (λ (o : Option Val). map_ok (λ _. slice_set (vals w place locals) i (val_of w place v)) (there o))
    (local_there w place locals i v lt)
    ∙ ap Ok (sym (map-set (val_of w place) locals i v))

-- how a store ends
pub store_ends : (w : Setting) (place : Place) (shared : Shared) (locals stack : List Cell) (i : ℕ) (v : Cell)
    → slice_get stack 0 ≡ Some v → i < length locals
    → effect w (op.Store i) (vals w place stack) (record { shared = shared; locals = vals w place locals })
    ≡ gives (Onward (vals w place (drop 1 stack)))
    (record { shared = shared; locals = vals w place (slice_set locals i v) })
store_ends w place shared locals [] i v top lt = absurd (cc)
store_ends w place shared locals (c ∷ cs) i v top lt =
    let same : c ≡ v = cc in
    ap (λ (r : Result (List Val) Stop). no_push (vals w place cs)
    (then_do (answers r (record { shared = shared; locals = vals w place locals }))
    (λ new s. gives (val_of w place c) (record { shared = s.shared; locals = new }))))
    (local_stored w place locals i c lt)
    ∙ ap (λ (x : Cell). gives (Onward (vals w place cs))
    (record { shared = shared; locals = vals w place (slice_set locals i x) })) same

-- it ends typed only at a local
found_within : (w : Setting) (place : Place) (st : State) (locals : List Cell) (rest : List Val) (i : ℕ) (v : Val)
    (o : Option Val) → slice_get (vals w place locals) i ≡ o
    → EndsTyped (no_push rest (then_do (answers (map_ok (λ _. slice_set (vals w place locals) i v) (there o)) st)
    (λ new s. gives v (record { shared = s.shared; locals = new })))).result
    → i < length locals
found_within w place st locals rest i v None e h = absurd h
found_within w place st locals rest i v (Some x) e h =
    subst (λ (n : ℕ). i < n) (length-map locals (val_of w place)) (slice_get_within (vals w place locals) i x e)

pub store_within : (w : Setting) (place : Place) (shared : Shared) (locals stack : List Cell) (i : ℕ)
    → EndsTyped (effect w (op.Store i) (vals w place stack)
    (record { shared = shared; locals = vals w place locals })).result
    → i < length locals
store_within w place shared locals [] i h = absurd h
store_within w place shared locals (c ∷ cs) i h =
    found_within w place (record { shared = shared; locals = vals w place locals }) locals (vals w place cs) i
    (val_of w place c) (slice_get (vals w place locals) i) refl h
