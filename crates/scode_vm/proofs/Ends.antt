-- How an instruction ends on frames of cells, and where it leads.
use Rattle.std.proofs.Common.{◌≡◌, ℕ, ◌+◌, ◌≤◌, List, length, Result, Ok, Err, sym, ap, subst, ◌∙◌, arith}
use Rattle.std.proofs.lemmas.List.{length-map}
use Rattle.sed_engine.specs.declared.call.Place.{Place}
use Rattle.sed_engine.specs.State.{Shared, State, End, answers, gives}
use Rattle.sed_engine.specs.Stops.{Stop, Traps, Untyped, map_ok}
use Rattle.sed_engine.specs.Values.{Val}
use Rattle.scode_code.specs.Effect.{push}
use Rattle.scode_code.specs.Fields.{Setting}
use Rattle.scode_code.specs.Machine.{Move, Onward}
use Rattle.scode_cells.specs.declared.cell.Cell.{Cell}
use Rattle.scode_cells.specs.Frames.{Frames, IsRunning, running, with_running}
use Rattle.scode_vm.specs.Seen.{machine_seen, val_of, vals}
use Rattle.scode_vm.specs.Doings.{Does, Doing, EndsTyped, HasRoom, IsTypedOn, MayDo, ending, point_from, reached}

-- ---- on to the next instruction

still_runs : (s : Frames) (locals stack : List Cell)
    → IsRunning (with_running s (record (running s) { locals = locals; stack = stack }))
still_runs s locals stack = omega arith

-- an instruction that leads on with these locals and this stack does so on frames
pub onward : (f : Doing) (s new : Frames) (locals stack : List Cell)
    → new ≡ with_running s (record (running s) { locals = locals; stack = stack })
    → ((w : Setting) (place : Place) (shared : Shared) → IsTypedOn f w place shared s
    → ending f w place s shared
    ≡ gives (Onward (vals w place stack)) (record { shared = shared; locals = vals w place locals }))
    → Does f s (Ok tt) new
onward f s new locals stack n e = record {
  leads = λ w place shared typed. ap (λ (x : Frames). reached w place (Ok tt) x shared) n
      ∙ ap (point_from (machine_seen w place s shared)) (sym (e w place shared typed));
  runs = subst IsRunning (sym n) (still_runs s locals stack);
  most = ap (λ (x : Frames). x.most) n;
}

-- ---- the room that there is

vals_long : (w : Setting) (place : Place) (cells : List Cell) → length (vals w place cells) ≡ length cells
vals_long w place cells = length-map cells (val_of w place)

pub has_room : (f : Doing) (s : Frames) (m : MayDo f s) (stack : List Cell) (st : State)
    → ending f m.w m.place s m.shared ≡ gives (Onward (vals m.w m.place stack)) st
    → length (running s).locals + length stack ≤ s.most
has_room f s m stack st e =
    let h : length (running s).locals + length (vals m.w m.place stack) ≤ s.most =
    subst (λ (x : End Move). HasRoom s.most (length (running s).locals) x.result) e m.room in
    subst (λ (n : ℕ). length (running s).locals + n ≤ s.most) (vals_long m.w m.place stack) h

-- ---- what is answered, and put on the stack

pub answered_typed : (r : Result Val Stop) (rest : List Val) (s : State) → EndsTyped (push rest (answers r s)).result
    → EndsTyped r
answered_typed (Ok v) rest s h = tt
answered_typed (Err (Traps trap)) rest s h = tt
answered_typed (Err Untyped) rest s h = h

pub mapped_typed : {A B : Type 0} (f : A → B) (r : Result A Stop) → EndsTyped (map_ok f r) → EndsTyped r
mapped_typed f (Ok v) h = tt
mapped_typed f (Err (Traps trap)) h = tt
mapped_typed f (Err Untyped) h = h
