-- What the frames that are seen tell of the row.
use Rattle.std.proofs.Common.{◌≡◌, ℕ, suc, ◌+◌, ◌-◌, ◌<◌, ◌≤◌, Bool, true, false, List, [], ◌∷◌, ◌++◌, get_or, set, length, reverse, slice_get, refl, sym, ap, subst, ◌∙◌, arith}
use Rattle.std.specs.Prelude.{Some, vec_capacity}
use Rattle.std.proofs.lemmas.List.{length-map, length-reverse, reverse-append}
use Rattle.scode_cells.specs.declared.cell.Cell.{Cell}
use Rattle.scode_cells.specs.declared.extent.Extent.{Extent}
use Rattle.scode_cells.specs.declared.cells.Cells.TheInside.{Inside}
use Rattle.scode_cells.specs.Frames.{Frames, IsRunning, cells_in, entered, first_frame, popped, pushed, running, stored}
use Rattle.scode_cells.specs.Rows.{AreKept, frame_in, frames_in, put_at, seen_in}
use Rattle.scode_cells.proofs.Changes.{enter_room, enter_seen, locals_long, pop_seen, push_kept, push_seen, push_within, stack_is_long, store_seen, top_seen, within}

abbrev pub Keeps : Inside → Type 0
Keeps i = AreKept i.row.items i.is_running i.frame (reverse i.others.items) (vec_capacity i.others) i.most

abbrev pub seen : Inside → Frames
seen i = seen_in i.row.items i.is_running i.frame (reverse i.others.items) i.most

-- where a frame is seen, one is running
on_by_frames : (row : List Cell) (b : Bool) (e : Extent) (es : List Extent) → 0 < length (frames_in row b e es) → b ≡ true
on_by_frames row true e es lt = refl
on_by_frames row false e es lt = absurd (omega arith)

on_by_stack : (row : List Cell) (b : Bool) (e : Extent) (es : List Extent) → 0 < length (first_frame (frames_in row b e es)).stack → b ≡ true
on_by_stack row true e es lt = refl
on_by_stack row false e es lt = absurd (omega arith)

on_by_locals : (row : List Cell) (b : Bool) (e : Extent) (es : List Extent) → 0 < length (first_frame (frames_in row b e es)).locals → b ≡ true
on_by_locals row true e es lt = refl
on_by_locals row false e es lt = absurd (omega arith)

module _ (i : Inside) (is : Keeps i) (s : Frames) (view : seen i ≡ s) where
  pub on : IsRunning s → i.is_running ≡ true
  on lt = on_by_frames i.row.items i.is_running i.frame (reverse i.others.items) (subst (λ (s : Frames). IsRunning s) (sym view) lt)

  pub on_stack : 0 < length (running s).stack → i.is_running ≡ true
  on_stack lt = on_by_stack i.row.items i.is_running i.frame (reverse i.others.items) (subst (λ (s : Frames). 0 < length (running s).stack) (sym view) lt)

  pub on_locals : 0 < length (running s).locals → i.is_running ≡ true
  on_locals lt = on_by_locals i.row.items i.is_running i.frame (reverse i.others.items) (subst (λ (s : Frames). 0 < length (running s).locals) (sym view) lt)

  module _ (is_on : i.is_running ≡ true) where
    kept : AreKept i.row.items true i.frame (reverse i.others.items) (vec_capacity i.others) i.most
    kept = subst (λ b. AreKept i.row.items b i.frame (reverse i.others.items) (vec_capacity i.others) i.most) is_on is

    held : seen_in i.row.items true i.frame (reverse i.others.items) i.most ≡ s
    held = sym (ap (λ b. seen_in i.row.items b i.frame (reverse i.others.items) i.most) is_on) ∙ view

    pub end : i.frame.top ≤ length i.row.items
    end = within i.row.items i.frame (reverse i.others.items) (vec_capacity i.others) i.most kept

    pub stack_told : length (running s).stack ≡ i.frame.top - i.frame.stack
    stack_told = ap (λ (s : Frames). length (running s).stack) (sym held) ∙ stack_is_long i.row.items i.frame (reverse i.others.items) (vec_capacity i.others) i.most kept

    pub locals_told : length (running s).locals ≡ i.frame.stack - i.frame.base
    locals_told = ap (λ (s : Frames). length (running s).locals) (sym held) ∙ locals_long i.row.items i.frame (reverse i.others.items) (vec_capacity i.others) i.most kept

    pub most_told : s.most ≡ i.most
    most_told = ap (λ (s : Frames). s.most) (sym held)

    pub depth_told : length s.frames ≡ suc (length i.others.items)
    depth_told = ap (λ (s : Frames). length s.frames) (sym held) ∙ ap suc (length-map (reverse i.others.items) (frame_in i.row.items) ∙ length-reverse i.others.items)

    room_told : cells_in (running s) < s.most → cells_in (frame_in i.row.items i.frame) < i.most
    room_told lt = subst (λ (s : Frames). cells_in (running s) < s.most) (sym held) lt

    pub push_kept_told : (v : Cell) → cells_in (running s) < s.most →
        AreKept (set i.row.items i.frame.top v) i.is_running (record i.frame { top = i.frame.top + 1 }) (reverse i.others.items) (vec_capacity i.others) i.most
    push_kept_told v lt =
        subst (λ b. AreKept (set i.row.items i.frame.top v) b (record i.frame { top = i.frame.top + 1 }) (reverse i.others.items) (vec_capacity i.others) i.most) (sym is_on)
        (push_kept i.row.items i.frame (reverse i.others.items) (vec_capacity i.others) i.most kept v (room_told lt))

    pub push_told : (v : Cell) → cells_in (running s) < s.most →
        seen_in (set i.row.items i.frame.top v) i.is_running (record i.frame { top = i.frame.top + 1 }) (reverse i.others.items) i.most ≡ pushed s v
    push_told v lt =
        ap (λ b. seen_in (set i.row.items i.frame.top v) b (record i.frame { top = i.frame.top + 1 }) (reverse i.others.items) i.most) is_on
        ∙ push_seen i.row.items i.frame (reverse i.others.items) (vec_capacity i.others) i.most kept v
        (push_within i.row.items i.frame (reverse i.others.items) (vec_capacity i.others) i.most kept (room_told lt))
        ∙ ap (λ (s : Frames). pushed s v) held

    pub pop_told : 0 < length (running s).stack →
        seen_in i.row.items i.is_running (record i.frame { top = i.frame.top - 1 }) (reverse i.others.items) i.most ≡ popped s
    pop_told lt =
        let long = stack_told in
        ap (λ b. seen_in i.row.items b (record i.frame { top = i.frame.top - 1 }) (reverse i.others.items) i.most) is_on
        ∙ pop_seen i.row.items i.frame (reverse i.others.items) (vec_capacity i.others) i.most kept (omega arith)
        ∙ ap popped held

    pub top_told : (n : ℕ) (v : Cell) → n < length (running s).stack → v ≡ get_or i.row.items (i.frame.top - 1 - n) v → slice_get (running s).stack n ≡ Some v
    top_told n v lt read =
        let long = stack_told in
        ap (λ (s : Frames). slice_get (running s).stack n) (sym held)
        ∙ top_seen i.row.items i.frame (reverse i.others.items) (vec_capacity i.others) i.most kept n v (omega arith) read

    pub store_told : (n : ℕ) (v : Cell) → n < length (running s).locals →
        seen_in (set i.row.items (i.frame.base + n) v) i.is_running i.frame (reverse i.others.items) i.most ≡ stored s n v
    store_told n v lt =
        let long = locals_told in
        ap (λ b. seen_in (set i.row.items (i.frame.base + n) v) b i.frame (reverse i.others.items) i.most) is_on
        ∙ store_seen i.row.items i.frame (reverse i.others.items) (vec_capacity i.others) i.most kept n v (omega arith)
        ∙ ap (λ (s : Frames). stored s n v) held

    module _ (args : ℕ) (zeros : List Cell) (there : args ≤ length (running s).stack) (fits : args + length zeros ≤ s.most) where
      args_there : args ≤ i.frame.top - i.frame.stack
      args_there = let long = stack_told in omega arith

      all_fit : args + length zeros ≤ i.most
      all_fit = let same = most_told in omega arith

      pub enter_room_told : length s.frames < 32 → i.frame.top + length zeros ≤ length i.row.items
      enter_room_told lt =
          let deep = depth_told in
          let long = length-reverse i.others.items in
          enter_room i.row.items i.frame (reverse i.others.items) (vec_capacity i.others) i.most kept args zeros args_there all_fit (omega arith)

      pub enter_told : (method : ℕ) (row' : List Cell) (others' : List Extent) →
          row' ≡ put_at i.row.items i.frame.top zeros → others' ≡ i.others.items ++ record i.frame { top = i.frame.top - args } ∷ [] →
          seen_in row' i.is_running (record { method = method; place = 0; base = i.frame.top - args; stack = i.frame.top + length zeros; top = i.frame.top + length zeros }) (reverse others') i.most
          ≡ entered s method args zeros
      enter_told method row' others' put more =
          let turned : reverse others' ≡ record i.frame { top = i.frame.top - args } ∷ reverse i.others.items =
          ap reverse more ∙ reverse-append i.others.items (record i.frame { top = i.frame.top - args } ∷ []) in
          (λ j. seen_in (put j) (is_on j) (record { method = method; place = 0; base = i.frame.top - args; stack = i.frame.top + length zeros; top = i.frame.top + length zeros }) (turned j) i.most)
          ∙ enter_seen i.row.items i.frame (reverse i.others.items) (vec_capacity i.others) i.most kept args zeros args_there all_fit method
          ∙ ap (λ (s : Frames). entered s method args zeros) held
