-- What changes of a row of cells do to its frames.
use Rattle.std.proofs.Common.{◌≡◌, ℕ, suc, ◌+◌, ◌-◌, ◌*◌, ◌<◌, ◌≤◌, true, List, [], ◌∷◌, ◌++◌, get_or, set, length, map, reverse, take, drop, slice_get, refl, sym, ap, ◌∙◌, arith, length-set, length-take, length-drop}
use Rattle.std.specs.Prelude.{Some}
use Rattle.std.proofs.Math.Nat.{mul-le-mul_right}
use Rattle.std.proofs.Math.Seq.{take-suc-set, take-set-lt}
use Rattle.std.proofs.lemmas.List.{drop-append-le, drop-set-add, drop-set-lt, drop_all, length-reverse, length-take-le, reverse-append, take-set-le, take-take}
use Rattle.std.proofs.lemmas.Option.{slice_get-get_or}
use Rattle.scode_cells.specs.declared.cell.Cell.{Cell}
use Rattle.scode_cells.specs.declared.extent.Extent.{Extent}
use Rattle.scode_cells.specs.Frames.{Frame, Frames, cells_in, entered, popped, pushed, stored}
use Rattle.scode_cells.specs.Rows.{AreKept, IsExtent, LieBelow, frame_in, put_at, seen_in}
use Rattle.scode_cells.proofs.Stacks.{put_front, put_through, stack_at, stack_less, stack_long, stack_taken}

same_frame : (method place : ℕ) (l l' s s' : List Cell) → l ≡ l' → s ≡ s' →
    (let a : Frame = record { method = method; place = place; locals = l; stack = s } in a) ≡ record { method = method; place = place; locals = l'; stack = s' }
same_frame method place l l' s s' a b = cc

same_frames : (f f' : Frame) (fs fs' : List Frame) (most : ℕ) → f ≡ f' → fs ≡ fs' →
    (let a : Frames = record { frames = f ∷ fs; most = most } in a) ≡ record { frames = f' ∷ fs'; most = most }
same_frames f f' fs fs' most a b = cc

-- ---- what lies below a place stays where no cell below it changes

front : (row row' : List Cell) (end n : ℕ) → n ≤ end → take end row' ≡ take end row → take n row' ≡ take n row
front row row' end n le same = sym (take-take n end row' le) ∙ ap (take n) same ∙ take-take n end row le

frame_stays : (row row' : List Cell) (e : Extent) (end : ℕ) → e.stack ≤ e.top → e.top ≤ end → take end row' ≡ take end row → frame_in row' e ≡ frame_in row e
frame_stays row row' e end up below same =
    same_frame _ _ _ _ _ _ (ap (drop e.base) (front row row' end e.stack (omega arith) same))
    (ap (λ l. reverse (drop e.stack l)) (front row row' end e.top below same))

pub others_stay : (most : ℕ) (row row' : List Cell) (end : ℕ) (es : List Extent) → LieBelow most end es → take end row' ≡ take end row → map (frame_in row') es ≡ map (frame_in row) es
others_stay most row row' end [] lie same = refl
others_stay most row row' end (e ∷ es) lie same =
    let up = lie.0.stack in
    let mid = lie.0.locals in
    let to = lie.1 in
    let one = frame_stays row row' e end up to same in
    let rest = others_stay most row row' e.base es lie.2 (front row row' end e.base (omega arith) same) in
    (λ i. one i ∷ rest i)

-- ---- a frame and those above it have room in the row

ends : (most number : ℕ) (e : Extent) → IsExtent most number e → number < 32 → e.base + most + (31 - number) * most ≤ 32 * most
ends most number e is lt =
    let all : (number + 1) + (31 - number) ≡ 32 = omega arith in
    let total : ((number + 1) + (31 - number)) * most ≡ 32 * most = ap (λ k. k * most) all in
    let low = is.low in
    omega arith

-- ---- the running frame

module _ (row : List Cell) (e : Extent) (es : List Extent) (room most : ℕ) (is : AreKept row true e es room most) where
  pub within : e.top ≤ length row
  within =
      let far = ends most (length es) e is.runs is.few in
      let few = is.runs.few in
      let cells = is.cells in
      omega arith

  pub locals_long : length (drop e.base (take e.stack row)) ≡ e.stack - e.base
  locals_long = let end = within in let up = is.runs.stack in simp (length-drop, length-take) (omega arith)

  pub stack_is_long : length (reverse (drop e.stack (take e.top row))) ≡ e.top - e.stack
  stack_is_long = length-reverse (drop e.stack (take e.top row)) ∙ stack_long row e.stack e.top is.runs.stack within

  -- room for one cell more
  has_room : cells_in (frame_in row e) < most → e.top < e.base + most
  has_room lt =
      let up = is.runs.stack in
      let mid = is.runs.locals in
      let a = locals_long in
      let b = stack_is_long in
      omega arith

  pub push_within : cells_in (frame_in row e) < most → e.top < length row
  push_within lt =
      let far = ends most (length es) e is.runs is.few in
      let more = has_room lt in
      let cells = is.cells in
      omega arith

  pub push_kept : (v : Cell) → cells_in (frame_in row e) < most → AreKept (set row e.top v) true (record e { top = e.top + 1 }) es room most
  push_kept v lt =
      let up = is.runs.stack in
      let far = has_room lt in
      record {
        cells = length-set row e.top v ∙ is.cells;
        reserved = is.reserved;
        few = is.few;
        runs = record { locals = is.runs.locals; stack = omega arith; few = omega arith; low = is.runs.low };
        lie = is.lie;
        idle = is.idle;
      }

  pub push_seen : (v : Cell) → e.top < length row → seen_in (set row e.top v) true (record e { top = e.top + 1 }) es most ≡ pushed (seen_in row true e es most) v
  push_seen v lt =
      let up = is.runs.stack in
      let mid = is.runs.locals in
      let one : take e.stack (set row e.top v) ≡ take e.stack row = take-set-le e.stack row e.top v up in
      let on : e.top + 1 ≡ suc e.top = omega arith in
      let long : e.stack ≤ length (take e.top row) = omega (arith, length-take-le e.top row (omega arith)) in
      let two : reverse (drop e.stack (take (e.top + 1) (set row e.top v))) ≡ v ∷ reverse (drop e.stack (take e.top row)) =
      ap (λ n. reverse (drop e.stack (take n (set row e.top v)))) on
      ∙ ap (λ l. reverse (drop e.stack l)) (take-suc-set row e.top v lt)
      ∙ ap reverse (drop-append-le e.stack (take e.top row) (v ∷ []) long)
      ∙ reverse-append (drop e.stack (take e.top row)) (v ∷ []) in
      same_frames _ _ _ _ _ (same_frame _ _ _ _ _ _ (ap (drop e.base) one) two)
      (others_stay most row (set row e.top v) e.base es is.lie (take-set-le e.base row e.top v (omega arith)))

  pub pop_seen : 0 < e.top - e.stack → seen_in row true (record e { top = e.top - 1 }) es most ≡ popped (seen_in row true e es most)
  pop_seen lt = same_frames _ _ _ _ _ (same_frame _ _ _ _ _ _ refl (stack_less row e.stack e.top is.runs.stack within 1 (omega arith))) refl

  pub top_seen : (n : ℕ) (v : Cell) → n < e.top - e.stack → v ≡ get_or row (e.top - 1 - n) v → slice_get (reverse (drop e.stack (take e.top row))) n ≡ Some v
  top_seen n v lt read =
      let long = stack_is_long in
      slice_get-get_or (reverse (drop e.stack (take e.top row))) n v (omega arith)
      ∙ ap Some (stack_at row e.stack e.top is.runs.stack within n v lt ∙ sym read)

  pub store_seen : (i : ℕ) (v : Cell) → i < e.stack - e.base → seen_in (set row (e.base + i) v) true e es most ≡ stored (seen_in row true e es most) i v
  store_seen i v lt =
      let up = is.runs.stack in
      let one : drop e.base (take e.stack (set row (e.base + i) v)) ≡ set (drop e.base (take e.stack row)) i v =
      ap (drop e.base) (take-set-lt e.stack row (e.base + i) v (omega arith)) ∙ drop-set-add e.base (take e.stack row) i v in
      let two : reverse (drop e.stack (take e.top (set row (e.base + i) v))) ≡ reverse (drop e.stack (take e.top row)) =
      ap (λ l. reverse (drop e.stack l)) (take-set-lt e.top row (e.base + i) v (omega arith)) ∙ ap reverse (drop-set-lt e.stack (take e.top row) (e.base + i) v (omega arith)) in
      same_frames _ _ _ _ _ (same_frame _ _ _ _ _ _ one two)
      (others_stay most row (set row (e.base + i) v) e.base es is.lie (take-set-le e.base row (e.base + i) v (omega arith)))

  module _ (args : ℕ) (zeros : List Cell) (there : args ≤ e.top - e.stack) (fits : args + length zeros ≤ most) where
    pub enter_room : suc (length es) < 32 → e.top + length zeros ≤ length row
    enter_room lt =
        let far = ends most (length es) e is.runs is.few in
        let few = is.runs.few in
        let cells = is.cells in
        let one : 1 * most ≤ (31 - length es) * most = mul-le-mul_right most (omega arith) in
        omega arith

    pub enter_seen : (method : ℕ) →
        seen_in (put_at row e.top zeros) true (record { method = method; place = 0; base = e.top - args; stack = e.top + length zeros; top = e.top + length zeros })
        (record e { top = e.top - args } ∷ es) most
        ≡ entered (seen_in row true e es most) method args zeros
    enter_seen method =
        let up = is.runs.stack in
        let mid = is.runs.locals in
        let end = within in
        let long : length (take e.top row) ≡ e.top = length-take-le e.top row end in
        let locals : drop (e.top - args) (take (e.top + length zeros) (put_at row e.top zeros)) ≡ reverse (take args (reverse (drop e.stack (take e.top row)))) ++ zeros =
        ap (drop (e.top - args)) (put_through row zeros e.top end)
        ∙ drop-append-le (e.top - args) (take e.top row) zeros (omega arith)
        ∙ ap (λ l. l ++ zeros) (stack_taken row e.stack e.top up end args there) in
        let none : reverse (drop (e.top + length zeros) (take (e.top + length zeros) (put_at row e.top zeros))) ≡ [] =
        ap reverse (drop_all (e.top + length zeros) (take (e.top + length zeros) (put_at row e.top zeros)) (omega (arith, length-take (e.top + length zeros) (put_at row e.top zeros)))) in
        let caller_locals : drop e.base (take e.stack (put_at row e.top zeros)) ≡ drop e.base (take e.stack row) = ap (drop e.base) (put_front row zeros e.top end e.stack up) in
        let caller_stack : reverse (drop e.stack (take (e.top - args) (put_at row e.top zeros))) ≡ drop args (reverse (drop e.stack (take e.top row))) =
        ap (λ l. reverse (drop e.stack l)) (put_front row zeros e.top end (e.top - args) (omega arith)) ∙ stack_less row e.stack e.top up end args there in
        let others = others_stay most row (put_at row e.top zeros) e.base es is.lie (put_front row zeros e.top end e.base (omega arith)) in
        let caller : frame_in (put_at row e.top zeros) (record e { top = e.top - args }) ≡ record (frame_in row e) { stack = drop args (reverse (drop e.stack (take e.top row))) } =
        same_frame _ _ _ _ _ _ caller_locals caller_stack in
        same_frames _ _ _ _ _ (same_frame _ _ _ _ _ _ locals none) (λ i. caller i ∷ others i)
