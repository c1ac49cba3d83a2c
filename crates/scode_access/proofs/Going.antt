-- Where an instruction on blocks leads, by how it ends.
use Rattle.std.proofs.Common.{◌≡◌, ℕ, ℤ, ◌+◌, ◌<◌, ◌≤◌, List, [], ◌∷◌, drop, length, Option, Some, None, Result, Ok, Err, refl, sym, ap, subst, ◌∙◌, arith}
use Rattle.std.specs.Prelude.{IfOk, MatchOption, slice_get}
use Rattle.std.proofs.lemmas.List.{length-map}
use Rattle.sed_engine.specs.declared.call.Place.{Place}
use Rattle.sed_engine.specs.declared.trap.Trap.{Trap}
use Rattle.sed_engine.specs.State.{Shared, State, End, answers, gives}
use Rattle.sed_engine.specs.Stops.{Traps}
use Rattle.sed_engine.specs.Texts.{index_within}
use Rattle.scode_image.specs.declared.image.Image.{Image}
use Rattle.scode_code.specs.Fields.{Setting}
use Rattle.scode_code.specs.Machine.{Move, Onward}
use Rattle.scode_mem.specs.Blocks.{Held}
use Rattle.scode_cells.specs.declared.cell.Cell.{Cell}
use Rattle.scode_cells.specs.declared.cell.Cell.TheVariants as cell
use Rattle.scode_cells.specs.Frames.{Frames, IsRunning, cells_in, popped, pushed, running, with_stack}
use Rattle.scode_vm.specs.Seen.{machine_seen, shared_seen, val_of, vals}
use Rattle.scode_vm.specs.Doings.{Doing, HasRoom, IsTypedOn, as_stop, ending, point_from, reached, state_seen}
use Rattle.scode_access.specs.declared.objects.Start.{Start}
use Rattle.scode_access.specs.Within.{DoesIn, IsGround, KeepsBlocks, MayDoIn, setting}

-- what frames share, with these blocks
abbrev pub shared_in : Image → ℕ → Place → Held → ℕ → ℤ → Shared
shared_in image class place h turns moment = shared_seen (setting image class) place h turns moment

-- for each root call on these blocks in which it is typed
abbrev pub InEach : Doing → Image → Frames → Held → ((class : ℕ) → Place → ℕ → ℤ → Type 0) → Type 0
InEach f image s h P = (class : ℕ) (place : Place) (turns : ℕ) (moment : ℤ) → IsGround (setting image class) place h
    → IsTypedOn f (setting image class) place (shared_in image class place h turns moment) s → P class place turns moment

-- blocks that are as they were
pub same_blocks : (w : Setting) (place : Place) (h : Held) → IsGround w place h → KeepsBlocks w.image place h h
same_blocks w place h ground =
    record { fit = ground.fit; others = λ b _ _. refl; classes = λ q. refl; firsts = refl; limit = refl }

still_runs : (s : Frames) (stack : List Cell) → IsRunning (with_stack s stack)
still_runs s stack = omega arith

-- it goes on with this stack, and these blocks
pub goes_on : (f : Doing) (image : Image) (s new : Frames) (before after : Held) (stack : List Cell)
    → new ≡ with_stack s stack
    → InEach f image s before (λ class place turns moment.
    ending f (setting image class) place s (shared_in image class place before turns moment)
    ≡ gives (Onward (vals (setting image class) place stack))
    (state_seen (setting image class) place s (shared_in image class place after turns moment)))
    → InEach f image s before (λ class place turns moment. KeepsBlocks image place before after)
    → DoesIn f image s before (Ok tt) new after
goes_on f image s new before after stack n ends keeps = record {
  leads = λ class place turns moment ground typed.
      ap (λ (x : Frames). reached (setting image class) place (Ok tt) x (shared_in image class place after turns moment)) n
      ∙ ap (point_from (machine_seen (setting image class) place s (shared_in image class place before turns moment)))
      (sym (ends class place turns moment ground typed));
  keeps = keeps;
  runs = subst IsRunning (sym n) (still_runs s stack);
  most = ap (λ (x : Frames). x.most) n;
}

-- and so with the blocks that there were
pub goes_on_there : (f : Doing) (image : Image) (s new : Frames) (h : Held) (stack : List Cell)
    → new ≡ with_stack s stack
    → InEach f image s h (λ class place turns moment.
    ending f (setting image class) place s (shared_in image class place h turns moment)
    ≡ gives (Onward (vals (setting image class) place stack))
    (state_seen (setting image class) place s (shared_in image class place h turns moment)))
    → DoesIn f image s h (Ok tt) new h
goes_on_there f image s new h stack n ends =
    goes_on f image s new h h stack n ends
    (λ class place turns moment ground typed. same_blocks (setting image class) place h ground)

-- it traps, and leaves the blocks as they were
pub traps : (f : Doing) (image : Image) (s new : Frames) (h : Held) (stack : List Cell) (trap : Trap)
    → new ≡ with_stack s stack
    → InEach f image s h (λ class place turns moment.
    ending f (setting image class) place s (shared_in image class place h turns moment)
    ≡ answers (Err (Traps trap))
    (state_seen (setting image class) place s (shared_in image class place h turns moment)))
    → DoesIn f image s h (Err trap) new h
traps f image s new h stack trap n ends = record {
  leads = λ class place turns moment ground typed.
      ap (point_from (machine_seen (setting image class) place s (shared_in image class place h turns moment)))
      (sym (ends class place turns moment ground typed));
  keeps = λ class place turns moment ground typed. same_blocks (setting image class) place h ground;
  runs = subst IsRunning (sym n) (still_runs s stack);
  most = ap (λ (x : Frames). x.most) n;
}

-- ---- the room that there is

vals_long : (w : Setting) (place : Place) (cells : List Cell) → length (vals w place cells) ≡ length cells
vals_long w place cells = length-map cells (val_of w place)

pub has_room : (f : Doing) (image : Image) (s : Frames) (h : Held) (m : MayDoIn f image s h) (stack : List Cell)
    (st : State)
    → ending f (setting image m.class) m.place s (shared_in image m.class m.place h m.turns m.moment)
    ≡ gives (Onward (vals (setting image m.class) m.place stack)) st
    → length (running s).locals + length stack ≤ s.most
has_room f image s h m stack st e =
    let r : length (running s).locals + length (vals (setting image m.class) m.place stack) ≤ s.most =
    subst (λ (x : End Move). HasRoom s.most (length (running s).locals) x.result) e m.room in
    subst (λ (n : ℕ). length (running s).locals + n ≤ s.most) (vals_long (setting image m.class) m.place stack) r

pub room_on : (s new : Frames) (cut : List Cell) (v : Cell) → new ≡ with_stack s cut
    → length (running s).locals + length (v ∷ (running new).stack) ≤ s.most → cells_in (running new) < new.most
room_on s new cut v is room =
    let locals : length (running new).locals ≡ length (running s).locals =
    ap (λ (x : Frames). length (running x).locals) is in
    let most : new.most ≡ s.most = ap (λ (x : Frames). x.most) is in
    omega (arith, locals, most, room)

-- ---- what pops and a push leave

pub pushed_is : (s new last : Frames) (cut : List Cell) (v : Cell) → new ≡ with_stack s cut → last ≡ pushed new v
    → last ≡ with_stack s (v ∷ (running new).stack)
pushed_is s new last cut v is e = e ∙ ap (λ (x : Frames). with_stack x (v ∷ (running new).stack)) is

pub left_is : (s new : Frames) (cut : List Cell) → new ≡ with_stack s cut → new ≡ with_stack s (running new).stack
left_is s new cut is = is ∙ ap (with_stack s) (sym (ap (λ (x : Frames). (running x).stack) is))

-- what is popped as a reference to an object
pub some_popped : (s new : Frames) (r : Option Start) (o : Start) → r ≡ Some o
    → MatchOption r ((running s).stack ≡ cell.Null ∷ (running new).stack)
    (λ o. (class : ℕ) × ((running s).stack ≡ cell.Object o.block o.offset class ∷ (running new).stack))
    → (class : ℕ) × ((running s).stack ≡ cell.Object o.block o.offset class ∷ (running new).stack)
some_popped s new r o is top =
    subst (λ (x : Option Start). MatchOption x ((running s).stack ≡ cell.Null ∷ (running new).stack)
    (λ o. (class : ℕ) × ((running s).stack ≡ cell.Object o.block o.offset class ∷ (running new).stack))) is top

pub none_popped : (s new : Frames) (r : Option Start) → r ≡ None
    → MatchOption r ((running s).stack ≡ cell.Null ∷ (running new).stack)
    (λ o. (class : ℕ) × ((running s).stack ≡ cell.Object o.block o.offset class ∷ (running new).stack))
    → (running s).stack ≡ cell.Null ∷ (running new).stack
none_popped s new r is top =
    subst (λ (x : Option Start). MatchOption x ((running s).stack ≡ cell.Null ∷ (running new).stack)
    (λ o. (class : ℕ) × ((running s).stack ≡ cell.Object o.block o.offset class ∷ (running new).stack))) is top

-- the cell that was popped, and what was below it
pub popped_is : (s new : Frames) (v : Cell) → slice_get (running s).stack 0 ≡ Some v → new ≡ popped s
    → (running s).stack ≡ v ∷ (running new).stack
popped_is s new v top is =
    first (running s).stack top ∙ ap (λ (x : Frames). v ∷ (running x).stack) (sym is)
  where
    first : (cells : List Cell) → slice_get cells 0 ≡ Some v → cells ≡ v ∷ drop 1 cells
    first [] e = absurd (cc)
    first (c ∷ rest) e = (let same : c ≡ v = cc in ap (λ (x : Cell). x ∷ rest) same)

-- ---- what a test of an index tells

pub index_ok : (r : Result ℕ Trap) (i count : ℕ) (n : ℤ) → r ≡ Ok i → as_stop r ≡ index_within count n
    → index_within count n ≡ Ok i
index_ok r i count n is told = sym told ∙ ap (λ (x : Result ℕ Trap). as_stop x) is

pub index_err : (r : Result ℕ Trap) (trap : Trap) (count : ℕ) (n : ℤ) → r ≡ Err trap → as_stop r ≡ index_within count n
    → index_within count n ≡ Err (Traps trap)
index_err r trap count n is told = sym told ∙ ap (λ (x : Result ℕ Trap). as_stop x) is

pub index_under : (r : Result ℕ Trap) (i count : ℕ) → r ≡ Ok i → IfOk r (λ i. i < count) → i < count
index_under r i count is told = subst (λ (x : Result ℕ Trap). IfOk x (λ i. i < count)) is told
