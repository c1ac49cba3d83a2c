-- What is stored into a part of a block is stored in the state at its path.
use Rattle.std.proofs.Common.{◌≡◌, ◌≢◌, ℕ, ℤ, Bool, true, false, if◌then◌else◌, List, [], Option, Some, None, Result, Ok, Err, refl, sym, ap, subst, ◌∙◌}
use Rattle.std.specs.Prelude.{IfOk, IsSome}
use Rattle.std.specs.Option.{option_map_or}
use Rattle.sed_value.specs.Value.{stored}
use Rattle.sed_value.specs.declared.slot_type.SlotType.TheVariants.{Prim}
use Rattle.sed_value.specs.declared.slot_type.Primitive.{Primitive}
use Rattle.sed_value.specs.declared.slot_type.Primitive.TheVariants as prim
use Rattle.sed_value.specs.declared.value.Value.{Value}
use Rattle.sed_value.specs.declared.value.Value.TheVariants as kept
use Rattle.sed_typed.specs.declared.program.FieldForm.TheVariants as form
use Rattle.sed_typed.specs.Contents.{Path, value_at}
use Rattle.sed_engine.specs.declared.call.Place.{Place}
use Rattle.sed_engine.specs.declared.trap.Trap.{Trap}
use Rattle.sed_engine.specs.State.{Shared, State, End, after, answers, gives, then_do}
use Rattle.sed_engine.specs.Steps.{contents_of, replace, store_over, write_spot, written_at}
use Rattle.sed_engine.specs.Stops.{Stop, Traps, Untyped, and_then, there}
use Rattle.sed_engine.specs.Values.{Base, Component, Statics, Spot, Val, is_alike, read_as, stored_as}
use Rattle.scode_image.specs.declared.image.Image.{Image}
use Rattle.scode_code.specs.Effect.{cell_for, no_push}
use Rattle.scode_code.specs.Fields.{Setting}
use Rattle.scode_code.specs.Machine.{Move, Onward}
use Rattle.scode_mem.specs.declared.block.Block.{Block}
use Rattle.scode_mem.specs.declared.block.Block.TheVariants as block
use Rattle.scode_mem.specs.Blocks.{Held}
use Rattle.scode_cells.specs.declared.cell.Cell.{Cell}
use Rattle.scode_cells.specs.declared.cell.Cell.TheVariants as cell
use Rattle.scode_state.specs.Cells.{number_for, plain_of}
use Rattle.scode_state.specs.References.{block_of}
use Rattle.scode_state.specs.Stands.{IsStored, StandsAt}
use Rattle.scode_state.specs.Values.{held_in}
use Rattle.scode_vm.specs.Seen.{shared_seen, spot_in, val_of, val_or}
use Rattle.scode_vm.specs.Doings.{EndsTyped}
use Rattle.scode_access.specs.Found.{Standing}
use Rattle.scode_access.specs.Within.{KeepsBlocks}

-- ---- the cell that is stored

-- a cell of the kind that a type wants
pub record OfKind (w : Setting) (place : Place) (p : Primitive) (v : Cell) : Type 0 where
  pub wanted : cell_for p (val_of w place v) ≡ Ok (val_of w place v)
  pub number : IsSome (number_for p v)
  pub plain : there (plain_of v) ≡ Ok (val_of w place v)
  pub new : Value
  pub kept : stored_as p (val_of w place v) ≡ Ok new

pub no_reference : (p : Primitive) (o : Option Spot) → EndsTyped (cell_for p (val_or None o)) → ⊥
no_reference prim.Bool None h = h
no_reference prim.Bool (Some s) h = h
no_reference prim.Byte None h = h
no_reference prim.Byte (Some s) h = h
no_reference prim.Short None h = h
no_reference prim.Short (Some s) h = h
no_reference prim.Int None h = h
no_reference prim.Int (Some s) h = h
no_reference prim.Long None h = h
no_reference prim.Long (Some s) h = h

pub of_kind : (w : Setting) (place : Place) (p : Primitive) (v : Cell) → EndsTyped (cell_for p (val_of w place v))
    → OfKind w place p v
of_kind w place prim.Bool (cell.Bool t) h =
    record { wanted = refl; number = refl; plain = refl; new = stored (Prim prim.Bool) (kept.Bool t); kept = refl }
of_kind w place prim.Byte (cell.Int n) h =
    record { wanted = refl; number = refl; plain = refl; new = stored (Prim prim.Byte) (kept.Int n); kept = refl }
of_kind w place prim.Short (cell.Int n) h =
    record { wanted = refl; number = refl; plain = refl; new = stored (Prim prim.Short) (kept.Int n); kept = refl }
of_kind w place prim.Int (cell.Int n) h =
    record { wanted = refl; number = refl; plain = refl; new = stored (Prim prim.Int) (kept.Int n); kept = refl }
of_kind w place prim.Long (cell.Long n) h =
    record { wanted = refl; number = refl; plain = refl; new = stored (Prim prim.Long) (kept.Long n); kept = refl }
of_kind w place p (cell.Object b o k) h = absurd (no_reference p (spot_in w place (cell.Object b o k)) h)
of_kind w place p (cell.Str b o k) h = absurd (no_reference p (spot_in w place (cell.Str b o k)) h)
of_kind w place p v h = absurd h

-- ---- the store

-- what is kept is read by no trap
no_trap : (v : Value) (trap : Trap) → read_as v ≡ Err (Traps trap) → ⊥
no_trap (kept.Bool t) trap e = cc
no_trap (kept.Byte n) trap e = cc
no_trap (kept.Short n) trap e = cc
no_trap (kept.Int n) trap e = cc
no_trap (kept.Long n) trap e = cc
no_trap (kept.Buf bytes) trap e = cc
no_trap kept.Nothing trap e = cc

-- the state with another value at a place
abbrev pub replaced : Spot → Value → State → State
replaced spot new s = record { shared = written_at spot.base spot.path new s.shared; locals = s.locals }

-- a typed store puts the value there
module _ (spot : Spot) (new : Value) (s : State) where
  pub stored_over : {A : Type 0} (next : Unit {0} → State → End A)
      → EndsTyped (then_do (then_do (answers (there (value_at (contents_of spot.base s.shared) spot.path)) s)
      (λ old s1. store_over spot new old s1)) next).result
      → then_do (then_do (answers (there (value_at (contents_of spot.base s.shared) spot.path)) s)
      (λ old s1. store_over spot new old s1)) next ≡ next tt (replaced spot new s)
  stored_over next h = by_value (value_at (contents_of spot.base s.shared) spot.path) h
    where
      by_test : (t : Bool)
          → EndsTyped (then_do ((if t then replace spot new else answers (Err Untyped)) s) next).result
          → then_do ((if t then replace spot new else answers (Err Untyped)) s) next ≡ next tt (replaced spot new s)
      by_test true h = refl
      by_test false h = absurd h

      by_value : (o : Option Value)
          → EndsTyped (then_do (then_do (answers (there o) s) (λ old s1. store_over spot new old s1)) next).result
          → then_do (then_do (answers (there o) s) (λ old s1. store_over spot new old s1)) next
          ≡ next tt (replaced spot new s)
      by_value None h = absurd h
      by_value (Some old) h = by_test (is_alike old new) h

  -- of a primitive, which is left
  pub write_ends : (p : Primitive) (x : Val) (rest : List Val) → stored_as p x ≡ Ok new
      → EndsTyped (no_push rest (write_spot p spot x s)).result
      → no_push rest (write_spot p spot x s) ≡ gives (Onward rest) (replaced spot new s)
  write_ends p x rest is h =
      let open_it : no_push rest (write_spot p spot x s)
      ≡ no_push rest (then_do (then_do (answers (there (value_at (contents_of spot.base s.shared) spot.path)) s)
      (λ old s1. store_over spot new old s1)) (λ _ s2. answers (read_as new) s2)) =
      ap (λ (r : Result Value Stop). no_push rest (then_do (answers r s)
      (λ new s1. then_do (then_do (answers (there (value_at (contents_of spot.base s1.shared) spot.path)) s1)
      (λ old s2. store_over spot new old s2)) (λ _ s2. answers (read_as new) s2)))) is in
      open_it ∙ by_value (value_at (contents_of spot.base s.shared) spot.path)
      (subst (λ (e : End Move). EndsTyped e.result) open_it h)
    where
      by_read : (r : Result Val Stop) → ((trap : Trap) → r ≡ Err (Traps trap) → ⊥)
          → EndsTyped (no_push rest (answers r (replaced spot new s))).result
          → no_push rest (answers r (replaced spot new s)) ≡ gives (Onward rest) (replaced spot new s)
      by_read (Ok v) never h = refl
      by_read (Err (Traps trap)) never h = absurd (never trap refl)
      by_read (Err Untyped) never h = absurd h

      by_test : (t : Bool)
          → EndsTyped (no_push rest (then_do ((if t then replace spot new else answers (Err Untyped)) s)
          (λ _ s2. answers (read_as new) s2))).result
          → no_push rest (then_do ((if t then replace spot new else answers (Err Untyped)) s)
          (λ _ s2. answers (read_as new) s2)) ≡ gives (Onward rest) (replaced spot new s)
      by_test true h = by_read (read_as new) (no_trap new) h
      by_test false h = absurd h

      by_value : (o : Option Value)
          → EndsTyped (no_push rest (then_do (then_do (answers (there o) s) (λ old s1. store_over spot new old s1))
          (λ _ s2. answers (read_as new) s2))).result
          → no_push rest (then_do (then_do (answers (there o) s) (λ old s1. store_over spot new old s1))
          (λ _ s2. answers (read_as new) s2)) ≡ gives (Onward rest) (replaced spot new s)
      by_value None h = absurd h
      by_value (Some old) h = by_test (is_alike old new) h

-- ---- blocks, and the state that they stand for

not_statics : (place : Place) → block.Statics ≢ block.Live place
not_statics place e = cc

not_live : (place : Place) → block.Live place ≢ block.Statics
not_live place e = cc

-- the blocks after a store stand for the state after it
pub shared_stored : (w : Setting) (place : Place) (before after : Held) (turns : ℕ) (moment : ℤ) (base : Base)
    (path : Path) (v : Value) → IsStored w.image w.class base path before after (block_of place base) v
    → shared_seen w place after turns moment ≡ written_at base path v (shared_seen w place before turns moment)
shared_stored w place before after turns moment Component path v s =
    let statics = ap (λ (o : Option (List ℕ)). option_map_or (held_in w.image w.class Statics) o [])
    (s.others block.Statics (not_statics place)) in
    λ i. record { contents = s.contents i; statics = statics i; turns = turns; moment = moment }
shared_stored w place before after turns moment Statics path v s =
    let contents = ap (λ (o : Option (List ℕ)). option_map_or (held_in w.image w.class Component) o [])
    (s.others (block.Live place) (not_live place)) in
    λ i. record { contents = contents i; statics = s.contents i; turns = turns; moment = moment }

-- and all other blocks are kept
pub stored_keeps : (w : Setting) (place : Place) (before after : Held) (base : Base) (path : Path) (v : Value)
    → IsStored w.image w.class base path before after (block_of place base) v → KeepsBlocks w.image place before after
stored_keeps w place before after base path v s = record {
  fit = s.blocks;
  others = λ b own statics. s.others b (other base b own statics);
  classes = s.classes;
  firsts = s.firsts;
  limit = s.limit;
}
  where
    other : (base : Base) (b : Block) → b ≢ block.Live place → b ≢ block.Statics → b ≢ block_of place base
    other Component b own statics = own
    other Statics b own statics = statics

-- a store of a cell, over blocks
abbrev pub StoresCell : Primitive → Held → Held → Block → ℕ → Cell → Type 0
StoresCell p before after b at v = (image : Image) (class : ℕ) (base : Base) (path : Path)
    → StandsAt image class base path before b at (form.Prim p)
    → IfOk (and_then (there (plain_of v)) (stored_as p)) (IsStored image class base path before after b)

-- what a store of a cell of the right kind does
pub cell_stored : (w : Setting) (place : Place) (before after : Held) (b : Block) (at : ℕ) (spot : Spot) (p : Primitive)
    (v : Cell) (k : OfKind w place p v) → Standing w place before b at spot (form.Prim p)
    → StoresCell p before after b at v
    → IsStored w.image w.class spot.base spot.path before after (block_of place spot.base) k.new
cell_stored w place before after b at spot p v k s stores =
    let ok : and_then (there (plain_of v)) (stored_as p) ≡ Ok k.new =
    ap (λ (r : Result Val Stop). and_then r (stored_as p)) k.plain ∙ k.kept in
    subst (λ (x : Block). IsStored w.image w.class spot.base spot.path before after x k.new) s.block
    (subst (λ (r : Result Value Stop). IfOk r (IsStored w.image w.class spot.base spot.path before after b)) ok
    (stores w.image w.class spot.base spot.path s.stands))

-- where a primitive stands, a typed store of a cell leads to the state that the blocks then stand for
pub record Stores (w : Setting) (place : Place) (h after : Held) (turns : ℕ) (moment : ℤ) (locals rest : List Val)
    (e : End Move) : Type 0 where
  pub ends : e ≡ gives (Onward rest) (record { shared = shared_seen w place after turns moment; locals = locals })
  pub keeps : KeepsBlocks w.image place h after

pub put_there : (w : Setting) (place : Place) (h after : Held) (turns : ℕ) (moment : ℤ) (locals rest : List Val)
    (b : Block) (at : ℕ) (spot : Spot) (p : Primitive) (v : Cell) (k : OfKind w place p v)
    → Standing w place h b at spot (form.Prim p) → StoresCell p h after b at v
    → EndsTyped (no_push rest (write_spot p spot (val_of w place v)
    (record { shared = shared_seen w place h turns moment; locals = locals }))).result
    → Stores w place h after turns moment locals rest (no_push rest (write_spot p spot (val_of w place v)
    (record { shared = shared_seen w place h turns moment; locals = locals })))
put_there w place h after turns moment locals rest b at spot p v k s stores typed =
    let is = cell_stored w place h after b at spot p v k s stores in
    let st : State = record { shared = shared_seen w place h turns moment; locals = locals } in
    record {
      ends = write_ends spot k.new st p (val_of w place v) rest k.kept typed
          ∙ ap (λ (x : Shared). gives (Onward rest) (let y : State = record { shared = x; locals = locals } in y))
          (sym (shared_stored w place h after turns moment spot.base spot.path k.new is));
      keeps = stored_keeps w place h after spot.base spot.path k.new is;
    }
