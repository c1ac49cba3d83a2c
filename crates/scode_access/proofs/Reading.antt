-- What is read of a part of a block is what stands in the state at its path.
use Rattle.std.proofs.Common.{◌≡◌, ◌+◌, ℕ, ℤ, List, ◌∷◌, Option, Some, None, Result, refl, sym, ap, subst, ◌∙◌}
use Rattle.sed_value.specs.declared.slot_type.Primitive.{Primitive}
use Rattle.sed_value.specs.declared.slot_type.Primitive.TheVariants as prim
use Rattle.sed_value.specs.declared.value.Value.{Value}
use Rattle.sed_typed.specs.declared.program.FieldForm.{FieldForm}
use Rattle.sed_typed.specs.declared.program.FieldForm.TheVariants as form
use Rattle.sed_typed.specs.Contents.{Contents, Path, value_at}
use Rattle.sed_engine.specs.declared.call.Place.{Place}
use Rattle.sed_engine.specs.State.{State, End, answers, gives, then_do}
use Rattle.sed_engine.specs.Steps.{contents_of, inside, read_spot}
use Rattle.sed_engine.specs.Stops.{Stop, and_then, there}
use Rattle.sed_engine.specs.Values.{Base, Component, Statics, Spot, Val, read_as}
use Rattle.scode_image.specs.declared.image.Image.{Image}
use Rattle.scode_image.specs.declared.image.ImageField.{ImageField}
use Rattle.scode_code.specs.Effect.{form_number, push}
use Rattle.scode_code.specs.Fields.{Setting}
use Rattle.scode_code.specs.Machine.{Onward, pushed}
use Rattle.scode_code.specs.Tables.{form_of}
use Rattle.scode_mem.specs.declared.block.Block.{Block}
use Rattle.scode_mem.specs.Blocks.{Held}
use Rattle.scode_cells.specs.declared.cell.Cell.{Cell}
use Rattle.scode_cells.specs.declared.cell.Cell.TheVariants as cell
use Rattle.scode_state.specs.Cells.{plain_of, read_at}
use Rattle.scode_state.specs.References.{block_of}
use Rattle.scode_state.specs.Stands.{StandsAt, contents_in}
use Rattle.scode_vm.specs.Seen.{shared_seen, vals}
use Rattle.scode_vm.specs.Doings.{EndsTyped}
use Rattle.scode_access.specs.Found.{FieldFound, Standing}
use Rattle.scode_access.proofs.Typed.{first_typed}

-- ---- blocks, and the state that they stand for

-- what a base holds is what its block does
pub base_holds : (w : Setting) (place : Place) (h : Held) (turns : ℕ) (moment : ℤ) (base : Base)
    → contents_of base (shared_seen w place h turns moment) ≡ contents_in w.image w.class base h (block_of place base)
base_holds w place h turns moment Component = refl
base_holds w place h turns moment Statics = refl

pub spot_holds : (w : Setting) (place : Place) (h : Held) (turns : ℕ) (moment : ℤ) (b : Block) (at : ℕ) (spot : Spot)
    (f : FieldForm) → Standing w place h b at spot f
    → contents_of spot.base (shared_seen w place h turns moment) ≡ contents_in w.image w.class spot.base h b
spot_holds w place h turns moment b at spot f s =
    base_holds w place h turns moment spot.base ∙ ap (contents_in w.image w.class spot.base h) (sym s.block)

-- a read is one of what the base holds
pub read_is : (spot : Spot) (s : State) → read_spot spot s ≡ answers (read_at (contents_of spot.base s.shared) spot.path) s
read_is spot s = by_value (value_at (contents_of spot.base s.shared) spot.path)
  where
    by_value : (o : Option Value)
        → then_do (answers (there o) s) (λ v s1. answers (read_as v) s1) ≡ answers (and_then (there o) read_as) s
    by_value None = refl
    by_value (Some v) = refl

-- a plain cell that is pushed
pub plain_pushed : (w : Setting) (place : Place) (rest : List Cell) (v : Cell) (s : State)
    → EndsTyped (there (plain_of v))
    → push (vals w place rest) (answers (there (plain_of v)) s) ≡ gives (Onward (vals w place (v ∷ rest))) s
plain_pushed w place rest (cell.Int n) s h = refl
plain_pushed w place rest (cell.Long n) s h = refl
plain_pushed w place rest (cell.Bool t) s h = refl
plain_pushed w place rest cell.Null s h = refl
plain_pushed w place rest (cell.Text n) s h = refl
plain_pushed w place rest (cell.Object b offset class) s h = absurd h
plain_pushed w place rest (cell.Str b offset size) s h = absurd h

-- ---- a primitive

-- what the read of a cell gives, over blocks
abbrev pub ReadsCell : Primitive → Held → Block → ℕ → Cell → Type 0
ReadsCell p h b at v = (image : Image) (class : ℕ) (base : Base) (path : Path)
    → StandsAt image class base path h b at (form.Prim p)
    → read_at (contents_in image class base h b) path ≡ there (plain_of v)

module _ (w : Setting) (place : Place) (h : Held) (turns : ℕ) (moment : ℤ) (p : Primitive) (locals : List Val) where
  abbrev st : State
  st = record { shared = shared_seen w place h turns moment; locals = locals }

  -- a read where a primitive stands
  pub cell_read : (b : Block) (at : ℕ) (spot : Spot) (v : Cell) → Standing w place h b at spot (form.Prim p)
      → ReadsCell p h b at v → read_spot spot st ≡ answers (there (plain_of v)) st
  cell_read b at spot v s reads =
      read_is spot st
      ∙ ap (λ (m : Contents). answers (read_at m spot.path) st)
      (spot_holds w place h turns moment b at spot (form.Prim p) s)
      ∙ ap (λ (r : Result Val Stop). answers r st) (reads w.image w.class spot.base spot.path s.stands)

  pub cell_pushed : (b : Block) (at : ℕ) (spot : Spot) (v : Cell) (rest : List Cell)
      → Standing w place h b at spot (form.Prim p) → ReadsCell p h b at v
      → EndsTyped (push (vals w place rest) (read_spot spot st)).result
      → push (vals w place rest) (read_spot spot st) ≡ gives (Onward (vals w place (v ∷ rest))) st
  cell_pushed b at spot v rest s reads typed =
      let is = cell_read b at spot v s reads in
      ap (push (vals w place rest)) is
      ∙ plain_pushed w place rest v st
      (first_typed (there (plain_of v)) st (λ x s1. gives (Onward (pushed x (vals w place rest))) s1)
      (subst (λ (e : End Val). EndsTyped (push (vals w place rest) e).result) is typed))

-- ---- a field

abbrev pub field_of : Primitive → ℕ → ImageField
field_of p offset = record { offset = offset; form = form_number p; n = 0 }

pub field_form : (p : Primitive) (offset : ℕ) → form_of (field_of p offset) ≡ form.Prim p
field_form prim.Bool offset = refl
field_form prim.Byte offset = refl
field_form prim.Short offset = refl
field_form prim.Int offset = refl
field_form prim.Long offset = refl

-- where the field of a type stands
pub prim_stands : (w : Setting) (place : Place) (h : Held) (b : Block) (start class offset : ℕ) (p : Primitive)
    (f : FieldFound w place h b start class (field_of p offset))
    → Standing w place h b (start + offset) (inside f.spot f.number) (form.Prim p)
prim_stands w place h b start class offset p f =
    subst (Standing w place h b (start + offset) (inside f.spot f.number)) (field_form p offset) f.standing
