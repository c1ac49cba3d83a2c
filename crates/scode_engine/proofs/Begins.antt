-- Where a root call begins.
use Rattle.std.proofs.Common.{◌≡◌, ℕ, suc, ◌+◌, ◌≤◌, true, List, get_or, [], ◌∷◌, ◌++◌, length, map, drop, Option, Some, None, refl, sym, ap, ◌∙◌}
use Rattle.std.specs.Prelude.{slice_get, IfSome, IsSomeAnd}
use Rattle.std.proofs.lemmas.List.{length-map, map-append}
use Rattle.sed_typed.specs.declared.number.TypeNo.{TypeNo}
use Rattle.sed_typed.specs.declared.program.FieldForm.TheVariants as form
use Rattle.sed_engine.specs.declared.call.Place.{Place}
use Rattle.sed_engine.specs.State.{Shared}
use Rattle.sed_engine.specs.Values.{Val, At, Component, Spot}
use Rattle.scode_image.specs.declared.image.Image.{Image}
use Rattle.scode_image.specs.declared.image.ImageMethod.{ImageMethod}
use Rattle.scode_code.specs.Calls.{zero_of}
use Rattle.scode_code.specs.Fields.{Setting}
use Rattle.scode_code.specs.Machine.{At as AtWork}
use Rattle.scode_code.specs.Parts.{part_of}
use Rattle.scode_code.specs.Root.{begins, root_arguments}
use Rattle.scode_code.specs.TableRules.{tables_agree}
use Rattle.scode_mem.specs.declared.block.Block.TheVariants as block
use Rattle.scode_cells.specs.declared.cell.Cell.{Cell}
use Rattle.scode_cells.specs.declared.cell.Cell.TheVariants as cell
use Rattle.scode_cells.specs.Frames.{Frames, begun}
use Rattle.scode_state.specs.References.{block_of, leads_to}
use Rattle.scode_vm.specs.Calling.{AreZeros, given_by, in_image, zero_cell}
use Rattle.scode_vm.specs.Doings.{IsValue}
use Rattle.scode_vm.specs.Seen.{machine_seen, spot_in, val_of, val_or, vals}
use Rattle.scode_vm.proofs.DirectCalls.{zeros_row}
use Rattle.scode_vm.proofs.Entering.{zeros_behind}
use Rattle.scode_vm.proofs.Returns.{one_more}
use Rattle.scode_engine.specs.RootCall.{argument_cells}

some_there : {A : Type 0} (P : A → Type 0) (o : Option A) → IsSomeAnd o P → (a : A) × (o ≡ Some a)
some_there P None h = absurd h
some_there P (Some a) h = (a, refl)

abbrev pub ObjectsFound : Type 0
ObjectsFound = (image : Image) (class : ℕ) (place : Place) (offset : ℕ) (t : TypeNo) (spot : Spot)
    → tables_agree image ≡ true → part_of image class spot.base spot.path ≡ Some (offset, form.Object t)
    → leads_to image class place (cell.Object (block_of place spot.base) offset t.0) ≡ Some spot

-- the cell of the component
abbrev pub component_cell : ℕ → Place → Cell
component_cell class place = cell.Object (block.Live place) 0 class

-- a method's locals are so many at least, for which there are cells
abbrev pub HasPlace : Option Cell → Frames → ImageMethod → Type 0
HasPlace argument s m = (1 + length (argument_cells argument) ≤ length m.locals) × (length m.locals ≤ s.most)

abbrev component : Spot
component = record { base = Component; path = [] }

module _ (found : ObjectsFound) (image : Image) (class : ℕ) (place : Place) (agree : tables_agree image ≡ true) where
  abbrev w : Setting
  w = in_image image class

  component_led : spot_in w place (component_cell class place) ≡ Some component
  unfolding spot_in
  component_led = found image class place 0 (record { 0 = class }) component agree refl

  -- the first locals
  arguments_seen : (argument : Option Cell) → IfSome argument (λ c. IsValue (val_of w place c))
      → vals w place (component_cell class place ∷ argument_cells argument)
      ≡ root_arguments (given_by w place argument)
  arguments_seen None v =
      ap (λ (o : Option Spot). val_or None o ∷ []) component_led
  arguments_seen (Some c) v =
      ap (λ (o : Option Spot). val_or None o ∷ val_of w place c ∷ []) component_led
      ∙ ap (λ (vs : List Val). At component ∷ vs) (sym (one_more (val_of w place c) [] v))

  pub begins_there : (s new : Frames) (number : ℕ) (m : ImageMethod) (zeros : List Cell) (argument : Option Cell)
      → slice_get image.methods number ≡ Some m → zeros ≡ map zero_cell m.locals
      → IfSome argument (λ c. IsValue (val_of w place c))
      → new ≡ begun s number ((component_cell class place ∷ argument_cells argument)
      ++ drop (suc (length (argument_cells argument))) zeros)
      → (shared : Shared)
      → AtWork (machine_seen w place new shared)
      ≡ begins (slice_get image.methods number) number (given_by w place argument) shared
  begins_there s new number m zeros argument known is v e shared =
      let args : List Cell = component_cell class place ∷ argument_cells argument in
      let seen : vals w place args ≡ root_arguments (given_by w place argument) = arguments_seen argument v in
      let long : length args ≡ length (root_arguments (given_by w place argument)) =
      sym (length-map args (val_of w place)) ∙ ap length seen in
      ap (λ (x : Frames). AtWork (machine_seen w place x shared)) e
      ∙ ap (λ (locals : List Val). AtWork (record {
        top = record { method = number; place = 0; locals = locals; stack = [] };
        below = [];
        shared = shared;
      }))
      (map-append (val_of w place) args (drop (length args) zeros)
      ∙ ap (λ (zs : List Val). vals w place args ++ zs) (zeros_behind w place (length args) zeros m is)
      ∙ ap (λ (vs : List Val). vs ++ map zero_of (drop (length args) m.locals)) seen
      ∙ ap (λ (n : ℕ). root_arguments (given_by w place argument) ++ map zero_of (drop n m.locals)) long)
      ∙ sym (ap (λ (o : Option ImageMethod). begins o number (given_by w place argument) shared) known)

  -- with the row of cells that is at the index, and the argument that was found
  pub begins_here : (zeros : List (List Cell)) (number i : ℕ) (found_row row : List Cell) (s new : Frames)
      (argument given : Option Cell) → AreZeros image zeros
      → IsSomeAnd (slice_get image.methods number) (HasPlace argument s) → i ≡ number → found_row ≡ get_or zeros i
      found_row
      → row ≡ found_row → argument ≡ given → IfSome argument (λ c. IsValue (val_of w place c))
      → new ≡ begun s number ((component_cell class place ∷ argument_cells given)
      ++ drop (suc (length (argument_cells given))) row)
      → (shared : Shared)
      → AtWork (machine_seen w place new shared)
      ≡ begins (slice_get image.methods number) number (given_by w place argument) shared
  begins_here zeros number i found_row row s new argument given are there index is same g v made shared =
      let m = some_there (HasPlace argument s) (slice_get image.methods number) there in
      begins_there s new number m.0 row argument m.1
      (same ∙ zeros_row image zeros number i m.0 found_row are m.1 index is) v
      (made ∙ ap (λ (o : Option Cell). begun s number ((component_cell class place ∷ argument_cells o)
      ++ drop (suc (length (argument_cells o))) row)) (sym g))
      shared
