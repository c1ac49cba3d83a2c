use Rattle.std.proofs.Common.{◌≡◌, ◌∙◌, ◌<◌, ◌∷◌, drop, Some, refl, sym, ap, subst, arith}
use Rattle.std.specs.Prelude.{slice_get}
use Rattle.sed_typed.specs.declared.operators.Binary.TheVariants.{SameReference}
use Rattle.scode_code.specs.Effect.{of_two}
use Rattle.scode_cells.specs.declared.cell.Cell.{Cell}
use Rattle.scode_cells.specs.Frames.{Frames, cells_in, popped, pushed, running}
use Rattle.scode_vm.specs.Doings.{state_seen}
use Rattle.scode_vm.specs.Tops.{truth_cell}
use Rattle.scode_vm.proofs.Ends.{has_room, onward}
use Rattle.scode_vm.proofs.References.{references_end}
use Rattle.scode_vm.proofs.comparisons.same_references.Goals as goal

pub push-requires-clause-room : goal.push-requires-clause-room
push-requires-clause-room c =
    let s : Frames = c.args.cells.now in
    let m = c.requires in
    let next : slice_get (drop 1 (running s).stack) 0 ≡ Some c.pop-a.result =
    subst (λ (x : Frames). slice_get (running x).stack 0 ≡ Some c.pop-a.result) c.pop-b.ensures.rest
    c.pop-a.ensures.top in
    let two : c.pop-a.new.self ≡ popped (popped s) = c.pop-a.ensures.rest ∙ ap popped c.pop-b.ensures.rest in
    let h = has_room (λ w. of_two SameReference) s m (truth_cell c.is_same.result ∷ drop 1 (drop 1 (running s).stack))
    (state_seen m.w m.place s m.shared)
    (references_end c.references_lead_to_their_places.ensures m.w m.place SameReference (λ b. b) (λ u v. refl)
    (running s).stack c.pop-a.result c.pop-b.result c.pop-b.ensures.top next c.is_same.result c.is_same.ensures
    (state_seen m.w m.place s m.shared) m.typed.ends) in
    subst (λ (x : Frames). cells_in (running x) < x.most) (sym two) (omega (arith, h))

pub returns : goal.returns
returns c =
    let s : Frames = c.args.cells.now in
    let next : slice_get (drop 1 (running s).stack) 0 ≡ Some c.pop-a.result =
    subst (λ (x : Frames). slice_get (running x).stack 0 ≡ Some c.pop-a.result) c.pop-b.ensures.rest
    c.pop-a.ensures.top in
    let two : c.pop-a.new.self ≡ popped (popped s) = c.pop-a.ensures.rest ∙ ap popped c.pop-b.ensures.rest in
    onward (λ w. of_two SameReference) s c.push.new.self (running s).locals
    (truth_cell c.is_same.result ∷ drop 1 (drop 1 (running s).stack))
    (c.push.ensures ∙ ap (λ (v : Cell). pushed c.pop-a.new.self v) c.bool_cell.ensures
    ∙ ap (λ (x : Frames). pushed x (truth_cell c.is_same.result)) two)
    (λ w place shared typed.
    references_end c.references_lead_to_their_places.ensures w place SameReference (λ b. b) (λ u v. refl)
    (running s).stack c.pop-a.result c.pop-b.result c.pop-b.ensures.top next c.is_same.result c.is_same.ensures
    (state_seen w place s shared) typed.ends)
