use Rattle.std.proofs.Common.{◌∙◌, sym, subst}
use Rattle.app_save.specs.Slots.{IsFound}
use Rattle.app_save.proofs.Found.{first_found, first_ahead}
use Rattle.app_save.proofs.opening.found_in.Goals as goal

pub returns-in-true-true-3-clause-found : goal.returns-in-true-true-3-clause-found
returns-in-true-true-3-clause-found c image size header other =
    let sound = c.is_sound.ensures.0 c.if-not-is_sound.false in
    let other_sound = c.is_sound-2.ensures.0 c.if-not-is_sound-2.false in
    let ahead = first_ahead c.args.first.now.generation c.args.second.now.generation (sound c.in-true-true.is-0).0 (other_sound c.in-true-true.is-1).0 c.if-first-second.false (λ same. c.if-second-next_generation.false (same ∙ sym c.next_generation.ensures)) in
    subst (IsFound image) (sym c.first_slot_found.ensures) (first_found c.args.slot c.requires c.args.first.now c.args.second.now sound other_sound c.in-true-true.is-0 (λ _. ahead) image size header other)

pub returns-in-true-false-clause-found : goal.returns-in-true-false-clause-found
returns-in-true-false-clause-found c image size header other =
    let sound = c.is_sound.ensures.0 c.if-not-is_sound.false in
    let other_sound = c.is_sound-2.ensures.0 c.if-not-is_sound-2.false in
    subst (IsFound image) (sym c.first_slot_found-in-true-false.ensures) (first_found c.args.slot c.requires c.args.first.now c.args.second.now sound other_sound c.in-true-false.is-0 (λ is. cc (is, c.in-true-false.is-1)) image size header other)
