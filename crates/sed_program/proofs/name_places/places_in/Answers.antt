use Rattle.std.proofs.Common.{◌≡◌, List, length, refl, sym, ap, ◌∙◌, subst, arith}
use Rattle.std.proofs.lemmas.List.{with_items_is}
use Rattle.sed_units.specs.declared.classes.Member.{Member}
use Rattle.sed_classes.specs.Members.{members_of}
use Rattle.sed_program.specs.Parts.{is_of}
use Rattle.sed_program.specs.Places.{IsPlacedIn, with_member}
use Rattle.sed_program.proofs.Noted.{noted_all, noted_none, noted_step, with_member_len}
use Rattle.sed_program.proofs.name_places.places_in.Goals as goal

pub backwards-init : goal.backwards-init
backwards-init c =
    noted_none
    (is_of c.args.part)
    c.members-members.result.now
    (length c.members-members.result.now)
    c.count_of-before.result
    c.in_ok-places.places.items
    refl
    c.count_of-before.ensures
    c.in_ok-places.ensures

pub backwards-preserved : goal.backwards-preserved
backwards-preserved c =
    let counts = is_of c.args.part in
    let members = c.members-members.result.now in
    let places = c.backwards.places in
    let member = c.index-members-left.result in
    let far = c.note_member-before.result in
    let new = c.note_member-before.new.places in
    let changed : new ≡ with_member counts members places.items member far =
    c.note_member-before.ensures.places
    ∙ ap
    (λ row. with_member counts (members_of c.args.classes.now c.args.class) row member far)
    c.as_mut_slice.ensures.value
    ∙ ap (λ ms. with_member counts ms places.items member far) (sym c.members-members.ensures) in
    let long : length new ≡ places.len =
    ap length changed ∙ with_member_len counts members places.items member far ∙ sym places.ok.0 in
    noted_step
    counts
    members
    c.backwards.left
    c.backwards.before
    places.items
    member
    far
    _
    (omega arith)
    c.index-members-left.is
    c.note_member-before.ensures.before
    (with_items_is places new long ∙ changed)
    c.backwards.invariant

pub returns : goal.returns
returns c =
    subst
    (λ (ms : List Member). IsPlacedIn c.args.part ms c.backwards.places.items)
    c.members-members.ensures
    (noted_all
    c.args.part
    c.members-members.result.now
    c.backwards.left
    c.backwards.before
    c.backwards.places.items
    (omega arith)
    c.backwards.invariant)
