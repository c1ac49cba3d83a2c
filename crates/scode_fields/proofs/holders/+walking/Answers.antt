use Rattle.std.proofs.Common.{◌≡◌, ℕ, Bool, true, List, get_or, set, sym, ap, ◌∙◌, subst, arith, inl, inr, Option, Some, None}
use Rattle.std.proofs.lemmas.Option.{slice_get_cases, slice_get_within}
use Rattle.scode_image.specs.declared.image.ImageClass.{ImageClass}
use Rattle.scode_image.specs.declared.image.ImageField.{ImageField}
use Rattle.scode_fields.specs.Walking.{AreDone, AreOnWay, GoesOn, IsDone, IsOnWay, IsWalk, is_told, unseen}
use Rattle.scode_fields.proofs.Visiting.{entered, went_well}
use Rattle.scode_fields.proofs.Walks.{base_steps, begun_fields_way, begun_walk, begun_way, closes, goes_nowhere, unseen_falls, way_goes_on}
use Rattle.scode_fields.proofs.holders.+walking.Goals as goal

pub enter-go_to_fields-requires : goal.enter-go_to_fields-requires
enter-go_to_fields-requires t c =
    let image = c.args.image.now in
    let begun = c.args.walk.now.begun.items in
    let done = c.args.walk.now.done.items in
    let order = c.args.walk.now.order.items in
    let there = slice_get_within image.classes c.args.class c.args.found.now c.requires.there in
    let long = c.requires.sound.begun_long in
    let falls = unseen_falls begun c.args.class (omega arith) c.requires.unbegun in
    let is = ap unseen c.mark.ensures in (
      omega (arith, c.decreases),
      (
        subst (λ (b : List Bool). IsWalk image b done order) (sym c.mark.ensures)
            (begun_walk image begun done order c.args.class c.requires.sound),
        subst (λ (fs : List ImageField). AreOnWay image c.mark.new.told.items done fs) (sym c.as_slice.ensures)
            (subst (λ (b : List Bool). AreOnWay image b done c.args.found.now.fields) (sym c.mark.ensures)
            (begun_fields_way image begun done order c.args.class c.args.found.now c.requires.sound c.requires.there
            c.requires.unbegun
            c.requires.way)),
      ),
    )

pub enter-go-requires : goal.enter-go-requires
enter-go-requires t c =
    let image = c.args.image.now in
    let begun = c.args.walk.now.begun.items in
    let done = c.args.walk.now.done.items in
    let order = c.args.walk.now.order.items in
    let there = slice_get_within image.classes c.args.class c.args.found.now c.requires.there in
    let long = c.requires.sound.begun_long in
    let falls = unseen_falls begun c.args.class (omega arith) c.requires.unbegun in
    let is = ap unseen c.mark.ensures in
    let went = went_well image _ c.go_to_fields.new.walk _ c.in_ok-go_to_fields.field-0 c.if-not-branch.false
    c.in_ok-go_to_fields.ensures in
    let fewer = went.grows.fewer in (
      omega (arith, c.decreases),
      (
        went.sound,
        subst (λ (n : ℕ). IsOnWay image c.go_to_fields.new.walk.begun.items c.go_to_fields.new.walk.done.items n)
            (sym c.from.ensures)
            (way_goes_on image c.mark.new.told.items done c.go_to_fields.new.walk.begun.items
            c.go_to_fields.new.walk.done.items
            c.args.found.now.base went.grows
            (subst (λ (b : List Bool). IsOnWay image b done c.args.found.now.base) (sym c.mark.ensures)
            (begun_way image begun done order c.args.class c.args.found.now.base c.requires.sound there
            c.requires.unbegun c.requires.way
            (base_steps image c.args.class c.args.found.now c.requires.there)))),
      ),
    )

pub enter-returns : goal.enter-returns
enter-returns t c =
    let image = c.args.image.now in
    let begun = c.args.walk.now.begun.items in
    let done = c.args.walk.now.done.items in
    let there = slice_get_within image.classes c.args.class c.args.found.now c.requires.there in
    let first = went_well image _ c.go_to_fields.new.walk _ c.in_ok-go_to_fields.field-0 c.if-not-branch.false
    c.in_ok-go_to_fields.ensures in
    let then = went_well image _ c.go.new.walk _ c.in_ok-go.field-0 c.if-not-branch-2.false c.in_ok-go.ensures in
    let w2 = c.go.new.walk in
    let b1 = c.go_to_fields.new.walk.begun.items in
    let d1 = c.go_to_fields.new.walk.done.items in
    let e = entered image begun done b1 d1 w2.begun.items w2.done.items w2.order.items c.args.class c.args.found.now
    c.requires.there
    there c.requires.sound.begun_long c.requires.unbegun c.requires.undone
    (subst (λ (b : List Bool). GoesOn b done b1 d1) c.mark.ensures first.grows)
    (subst (λ (fs : List ImageField). AreDone image d1 fs) c.as_slice.ensures first.left)
    then.grows
    (subst (λ (n : ℕ). IsDone image w2.done.items n) c.from.ensures then.left)
    then.sound in
    record {
      sound = subst (λ (d : List Bool). IsWalk image w2.begun.items d c.push.new.self.items) (sym c.mark-2.ensures)
          (subst (λ (o : List ℕ). IsWalk image w2.begun.items (set w2.done.items c.args.class true) o)
          (sym c.in_ok-push.ensures.items)
          e.sound);
      grows = subst (λ (d : List Bool). GoesOn begun done w2.begun.items d) (sym c.mark-2.ensures) e.grows;
      left = subst (λ (d : List Bool). IsDone image d c.args.class) (sym c.mark-2.ensures) e.left;
    }

pub go-returns-then-is_told-2 : goal.go-returns-then-is_told-2
go-returns-then-is_told-2 t c =
    let image = c.args.image.now in
    let begun = c.args.walk.now.begun.items in
    let done = c.args.walk.now.done.items in
    closes image begun done c.args.class (slice_get_within image.classes c.args.class c.in-Some.found.now
    (sym c.in-Some.ensures))
    (sym (ap (λ (b : List Bool). is_told b c.args.class) c.as_slice-in-Some.ensures.value)
    ∙ sym c.is_told-in-Some.ensures ∙ c.if-is_told-2.true)
    (sym (ap (λ (b : List Bool). is_told b c.args.class) c.as_slice.ensures.value) ∙ sym c.is_told.ensures
    ∙ c.if-is_told.false)
    c.requires.way

pub go-returns-in-None : goal.go-returns-in-None
go-returns-in-None t c = record {
  sound = c.requires.sound;
  grows = goes_nowhere _ _;
  left = λ here. elim (slice_get_cases c.args.image.now.classes c.args.class).1 [
    | inl found ↦ (let q : ◌≡◌ {A = Option ImageClass} None (Some found.0) = c.in-None.ensures ∙ found.2 in cc)
    | inr past ↦ absurd (let w = past.0 in omega arith)
  ];
}

pub go_to_fields-go_to_field-requires : goal.go_to_fields-go_to_field-requires
go_to_fields-go_to_field-requires t c =
    let fewer = c.loop-field.invariant.grows.fewer in
    let f = get_or c.args.fields.now c.loop-field.field-index (record { offset = 0; form = 0; n = 0 }) in (
      omega (arith, c.decreases),
      (
        c.loop-field.invariant.sound,
        (λ object. way_goes_on c.args.image.now c.args.walk.now.begun.items c.args.walk.now.done.items
            c.loop-field.walk.begun.items c.loop-field.walk.done.items f.n c.loop-field.invariant.grows
            (c.requires.way c.loop-field.field-index _ c.loop-field-test.true object)),
      ),
    )
