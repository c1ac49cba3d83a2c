use Rattle.std.proofs.Common.{◌≡◌, ◌∙◌, ℕ, suc, ◌+◌, ◌-◌, ◌<◌, ◌≤◌, List, length, take, drop, ap, sym, arith}
use Rattle.std.specs.List.{flat_map, range_with_len}
use Rattle.std.proofs.lemmas.List.{drop-drop, length-drop}
use Rattle.sed_typed.specs.declared.program.Field.{Field}
use Rattle.sed_typed.specs.Classes.{declared_fields}
use Rattle.sed_layout.specs.Offsets.{offsets_of}
use Rattle.sed_layout.proofs.BaseRows.{row_more}
use Rattle.sed_layout.proofs.OffsetLists.{others_follow, own_are_few, own_are_first}
use Rattle.sed_layout.proofs.offsets.offsets_of_classes.Goals as goal

-- what is left begins with the class
begins : (all rest : List Field) (done class classes : ℕ) → class < classes → rest ≡ drop done all →
    drop done all ≡ flat_map (declared_fields all) (range_with_len class (classes - class)) →
    rest ≡ flat_map (declared_fields all) (range_with_len class (suc (classes - (class + 1))))
begins all rest done class classes h is left =
    is ∙ left ∙ ap (λ (n : ℕ). flat_map (declared_fields all) (range_with_len class n)) (let e : classes - class ≡ suc (classes - (class + 1)) = omega (arith, h) in e)

pub offsets_of_class-requires-clause-own : goal.offsets_of_class-requires-clause-own
offsets_of_class-requires-clause-own c =
    let all = c.args.program.now.fields in
    let rest = c.rest_of-rest.result.now in
    let is : rest ≡ drop c.loop-class.done all = c.rest_of-rest.ensures ∙ ap (drop c.loop-class.done) c.as_slice.ensures in
    let class = c.loop-class.class in
    let classes = length c.args.program.now.schema.classes in
    c.front_of-own.ensures
    ∙ ap (λ (n : ℕ). take n rest) c.count_of_class.ensures
    ∙ own_are_first all rest class (classes - (class + 1)) (begins all rest c.loop-class.done class classes (omega arith) is c.loop-class.invariant.2)

pub loop-class-preserved : goal.loop-class-preserved
loop-class-preserved c =
    let program = c.args.program.now in
    let all = program.fields in
    let rest = c.rest_of-rest.result.now in
    let done = c.loop-class.done in
    let is : rest ≡ drop done all = c.rest_of-rest.ensures ∙ ap (drop done) c.as_slice.ensures in
    let class = c.loop-class.class in
    let classes = length program.schema.classes in
    let left = begins all rest done class classes (omega arith) is c.loop-class.invariant.2 in
    let own : c.front_of-own.result.now ≡ declared_fields all class =
    c.front_of-own.ensures ∙ ap (λ (n : ℕ). take n rest) c.count_of_class.ensures ∙ own_are_first all rest class (classes - (class + 1)) left in
    let long : length c.front_of-own.result.now ≡ length (declared_fields all class) = ap length own in
    let few : length (declared_fields all class) ≤ length rest = own_are_few all rest class (classes - (class + 1)) left in
    let rest_long : length rest ≡ length all - done = ap length is ∙ length-drop done all in
    let inside : done ≤ length all = c.loop-class.invariant.1 in (
      row_more (offsets_of program) class c.loop-class.all.items c.push.new.self.items c.in_ok-offsets_of_class.field-0
          c.loop-class.invariant.0 c.in_ok-offsets_of_class.ensures c.in_ok-push.ensures.items,
      omega (arith, long, few, rest_long, inside),
      sym (drop-drop (length c.front_of-own.result.now) done all)
          ∙ ap (drop (length c.front_of-own.result.now)) (sym is)
          ∙ ap (λ (n : ℕ). drop n rest) long
          ∙ others_follow all rest class (classes - (class + 1)) left,
    )
