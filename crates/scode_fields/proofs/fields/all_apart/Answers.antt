use Rattle.std.proofs.Common.{◌≡◌, ℕ, ◌+◌, ◌-◌, Bool, true, false, List, ◌∷◌, length, get_or, drop, ap, sym, ◌∙◌, subst, arith}
use Rattle.std.specs.List.{list_all}
use Rattle.std.proofs.Math.ListN.{length-replicate}
use Rattle.std.proofs.lemmas.List.{drop_more}
use Rattle.scode_image.specs.declared.image.ImageField.{ImageField}
use Rattle.scode_code.specs.TableRules.{field_width}
use Rattle.scode_fields.specs.Words.{AreTaken, are_free, has_width, is_taken}
use Rattle.scode_fields.proofs.Apart.{are_left_apart, left_begins, left_fails, left_goes_on, list_all_drop}
use Rattle.scode_fields.proofs.Walks.{none_replicated}
use Rattle.scode_fields.proofs.fields.all_apart.Goals as goal

pub loop-field-init : goal.loop-field-init
loop-field-init c = record {
  long = ap length c.in_ok-taken.ensures ∙ length-replicate c.args.size false;
  same = left_begins c.args.image.now c.in_ok-taken.taken.items c.args.fields.now
      (λ at. ap (λ (taken : List Bool). is_taken taken at) c.in_ok-taken.ensures ∙ none_replicated c.args.size at);
}

pub returns-then-not-take_field : goal.returns-then-not-take_field
returns-then-not-take_field c =
    let image = c.args.image.now in
    let taken = c.loop-field.taken.items in
    let f = get_or c.args.fields.now c.loop-field.field-index (record { offset = 0; form = 0; n = 0 }) in
    let rest = drop (c.loop-field.field-index + 1) c.args.fields.now in
    let width : c.end_of-to.result - c.from-from.result ≡ field_width image f = omega
    (arith, c.end_of-to.ensures.end, c.from-from.ensures) in
    let fails : are_free taken f.offset (field_width image f) ≡ false =
    sym (ap (λ (n : ℕ). are_free taken n (c.end_of-to.result - c.from-from.result)) c.from-from.ensures
    ∙ ap (λ (n : ℕ). are_free taken f.offset n) width) ∙ sym c.take_field.ensures.free ∙ c.if-not-take_field.true in
    sym (left_fails image taken f rest fails)
    ∙ sym (ap (λ (fs : List ImageField). are_left_apart image taken fs)
    (drop_more c.args.fields.now c.loop-field.field-index _ c.loop-field-test.true))
    ∙ c.loop-field.invariant.same

pub loop-field-preserved : goal.loop-field-preserved
loop-field-preserved c =
    let image = c.args.image.now in
    let taken = c.loop-field.taken.items in
    let f = get_or c.args.fields.now c.loop-field.field-index (record { offset = 0; form = 0; n = 0 }) in
    let rest = drop (c.loop-field.field-index + 1) c.args.fields.now in
    let here : drop c.loop-field.field-index c.args.fields.now ≡ f ∷ rest =
    drop_more c.args.fields.now c.loop-field.field-index _ c.loop-field-test.true in
    let width : c.end_of-to.result - c.from-from.result ≡ field_width image f = omega
    (arith, c.end_of-to.ensures.end, c.from-from.ensures) in
    let free : are_free taken f.offset (field_width image f) ≡ true =
    sym (ap (λ (n : ℕ). are_free taken n (c.end_of-to.result - c.from-from.result)) c.from-from.ensures
    ∙ ap (λ (n : ℕ). are_free taken f.offset n) width) ∙ sym c.take_field.ensures.free ∙ c.if-not-take_field.false in
    let took : AreTaken taken c.take_field.new.taken.items f.offset (f.offset + field_width image f) =
    subst (λ (to : ℕ). AreTaken taken c.take_field.new.taken.items f.offset to) c.end_of-to.ensures.end
    (subst (λ (from : ℕ). AreTaken taken c.take_field.new.taken.items from c.end_of-to.result) c.from-from.ensures
    c.if-not-take_field.ensures.taken) in
    record {
      long = took.long ∙ c.loop-field.invariant.long;
      same = sym (left_goes_on image taken c.take_field.new.taken.items f rest took
          (sym (ap (λ (fs : List ImageField). list_all (has_width image) fs) here)
          ∙ list_all_drop (has_width image) c.loop-field.field-index c.args.fields.now c.requires.wide) free)
          ∙ sym (ap (λ (fs : List ImageField). are_left_apart image taken fs) here)
          ∙ c.loop-field.invariant.same;
    }
