use Rattle.std.proofs.Common.{◌≡◌, Some, None, ◌++◌, ◌∷◌, [], refl, sym, ap, inr, ◌∙◌, take}
use Rattle.std.proofs.lemmas.List.Folds.{list_all_at}
use Rattle.sed_value.specs.Names.{is_kit_name}
use Rattle.kit_manifest.proofs.Strings.{kit_name_in, take_one_more, list_all-take_more, false_from_None, true_from_Some, same_from_Some}
use Rattle.kit_manifest.proofs.texts.kit_names.Goals as goal

pub returns-in_default : goal.returns-in_default
returns-in_default c =
    let text = c.text-item.result in
    let read : kit_name_in text ≡ None = ap kit_name_in (sym (c.as_bytes.ensures.value ∙ c.as_str.ensures)) ∙ (sym c.read.ensures ∙ c.in_default.is) in
    inr (refl, list_all_at is_kit_name c.args.texts.now c.loop-text.text-index text c.loop-text-test.true (ap is_kit_name (sym c.text-item.is) ∙ false_from_None (is_kit_name text) text read))

pub loop-text-preserved : goal.loop-text-preserved
loop-text-preserved c =
    let text = c.text-item.result in
    let read : kit_name_in text ≡ Some c.in-Some.name = ap kit_name_in (sym (c.as_bytes.ensures.value ∙ c.as_str.ensures)) ∙ (sym c.read.ensures ∙ c.in-Some.is) in
    record {
      read =
          c.in_ok-push.ensures.items
          ∙ (ap (λ names. names ++ c.in-Some.name ∷ []) c.loop-text.invariant.read
          ∙ (ap (λ name. take c.loop-text.text-index c.args.texts.now ++ name ∷ []) (sym (same_from_Some (is_kit_name text) text c.in-Some.name read))
          ∙ sym (take_one_more c.args.texts.now c.loop-text.text-index text c.loop-text-test.true c.text-item.is)));
      named = list_all-take_more is_kit_name c.args.texts.now c.loop-text.text-index text c.loop-text-test.true c.text-item.is c.loop-text.invariant.named (true_from_Some (is_kit_name text) text c.in-Some.name read);
    }
