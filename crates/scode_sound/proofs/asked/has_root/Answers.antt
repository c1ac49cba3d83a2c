use Rattle.std.proofs.Common.{◌≡◌, ◌+◌, ◌∙◌, inl, inr, ℕ, Bool, true, false, if◌then◌else◌, [], ◌∷◌, ◌++◌, length, Option, None, Result, Ok, refl, ap, arith}
use Rattle.sed_engine.specs.Asked.{MayAsk}
use Rattle.sed_engine.specs.Code.{Question}
use Rattle.sed_engine.specs.Root.{argument_of, root_end}
use Rattle.sed_engine.specs.Stops.{Stop}
use Rattle.sed_engine.specs.Values.{Val}
use Rattle.sed_engine.proofs.Asking.{may_from}
use Rattle.scode_image.specs.declared.image.Image.{Image}
use Rattle.scode_image.specs.declared.image.ImageMethod.{ImageMethod}
use Rattle.scode_code.specs.Calls.{argument_count, is_instance}
use Rattle.scode_code.specs.Image.{code_of}
use Rattle.scode_code.specs.Kinds.{object}
use Rattle.scode_code.specs.Root.{root_arguments, start_root}
use Rattle.scode_whole.proofs.Whole.{first_rule}
use Rattle.scode_sound.specs.Over.{setting_of, shared_of}
use Rattle.scode_sound.specs.Rooted.{HasRoot}
use Rattle.scode_sound.proofs.Arguments.{kinds_of}
use Rattle.scode_sound.proofs.Cells.{fit_length}
use Rattle.scode_sound.proofs.Roots.{Asks, IsComponentClass, Runs, Rests, asks, component_class}
use Rattle.scode_sound.proofs.Rules.{tables}
use Rattle.scode_sound.proofs.asked.has_root.Goals as goal

own_class : (image : Image) (q : Question) → MayAsk (code_of image) q → IsComponentClass image q.class
own_class image q may = component_class image q.class (may_from (code_of image) q may).creatable

kinds_many : (m : ImageMethod) → length (kinds_of m.class m) ≡ argument_count m
kinds_many m = by_flag (is_instance m)
  where
    by_flag : (b : Bool) → length ((if b then object m.class ∷ [] else []) ++ m.params)
        ≡ (if b then 1 else 0) + length m.params
    by_flag true = omega arith
    by_flag false = omega arith

rooted : (image : Image) (q : Question) → Asks image q → HasRoot image q
rooted image q (Runs number m value found given stands code fits) = inl (record {
  number = number;
  method = m;
  value = value;
  found = found;
  stands = stands;
  given = given;
  as_many = fit_length (setting_of image q) (kinds_of m.class m) (root_arguments value) fits ∙ kinds_many m;
})
rooted image q (Rests value found given) = inr (record {
  found = found;
  ended =
      ap (λ (r : Result (Option ℕ) Stop).
      root_end (start_root (setting_of image q) r (argument_of q.argument) (shared_of q))) found
      ∙ ap (λ (r : Result Val Stop). root_end (start_root (setting_of image q) (Ok None) r (shared_of q))) given;
})

pub returns-clause-root : goal.returns-clause-root
returns-clause-root c = λ image q clean may.
    let is = tables image (first_rule image clean) in
    rooted image q (asks image is q (own_class image q may) q.which refl (may_from (code_of image) q may).argument)

pub returns-clause-class : goal.returns-clause-class
returns-clause-class c = λ image q clean may. (own_class image q may).known
