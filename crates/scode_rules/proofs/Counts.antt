-- How many cells are taken and put.
use Rattle.std.proofs.Common.{◌≡◌, ℕ, ◌+◌, ◌-◌, ◌≤◌, Bool, true, false, if◌then◌else◌, List, [], ◌∷◌, ◌++◌, drop, length, map, reverse, take, ap, ◌∙◌, arith, length-append, length-drop}
use Rattle.std.proofs.lemmas.List.{length-map, length-reverse}
use Rattle.scode_image.specs.declared.image.Image.{Image}
use Rattle.scode_image.specs.declared.image.ImageKind.{ImageKind}
use Rattle.scode_image.specs.declared.image.ImageMethod.{ImageMethod}
use Rattle.scode_code.specs.Calls.{argument_count, is_instance}
use Rattle.scode_code.specs.CodeRules.{after_stack}
use Rattle.scode_code.specs.Kinds.{object}
use Rattle.scode_code.specs.Wants as wants
use Rattle.scode_code.specs.declared.needs.Need.TheVariants as need
use Rattle.scode_code.specs.declared.needs.Effect.{Effect}

front : ℕ → Bool → List ImageKind
front class b = if b then object class ∷ [] else []

counted : (class : ℕ) (b : Bool) (params : List ImageKind)
    → length (map need.Goes (reverse ((if b then object class ∷ [] else []) ++ params)))
    ≡ (if b then 1 else 0) + length params
counted class true params =
    length-map (reverse (object class ∷ params)) need.Goes ∙ length-reverse (object class ∷ params) ∙ omega arith
counted class false params = length-map (reverse params) need.Goes ∙ length-reverse params ∙ omega arith

pub arguments_are : (class : ℕ) (m : ImageMethod) → length (wants.argument_needs class m) ≡ argument_count m
arguments_are class m = counted class (is_instance m) m.params

pub length_after : (image : Image) (e : Effect) (stack : List ImageKind)
    → length (wants.needs_of image e.takes) ≤ length stack
    → length (after_stack image e stack)
    ≡ length (wants.cells_of image e.puts (take (length (wants.needs_of image e.takes)) stack))
    + (length stack - length (wants.needs_of image e.takes))
length_after image e stack enough =
    let n = length (wants.needs_of image e.takes) in
    length-append (wants.cells_of image e.puts (take n stack)) (drop n stack)
    ∙ ap (λ (k : ℕ). length (wants.cells_of image e.puts (take n stack)) + k) (length-drop n stack)
