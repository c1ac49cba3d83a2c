use Rattle.std.proofs.Common.{◌<◌, List, length, sym, subst, arith}
use Rattle.std.proofs.Math.Facts.{Fits-of_lt}
use Rattle.sed_value.specs.declared.kit.KitRef.{KitRef}
use Rattle.app_front.proofs.Fronts.{few_kits}
use Rattle.app_front.proofs.front.match_front.Goals as goal

pub first_place-requires : goal.first_place-requires
first_place-requires c =
    subst (λ (kits : List KitRef). length kits < 256) (sym c.as_slice.ensures) (few_kits _ _ _ c.in-Ok.ensures)

pub overflow_cast-result : goal.overflow_cast-result
overflow_cast-result c =
    let few : length c.as_slice.result.now < 256 =
    subst (λ (kits : List KitRef). length kits < 256) (sym c.as_slice.ensures) (few_kits _ _ _ c.in-Ok.ensures) in
    let within = c.in-Some.ensures.within in
    Fits-of_lt (omega (arith, few, within))
