-- What passes a test is a value.
use Rattle.std.proofs.Common.{◌≡◌, true, false, refl}
use Rattle.sed_terms.specs.declared.sort.Sort.{Sort}
use Rattle.sed_terms.specs.declared.sort.Sort.TheVariants.{Of}
use Rattle.sed_terms.specs.Sorts.{is_kind}
use Rattle.sed_body_rules.specs.Conversions.{is_number, is_int, is_bool, is_reference}

pub number_value : (s : Sort) → is_number s ≡ true → is_kind s ≡ true
number_value (Of k) h = refl
number_value s h = absurd (let k : false ≡ true = h in cc)

pub int_value : (s : Sort) → is_int s ≡ true → is_kind s ≡ true
int_value (Of k) h = refl
int_value s h = absurd (let k : false ≡ true = h in cc)

pub bool_value : (s : Sort) → is_bool s ≡ true → is_kind s ≡ true
bool_value (Of k) h = refl
bool_value s h = absurd (let k : false ≡ true = h in cc)

pub reference_value : (s : Sort) → is_reference s ≡ true → is_kind s ≡ true
reference_value (Of k) h = refl
reference_value s h = absurd (let k : false ≡ true = h in cc)
