-- The instruction at a place, and the place behind it.
use Rattle.std.proofs.Common.{◌≡◌, ℕ, zero, suc, ◌+◌, ◌<◌, ◌≤◌, nat_le, Bool, true, List, [], ◌∷◌, length, take, drop, Option, Some, None, refl, sym, ap, subst, ◌∙◌, arith, length-drop}
use Rattle.std.specs.Prelude.{slice_get}
use Rattle.std.specs.List.{list_all}
use Rattle.std.specs.Option.{option_map_or}
use Rattle.std.proofs.lemmas.Bool.{and_parts, leb-true}
use Rattle.std.proofs.lemmas.List.{length-take}
use Rattle.scode_ops.specs.declared.op.Op.{Op}
use Rattle.scode_ops.specs.Codes.{StandsAt, code_of}
use Rattle.scode_ops.specs.Decoding.{op_at}
use Rattle.scode_image.specs.declared.image.Image.{Image}
use Rattle.scode_image.specs.declared.image.ImageMethod.{ImageMethod}
use Rattle.scode_code.specs.Steps.{instruction_at}
use Rattle.scode_code.specs.TableRules.{keeps_limits, method_keeps_limits, tables_agree}

-- each of a list passes a test that all do
each_passes : {A : Type 0} (test : A → Bool) (xs : List A) (n : ℕ) (x : A) → list_all test xs ≡ true
    → slice_get xs n ≡ Some x → test x ≡ true
each_passes test [] n x all e = absurd (cc)
each_passes test (y ∷ ys) zero x all e =
    (let same : y ≡ x = cc in subst (λ z. test z ≡ true) same (and_parts (test y) (list_all test ys) all).0)
each_passes test (y ∷ ys) (suc n) x all e = each_passes test ys n x (and_parts (test y) (list_all test ys) all).1 e

-- the methods of an image whose tables agree keep the limits
pub all_keep_limits : (image : Image) → tables_agree image ≡ true → list_all method_keeps_limits image.methods ≡ true
all_keep_limits image agree =
    let limits : keeps_limits image ≡ true = (and_parts _ (keeps_limits image) agree).1 in
    let some = (and_parts _ (nat_le (length image.methods) 65535) limits).0 in
    (and_parts _ (list_all method_keeps_limits image.methods) some).1

-- code is so short that its places are 16 bits
pub short_code : (methods : List ImageMethod) (n : ℕ) (m : ImageMethod) → list_all method_keeps_limits methods ≡ true
    → slice_get methods n ≡ Some m → length m.code ≤ 65535
short_code methods n m all known =
    let own : method_keeps_limits m ≡ true = each_passes method_keeps_limits methods n m all known in
    leb-true (length m.code) 65535 (and_parts _ (nat_le (length m.code) 65535) own).1

-- what stands at a place ends within the code
pub ends_within : (code : List ℕ) (at : ℕ) (op : Op) → StandsAt code at op
    → at + length (code_of op) ≤ length code
ends_within code at op stands =
    let some : 0 < length (code_of op) = omega arith in
    let long : length (take (length (code_of op)) (drop at code)) ≡ length (code_of op) = ap length stands.begins in
    let taken = length-take (length (code_of op)) (drop at code) in
    let dropped = length-drop at code in
    omega (arith, long, taken, dropped, some)

-- the instruction at a place of a method, by its code
pub at_code : (image : Image) (n place : ℕ) (m : ImageMethod) → slice_get image.methods n ≡ Some m
    → instruction_at image n place ≡ op_at m.code place
at_code image n place m known =
    ap (λ (o : Option ImageMethod). op_at (option_map_or (λ m. m.code) o []) place) known

pub no_code : (place : ℕ) → op_at [] place ≡ None
no_code zero = refl
no_code (suc n) = refl

-- where an instruction stands there is a method
pub method_there : (image : Image) (n place : ℕ) (i : Op) → instruction_at image n place ≡ Some i
    → (m : ImageMethod) × (slice_get image.methods n ≡ Some m)
method_there image n place i here = by_case (slice_get image.methods n) refl here
  where
    by_case : (o : Option ImageMethod) → slice_get image.methods n ≡ o
        → op_at (option_map_or (λ m. m.code) o []) place ≡ Some i
        → (m : ImageMethod) × (slice_get image.methods n ≡ Some m)
    by_case None e h = absurd (let both : None ≡ Some i = sym (no_code place) ∙ h in cc)
    by_case (Some m) e h = (m, e)
