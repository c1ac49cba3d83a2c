-- Tables that agree leave methods that can be walked.
use Rattle.std.proofs.Common.{◌≡◌, ℕ, suc, ◌+◌, ◌<◌, nat_le, true, List, drop, length, get_or, ap, ◌∙◌, arith, Option, None}
use Rattle.std.specs.List.{list_all}
use Rattle.std.proofs.lemmas.Bool.{and_parts, leb-true}
use Rattle.std.proofs.lemmas.List.Sums.{AllPass-from_list_all}
use Rattle.scode_image.specs.declared.image.Image.{Image}
use Rattle.scode_image.specs.declared.image.ImageMethod.{ImageMethod}
use Rattle.scode_code.specs.CodeRules.{Fault, code_fault}
use Rattle.scode_code.specs.Faults.{methods_broken, or_later}
use Rattle.scode_tables.proofs.Rests.{next_left}
use Rattle.scode_code.proofs.Agreeing.{first_of_nine}
use Rattle.scode_code.specs.TableRules.{keeps_limits, method_is_known, method_keeps_limits, parts_are_known, tables_agree}
use Rattle.scode_verify.specs.Words.{AreSound, IsSound}

known : (image : Image) → tables_agree image ≡ true → parts_are_known image ≡ true
known image agree = first_of_nine (parts_are_known image) _ _ _ _ _ _ _ _ agree

limits : (image : Image) → tables_agree image ≡ true → keeps_limits image ≡ true
limits image agree = (and_parts _ (keeps_limits image) agree).1

methods_known : (image : Image) → parts_are_known image ≡ true → list_all method_is_known image.methods ≡ true
methods_known image h = (and_parts _ (list_all method_is_known image.methods) h).1

methods_few : (image : Image) → keeps_limits image ≡ true → nat_le (length image.methods) 65535 ≡ true
methods_few image h = (and_parts _ (nat_le (length image.methods) 65535) h).1

methods_short : (image : Image) → keeps_limits image ≡ true → list_all method_keeps_limits image.methods ≡ true
methods_short image h =
    let p = and_parts _ (nat_le (length image.methods) 65535) h in
    (and_parts _ (list_all method_keeps_limits image.methods) p.0).1

one_sound : (m : ImageMethod) → method_is_known m ≡ true → method_keeps_limits m ≡ true → IsSound m
one_sound m known short =
    let p = and_parts _ _ known in
    let q = and_parts _ _ p.0 in
    record {
      ascend = (and_parts _ _ q.0).1;
      short = leb-true (length m.code) 65535 (and_parts _ _ short).1;
    }

pub sound : (image : Image) → tables_agree image ≡ true → AreSound image
sound image agree =
    let limit = limits image agree in
    let all_known = AllPass-from_list_all method_is_known image.methods (methods_known image (known image agree)) in
    let all_short = AllPass-from_list_all method_keeps_limits image.methods (methods_short image limit) in
    record {
      few = leb-true (length image.methods) 65535 (methods_few image limit);
      each = λ k d within. one_sound (get_or image.methods k d) (all_known k d within) (all_short k d within);
    }

-- a method that breaks no rule leaves it to those behind it
pub none_broken : (image : Image) (k : ℕ) (ms : List ImageMethod) (m : ImageMethod) → k < length ms → m ≡ get_or ms k m
    → code_fault image m ≡ None
    → methods_broken image k (drop k ms) ≡ methods_broken image (k + 1) (drop (k + 1) ms)
none_broken image k ms m within is none =
    let one : suc k ≡ k + 1 = omega arith in
    ap (λ (xs : List ImageMethod). methods_broken image k xs) (next_left k ms m within is)
    ∙ ap (λ (o : Option Fault). or_later k o (methods_broken image (suc k) (drop (k + 1) ms))) none
    ∙ ap (λ (n : ℕ). methods_broken image n (drop (k + 1) ms)) one
