-- The words of a static exclude that it is a property.
use Rattle.std.proofs.Common.{◌≡◌, ◌+◌, ◌==◌, ◌&&◌, ℕ, Bool, true, false, not, nat_lt, if◌then◌else◌, List, slice_get, Some, refl, sym, ap, ◌∙◌}
use Rattle.sed_units.specs.declared.leaves.ModifierWord.TheVariants as word
use Rattle.sed_units.specs.declared.classes.Member.{Member}
use Rattle.sed_classes.specs.declared.kit_units.KitUnits.{KitUnits}
use Rattle.sed_classes.specs.FieldRules.{exclusive_count, has_no_method_words, is_static_inline}
use Rattle.sed_classes.specs.Members.{has_word, is_method, is_property, is_static, members_of}
use Rattle.sed_member_laws.specs.Faultless.{AreFree, Keeps}
use Rattle.sed_member_laws.proofs.Fit.{words_apart}
use Rattle.sed_member_laws.proofs.Own.{member_kept, or_left}

-- by the five words that exclude one another
five_words : (p a d s i : Bool) → p ≡ true → s ≡ true →
    (nat_lt 1 ((if p then 1 else 0) + (if a then 1 else 0) + (if d then 1 else 0) + (if s then 1 else 0) + (if i then 1
    else 0))
    && not (s && i && (((if p then 1 else 0) + (if a then 1 else 0) + (if d then 1 else 0) + (if s then 1
    else 0) + (if i then 1 else 0)) == 2)))
    ≡ true
five_words false a d s i e f = cc
five_words true a d false i e f = cc
five_words true true true true true e f = refl
five_words true true true true false e f = refl
five_words true true false true true e f = refl
five_words true true false true false e f = refl
five_words true false true true true e f = refl
five_words true false true true false e f = refl
five_words true false false true true e f = refl
five_words true false false true false e f = refl

pub static_no_property : (units : List KitUnits) → AreFree units → (c i : ℕ) (m : Member) →
    slice_get (members_of units c) i ≡ Some m →
    is_static m ≡ true → is_method m ≡ false → is_property m ≡ false
static_no_property units f c i m e s n =
    let k = member_kept units f c i m e in
    let keeps : Keeps units c k.0 i m = k.3 in
    let apart : (nat_lt 1 (exclusive_count m) && not (is_static_inline m)) ≡ false =
    or_left (nat_lt 1 (exclusive_count m) && not (is_static_inline m)) (is_method m && has_no_method_words m)
    (words_apart units c k.0 i m keeps) in
    by_word (has_word word.Property m.modifiers) refl apart
  where
    by_word : (b : Bool) → has_word word.Property m.modifiers ≡ b →
        (nat_lt 1 (exclusive_count m) && not (is_static_inline m)) ≡ false →
        is_property m ≡ false
    by_word false w a = ap (λ x. not (is_method m) && x) w ∙ both (not (is_method m))
      where
        both : (b : Bool) → (b && false) ≡ false
        both true = refl
        both false = refl
    by_word true w a =
        let clash : true ≡ false =
        sym (five_words
        (has_word word.Property m.modifiers)
        (has_word word.Action m.modifiers)
        (has_word word.Define m.modifiers)
        (has_word word.Static m.modifiers)
        (has_word word.Inline m.modifiers)
        w
        s)
        ∙ a in
        cc
