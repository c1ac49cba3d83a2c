-- The types of members that break no rule.
use Rattle.std.proofs.Common.{◌≡◌, ◌≤◌, ◌+◌, ◌==◌, ◌&&◌, ℕ, pos, negsuc, Bool, true, false, not, nat_le, nat_lt, if◌then◌else◌, is_some, List, [], Option, Some, None, refl, ap, ◌∙◌, arith}
use Rattle.std.specs.Option.{option_map_or}
use Rattle.std.proofs.lemmas.Bool.Decides.{nat_tests}
use Rattle.sed_value.specs.declared.slot_type.Primitive.{Primitive}
use Rattle.sed_lexer.specs.declared.numbers.Number.{Number}
use Rattle.sed_lexer.specs.declared.numbers.Number.TheVariants.{Int, Long}
use Rattle.sed_units.specs.declared.leaves.Base.{Base}
use Rattle.sed_units.specs.declared.leaves.Base.TheVariants as base
use Rattle.sed_units.specs.declared.leaves.Size.{Size}
use Rattle.sed_units.specs.declared.leaves.Size.TheVariants.{Parens, Brackets}
use Rattle.sed_units.specs.declared.leaves.TypeName.{TypeName}
use Rattle.sed_units.specs.declared.leaves.TypeRef.{TypeRef}
use Rattle.sed_units.specs.declared.leaves.ModifierWord.TheVariants as word
use Rattle.sed_units.specs.declared.classes.Member.{Member}
use Rattle.sed_names.specs.Spelled.{integer_of}
use Rattle.sed_classes.specs.declared.kit_units.KitUnits.{KitUnits}
use Rattle.sed_classes.specs.declared.source_type.SourceType.{SourceType}
use Rattle.sed_classes.specs.declared.source_type.SourceType.TheVariants as type
use Rattle.sed_classes.specs.Names.{class_of_name, is_buffer_name, is_text_name}
use Rattle.sed_classes.specs.NameRules.{base_type_without_class, is_without_class, type_without_class}
use Rattle.sed_classes.specs.Types.{based_type, buffer_type, count_of, is_unknown, named_type, object_type, primitive_type, size_within, text_type, type_of, void_type, within}
use Rattle.sed_classes.specs.Members.{has_word, is_define, is_instance_field, is_method, is_property, is_static}
use Rattle.sed_classes.specs.FieldRules.{exclusive_count, have_words_apart, has_no_method_words, is_static_inline}
use Rattle.sed_outline.proofs.Unbroken.{not_broken}
use Rattle.sed_value.proofs.Truths.{or_left as first_false}

-- ---- a type whose name has a class is known

outside_known : (f : ℕ → SourceType) (o : Option ℕ) → ((n : ℕ) → is_unknown (f n) ≡ false) →
    is_unknown (option_map_or f o type.Outside) ≡ false
outside_known f None h = refl
outside_known f (Some n) h = h n

primitive_known : (p : Primitive) (size : Option Size) → is_unknown (primitive_type p size) ≡ false
primitive_known p None = refl
primitive_known p (Some (Brackets l)) = outside_known (type.Array p) (size_within 65535 l) (λ n. refl)
primitive_known p (Some (Parens l)) = refl

void_known : (size : Option Size) → is_unknown (void_type size) ≡ false
void_known None = refl
void_known (Some s) = refl

text_known : (size : Option Size) → is_unknown (text_type size) ≡ false
text_known None = refl
text_known (Some (Parens l)) = outside_known type.SizedText (size_within 255 l) (λ n. refl)
text_known (Some (Brackets l)) = refl

buffer_known : (size : Option Size) → is_unknown (buffer_type size) ≡ false
buffer_known None = refl
buffer_known (Some (Parens l)) = outside_known type.Buf (size_within 128 l) (λ n. refl)
buffer_known (Some (Brackets l)) = refl

object_known : (o : Option ℕ) (size : Option Size) → is_some o ≡ true → is_unknown (object_type o size) ≡ false
object_known None size e = cc
object_known (Some c) None e = refl
object_known (Some c) (Some s) e = refl

named_known : (units : List KitUnits) (kit : ℕ) (name : TypeName) (size : Option Size) →
    is_without_class units kit name ≡ false →
    is_unknown (named_type units kit name size) ≡ false
named_known units kit name size e = by_tests (is_text_name name) (is_buffer_name name) e
  where
    there : (b : Bool) → (not false && not false && not b) ≡ false → b ≡ true
    there true e = refl
    there false e = cc

    by_tests : (a b : Bool) → (not a && not b && not (is_some (class_of_name units kit name))) ≡ false →
        is_unknown (if a then text_type size else if b then buffer_type size
        else object_type (class_of_name units kit name) size) ≡ false
    by_tests true b f = text_known size
    by_tests false true f = buffer_known size
    by_tests false false f = object_known (class_of_name units kit name) size (there (is_some
        (class_of_name units kit name)) f)

pub type_known : (units : List KitUnits) (kit : ℕ) (t : TypeRef) → type_without_class units kit t ≡ [] →
    is_unknown (type_of units kit t) ≡ false
type_known units kit t e = by_base t.base e
  where
    by_base : (b : Base) → base_type_without_class units kit b ≡ [] → is_unknown (based_type units kit b t.size) ≡ false
    by_base (base.Primitive p) f = primitive_known p t.size
    by_base base.Void f = void_known t.size
    by_base (base.Named name) f = named_known units kit name t.size (not_broken
        (is_without_class units kit name) 1 name.at f)

-- ---- a Buf has 1 to 128 bytes

-- of a type, if it is a Buf
abbrev BufFits : SourceType → Type 0
BufFits t = (n : ℕ) → t ≡ type.Buf n → (1 ≤ n) × (n ≤ 128)

counted_fits : (o : Option ℕ) → ((n : ℕ) → o ≡ Some n → (1 ≤ n) × (n ≤ 128)) →
    BufFits (option_map_or type.Buf o type.Outside)
counted_fits None h n e = cc
counted_fits (Some m) h n e = let same : m ≡ n = cc in h n (ap Some same)

within_fits : (most n m : ℕ) → within most n ≡ Some m → (1 ≤ m) × (m ≤ most)
within_fits most n m e = by_tests (nat_le 1 n) (nat_le n most) refl refl e
  where
    by_tests : (a b : Bool) → nat_le 1 n ≡ a → nat_le n most ≡ b → (if (a && b) then Some n else None) ≡ Some m →
        (1 ≤ m) × (m ≤ most)
    by_tests true true p q f =
        let same : n ≡ m = cc in
        let low : 1 ≤ n = grind (arith, nat_tests) in
        let high : n ≤ most = grind (arith, nat_tests) in
        (omega (arith, same, low), omega (arith, same, high))
    by_tests true false p q f = cc
    by_tests false b p q f = cc

count_fits : (o : Option Number) (n : ℕ) → count_of 128 o ≡ Some n → (1 ≤ n) × (n ≤ 128)
count_fits None n e = cc
count_fits (Some (Int (pos k))) n e = within_fits 128 k n e
count_fits (Some (Int (negsuc k))) n e = cc
count_fits (Some (Long k)) n e = cc

no_buf : (t : SourceType) → ((n : ℕ) → t ≡ type.Buf n → ⊥) → BufFits t
no_buf t h n e = absurd (h n e)

outside_not : (f : ℕ → SourceType) (o : Option ℕ) → ((m n : ℕ) → f m ≡ type.Buf n → ⊥) → (n : ℕ) →
    option_map_or f o type.Outside ≡ type.Buf n → ⊥
outside_not f None h n e = cc
outside_not f (Some m) h n e = h m n e

primitive_not : (p : Primitive) (size : Option Size) (n : ℕ) → primitive_type p size ≡ type.Buf n → ⊥
primitive_not p None n e = cc
primitive_not p (Some (Brackets l)) n e = outside_not (type.Array p) (size_within 65535 l) (λ m k f. cc) n e
primitive_not p (Some (Parens l)) n e = cc

void_not : (size : Option Size) (n : ℕ) → void_type size ≡ type.Buf n → ⊥
void_not None n e = cc
void_not (Some s) n e = cc

text_not : (size : Option Size) (n : ℕ) → text_type size ≡ type.Buf n → ⊥
text_not None n e = cc
text_not (Some (Parens l)) n e = outside_not type.SizedText (size_within 255 l) (λ m k f. cc) n e
text_not (Some (Brackets l)) n e = cc

object_not : (o : Option ℕ) (size : Option Size) (n : ℕ) → object_type o size ≡ type.Buf n → ⊥
object_not None size n e = cc
object_not (Some c) None n e = cc
object_not (Some c) (Some s) n e = cc

buffer_fits : (size : Option Size) → BufFits (buffer_type size)
buffer_fits None n e = cc
buffer_fits (Some (Parens l)) n e = counted_fits (size_within 128 l) (λ m f. count_fits (integer_of l.bytes) m f) n e
buffer_fits (Some (Brackets l)) n e = cc

pub buf_fits : (units : List KitUnits) (kit : ℕ) (t : TypeRef) (n : ℕ) → type_of units kit t ≡ type.Buf n →
    (1 ≤ n) × (n ≤ 128)
buf_fits units kit t n e = by_base t.base n e
  where
    by_tests : (a b : Bool) (c : Option ℕ) → BufFits (if a then text_type t.size else if b then buffer_type t.size
        else object_type c t.size)
    by_tests true b c = no_buf (text_type t.size) (text_not t.size)
    by_tests false true c = buffer_fits t.size
    by_tests false false c = no_buf (object_type c t.size) (object_not c t.size)

    by_base : (b : Base) → BufFits (based_type units kit b t.size)
    by_base (base.Primitive p) = no_buf (primitive_type p t.size) (primitive_not p t.size)
    by_base base.Void = no_buf (void_type t.size) (void_not t.size)
    by_base (base.Named name) = by_tests (is_text_name name) (is_buffer_name name) (class_of_name units kit name)

-- ---- words that exclude one another

word_counts : (p a d s i : Bool) → p ≡ true →
    (nat_lt 1 ((if p then 1 else 0) + (if a then 1 else 0) + (if d then 1 else 0) + (if s then 1 else 0) + (if i then 1
    else 0))
    && not (s && i && (((if p then 1 else 0) + (if a then 1 else 0) + (if d then 1 else 0) + (if s then 1
    else 0) + (if i then 1 else 0)) == 2))) ≡ false →
    (d ≡ false) × (s ≡ false)
word_counts false a d s i p e = cc
word_counts true true true true true p e = cc
word_counts true true true true false p e = cc
word_counts true true true false true p e = cc
word_counts true true true false false p e = cc
word_counts true true false true true p e = cc
word_counts true true false true false p e = cc
word_counts true true false false i p e = (refl, refl)
word_counts true false true true true p e = cc
word_counts true false true true false p e = cc
word_counts true false true false true p e = cc
word_counts true false true false false p e = cc
word_counts true false false true true p e = cc
word_counts true false false true false p e = cc
word_counts true false false false i p e = (refl, refl)

-- a property is neither a define nor static, so it stands in each object
pub property_words : (m : Member) → is_property m ≡ true → have_words_apart m ≡ false →
    (is_method m ≡ false) × (is_instance_field m ≡ true)
property_words m p e = by_method (is_method m) refl p
  where
    by_method : (b : Bool) → is_method m ≡ b → (not b && has_word word.Property m.modifiers) ≡ true →
        (is_method m ≡ false) × (is_instance_field m ≡ true)
    by_method true q f = cc
    by_method false q f =
        let words = word_counts
        (has_word word.Property m.modifiers)
        (has_word word.Action m.modifiers)
        (has_word word.Define m.modifiers)
        (has_word word.Static m.modifiers)
        (has_word word.Inline m.modifiers)
        f
        (first_false
        (nat_lt 1 (exclusive_count m) && not (is_static_inline m))
        (is_method m && has_no_method_words m)
        e) in (
          q,
          ap (λ b. not b && not (is_define m) && not (is_static m)) q
              ∙ ap (λ b. not (not b && has_word word.Define m.modifiers) && not (is_static m)) q
              ∙ ap (λ b. not b && not (is_static m)) words.0
              ∙ ap not words.1,
        )
