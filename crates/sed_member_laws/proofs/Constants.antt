-- What initial values come to: values of the types that they are given to.
use Rattle.std.proofs.Common.{◌≡◌, ◌<◌, ◌≤◌, ◌^◌, ◌*◌, ◌-◌, ◌==◌, ◌&&◌, ℕ, zero, suc, Bool, true, false, nat_le, nat_lt, if◌then◌else◌, ℤ, pos, ◌-ℤ◌, List, [], ◌∷◌, slice_get, codes, IsSomeAnd, Option, Some, None, option_and_then, refl, sym, ap, ◌∙◌, arith}
use Rattle.std.specs.Int.{w8, w16, w32, w64}
use Rattle.std.specs.Int.Signed.{mag}
use Rattle.std.specs.Option.{option_or}
use Rattle.std.specs.Str.{byte, bytes_eq}
use Rattle.std.proofs.lemmas.Bool.{lt-ltb}
use Rattle.std.proofs.lemmas.Bool.Decides.{nat_tests}
use Rattle.std.proofs.lemmas.Int.{SFits-int_wrap}
use mir.Val.{hbits, SFits}
use mir.Syntax.{Width}
use Rattle.sed_value.proofs.WrapLemmas.{low_bits-below}
use Rattle.sed_value.specs.Characters.{is_digit}
use Rattle.sed_value.specs.Value.{is_of_type, is_signed, kept, widened}
use Rattle.sed_value.specs.Wrap.{low_bits, wrap}
use Rattle.sed_value.specs.declared.slot_type.Primitive.{Primitive}
use Rattle.sed_value.specs.declared.slot_type.Primitive.TheVariants as prim
use Rattle.sed_value.specs.declared.slot_type.SlotType.TheVariants as slot
use Rattle.sed_value.specs.declared.value.Value.{Value}
use Rattle.sed_value.specs.declared.value.Value.TheVariants as value
use Rattle.sed_lexer.specs.declared.numbers.Number.{Number}
use Rattle.sed_lexer.specs.declared.numbers.Number.TheVariants.{Int, Long}
use Rattle.sed_lexer.specs.Integers.{are_digits, is_hex_digit}
use Rattle.sed_lexer.specs.Values.{decimal_number, digits_value, hex_number, int_within, long_within, time_factor}
use Rattle.sed_names.specs.Spelled.{character_of, decimal_of, digits_of, hex_of, integer_of, prefixed_hex_of, suffix_of}
use Rattle.sed_units.specs.declared.leaves.Init.{Init}
use Rattle.sed_units.specs.declared.leaves.InitValue.{InitValue}
use Rattle.sed_units.specs.declared.leaves.InitValue.TheVariants as init
use Rattle.sed_units.specs.declared.leaves.Literal.{Literal}
use Rattle.sed_units.specs.declared.leaves.LiteralKind.{LiteralKind}
use Rattle.sed_units.specs.declared.leaves.LiteralKind.TheVariants as literal
use Rattle.sed_classes.specs.declared.kit_units.KitUnits.{KitUnits}
use Rattle.sed_classes.specs.declared.source_type.Constant.{Constant}
use Rattle.sed_classes.specs.declared.source_type.Constant.TheVariants as constant
use Rattle.sed_classes.specs.declared.source_type.SourceType.{SourceType}
use Rattle.sed_classes.specs.declared.source_type.SourceType.TheVariants as type
use Rattle.sed_classes.specs.Bases.{lineage}
use Rattle.sed_classes.specs.Members.{Owned, form_value, has_name, is_define, members_of, nearest}
use Rattle.sed_classes.specs.Types.{type_of}
use Rattle.sed_classes.specs.Values.{character_constant, constant_of, define_among, define_named, define_within, init_constant, kept_constant, kind_constant, literal_constant, member_count, negated, number_constant, number_fits, read_constant, takes, value_constant, widened_constant}
use Rattle.sed_typed.specs.Initial.{zero_value}
use Rattle.sed_program.specs.Fields.{kept_value}
use Rattle.sed_member_laws.specs.Literals.{AreSpelled, HasSpelled, IsValueSpelled, SpellsOne}
use Rattle.sed_member_laws.proofs.Flat.{found_in, some_is}
use Rattle.sed_member_laws.proofs.Nearest.{nearest_found}

-- ---- numbers of a width

pub signed_of : (w : Width) (n : ℤ) → SFits w n → is_signed w n ≡ true
signed_of w n fits = lt-ltb (mag n) (2 ^ hbits w) fits.sfits

pub wrapped : (w : Width) (n : ℤ) → is_signed w (wrap w n) ≡ true
wrapped w n = signed_of w (wrap w n) (SFits-int_wrap w n)

below_more : (n a b : ℕ) → a ≤ b → nat_lt n a ≡ true → nat_lt n b ≡ true
below_more n a b le e = grind (arith, nat_tests)

pub wider : (n : ℤ) → is_signed w32 n ≡ true → is_signed w64 n ≡ true
wider n h = below_more (mag n) (2 ^ 31) (2 ^ 63) (omega arith) h

pub small_int : (n : ℕ) → n < 65536 → is_signed w32 (pos n) ≡ true
small_int n h = lt-ltb n (2 ^ 31) (omega arith)

-- ---- values that constants are

abbrev pub IsGoodValue : Value → Type 0
IsGoodValue (value.Bool t) = t ≤ 2
IsGoodValue (value.Int n) = is_signed w32 n ≡ true
IsGoodValue (value.Long n) = is_signed w64 n ≡ true
IsGoodValue v = ⊥

abbrev pub IsGood : Constant → Type 0
IsGood (constant.Number v) = IsGoodValue v
IsGood c = Unit {0}

-- ---- literals

abbrev IsGoodNumber : Option Number → Type 0
IsGoodNumber None = Unit {0}
IsGoodNumber (Some (Int n)) = is_signed w32 n ≡ true
IsGoodNumber (Some (Long n)) = is_signed w64 n ≡ true

good_if : (b : Bool) (x y : Option Number) → IsGoodNumber x → IsGoodNumber y → IsGoodNumber (if b then x else y)
good_if true x y p q = p
good_if false x y p q = q

good_int : (bound n : ℕ) → IsGoodNumber (int_within bound n)
good_int bound n = good_if (nat_le n bound) (Some (Int (wrap w32 (pos n)))) None (wrapped w32 (pos n)) tt

good_long : (bound n : ℕ) → IsGoodNumber (long_within bound n)
good_long bound n = good_if (nat_le n bound) (Some (Long (wrap w64 (pos n)))) None (wrapped w64 (pos n)) tt

good_time : (n : ℕ) (o : Option ℕ) → IsGoodNumber (option_and_then (λ factor. long_within (2 ^ 63 - 1) (n * factor)) o)
good_time n None = tt
good_time n (Some factor) = good_long (2 ^ 63 - 1) (n * factor)

good_decimal : (suffix : List ℕ) (n : ℕ) → IsGoodNumber (decimal_number suffix n)
good_decimal suffix n =
    good_if
    (bytes_eq suffix [])
    (int_within (2 ^ 31) n)
    (if bytes_eq suffix (codes "L") then long_within (2 ^ 63) n
    else option_and_then (λ factor. long_within (2 ^ 63 - 1) (n * factor)) (time_factor suffix))
    (good_int (2 ^ 31) n)
    (good_if
    (bytes_eq suffix (codes "L"))
    (long_within (2 ^ 63) n)
    (option_and_then (λ factor. long_within (2 ^ 63 - 1) (n * factor)) (time_factor suffix))
    (good_long (2 ^ 63) n)
    (good_time n (time_factor suffix)))

good_hex : (suffix : List ℕ) (n : ℕ) → IsGoodNumber (hex_number suffix n)
good_hex suffix n =
    good_if
    (bytes_eq suffix [])
    (int_within (2 ^ 32 - 1) n)
    (if bytes_eq suffix (codes "L") then long_within (2 ^ 64 - 1) n else None)
    (good_int (2 ^ 32 - 1) n)
    (good_if (bytes_eq suffix (codes "L")) (long_within (2 ^ 64 - 1) n) None (good_long (2 ^ 64 - 1) n) tt)

good_decimal_of : (bytes : List ℕ) → IsGoodNumber (decimal_of bytes)
good_decimal_of bytes =
    good_if
    (are_digits is_digit (digits_of is_digit bytes))
    (decimal_number (suffix_of is_digit bytes) (digits_value 10 (digits_of is_digit bytes)))
    None
    (good_decimal (suffix_of is_digit bytes) (digits_value 10 (digits_of is_digit bytes)))
    tt

good_hex_of : (bytes : List ℕ) → IsGoodNumber (hex_of bytes)
good_hex_of bytes =
    good_if
    (are_digits is_hex_digit (digits_of is_hex_digit bytes))
    (hex_number (suffix_of is_hex_digit bytes) (digits_value 16 (digits_of is_hex_digit bytes)))
    None
    (good_hex (suffix_of is_hex_digit bytes) (digits_value 16 (digits_of is_hex_digit bytes)))
    tt

good_prefixed : (bytes : List ℕ) → IsGoodNumber (prefixed_hex_of bytes)
good_prefixed [] = tt
good_prefixed (z ∷ []) = tt
good_prefixed (z ∷ x ∷ bytes) = good_if ((z == byte "0") && (x == byte "x")) (hex_of bytes) None (good_hex_of bytes) tt

good_either : (a b : Option Number) → IsGoodNumber a → IsGoodNumber b → IsGoodNumber (option_or a b)
good_either None b p q = q
good_either (Some n) b p q = p

good_integer : (bytes : List ℕ) → IsGoodNumber (integer_of bytes)
good_integer bytes = good_either (prefixed_hex_of bytes) (decimal_of bytes) (good_prefixed bytes)
    (good_decimal_of bytes)

good_number : (o : Option Number) → IsGoodNumber o → IsGood (number_constant o)
good_number None g = tt
good_number (Some (Int n)) g = g
good_number (Some (Long n)) g = g

good_character : (o : Option ℕ) → IsSomeAnd o (λ c. c < 256) → IsGood (character_constant o)
good_character None g = tt
good_character (Some c) g = small_int c (omega arith)

good_kind : (k : LiteralKind) (bytes : List ℕ) → SpellsOne k bytes → IsGood (kind_constant k bytes)
good_kind literal.Integer bytes s = good_number (integer_of bytes) (good_integer bytes)
good_kind literal.Character bytes s = good_character (character_of bytes) s
good_kind literal.Text bytes s = tt
good_kind literal.True bytes s = omega arith
good_kind literal.False bytes s = omega arith
good_kind literal.Null bytes s = tt

good_negated : (c : Constant) → IsGood c → IsGood (negated c)
good_negated (constant.Number (value.Bool t)) g = tt
good_negated (constant.Number (value.Byte n)) g = tt
good_negated (constant.Number (value.Short n)) g = tt
good_negated (constant.Number (value.Int n)) g = wrapped w32 (pos 0 -ℤ n)
good_negated (constant.Number (value.Long n)) g = wrapped w64 (pos 0 -ℤ n)
good_negated (constant.Number (value.Buf bytes)) g = tt
good_negated (constant.Number value.Nothing) g = tt
good_negated constant.Null g = tt
good_negated (constant.Text n) g = tt
good_negated constant.Nothing g = tt
good_negated constant.Unknown g = tt

-- ---- what is kept and read

kept_good : (p : Primitive) (v : Value) → IsGoodValue v → IsGoodValue (widened (kept (slot.Prim p) v))
kept_good prim.Bool (value.Bool t) g = g
kept_good prim.Bool (value.Int n) g = g
kept_good prim.Bool (value.Long n) g = g
kept_good prim.Byte (value.Bool t) g = g
kept_good prim.Byte (value.Int n) g =
    let small : low_bits w8 n < 2 ^ 8 = low_bits-below w8 n in
    small_int (low_bits w8 n) (omega arith)
kept_good prim.Byte (value.Long n) g = g
kept_good prim.Short (value.Bool t) g = g
kept_good prim.Short (value.Int n) g =
    let small : low_bits w16 n < 2 ^ 16 = low_bits-below w16 n in
    small_int (low_bits w16 n) (omega arith)
kept_good prim.Short (value.Long n) g = g
kept_good prim.Int (value.Bool t) g = g
kept_good prim.Int (value.Int n) g = g
kept_good prim.Int (value.Long n) g = g
kept_good prim.Long (value.Bool t) g = g
kept_good prim.Long (value.Int n) g = wider n g
kept_good prim.Long (value.Long n) g = g
kept_good p (value.Byte n) g = absurd g
kept_good p (value.Short n) g = absurd g
kept_good p (value.Buf bytes) g = absurd g
kept_good p value.Nothing g = absurd g

widened_good : (p : Primitive) (c : Constant) → IsGood c → IsGood (widened_constant (kept_constant p c))
widened_good p (constant.Number v) g = kept_good p v g
widened_good p constant.Null g = omega arith
widened_good p (constant.Text n) g = tt
widened_good p constant.Nothing g = tt
widened_good p constant.Unknown g = tt

pub read_good : (t : SourceType) (c : Constant) → IsGood c → IsGood (read_constant t c)
read_good type.Void c g = tt
read_good (type.Prim p) c g = by_test (takes p c)
  where
    by_test : (b : Bool) → IsGood (if b then widened_constant (kept_constant p c) else constant.Unknown)
    by_test true = widened_good p c g
    by_test false = tt
read_good type.Text c g = tt
read_good (type.SizedText n) c g = tt
read_good (type.Buf n) c g = tt
read_good (type.Array p n) c g = tt
read_good (type.Object b) c g = tt
read_good type.Unknown c g = tt
read_good type.Outside c g = tt

-- ---- values with defines

abbrev pub StandsIn : List KitUnits → Owned → Type 0
StandsIn units o = (i : ℕ) × (slice_get (members_of units o.class) i ≡ Some o.member)

-- a define that is named stands in its class
pub named_stands : (units : List KitUnits) (class : ℕ) (name : List ℕ) (o : Owned) →
    define_named units class name ≡ Some o →
    StandsIn units o × (is_define o.member ≡ true) × (nearest units class name ≡ Some o)
named_stands units class name o e = by_near (nearest units class name) refl e
  where
    by_near : (w : Option Owned) → nearest units class name ≡ w → (define_among w) ≡ Some o →
        StandsIn units o × (is_define o.member ≡ true) × (nearest units class name ≡ Some o)
    by_near None s g = cc
    by_near (Some w) s g = by_test (is_define w.member) refl g
      where
        by_test : (b : Bool) → is_define w.member ≡ b → (if b then Some w else None) ≡ Some o →
            StandsIn units o × (is_define o.member ≡ true) × (nearest units class name ≡ Some o)
        by_test false d h = cc
        by_test true d h =
            let same : w ≡ o = some_is w o h in
            let stands = nearest_found units name (lineage units class) w s in
            let inside = found_in (has_name name) (members_of units w.class) w.member stands.3 in (
              (
                inside.0,
                sym (ap (λ (x : Owned). slice_get (members_of units x.class) inside.0) same) ∙ inside.1
                    ∙ ap (λ (x : Owned). Some x.member) same,
              ),
              ap (λ (x : Owned). is_define x.member) (sym same) ∙ d,
              s ∙ ap Some same,
            )

init_good : (units : List KitUnits) (read : Owned → Constant) (class : ℕ) (v : InitValue) → HasSpelled v →
    ((o : Owned) → StandsIn units o → IsGood (read o)) → IsGood (init_constant read units class v)
init_good units read class (init.Literal l) s g = good_kind l.kind l.bytes s.one
init_good units read class (init.Minus l) s g = good_negated (literal_constant l) (good_kind l.kind l.bytes s.one)
init_good units read class (init.Name id) s g = by_named (define_named units class id.bytes) refl
  where
    by_named : (o : Option Owned) → define_named units class id.bytes ≡ o →
        IsGood (init_constant read units class (init.Name id))
    by_named None e = rw e tt
    by_named (Some o) e = rw e (g o (named_stands units class id.bytes o e).0)

value_good : (units : List KitUnits) (read : Owned → Constant) (class : ℕ) (v : Option Init) → IsValueSpelled v →
    ((o : Owned) → StandsIn units o → IsGood (read o)) → IsGood (value_constant read units class v)
value_good units read class None s g = tt
value_good units read class (Some i) s g = init_good units read class i.value s g

pub define_good : (units : List KitUnits) → AreSpelled units → (n : ℕ) (o : Owned) → StandsIn units o →
    IsGood (define_within units n o)
define_good units a zero o s = tt
define_good units a (suc n) o s =
    read_good
    (type_of units o.kit o.member.kind)
    (value_constant (define_within units n) units o.class (form_value o.member.form))
    (value_good
    units
    (define_within units n)
    o.class
    (form_value o.member.form)
    (a.values o.class s.0 o.member s.1)
    (λ w t. define_good units a n w t))

pub constant_good : (units : List KitUnits) → AreSpelled units → (class : ℕ) (i : Init) → HasSpelled i.value →
    IsGood (constant_of units class i)
constant_good units a class i s =
    init_good units (define_within units (member_count units)) class i.value s (λ w t. define_good units a
    (member_count units) w t)

-- ---- what goes to a primitive is of its type

bool_below : (t : ℕ) → t ≤ 2 → nat_le t 2 ≡ true
bool_below t h = grind (arith, nat_tests)

number_typed : (p : Primitive) (v : Value) → number_fits p v ≡ true → IsGoodValue v →
    is_of_type (slot.Prim p) (kept (slot.Prim p) v) ≡ true
number_typed prim.Bool (value.Bool t) e g = bool_below t g
number_typed prim.Bool (value.Int n) e g = cc
number_typed prim.Bool (value.Long n) e g = cc
number_typed prim.Byte (value.Bool t) e g = cc
number_typed prim.Byte (value.Int n) e g = lt-ltb (low_bits w8 n) (2 ^ 8) (low_bits-below w8 n)
number_typed prim.Byte (value.Long n) e g = cc
number_typed prim.Short (value.Bool t) e g = cc
number_typed prim.Short (value.Int n) e g = lt-ltb (low_bits w16 n) (2 ^ 16) (low_bits-below w16 n)
number_typed prim.Short (value.Long n) e g = cc
number_typed prim.Int (value.Bool t) e g = cc
number_typed prim.Int (value.Int n) e g = g
number_typed prim.Int (value.Long n) e g = cc
number_typed prim.Long (value.Bool t) e g = cc
number_typed prim.Long (value.Int n) e g = wider n g
number_typed prim.Long (value.Long n) e g = g
number_typed p (value.Byte n) e g = absurd g
number_typed p (value.Short n) e g = absurd g
number_typed p (value.Buf bytes) e g = absurd g
number_typed p value.Nothing e g = absurd g

pub zero_typed : (p : Primitive) → is_of_type (slot.Prim p) (zero_value p) ≡ true
zero_typed prim.Bool = refl
zero_typed prim.Byte = refl
zero_typed prim.Short = refl
zero_typed prim.Int = refl
zero_typed prim.Long = refl

null_typed : (p : Primitive) → takes p constant.Null ≡ true →
    is_of_type (slot.Prim p) (kept_value p constant.Null) ≡ true
null_typed prim.Bool e = refl
null_typed prim.Byte e = cc
null_typed prim.Short e = cc
null_typed prim.Int e = cc
null_typed prim.Long e = cc

no_takes_text : (p : Primitive) (n : ℕ) → takes p (constant.Text n) ≡ false
no_takes_text prim.Bool n = refl
no_takes_text prim.Byte n = refl
no_takes_text prim.Short n = refl
no_takes_text prim.Int n = refl
no_takes_text prim.Long n = refl

no_takes_nothing : (p : Primitive) → takes p constant.Nothing ≡ false
no_takes_nothing prim.Bool = refl
no_takes_nothing prim.Byte = refl
no_takes_nothing prim.Short = refl
no_takes_nothing prim.Int = refl
no_takes_nothing prim.Long = refl

takes_number : (p : Primitive) (v : Value) → takes p (constant.Number v) ≡ number_fits p v
takes_number prim.Bool v = refl
takes_number prim.Byte v = refl
takes_number prim.Short v = refl
takes_number prim.Int v = refl
takes_number prim.Long v = refl

pub kept_typed : (p : Primitive) (c : Constant) → takes p c ≡ true → IsGood c →
    is_of_type (slot.Prim p) (kept_value p c) ≡ true
kept_typed p (constant.Number v) e g = number_typed p v (sym (takes_number p v) ∙ e) g
kept_typed p constant.Null e g = null_typed p e
kept_typed p (constant.Text n) e g = let clash : false ≡ true = sym (no_takes_text p n) ∙ e in cc
kept_typed p constant.Nothing e g = let clash : false ≡ true = sym (no_takes_nothing p) ∙ e in cc
kept_typed p constant.Unknown e g = zero_typed p
