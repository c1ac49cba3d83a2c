-- Each define has a value of its type.
use Rattle.std.proofs.Common.{◌≡◌, ◌<◌, ◌≤◌, ◌+◌, ◌==◌, ◌&&◌, ◌||◌, ℕ, zero, suc, Bool, true, false, not, nat_lt, if◌then◌else◌, List, IsSome, IsSomeAnd, Option, Some, None, refl, sym, ap, ◌∙◌, subst, arith}
use Rattle.sed_value.specs.declared.slot_type.Primitive.{Primitive}
use Rattle.sed_value.specs.declared.slot_type.Primitive.TheVariants as prim
use Rattle.sed_value.specs.Value.{kept, widened}
use Rattle.sed_value.specs.declared.slot_type.SlotType.TheVariants as slot
use Rattle.sed_value.specs.declared.value.Value.{Value}
use Rattle.sed_value.specs.declared.value.Value.TheVariants as value
use Rattle.sed_lexer.specs.declared.numbers.Number.{Number}
use Rattle.sed_lexer.specs.declared.numbers.Number.TheVariants.{Int, Long}
use Rattle.sed_names.specs.Spelled.{character_of, integer_of}
use Rattle.sed_units.specs.declared.leaves.ModifierWord.TheVariants as word
use Rattle.sed_units.specs.declared.leaves.Init.{Init}
use Rattle.sed_units.specs.declared.leaves.InitValue.{InitValue}
use Rattle.sed_units.specs.declared.leaves.InitValue.TheVariants as init
use Rattle.sed_units.specs.declared.leaves.Literal.{Literal}
use Rattle.sed_units.specs.declared.leaves.LiteralKind.{LiteralKind}
use Rattle.sed_units.specs.declared.leaves.LiteralKind.TheVariants as literal
use Rattle.sed_bodies.specs.Inside.{IsConstant}
use Rattle.sed_classes.specs.declared.kit_units.KitUnits.{KitUnits}
use Rattle.sed_classes.specs.declared.source_type.Constant.{Constant}
use Rattle.sed_classes.specs.declared.source_type.Constant.TheVariants as constant
use Rattle.sed_classes.specs.declared.source_type.SourceType.{SourceType}
use Rattle.sed_classes.specs.declared.source_type.SourceType.TheVariants as type
use Rattle.sed_classes.specs.FieldRules.{exclusive_count, has_no_method_words, is_static_inline, is_no_value, is_no_value_of}
use Rattle.sed_classes.specs.Members.{Owned, form_value, has_word, is_define, is_method, kit_of, owned}
use Rattle.sed_classes.specs.Objects.{is_inline}
use Rattle.sed_classes.specs.Types.{is_field_type, type_of}
use Rattle.sed_classes.specs.Values.{character_constant, constant_of, define_leads_back, define_named, define_within, init_constant, kept_constant, kind_constant, literal_constant, member_count, negated, next_define, number_constant, read_constant, takes, value_constant, widened_constant}
use Rattle.sed_program.specs.Meaning.{define_constant, define_value, plain_constant}
use Rattle.sed_member_laws.specs.Literals.{AreSpelled, HasSpelled, IsValueSpelled, SpellsOne}
use Rattle.sed_member_laws.specs.Faultless.{AreFree, Keeps}
use Rattle.sed_member_laws.proofs.Chains.{Ends, IsDefine, define_valued, ends, next, next_is}
use Rattle.sed_member_laws.proofs.Constants.{IsGood, IsGoodValue, constant_good, read_good}
use Rattle.sed_member_laws.proofs.Fit.{field_type, words_apart}
use Rattle.sed_member_laws.proofs.Own.{member_kept, or_left, or_right}
use Rattle.sed_check.specs.Means.{HaveDefines}

-- ---- the type of a define is a primitive

define_words : (p a d s i : Bool) → d ≡ true →
    (nat_lt 1 ((if p then 1 else 0) + (if a then 1 else 0) + (if d then 1 else 0) + (if s then 1 else 0) + (if i then 1
    else 0))
    && not (s && i && (((if p then 1 else 0) + (if a then 1 else 0) + (if d then 1 else 0) + (if s then 1
    else 0) + (if i then 1 else 0)) == 2)))
    ≡ false → (p ≡ false) × (i ≡ false)
define_words p a false s i e h = cc
define_words false a true s false e h = (refl, refl)
define_words true true true true true e h = cc
define_words true true true true false e h = cc
define_words true true true false true e h = cc
define_words true true true false false e h = cc
define_words true false true true true e h = cc
define_words true false true true false e h = cc
define_words true false true false true e h = cc
define_words true false true false false e h = cc
define_words false true true true true e h = cc
define_words false true true false true e h = cc
define_words false false true true true e h = cc
define_words false false true false true e h = cc

primitive_is : (t : SourceType) → is_field_type false t ≡ true → (p : Primitive) × (t ≡ type.Prim p)
primitive_is type.Void e = cc
primitive_is (type.Prim p) e = (p, refl)
primitive_is type.Text e = cc
primitive_is (type.SizedText n) e = cc
primitive_is (type.Buf n) e = cc
primitive_is (type.Array p n) e = cc
primitive_is (type.Object c) e = cc
primitive_is type.Unknown e = cc
primitive_is type.Outside e = cc

define_typed : (units : List KitUnits) → AreFree units → (o : Owned) → IsDefine units o →
    (p : Primitive) × (type_of units (kit_of units o.class) o.member.kind ≡ type.Prim p)
define_typed units f o d =
    let k = member_kept units f o.class d.at o.member d.there in
    let keeps : Keeps units o.class k.0 d.at o.member = k.3 in
    let words = split (is_method o.member) (has_word word.Define o.member.modifiers) d.define in
    let apart = define_words
    (has_word word.Property o.member.modifiers)
    (has_word word.Action o.member.modifiers)
    (has_word word.Define o.member.modifiers)
    (has_word word.Static o.member.modifiers)
    (has_word word.Inline o.member.modifiers)
    words.1
    (or_left
    (nat_lt 1 (exclusive_count o.member) && not (is_static_inline o.member))
    (is_method o.member && has_no_method_words o.member)
    (words_apart units o.class k.0 d.at o.member keeps)) in
    let field : is_field_type (is_inline o.member) (type_of units k.0.kit o.member.kind) ≡ true =
    field_type units o.class k.0 d.at o.member keeps words.0 (ap (λ b. not (is_method o.member) && b) apart.0
    ∙ none (not (is_method o.member))) in
    let found = primitive_is (type_of units k.0.kit o.member.kind) (sym (ap (λ b. is_field_type b
    (type_of units k.0.kit o.member.kind)) apart.1) ∙ field) in
    (found.0, ap (λ kit. type_of units kit o.member.kind) k.2 ∙ found.1)
  where
    split : (a b : Bool) → (not a && b) ≡ true → (a ≡ false) × (b ≡ true)
    split true b e = cc
    split false true e = (refl, refl)
    split false false e = cc

    none : (b : Bool) → (b && false) ≡ false
    none true = refl
    none false = refl

-- ---- constants that are known

abbrev IsKnown : Constant → Type 0
IsKnown constant.Unknown = ⊥
IsKnown c = Unit {0}

known_number : (o : Option Number) → IsSome o → IsKnown (number_constant o)
known_number None s = absurd (none s)
  where
    none : IsSome {T = Number} None → ⊥
    none e = cc
known_number (Some (Int n)) s = tt
known_number (Some (Long n)) s = tt

known_character : (o : Option ℕ) → IsSomeAnd o (λ c. c < 256) → IsKnown (character_constant o)
known_character None s = absurd s
known_character (Some c) s = tt

known_kind : (k : LiteralKind) (bytes : List ℕ) → SpellsOne k bytes → IsKnown (kind_constant k bytes)
known_kind literal.Integer bytes s = known_number (integer_of bytes) s
known_kind literal.Character bytes s = known_character (character_of bytes) s
known_kind literal.Text bytes s = tt
known_kind literal.True bytes s = tt
known_kind literal.False bytes s = tt
known_kind literal.Null bytes s = tt

known_negated : (c : Constant) → IsKnown c → IsKnown (negated c)
known_negated (constant.Number (value.Bool t)) k = tt
known_negated (constant.Number (value.Byte n)) k = tt
known_negated (constant.Number (value.Short n)) k = tt
known_negated (constant.Number (value.Int n)) k = tt
known_negated (constant.Number (value.Long n)) k = tt
known_negated (constant.Number (value.Buf bytes)) k = tt
known_negated (constant.Number value.Nothing) k = tt
known_negated constant.Null k = tt
known_negated (constant.Text n) k = tt
known_negated constant.Nothing k = tt
known_negated constant.Unknown k = absurd k

-- a known constant that goes to a primitive is a number there
read_number : (p : Primitive) (c : Constant) → takes p c ≡ true → IsKnown c →
    (v : Value) × (read_constant (type.Prim p) c ≡ constant.Number v)
read_number p c t k = by_constant c t k
  where
    chosen : (c : Constant) → takes p c ≡ true → read_constant (type.Prim p) c ≡ widened_constant (kept_constant p c)
    chosen c t = ap (λ b. if b then widened_constant (kept_constant p c) else constant.Unknown) t

    text_no : (q : Primitive) (n : ℕ) → takes q (constant.Text n) ≡ true → ⊥
    text_no prim.Bool n e = cc
    text_no prim.Byte n e = cc
    text_no prim.Short n e = cc
    text_no prim.Int n e = cc
    text_no prim.Long n e = cc

    nothing_no : (q : Primitive) → takes q constant.Nothing ≡ true → ⊥
    nothing_no prim.Bool e = cc
    nothing_no prim.Byte e = cc
    nothing_no prim.Short e = cc
    nothing_no prim.Int e = cc
    nothing_no prim.Long e = cc

    by_constant : (c : Constant) → takes p c ≡ true → IsKnown c →
        (v : Value) × (read_constant (type.Prim p) c ≡ constant.Number v)
    by_constant (constant.Number v) t k = (widened (kept (slot.Prim p) v), chosen (constant.Number v) t)
    by_constant constant.Null t k = (value.Bool 2, chosen constant.Null t)
    by_constant (constant.Text n) t k = absurd (text_no p n t)
    by_constant constant.Nothing t k = absurd (nothing_no p t)
    by_constant constant.Unknown t k = absurd k

-- ---- more steps change nothing where a chain has ended

same_value : (units : List KitUnits) (class : ℕ) (v : InitValue) (i : Init) → i.value ≡ v → (n m : ℕ) →
    ((q : Owned) → next_define units class (Some i) ≡ Some q → define_within units n q ≡ define_within units m q) →
    init_constant (define_within units n) units class v ≡ init_constant (define_within units m) units class v
same_value units class (init.Literal l) i s n m h = refl
same_value units class (init.Minus l) i s n m h = refl
same_value units class (init.Name id) i s n m h = by_named (define_named units class id.bytes) refl
  where
    by_named : (r : Option Owned) → define_named units class id.bytes ≡ r →
        init_constant (define_within units n) units class (init.Name id)
        ≡ init_constant (define_within units m) units class (init.Name id)
    by_named None e = rw e refl
    by_named (Some q) e = rw e (h q (ap (λ w. next_define units class (Some (record { at = i.at; value = w }))) s ∙ e))

stable : (units : List KitUnits) (n m : ℕ) (o : Owned) → Ends units n (Some o) → n ≤ m →
    define_within units n o ≡ define_within units m o
stable units zero m o e le = absurd e
stable units (suc n) zero o e le = absurd (omega (arith, le))
stable units (suc n) (suc m) o e le =
    ap
    (read_constant (type_of units o.kit o.member.kind))
    (by_value (λ q g. stable units n m q (subst (Ends units n) g e) (omega (arith, le)))
    (form_value o.member.form) refl)
  where
    by_value : ((q : Owned) → next units o ≡ Some q → define_within units n q ≡ define_within units m q) →
        (v : Option Init) → form_value o.member.form ≡ v →
        value_constant (define_within units n) units o.class v ≡ value_constant (define_within units m) units o.class v
    by_value h None s = refl
    by_value h (Some i) s =
        same_value units o.class i.value i refl n m (λ q g. h q (ap (next_define units o.class) s ∙ g))

-- ---- so each define reads as a number

-- what the value of a define comes to, where those that it names read as numbers
known_value : (units : List KitUnits) (class : ℕ) (v : InitValue) (i : Init) → i.value ≡ v → HasSpelled v →
    ((q : Owned) → next_define units class (Some i) ≡ Some q →
    (x : Value) × (define_within units (member_count units) q ≡ constant.Number x)) →
    IsKnown (init_constant (define_within units (member_count units)) units class v)
known_value units class (init.Literal l) i s k h = known_kind l.kind l.bytes k.one
known_value units class (init.Minus l) i s k h = known_negated (literal_constant l) (known_kind l.kind l.bytes k.one)
known_value units class (init.Name id) i s k h = by_named (define_named units class id.bytes) refl
  where
    by_named : (r : Option Owned) → define_named units class id.bytes ≡ r →
        IsKnown (init_constant (define_within units (member_count units)) units class (init.Name id))
    by_named None e = rw e tt
    by_named (Some q) e =
        let x = h q (ap (λ w. next_define units class (Some (record { at = i.at; value = w }))) s ∙ e) in
        rw e (subst IsKnown (sym x.1) tt)

-- the value goes to the define's type
goes : (units : List KitUnits) → AreFree units → (o : Owned) (d : IsDefine units o) (p : Primitive) (i : Init) →
    form_value o.member.form ≡ Some i →
    is_no_value units o.class (kit_of units o.class) o.member i ≡ false →
    type_of units (kit_of units o.class) o.member.kind ≡ type.Prim p →
    takes p (constant_of units o.class i) ≡ true
goes units f o d p i s n t =
    denied
    (takes p (constant_of units o.class i))
    (sym (ap (is_no_value_of units o.class i) t)
    ∙ or_right
    (is_inline o.member)
    (is_no_value_of units o.class i (type_of units (kit_of units o.class) o.member.kind))
    (or_left
    (is_inline o.member || is_no_value_of units o.class i (type_of units (kit_of units o.class) o.member.kind))
    (is_define o.member && define_leads_back units o.class o.member)
    n))
  where
    denied : (b : Bool) → not b ≡ false → b ≡ true
    denied true e = refl
    denied false e = cc

reads : (units : List KitUnits) → AreFree units → AreSpelled units → (n : ℕ) (o : Owned) → IsDefine units o →
    Ends units n (Some o) → n ≤ member_count units →
    (m : ℕ) → n ≤ m → (x : Value) × (define_within units m o ≡ constant.Number x)
reads units f a zero o d e most m le = absurd e
reads units f a (suc n) o d e most zero le = absurd (omega (arith, le))
reads units f a (suc n) o d e most (suc m) le =
    let v = define_valued units f o d in
    let t = define_typed units f o d in
    let spelled : HasSpelled v.0.value = subst IsValueSpelled v.1 (a.values o.class d.at o.member d.there) in
    let takes_it : takes t.0 (constant_of units o.class v.0) ≡ true = goes units f o d t.0 v.0 v.1 v.2 t.1 in
    let known : IsKnown (constant_of units o.class v.0) =
    known_value
    units
    o.class
    v.0.value
    v.0
    refl
    spelled
    (λ q g.
    let on : next units o ≡ Some q = ap (next_define units o.class) v.1 ∙ g in
    reads units f a n q (next_is units o q on) (subst (Ends units n) on e) (omega (arith, most)) (member_count units)
    (omega (arith, most))) in
    let same : value_constant (define_within units m) units o.class (form_value o.member.form)
    ≡ constant_of units o.class v.0 =
    ap (value_constant (define_within units m) units o.class) v.1
    ∙ same_value
    units
    o.class
    v.0.value
    v.0
    refl
    m
    (member_count units)
    (λ q g.
    let on : Ends units n (Some q) = subst (Ends units n) (ap (next_define units o.class) v.1 ∙ g) e in
    sym (stable units n m q on (omega (arith, le))) ∙ stable units n (member_count units) q on (omega (arith, most))) in
    let number = read_number t.0 (constant_of units o.class v.0) takes_it known in (
      number.0,
      ap (λ kit. read_constant (type_of units kit o.member.kind) (value_constant (define_within units m) units o.class
          (form_value o.member.form))) d.kit
          ∙ ap (λ k. read_constant k (value_constant (define_within units m) units o.class
          (form_value o.member.form))) t.1
          ∙ ap (read_constant (type.Prim t.0)) same
          ∙ number.1,
    )

-- ---- what a define reads as

plain_there : (c : Constant) (x : Value) → c ≡ constant.Number x → IsGood c → IsSomeAnd (plain_constant c) IsConstant
plain_there c x e g = subst (λ k. IsSomeAnd (plain_constant k) IsConstant) (sym e) (by_number x (subst IsGood e g))
  where
    by_number : (x : Value) → IsGoodValue x → IsSomeAnd (plain_constant (constant.Number x)) IsConstant
    by_number (value.Bool t) g = g
    by_number (value.Byte n) g = absurd g
    by_number (value.Short n) g = absurd g
    by_number (value.Int n) g = g
    by_number (value.Long n) g = g
    by_number (value.Buf bytes) g = absurd g
    by_number value.Nothing g = absurd g

known_of : (units : List KitUnits) → AreFree units → AreSpelled units → (n : ℕ) (o : Owned) → IsDefine units o →
    Ends units n (Some o) → n ≤ member_count units →
    (i : Init) → form_value o.member.form ≡ Some i → IsKnown (constant_of units o.class i)
known_of units f a zero o d e most i v = absurd e
known_of units f a (suc n) o d e most i v =
    known_value
    units
    o.class
    i.value
    i
    refl
    (subst IsValueSpelled v (a.values o.class d.at o.member d.there))
    (λ q g.
    let on : next units o ≡ Some q = ap (next_define units o.class) v ∙ g in
    reads units f a n q (next_is units o q on) (subst (Ends units n) on e) (omega (arith, most)) (member_count units)
    (omega (arith, most)))

one_define : (units : List KitUnits) → AreFree units → AreSpelled units → (o : Owned) → IsDefine units o →
    IsSomeAnd (define_constant units o) IsConstant
one_define units f a o d =
    let v = define_valued units f o d in
    let t = define_typed units f o d in
    let takes_it : takes t.0 (constant_of units o.class v.0) ≡ true = goes units f o d t.0 v.0 v.1 v.2 t.1 in
    let known : IsKnown (constant_of units o.class v.0) = known_of units f a (member_count units) o d
    (ends units f o d) (omega arith) v.0 v.1 in
    let number = read_number t.0 (constant_of units o.class v.0) takes_it known in
    let good : IsGood (read_constant (type.Prim t.0) (constant_of units o.class v.0)) =
    read_good (type.Prim t.0) (constant_of units o.class v.0) (constant_good units a o.class v.0
    (subst IsValueSpelled v.1 (a.values o.class d.at o.member d.there))) in
    let read : define_constant units o ≡ plain_constant (read_constant (type.Prim t.0)
    (constant_of units o.class v.0)) =
    ap (λ w. plain_constant (define_value units o w)) v.1
    ∙ ap (λ k. plain_constant (read_constant k (constant_of units o.class v.0))) (ap
    (λ kit. type_of units kit o.member.kind) d.kit ∙ t.1) in
    subst (λ r. IsSomeAnd r IsConstant) (sym read) (plain_there (read_constant (type.Prim t.0)
    (constant_of units o.class v.0)) number.0 number.1 good)

pub have_defines : (units : List KitUnits) → AreFree units → AreSpelled units → HaveDefines units
have_defines units f a = record {
  value = λ c i m e define.
      one_define units f a (owned c (kit_of units c) m) (record { at = i; there = e; kit = refl; define = define });
}
