-- Going from define to define.
use Rattle.std.proofs.Common.{◌≡◌, ◌<◌, ◌≤◌, ◌+◌, ◌-◌, ◌==◌, if◌then◌else◌, ◌&&◌, ◌||◌, Bool, true, false, ℕ, zero, suc, List, [], ◌∷◌, ◌++◌, drop, take, length, get_or, slice_get, Option, Some, None, refl, sym, ap, ◌∙◌, arith}
use Rattle.std.specs.List.{sum_by}
use Rattle.std.specs.Option.{option_map_or}
use Rattle.std.proofs.Math.Numerals.{add-one}
use Rattle.std.proofs.Math.Seq.{drop-cons}
use Rattle.sed_value.proofs.Found.{sum_taken}
use Rattle.sed_units.specs.declared.leaves.Init.{Init}
use Rattle.sed_units.specs.declared.leaves.InitValue.{InitValue}
use Rattle.sed_units.specs.declared.leaves.InitValue.TheVariants as init
use Rattle.sed_classes.specs.declared.kit_units.KitUnits.{KitUnits}
use Rattle.sed_classes.specs.declared.source_type.Constant.{Constant}
use Rattle.sed_classes.specs.declared.source_type.SourceType.{SourceType}
use Rattle.sed_classes.specs.Types.{type_of}
use Rattle.sed_classes.specs.Members.{Owned, form_value}
use Rattle.sed_classes.specs.Values.{comes_to_member, constant_of, define_within, member_count, next_define, read_constant, value_constant}
use Rattle.sed_classes.specs.Literals.{characters_in}
use Rattle.sed_rules.specs.Reading.{begins_escape, ended, left_over, plain_value, reached, read_back}

-- one more define at the end of the row
read_more : (ts : List SourceType) (t : SourceType) (c : Constant) → read_back (ts ++ t ∷ []) c ≡ read_back ts (read_constant t c)
read_more [] t c = refl
read_more (u ∷ ts) t c = ap (read_constant u) (read_more ts t c)

abbrev pub with_value : Init → InitValue → Init
with_value i v = record { at = i.at; value = v }

-- the value of a member that names a define is what that reads
init_next : (read : Owned → Constant) (units : List KitUnits) (class : ℕ) (i : Init) (v : InitValue) (o : Owned) →
    next_define units class (Some (with_value i v)) ≡ Some o → value_constant read units class (Some (with_value i v)) ≡ read o
init_next read units class i (init.Literal l) o e = cc
init_next read units class i (init.Minus l) o e = cc
init_next read units class i (init.Name id) o e = rw e refl

value_next : (read : Owned → Constant) (units : List KitUnits) (class : ℕ) (value : Option Init) (o : Owned) →
    next_define units class value ≡ Some o → value_constant read units class value ≡ read o
value_next read units class None o e = cc
value_next read units class (Some i) o e = init_next read units class i i.value o e

-- one that names none is what it is by itself
init_plain : (read : Owned → Constant) (units : List KitUnits) (class : ℕ) (i : Init) (v : InitValue) →
    next_define units class (Some (with_value i v)) ≡ None →
    value_constant read units class (Some (with_value i v)) ≡ plain_value (Some (with_value i v))
init_plain read units class i (init.Literal l) e = refl
init_plain read units class i (init.Minus l) e = refl
init_plain read units class i (init.Name id) e = rw e refl

pub value_plain : (read : Owned → Constant) (units : List KitUnits) (class : ℕ) (value : Option Init) →
    next_define units class value ≡ None → value_constant read units class value ≡ plain_value value
value_plain read units class None e = refl
value_plain read units class (Some i) e = init_plain read units class i i.value e

-- ---- the loop from define to define

-- what the define at hand reads, told by its value
abbrev pub value_at : List KitUnits → ℕ → Owned → Constant
value_at units left o = value_constant (define_within units left) units o.class (form_value o.member.form)

pub within_one : (units : List KitUnits) (left : ℕ) (o : Owned) → 0 < left →
    define_within units left o ≡ read_constant (type_of units o.kit o.member.kind) (value_at units (left - 1) o)
within_one units zero o some = absurd (omega arith)
within_one units (suc n) o some =
    let e : n ≡ suc n - 1 = omega arith in
    ap (λ k. read_constant (type_of units o.kit o.member.kind) (value_at units k o)) e

pub value_reached : (units : List KitUnits) (left class : ℕ) (value : Option Init) →
    value_constant (define_within units left) units class value
    ≡ reached units left (next_define units class value) (plain_value value)
value_reached units left class value = by_next (next_define units class value) refl
  where
    by_next : (o : Option Owned) → next_define units class value ≡ o →
        value_constant (define_within units left) units class value ≡ reached units left o (plain_value value)
    by_next None e = value_plain (define_within units left) units class value e
    by_next (Some o) e = value_next (define_within units left) units class value o e

pub begun : (units : List KitUnits) (left class : ℕ) (i : Init) (next : Option Owned) (last : Constant) →
    left ≡ member_count units → next ≡ next_define units class (Some i) → last ≡ plain_value (Some i) →
    reached units left next last ≡ constant_of units class i
begun units left class i next last l n p =
    ap (λ k. reached units k next last) l
    ∙ ap (λ o. reached units (member_count units) o last) n
    ∙ ap (reached units (member_count units) (next_define units class (Some i))) p
    ∙ sym (value_reached units (member_count units) class (Some i))

pub followed : (units : List KitUnits) (kinds new : List SourceType) (left : ℕ) (o : Owned) (next : Option Owned) (last asked : Constant) →
    0 < left → new ≡ kinds ++ type_of units o.kit o.member.kind ∷ [] →
    next ≡ next_define units o.class (form_value o.member.form) → last ≡ plain_value (form_value o.member.form) →
    read_back kinds (define_within units left o) ≡ asked →
    read_back new (reached units (left - 1) next last) ≡ asked
followed units kinds new left o next last asked some n e p i =
    let kind = type_of units o.kit o.member.kind in
    ap (λ ts. read_back ts (reached units (left - 1) next last)) n
    ∙ read_more kinds kind (reached units (left - 1) next last)
    ∙ ap
    (λ c. read_back kinds (read_constant kind c))
    (ap (λ x. reached units (left - 1) x last) e
    ∙ ap (reached units (left - 1) (next_define units o.class (form_value o.member.form))) p
    ∙ sym (value_reached units (left - 1) o.class (form_value o.member.form)))
    ∙ ap (read_back kinds) (sym (within_one units left o some))
    ∙ i

-- no define is read any more
pub over : (units : List KitUnits) (left : ℕ) (next : Option Owned) (last : Constant) → left ≤ 0 →
    left_over next last ≡ reached units left next last
over units left None last none = refl
over units zero (Some o) last none = refl
over units (suc left) (Some o) last none = absurd (omega arith)

-- ---- reading back

pub read_step : (kinds : List SourceType) (left : ℕ) (kind : SourceType) (constant new last : Constant) →
    0 < left → left ≤ length kinds → get_or kinds (left - 1) kind ≡ kind → new ≡ read_constant kind constant →
    constant ≡ read_back (drop left kinds) last → new ≡ read_back (drop (left - 1) kinds) last
read_step kinds left kind constant new last some within at n c =
    let less : left - 1 < length kinds = omega arith in
    let same : suc (left - 1) ≡ left = omega arith in
    let begins : drop (left - 1) kinds ≡ kind ∷ drop left kinds =
    drop-cons kinds (left - 1) kind less
    ∙ ap (λ y. y ∷ drop (suc (left - 1)) kinds) at
    ∙ ap (λ n. kind ∷ drop n kinds) same in
    n ∙ ap (read_constant kind) c ∙ sym (ap (λ ts. read_back ts last) begins)

-- ---- leading back

abbrev pub is_there : Owned → ℕ → ℕ → Bool
is_there o class at = (o.class == class) && (o.member.at == at)

pub comes_now : (units : List KitUnits) (class at left : ℕ) (o : Owned) → 0 < left → is_there o class at ≡ true →
    true ≡ comes_to_member units class at left (Some o)
comes_now units class at zero o some e = absurd (omega arith)
comes_now units class at (suc n) o some e =
    sym (ap (λ b. b || comes_to_member units class at n (next_define units o.class (form_value o.member.form))) e)

pub comes_never : (units : List KitUnits) (class at left : ℕ) → 0 < left → false ≡ comes_to_member units class at left None
comes_never units class at zero some = refl
comes_never units class at (suc n) some = refl

pub comes_more : (units : List KitUnits) (class at left : ℕ) (o : Owned) → 0 < left → is_there o class at ≡ false →
    comes_to_member units class at left (Some o)
    ≡ comes_to_member units class at (left - 1) (next_define units o.class (form_value o.member.form))
comes_more units class at zero o some e = absurd (omega arith)
comes_more units class at (suc n) o some e =
    let same : n ≡ suc n - 1 = omega arith in
    ap (λ b. b || comes_to_member units class at n (next_define units o.class (form_value o.member.form))) e
    ∙ ap (λ k. comes_to_member units class at k (next_define units o.class (form_value o.member.form))) same

-- ---- characters of a text

one_ended : (s : Bool) (b : ℕ) (bs : List ℕ) →
    length (characters_in s (b ∷ bs)) ≡ ended (begins_escape s b) + length (characters_in (begins_escape s b) bs)
one_ended true b bs = omega arith
one_ended false b bs = by_test (b == 92)
  where
    by_test : (t : Bool) →
        length (if t then characters_in true bs else b ∷ characters_in false bs) ≡ ended t + length (characters_in t bs)
    by_test true = omega arith
    by_test false = omega arith

pub counted : (bytes : List ℕ) (i byte count new : ℕ) (slashed now : Bool) → i < length bytes → get_or bytes i byte ≡ byte →
    now ≡ begins_escape slashed byte → new ≡ count + ended now →
    count + length (characters_in slashed (drop i bytes)) ≡ length (characters_in false bytes) →
    new + length (characters_in now (drop (i + 1) bytes)) ≡ length (characters_in false bytes)
counted bytes i byte count new slashed now h at n w f =
    let begins : drop i bytes ≡ byte ∷ drop (i + 1) bytes =
    drop-cons bytes i byte h ∙ ap (λ y. y ∷ drop (suc i) bytes) at ∙ ap (λ k. byte ∷ drop k bytes) (sym (add-one i)) in
    let here : length (characters_in slashed (drop i bytes)) ≡ ended now + length (characters_in now (drop (i + 1) bytes)) =
    ap (λ r. length (characters_in slashed r)) begins
    ∙ one_ended slashed byte (drop (i + 1) bytes)
    ∙ ap (λ b. ended b + length (characters_in b (drop (i + 1) bytes))) (sym n) in
    omega (arith, here, w, f)

-- ---- members of all classes

pub sum_more : {X : Type 0} (count : X → ℕ) (i : ℕ) (xs : List X) (far one new : ℕ) →
    one ≡ option_map_or count (slice_get xs i) 0 → new ≡ far + one → far ≡ sum_by count (take i xs) →
    new ≡ sum_by count (take (i + 1) xs)
sum_more count i xs far one new o n f =
    n
    ∙ ap (λ k. k + one) f
    ∙ ap (λ k. sum_by count (take i xs) + k) o
    ∙ sym (ap (λ k. sum_by count (take k xs)) (add-one i) ∙ sum_taken count i xs)
