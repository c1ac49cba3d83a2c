-- What a class inherits comes first, along any number of bases.
use Rattle.std.proofs.Common.{◌≡◌, ℕ, zero, suc, ◌<◌, ◌≤◌, ◌==◌, Bool, false, cond, get_or, List, [], ◌∷◌, ◌++◌, length, reverse, take, Option, Some, None, refl, sym, ap, ◌∙◌, arith, append_assoc}
use Rattle.std.specs.Prelude.{All, IsTrue}
use Rattle.std.specs.List.{flat_map, sum_by}
use Rattle.std.specs.Option.{option_and_then, option_map}
use Rattle.std.proofs.lemmas.Grind.{reverse_onto, flat_map-append}
use Rattle.std.proofs.lemmas.List.{append-nil, take-append-le}
use Rattle.std.proofs.lemmas.List.Concat.{flat_map-cons}
use Rattle.std.proofs.lemmas.List.Elements.{All-nil, All-append, All-filter, All-head, All-tail}
use Rattle.std.proofs.lemmas.Option.{slice_get_past}
use Rattle.sed_typed.specs.declared.program.Field.{Field}
use Rattle.sed_typed.specs.declared.program.Program.{Program}
use Rattle.sed_typed.specs.declared.schema.ClassInfo.{ClassInfo}
use Rattle.sed_typed.specs.Classes.{base_of, reached, lineage, declared_fields, fields}
use Rattle.sed_typed.specs.Typed.{Typed}
use Rattle.sed_typed.specs.TypedSchema.{Begins, is_below}
use Rattle.sed_typed.proofs.Lineages.{going_down, lineage_alone, lineage_of_base, none_reached}
use Rattle.sed_layout.specs.Offsets.{KeepsFields, field_width}

-- ---- by the base

own_fields : (program : Program) (class : ℕ) → flat_map (declared_fields program.fields) (class ∷ []) ≡ declared_fields program.fields class
own_fields program class = flat_map-cons (declared_fields program.fields) class [] ∙ append-nil (declared_fields program.fields class)

pub fields_of_base : (program : Program) → Typed program → (class base : ℕ) → base_of program.schema.classes class ≡ Some base →
    fields program class ≡ fields program base ++ declared_fields program.fields class
fields_of_base program typed class base e =
    let line : List ℕ = lineage program.schema.classes base in
    ap (λ (all : List ℕ). flat_map (declared_fields program.fields) (reverse all)) (lineage_of_base program typed class base e)
    ∙ ap (flat_map (declared_fields program.fields)) (reverse_onto line class [])
    ∙ flat_map-append (declared_fields program.fields) (reverse line) (class ∷ [])
    ∙ ap (λ (own : List Field). fields program base ++ own) (own_fields program class)

pub fields_alone : (program : Program) (class : ℕ) → class < length program.schema.classes → base_of program.schema.classes class ≡ None →
    fields program class ≡ declared_fields program.fields class
fields_alone program class h e =
    ap (λ (all : List ℕ). flat_map (declared_fields program.fields) (reverse all)) (lineage_alone program.schema.classes class (omega (arith, h)) e) ∙ own_fields program class

-- ---- of a class that is not there

no_class : (classes : List ClassInfo) (class : ℕ) → length classes ≤ class → base_of classes class ≡ None
no_class classes class h = ap (option_and_then (λ (info : ClassInfo). option_map (λ b. b.0) info.base)) (slice_get_past classes class h)

declares_none : (class : ℕ) (all : List Field) → All (λ f. f.class.0 < class) all → declared_fields all class ≡ []
declares_none class [] h = refl
declares_none class (f ∷ fs) h =
    let less : f.class.0 < class = All-head (λ g. g.class.0 < class) f fs h in
    let other : (f.class.0 == class) ≡ false = grind arith in
    let rest = declares_none class fs (All-tail (λ g. g.class.0 < class) f fs h) in
    ap (λ (b : Bool). cond b (f ∷ declared_fields fs class) (declared_fields fs class)) other ∙ rest

pub fields_beyond : (program : Program) → Typed program → (class : ℕ) → length program.schema.classes ≤ class → fields program class ≡ []
fields_beyond program typed class h = by_count (length program.schema.classes)
  where
    none : declared_fields program.fields class ≡ []
    none = declares_none class program.fields (λ i d lt. let below : (get_or program.fields i d).class.0 < length program.schema.classes = (typed.fields i d lt).class in omega arith)

    by_count : (n : ℕ) → flat_map (declared_fields program.fields) (reverse (reached (base_of program.schema.classes) n (Some class))) ≡ []
    by_count zero = refl
    by_count (suc n) =
        ap (λ (o : Option ℕ). flat_map (declared_fields program.fields) (reverse (class ∷ reached (base_of program.schema.classes) n o))) (no_class program.schema.classes class h)
        ∙ ap (λ (rest : List ℕ). flat_map (declared_fields program.fields) (reverse (class ∷ rest))) (none_reached (base_of program.schema.classes) n)
        ∙ own_fields program class
        ∙ none

-- ---- what holds of all

each_of : (P : Field → Type 0) (all : List Field) → All P all → (classes : List ℕ) → All P (flat_map (declared_fields all) classes)
each_of P all h [] = All-nil P
each_of P all h (c ∷ cs) =
    All-append P (declared_fields all c) (flat_map (declared_fields all) cs) (All-filter (λ f. f.class.0 == c) P all h) (each_of P all h cs)

-- what holds of each field of a program holds of each field of a class
pub of_fields : (P : Field → Type 0) (program : Program) → All P program.fields → (class : ℕ) → All P (fields program class)
of_fields P program h class = each_of P program.fields h (reverse (lineage program.schema.classes class))

-- ---- along bases

-- a list that goes on from that of the base begins with that of each class above
pub begin_alike : {X : Type 0} (all own : ℕ → List X) (classes : List ClassInfo) → ((class base : ℕ) → base_of classes class ≡ Some base → all class ≡ all base ++ own class) →
    (above class : ℕ) → IsTrue (is_below classes above class) → Begins (all above) (all class)
begin_alike {X} all own classes grows above class h =
    going_down classes (λ c. Begins (all above) (all c)) above ([], sym (append-nil (all above)))
    (λ c base e front. (
      front.0 ++ own c,
      grows c base e ∙ ap (λ (xs : List X). xs ++ own c) front.1 ∙ append_assoc (all above) front.0 (own c),
    ))
    class h

-- ---- fields keep their offsets

kept : (program : Program) (above class : ℕ) → Begins (fields program above) (fields program class) → KeepsFields program above class
kept program above class front = record {
  first = front;
  offsets = λ number h.
      ap (λ (all : List Field). sum_by (field_width program) (take number all)) front.1
      ∙ ap (sum_by (field_width program)) (take-append-le number (fields program above) front.0 (let less : number < length (fields program above) = h in omega arith));
}

pub base_fields : (program : Program) → Typed program → (class base : ℕ) → base_of program.schema.classes class ≡ Some base → KeepsFields program base class
base_fields program typed class base e = kept program base class (declared_fields program.fields class, fields_of_base program typed class base e)

pub above_fields : (program : Program) → Typed program → (above class : ℕ) → IsTrue (is_below program.schema.classes above class) → KeepsFields program above class
above_fields program typed above class h =
    kept program above class
    (begin_alike (fields program) (declared_fields program.fields) program.schema.classes (fields_of_base program typed) above class h)
