-- What names mean in units is what their program has.
use Rattle.std.proofs.Common.{◌≡◌, ◌<◌, ◌==◌, ℕ, Bool, List, length, reverse, slice_get, Option, Some, None, IfSome, refl, sym, ap, ◌∙◌}
use Rattle.std.specs.Option.{option_and_then, option_map}
use Rattle.std.specs.Str.{bytes_eq}
use Rattle.sed_typed.specs.declared.kind.Kind.{Kind}
use Rattle.sed_typed.specs.declared.kind.Kind.TheVariants as kind
use Rattle.sed_typed.specs.declared.program.Field.{Field}
use Rattle.sed_typed.specs.declared.program.Program.{Program}
use Rattle.sed_typed.specs.Classes as typed
use Rattle.sed_typed.specs.TypedExpr.{Context, IsKindOf, field_form, part_kind, static_form}
use Rattle.sed_units.specs.declared.classes.Member.{Member}
use Rattle.sed_classes.specs.declared.kit_units.KitUnits.{KitUnits}
use Rattle.sed_classes.specs.Members.{kit_of}
use Rattle.sed_first_fault.specs.Texts.{text_spelled}
use Rattle.sed_program.specs.Fields.{all_fields, own_fields, own_statics}
use Rattle.sed_program.specs.Meaning.{names_of}
use Rattle.sed_program.specs.Outlined.{IsOutlined}
use Rattle.sed_program.specs.Texts.{number_among, program_texts, text_number}
use Rattle.sed_member_laws.specs.Literals.{AreSpelled}
use Rattle.sed_check.proofs.Defines.{have_defines}
use Rattle.sed_check.specs.Means.{HaveDefines, Means}
use Rattle.sed_program.specs.Ordered.{IsOrdered}
use Rattle.sed_member_laws.specs.Faultless.{AreFree}
use Rattle.sed_member_laws.proofs.Flat.{filtered_in, flat_in}
use Rattle.sed_check.proofs.Called.{methods_mean}
use Rattle.sed_check.proofs.MeantStanding.{members_mean}
use Rattle.sed_program.proofs.OrderLists.{position_within}
use Rattle.sed_member_laws.proofs.Behind.{field_from, part_there, results_agree}
use Rattle.sed_member_laws.proofs.Placed.{base_agrees, below_agrees}

-- ---- the classes of forms

form_there : (units : List KitUnits) (program : Program) → IsOrdered units program → (own : ℕ →
    List Member) (n : ℕ) (x : Field) →
    slice_get (all_fields units own) n ≡ Some x → (k : Kind) → part_kind x.form ≡ Some k → IsKindOf program k
form_there units program o own n x e k g =
    let d = field_from units own n x e in
    part_there units program o (kit_of units d.class) d.member d.form d.has k (ap (λ
    (y : Field). part_kind y.form) d.is ∙ g)

fields_agree : (units : List KitUnits) (program : Program) → IsOrdered units program → IsOutlined units program →
    (x : Kind) (i : ℕ) (k : Kind) →
    option_and_then part_kind (field_form program x i) ≡ Some k → IsKindOf program k
fields_agree units program o p kind.Void i k e = cc
fields_agree units program o p kind.Bool i k e = cc
fields_agree units program o p kind.Int i k e = cc
fields_agree units program o p kind.Long i k e = cc
fields_agree units program o p kind.Text i k e = cc
fields_agree units program o p (kind.Object t) i k e = by_found (slice_get (typed.fields program t.0) i) refl e
  where
    by_found : (r : Option Field) → slice_get (typed.fields program t.0) i ≡ r →
        option_and_then part_kind (option_map (λ (f : Field). f.form) r) ≡ Some k → IsKindOf program k
    by_found None s g = cc
    by_found (Some f) s g =
        let flat = flat_in (typed.declared_fields program.fields) (reverse
        (typed.lineage program.schema.classes t.0)) i f s in
        let own = filtered_in (λ (y : Field). y.class.0 == flat.2) program.fields flat.1 f flat.4 in
        form_there units program o (own_fields units) own.0 f (ap (λ l. slice_get l own.0) (sym p.fields) ∙ own.1) k g

statics_agree : (units : List KitUnits) (program : Program) → IsOrdered units program → IsOutlined units program →
    (i : ℕ) (k : Kind) →
    option_and_then part_kind (static_form program i) ≡ Some k → IsKindOf program k
statics_agree units program o p i k e = by_found (slice_get program.statics i) refl e
  where
    by_found : (r : Option Field) → slice_get program.statics i ≡ r →
        option_and_then part_kind (option_map (λ (f : Field). f.form) r) ≡ Some k → IsKindOf program k
    by_found None s g = cc
    by_found (Some f) s g = form_there units program o (own_statics units) i f (ap (λ l. slice_get l i) (sym p.statics)
        ∙ s) k g

-- ---- texts

texts_agree : (units : List KitUnits) (program : Program) → IsOutlined units program → (literal : List ℕ) →
    IfSome (text_number units literal) (λ i. i < length program.texts)
texts_agree units program p literal = by_text (text_spelled literal)
  where
    by_number : (text : List ℕ) (n : Option ℕ) → number_among (program_texts units) text ≡ n →
        IfSome n (λ i. i < length program.texts)
    by_number text None e = tt
    by_number text (Some i) e =
        let within : i < length (program_texts units) = position_within (λ t. bytes_eq t text)
        (program_texts units) i e in
        rw p.texts within

    by_text : (t : Option (List ℕ)) → IfSome (option_and_then (number_among (program_texts units)) t)
        (λ i. i < length program.texts)
    by_text None = tt
    by_text (Some text) = by_number text (number_among (program_texts units) text) refl

-- ---- all together

pub means : (units : List KitUnits) (c : Context) (kit : ℕ) → AreFree units → HaveDefines units →
    IsOrdered units c.program → IsOutlined units c.program →
    Means c (names_of units kit)
means units c kit f v o p = record {
  results = results_agree units c.program f o p;
  fields = fields_agree units c.program o p;
  statics = statics_agree units c.program o p;
  below = below_agrees units c.program o;
  base = base_agrees units c.program o;
  members = members_mean units c f v o p;
  methods = methods_mean units c f o p;
  texts = texts_agree units c.program p;
}

pub names_mean : (units : List KitUnits) (c : Context) (kit : ℕ) → AreFree units → AreSpelled units →
    IsOrdered units c.program → IsOutlined units c.program →
    Means c (names_of units kit)
names_mean units c kit f a o p = means units c kit f (have_defines units f a) o p
