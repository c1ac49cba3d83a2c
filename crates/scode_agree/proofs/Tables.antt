-- The tables of classes: which methods stand there, and that an override has the signature of what it overrides.
use Rattle.std.proofs.Common.{◌≡◌, ℕ, ◌==◌, ◌&&◌, ◌||◌, Bool, true, false, not, List, [], ◌∷◌}
use Rattle.std.proofs.Common.{map, Option, Some, None, refl, ap, sym, subst, ◌∙◌}
use Rattle.std.specs.Prelude.{IfSome, IsSomeAnd, is_none, slice_get}
use Rattle.std.specs.Option.{option_and_then, option_map, option_map_or}
use Rattle.std.proofs.lemmas.Bool.{and_from, eq-eqb, or_left, or_right}
use Rattle.std.proofs.lemmas.Option.{none-some, same_Some, slice_get-map, slice_get_within}
use Rattle.sed_typed.specs.declared.kind.Kind.{Kind}
use Rattle.sed_typed.specs.declared.program.Method.{Method}
use Rattle.sed_typed.specs.declared.program.Program.{Program}
use Rattle.sed_typed.specs.declared.schema.ClassInfo.{ClassInfo}
use Rattle.sed_typed.specs.declared.schema.Schema.{Schema}
use Rattle.sed_typed.specs.Classes.{find, method_name}
use Rattle.sed_typed.specs.Typed.{HasBodies}
use Rattle.sed_typed.specs.TypedSchema.{is_abstract as is_abstract_in, is_below}
use Rattle.sed_typed.specs.Virtual.{virtual_names}
use Rattle.sed_engine.proofs.Below.{Based, FoundFor, Itself, found_below, of_some}
use Rattle.sed_layout.specs.MethodTables.{KeepsPlaces, MayStand, table_of}
use Rattle.scode_image.specs.declared.image.ImageClass.{ImageClass}
use Rattle.scode_image.specs.declared.image.ImageKind.{ImageKind}
use Rattle.scode_image.specs.declared.image.ImageMethod.{ImageMethod}
use Rattle.scode_code.specs.Calls.{is_instance}
use Rattle.scode_code.specs.CodeRules.{is_abstract}
use Rattle.scode_code.specs.Kinds.{is_at_or_above, same_kind}
use Rattle.scode_code.specs.TableRules.{is_abstract_class, may_stand_in_table, none_or, same_kinds, same_signature}
use Rattle.scode_code.specs.TableRules.{table_keeps_signatures, table_methods_fit, with_base}
use Rattle.scode_entries.specs.Entries.{cell_of}
use Rattle.scode_entries.specs.Method.{image_method}
use Rattle.scode_gen.specs.Classes.{image_class}
use Rattle.scode_gen.specs.Generated.{image_layout, image_of}
use Rattle.scode_made.proofs.MadeMethods.{by_flags, by_two, with_body}
use Rattle.scode_made.proofs.MadeSchema.{schema_back}
use Rattle.scode_made.proofs.Places.{all_at, in_front}
use Rattle.scode_agree.proofs.Given.{IsGiven}
use Rattle.scode_agree.proofs.Infos.{IsBased, base_passes, told_back}
use Rattle.scode_agree.proofs.Lines.{below_base}
use Rattle.scode_agree.proofs.Signatures.{method_there}
use Rattle.scode_agree.proofs.Tests.{HasLike, begin_by, each_passes, three}

pub kind_itself : (k : ImageKind) → same_kind k k ≡ true
kind_itself k =
    and_from (k.kind == k.kind) (k.class == k.class) (eq-eqb k.kind k.kind refl) (eq-eqb k.class k.class refl)

kinds_themselves : (ks : List ImageKind) → same_kinds ks ks ≡ true
kinds_themselves [] = refl
kinds_themselves (k ∷ ks) = and_from (same_kind k k) (same_kinds ks ks) (kind_itself k) (kinds_themselves ks)

module _ (program : Program) (is : IsGiven program) where
  -- ---- what stands at a place

  -- a method at a place of a table is the nearest of the name at that place
  record StandsFor (class i : ℕ) (name : List ℕ) : Type 0 where
    number : ℕ
    there : slice_get (table_of program class) i ≡ Some number
    found : find program class name ≡ Some number

  stands_for : (class i : ℕ) (name : List ℕ) → slice_get (virtual_names program class) i ≡ Some name
      → StandsFor class i name
  stands_for class i name at =
      by_number (slice_get (table_of program class) i) refl
      (sym (slice_get-map Some (table_of program class) i)
      ∙ ap (λ (all : List (Option ℕ)). slice_get all i) (is.nearest class)
      ∙ slice_get-map (find program class) (virtual_names program class) i
      ∙ ap (option_map (find program class)) at)
    where
      by_number : (o : Option ℕ) → slice_get (table_of program class) i ≡ o
          → option_map Some o ≡ Some (find program class name) → StandsFor class i name
      by_number None e h = absurd (none-some (find program class name) h)
      by_number (Some n) e h =
          record { number = n; there = e; found = sym (same_Some (Some n) (find program class name) h) }

  name_at : (class i number : ℕ) → slice_get (table_of program class) i ≡ Some number
      → slice_get (virtual_names program class) i ≡ Some (method_name program number)
  name_at class i number at =
      ap (λ (all : List (List ℕ)). slice_get all i) (sym (is.tabled.names class))
      ∙ slice_get-map (method_name program) (table_of program class) i
      ∙ ap (option_map (method_name program)) at

  -- the method at a place
  record IsStanding (class number : ℕ) : Type 0 where
    method : Method
    there : slice_get program.methods number ≡ Some method
    may : MayStand program class method

  is_standing : (class i number : ℕ) → slice_get (table_of program class) i ≡ Some number → IsStanding class number
  is_standing class i number at =
      let may =
      all_at (λ (n : ℕ). IsSomeAnd (slice_get program.methods n) (MayStand program class))
      (table_of program class) i number at (is.stand class) in
      let m = of_some {P = MayStand program class} (slice_get program.methods number) may in
      record { method = m.0; there = m.1; may = m.2 }

  -- ---- signatures

  signed_alike : (a b : ℕ) (x y : Method) → slice_get program.methods a ≡ Some x → slice_get program.methods b ≡ Some y
      → x.params ≡ y.params → x.result ≡ y.result →
      same_signature (image_of program) a b ≡ true
  signed_alike a b x y here above params result =
      ap (λ (o : Option ImageMethod). none_or (option_and_then
      (λ (m : ImageMethod). option_and_then (λ (n : ImageMethod). Some (alike m n))
      (slice_get (image_of program).methods b)) o))
      (method_there program a x here)
      ∙ ap (λ (o : Option ImageMethod). none_or (option_and_then (λ (n : ImageMethod). Some (alike (made x) n)) o))
      (method_there program b y above)
      ∙ and_from (same_kinds (map cell_of x.params) (map cell_of y.params))
      (same_kind (cell_of x.result) (cell_of y.result))
      (ap (λ (ks : List Kind). same_kinds (map cell_of ks) (map cell_of y.params)) params
      ∙ kinds_themselves (map cell_of y.params))
      (ap (λ (k : Kind). same_kind (cell_of k) (cell_of y.result)) result ∙ kind_itself (cell_of y.result))
    where
      made : Method → ImageMethod
      made m = image_method program (image_layout program) m

      alike : ImageMethod → ImageMethod → Bool
      alike m n = same_kinds m.params n.params && same_kind m.result n.result

  module _ (class : ℕ) (info : ClassInfo) (at_class : slice_get program.schema.classes class ≡ Some info) where
    has_like : (base : ℕ) (based : IsBased program class info base) (i b : ℕ)
        → slice_get (table_of program base) i ≡ Some b →
        HasLike (λ (x y : ℕ). same_signature (image_of program) y x) (table_of program class) i b
    has_like base based i b at =
        let name : List ℕ = method_name program b in
        let places : KeepsPlaces program base class =
        is.tabled.keeps_places base class (below_base program is.typed class base based.is based.within) in
        let named = name_at base i b at in
        let above = stands_for base i name named in
        let here = stands_for class i name
        (ap (λ (all : List (List ℕ)). slice_get all i) places.first.1
        ∙ in_front (virtual_names program base) places.first.0 i name named) in
        let same_above : above.number ≡ b = same_Some above.number b (sym above.there ∙ at) in
        let low = is_standing base i b at in
        let call : FoundFor program class name low.method =
        found_below program is.typed base class b name low.method (Based base class based.is Itself)
        (above.found ∙ ap Some same_above) low.there in
        let same_here : call.number ≡ here.number = same_Some call.number here.number (sym call.found ∙ here.found) in
        let at_here : slice_get program.methods here.number ≡ Some call.method =
        subst (λ (n : ℕ). slice_get program.methods n ≡ Some call.method) same_here call.is in
        record {
          like = here.number;
          there = here.there;
          same_as =
              signed_alike here.number b call.method low.method at_here low.there call.same.params call.same.result;
        }

    pub signatures_kept : with_base (image_of program)
        (table_keeps_signatures (image_of program) (image_class program class info))
        (image_class program class info) ≡ true
    signatures_kept =
        base_passes program is.typed is.laid.few_classes
        (table_keeps_signatures (image_of program) (image_class program class info)) class info at_class
        (λ base based. begin_by (λ (x y : ℕ). same_signature (image_of program) y x) (table_of program base)
        (table_of program class) (has_like base based))

    -- ---- which methods stand there

    abbrev own : ImageClass
    own = image_class program class info

    abbrev made : Method → ImageMethod
    made m = image_method program (image_layout program) m

    has_body : (i number : ℕ) (m : Method) → slice_get (table_of program class) i ≡ Some number
        → slice_get program.methods number ≡ Some m → info.is_abstract ≡ false →
        m.body ≡ None → ⊥
    has_body i number m at there concrete =
        let here = stands_for class i (method_name program number) (name_at class i number at) in
        let same : here.number ≡ number = same_Some here.number number (sym here.there ∙ at) in
        let bodies : HasBodies program class =
        is.typed.bodies class (slice_get_within program.schema.classes class info at_class) in
        let abstract_is : is_abstract_in program.schema.classes class ≡ false =
        ap (λ (o : Option ClassInfo). option_map_or (λ (c : ClassInfo). c.is_abstract) o false) at_class ∙ concrete in
        let some = bodies abstract_is number in
        let found : IsSomeAnd (slice_get program.methods here.number) (λ x. x.body ≡ None → ⊥) =
        subst (λ (o : Option ℕ). IfSome o (λ n. IsSomeAnd (slice_get program.methods n) (λ x. x.body ≡ None → ⊥)))
        here.found some in
        let at_number : IsSomeAnd (slice_get program.methods number) (λ x. x.body ≡ None → ⊥) =
        subst (λ (n : ℕ). IsSomeAnd (slice_get program.methods n) (λ x. x.body ≡ None → ⊥)) same found in
        subst (λ (o : Option Method). IsSomeAnd o (λ x. x.body ≡ None → ⊥)) there at_number

    may_stand : (i number : ℕ) (m : Method) → slice_get (table_of program class) i ≡ Some number
        → slice_get program.methods number ≡ Some m → MayStand program class m →
        may_stand_in_table (image_of program) class own (made m) ≡ true
    may_stand i number m at there may =
        three (is_instance (made m)) (is_at_or_above (image_of program) m.class.0 class)
        (not (is_abstract (made m)) || is_abstract_class own)
        (by_flags m.is_static (is_none m.body) ∙ ap not may.instance)
        (ap (λ (s : Schema). is_below s.classes m.class.0 class) (schema_back program is.typed is.laid.few_classes)
        ∙ may.above)
        (by_class info.is_abstract refl)
      where
        said : is_abstract_class own ≡ info.is_abstract
        said =
            ap (λ (x : ClassInfo). x.is_abstract) (told_back program is.typed is.laid.few_classes class info at_class)

        by_class : (b : Bool) → info.is_abstract ≡ b → (not (is_abstract (made m)) || is_abstract_class own) ≡ true
        by_class true e = or_right (not (is_abstract (made m))) (is_abstract_class own) (said ∙ e)
        by_class false e =
            or_left (not (is_abstract (made m))) (is_abstract_class own)
            (ap not (by_two m.is_static (is_none m.body) ∙ with_body m.body (has_body i number m at there e)))

    pub methods_fit : table_methods_fit (image_of program) class own ≡ true
    methods_fit =
        each_passes (λ (n : ℕ). none_or (option_and_then
        (λ (m : ImageMethod). Some (may_stand_in_table (image_of program) class own m))
        (slice_get (image_of program).methods n)))
        (table_of program class)
        (λ i number at.
        let m = is_standing class i number at in
        ap (λ (o : Option ImageMethod). none_or (option_and_then
        (λ (x : ImageMethod). Some (may_stand_in_table (image_of program) class own x)) o))
        (method_there program number m.method m.there)
        ∙ may_stand i number m.method at m.there m.may)
