-- Rows of fields and slots of which one begins with another.
use Rattle.std.proofs.Common.{◌≡◌, ℕ, ◌+◌, ◌==◌, Bool, true, List, [], ◌∷◌, ◌++◌, map, refl, sym, ap, ◌∙◌}
use Rattle.std.specs.Str.{bytes_eq}
use Rattle.std.proofs.lemmas.Bool.{and_parts, eqb-true}
use Rattle.std.proofs.lemmas.List.{map-append}
use Rattle.std.proofs.lemmas.Slice.Eq.{bytes_eq-Decides}
use Rattle.sed_typed.specs.TypedSchema.{Begins}
use Rattle.scode_image.specs.declared.image.ImageField.{ImageField}
use Rattle.scode_image.specs.declared.image.ImageSlot.{ImageSlot}
use Rattle.scode_code.specs.TableRules as rule
use Rattle.scode_whole.proofs.Truths.{no_truth, three, five}
pub use Rattle.sed_value.proofs.Lists.{stands_in_front as stands_on}

-- fields with the same parts are one
abbrev made_field : ℕ → ℕ → ℕ → ImageField
made_field offset form n = record { offset = offset; form = form; n = n }

pub one_field : (f g : ImageField) → rule.same_field f g ≡ true → f ≡ g
one_field f g h =
    let p = three (f.offset == g.offset) (f.form == g.form) (f.n == g.n) h in
    ap (λ (k : ℕ). made_field k f.form f.n) (eqb-true f.offset g.offset p.0)
    ∙ ap (λ (k : ℕ). made_field g.offset k f.n) (eqb-true f.form g.form p.1)
    ∙ ap (λ (k : ℕ). made_field g.offset g.form k) (eqb-true f.n g.n p.2)

abbrev made_slot : List ℕ → ℕ → ℕ → ℕ → ℕ → ImageSlot
made_slot name form place n config = record { name = name; form = form; place = place; n = n; config = config }

pub one_slot : (s t : ImageSlot) → rule.same_slot s t ≡ true → s ≡ t
one_slot s t h =
    let p = five (bytes_eq s.name t.name) (s.form == t.form) (s.place == t.place) (s.n == t.n)
    (s.config == t.config) h in
    ap (λ (k : List ℕ). made_slot k s.form s.place s.n s.config) ((bytes_eq-Decides s.name t.name).0 p.0)
    ∙ ap (λ (k : ℕ). made_slot t.name k s.place s.n s.config) (eqb-true s.form t.form p.1)
    ∙ ap (λ (k : ℕ). made_slot t.name t.form k s.n s.config) (eqb-true s.place t.place p.2)
    ∙ ap (λ (k : ℕ). made_slot t.name t.form t.place k s.config) (eqb-true s.n t.n p.3)
    ∙ ap (λ (k : ℕ). made_slot t.name t.form t.place t.n k) (eqb-true s.config t.config p.4)

pub begins_with : {A : Type 0} (same : A → A → Bool) → ((x y : A) → same x y ≡ true → x ≡ y) → (xs ys : List A)
    → rule.begins same xs ys ≡ true → (rest : List A) × (ys ≡ xs ++ rest)
begins_with same one [] ys h = (ys, refl)
begins_with same one (x ∷ xs) [] h = no_truth h
begins_with {A} same one (x ∷ xs) (y ∷ ys) h =
    let p = and_parts (same x y) (rule.begins same xs ys) h in
    let more = begins_with same one xs ys p.1 in
    (more.0, ap (λ (z : A). z ∷ ys) (sym (one x y p.0)) ∙ ap (λ (zs : List A). x ∷ zs) more.1)

-- what is mapped begins so too
pub begins_mapped : {A B : Type 0} (f : A → B) (xs ys rest : List A) → ys ≡ xs ++ rest → Begins (map f xs) (map f ys)
begins_mapped {A} {B} f xs ys rest e = (map f rest, ap (map f) e ∙ map-append f xs rest)
