-- Fields and table methods of classes below others.
use Rattle.std.proofs.Common.{◌≡◌, ◌<◌, ◌==◌, ◌&&◌, ◌||◌, not, nat_le, nat_lt, ℕ, zero, suc, Bool, true, false, if◌then◌else◌, List, [], ◌∷◌, ◌++◌, length, Option, Some, None, refl, sym, ap, subst, ◌∙◌, arith, append_assoc, append-nil}
use Rattle.std.specs.Prelude.{slice_get}
use Rattle.std.specs.List.{list_all}
use Rattle.std.specs.Option.{option_and_then, option_map}
use Rattle.std.proofs.lemmas.Bool.{and_parts, ltb-true}
use Rattle.std.proofs.lemmas.Option.{slice_get_within}
use Rattle.sed_typed.specs.declared.number.TypeNo.{TypeNo}
use Rattle.sed_typed.specs.declared.schema.ClassInfo.{ClassInfo}
use Rattle.sed_typed.specs.Classes.{base_of}
use Rattle.sed_engine.proofs.Below.{Below, Itself, Based, below_of}
use Rattle.scode_image.specs.declared.image.Image.{Image}
use Rattle.scode_image.specs.declared.image.ImageClass.{ImageClass}
use Rattle.scode_image.specs.declared.image.ImageField.{ImageField}
use Rattle.scode_image.specs.declared.image.ImageKind.{ImageKind}
use Rattle.scode_image.specs.declared.image.ImageMethod.{ImageMethod}
use Rattle.scode_image.specs.declared.image.ImageSlot.{ImageSlot}
use Rattle.scode_code.specs.Calls.{is_instance, table_method}
use Rattle.scode_code.specs.CodeRules.{is_abstract}
use Rattle.scode_code.specs.Kinds.{is_at_or_above, same_kind}
use Rattle.scode_code.specs.TableRules as rule
use Rattle.scode_code.specs.Tables.{base_of as own_base, class_fields, class_of as info_of}
use Rattle.scode_whole.proofs.Bases.{fields_at, follows}
use Rattle.scode_whole.proofs.Rows.{begins_with, one_field}
use Rattle.scode_whole.proofs.Truths.{no_truth, no_value, same_value, three, four, of_mapped, passes, through}
use Rattle.scode_sound.specs.Cells.{Concrete}
use Rattle.scode_sound.proofs.Rules.{ClassRule, Tables, class_rule, stands_at}
use Rattle.scode_sound.proofs.Cells.{classes_of, same_kinds}

-- ---- a class and its base

own_is : (base other : ℕ) → option_map (λ (t : TypeNo). t.0) (own_base base) ≡ Some other → base ≡ other
own_is base other e = by_test (base == 0xffff) e
  where
    by_test : (b : Bool) → option_map (λ (t : TypeNo). t.0) (if b then None else Some (record { 0 = base }))
        ≡ Some other → base ≡ other
    by_test true e = no_value other e
    by_test false e = same_value base other e

pub record Grows (image : Image) (class base : ℕ) : Type 0 where
  pub c : ImageClass
  pub b : ImageClass
  pub here : slice_get image.classes class ≡ Some c
  pub above : slice_get image.classes base ≡ Some b
  pub grows : rule.grows_from_base c b ≡ true
  pub keeps : rule.table_keeps_signatures image c b ≡ true

of_base : (o : Option ImageClass) (b : ImageClass) (test : ImageClass → Bool) → o ≡ Some b
    → rule.none_or (option_and_then (λ x. Some (test x)) o) ≡ true → test b ≡ true
of_base o b test e h =
    sym (ap (λ (p : Option ImageClass). rule.none_or (option_and_then (λ x. Some (test x)) p)) e) ∙ h

grows_of : (image : Image) → Tables image → (class base : ℕ) → base_of (classes_of image) class ≡ Some base
    → Grows image class base
grows_of image is class base e =
    let t = through (λ (info : ClassInfo). option_map (λ (b : TypeNo). b.0) info.base)
    (slice_get (classes_of image) class) base e in
    let m = of_mapped info_of image.classes class t.0 t.1 in
    let own : option_map (λ (b : TypeNo). b.0) (own_base m.0.base) ≡ Some base =
    ap (λ (info : ClassInfo). option_map (λ (b : TypeNo). b.0) info.base) (sym m.2) ∙ t.2 in
    let same : m.0.base ≡ base = own_is m.0.base base own in
    let low : base < class = (follows image is.whole class base e).before in
    let inside = slice_get_within image.classes class m.0 m.1 in
    let at = stands_at image.classes base (omega (arith, low, inside)) in
    let r : ClassRule image class m.0 = class_rule image is class m.0 m.1 in
    let base_is : slice_get image.classes m.0.base ≡ Some at.0 = ap (slice_get image.classes) same ∙ at.1 in
    record {
      c = m.0;
      b = at.0;
      here = m.1;
      above = at.1;
      grows = of_base (slice_get image.classes m.0.base) at.0 (rule.grows_from_base m.0) base_is r.grows;
      keeps = of_base (slice_get image.classes m.0.base) at.0 (rule.table_keeps_signatures image m.0) base_is r.keeps;
    }

-- ---- fields

pub fields_grow : (image : Image) → Tables image → (above class : ℕ) → Below (classes_of image) above class
    → (rest : List ImageField) × (class_fields image class ≡ class_fields image above ++ rest)
fields_grow image is above class Itself = ([], sym (append-nil (class_fields image above)))
fields_grow image is above class (Based base low e more) =
    let g = grows_of image is class base e in
    let p = four (nat_le (length g.b.contents) (length g.c.contents)) (nat_le (length g.b.table) (length g.c.table))
    (rule.begins rule.same_field g.b.fields g.c.fields) (rule.begins rule.same_slot g.b.slots g.c.slots) g.grows in
    let own = begins_with rule.same_field one_field g.b.fields g.c.fields p.2 in
    let up = fields_grow image is above base more in
    let whole : class_fields image class ≡ class_fields image base ++ own.0 =
    fields_at image class g.c g.here ∙ own.1
    ∙ ap (λ (front : List ImageField). front ++ own.0) (sym (fields_at image base g.b g.above)) in (
      up.0 ++ own.0,
      whole ∙ ap (λ (front : List ImageField). front ++ own.0) up.1
          ∙ append_assoc (class_fields image above) up.0 own.0,
    )

-- ---- tables

-- a method that is called in the place of another
pub record SameCall (x y : ImageMethod) : Type 0 where
  pub params : y.params ≡ x.params
  pub result : y.result ≡ x.result

-- a method at a place of a class's table
pub record InTable (image : Image) (class place : ℕ) (x : ImageMethod) : Type 0 where
  pub number : ℕ
  pub method : ImageMethod
  pub found : table_method image class place ≡ Some number
  pub stands : slice_get image.methods number ≡ Some method
  pub same : SameCall x method

pub all_same : (ks ls : List ImageKind) → rule.same_kinds ks ls ≡ true → ks ≡ ls
all_same [] [] h = refl
all_same [] (l ∷ ls) h = no_truth h
all_same (k ∷ ks) [] h = no_truth h
all_same (k ∷ ks) (l ∷ ls) h =
    let p = and_parts (same_kind k l) (rule.same_kinds ks ls) h in
    ap (λ (x : ImageKind). x ∷ ks) (same_kinds k l p.0) ∙ ap (λ (xs : List ImageKind). l ∷ xs) (all_same ks ls p.1)

-- the places of a list that begins with another
begins_at : (same : ℕ → ℕ → Bool) (xs ys : List ℕ) (place x : ℕ) → rule.begins same xs ys ≡ true
    → slice_get xs place ≡ Some x → (y : ℕ) × (slice_get ys place ≡ Some y) × (same x y ≡ true)
begins_at same [] ys place x h e = no_value x e
begins_at same (a ∷ xs) [] place x h e = no_truth h
begins_at same (a ∷ xs) (b ∷ ys) zero x h e =
    (b, refl, subst (λ (n : ℕ). same n b ≡ true) (same_value a x e) (and_parts (same a b) (rule.begins same xs ys) h).0)
begins_at same (a ∷ xs) (b ∷ ys) (suc place) x h e =
    begins_at same xs ys place x (and_parts (same a b) (rule.begins same xs ys) h).1 e

pub table_at : (image : Image) (class place : ℕ) (c : ImageClass) → slice_get image.classes class ≡ Some c
    → table_method image class place ≡ slice_get c.table place
table_at image class place c e =
    ap (λ (o : Option ImageClass). option_and_then (λ (x : ImageClass). slice_get x.table place) o) e

signature : (image : Image) (a b : ℕ) (m n : ImageMethod) → slice_get image.methods a ≡ Some m
    → slice_get image.methods b ≡ Some n → rule.same_signature image a b ≡ true
    → (rule.same_kinds m.params n.params && same_kind m.result n.result) ≡ true
signature image a b m n em en h =
    sym (ap (λ (o : Option ImageMethod). rule.none_or (option_and_then
    (λ (x : ImageMethod). option_and_then
    (λ (y : ImageMethod). Some (rule.same_kinds x.params y.params && same_kind x.result y.result))
    (slice_get image.methods b)) o)) em
    ∙ ap (λ (o : Option ImageMethod). rule.none_or (option_and_then
    (λ (y : ImageMethod). Some (rule.same_kinds m.params y.params && same_kind m.result y.result)) o)) en)
    ∙ h

pub method_there : (image : Image) → Tables image → (class place number : ℕ) (c : ImageClass)
    → slice_get image.classes class ≡ Some c → slice_get c.table place ≡ Some number
    → (m : ImageMethod) × (slice_get image.methods number ≡ Some m)
method_there image is class place number c e at =
    let r : ClassRule image class c = class_rule image is class c e in
    let p = four (nat_lt c.kit (length image.kits)) ((c.base == 0xffff) || rule.has_class image c.base)
    (list_all (rule.has_method image) c.table)
    (list_all (λ (s : ImageSlot). not (rule.is_action s) || nat_lt s.place (length c.table)) c.slots) r.numbers in
    stands_at image.methods number
    (ltb-true number (length image.methods) (passes (rule.has_method image) c.table place number p.2 at))

table_of_base : (image : Image) → Tables image → (class base place : ℕ) (x : ImageMethod)
    → base_of (classes_of image) class ≡ Some base → InTable image base place x → InTable image class place x
table_of_base image is class base place x e f =
    let g = grows_of image is class base e in
    let above : slice_get g.b.table place ≡ Some f.number = sym (table_at image base place g.b g.above) ∙ f.found in
    let own = begins_at (λ b a. rule.same_signature image a b) g.b.table g.c.table place f.number g.keeps above in
    let m = method_there image is class place own.0 g.c g.here own.1 in
    let s = and_parts (rule.same_kinds m.0.params f.method.params) (same_kind m.0.result f.method.result)
    (signature image own.0 f.number m.0 f.method m.1 f.stands own.2) in
    record {
      number = own.0;
      method = m.0;
      found = table_at image class place g.c g.here ∙ own.1;
      stands = m.1;
      same = record {
        params = all_same m.0.params f.method.params s.0 ∙ f.same.params;
        result = same_kinds m.0.result f.method.result s.1 ∙ f.same.result;
      };
    }

-- a class below one that has a method at a place has one there that is called in its place
pub table_below : (image : Image) → Tables image → (above class place n : ℕ) (x : ImageMethod)
    → Below (classes_of image) above class → table_method image above place ≡ Some n
    → slice_get image.methods n ≡ Some x → InTable image class place x
table_below image is above class place n x Itself e s =
    record { number = n; method = x; found = e; stands = s; same = record { params = refl; result = refl } }
table_below image is above class place n x (Based base low b rest) e s =
    table_of_base image is class base place x b (table_below image is above base place n x rest e s)

-- a method that stands in the table of a class has a receiver, of this class or of one above it
pub record Received (image : Image) (class : ℕ) (m : ImageMethod) : Type 0 where
  pub instance : is_instance m ≡ true
  pub above : Below (classes_of image) m.class class

stands_in_table : (image : Image) → Tables image → (class place number : ℕ) (m : ImageMethod) (c : ImageClass)
    → slice_get image.classes class ≡ Some c → table_method image class place ≡ Some number
    → slice_get image.methods number ≡ Some m → rule.may_stand_in_table image class c m ≡ true
stands_in_table image is class place number m c e found s =
    let r : ClassRule image class c = class_rule image is class c e in
    let at : slice_get c.table place ≡ Some number = sym (table_at image class place c e) ∙ found in
    sym (ap (λ (o : Option ImageMethod). rule.none_or (option_and_then
    (λ (x : ImageMethod). Some (rule.may_stand_in_table image class c x)) o)) s)
    ∙ passes (λ (k : ℕ). rule.none_or (option_and_then
    (λ (x : ImageMethod). Some (rule.may_stand_in_table image class c x)) (slice_get image.methods k))) c.table place
    number r.table at

pub received : (image : Image) → Tables image → (class place number : ℕ) (m : ImageMethod)
    → table_method image class place ≡ Some number → slice_get image.methods number ≡ Some m → Received image class m
received image is class place number m found s =
    let c = through (λ (x : ImageClass). slice_get x.table place) (slice_get image.classes class) number found in
    let p = three (is_instance m) (is_at_or_above image m.class class)
    (not (is_abstract m) || rule.is_abstract_class c.0)
    (stands_in_table image is class place number m c.0 c.1 found s) in
    record { instance = p.0; above = below_of (classes_of image) m.class class p.1 }

-- and it has code where objects may be of the class
pub has_code : (image : Image) → Tables image → (class place number : ℕ) (m : ImageMethod) → Concrete image class
    → table_method image class place ≡ Some number → slice_get image.methods number ≡ Some m → is_abstract m ≡ false
has_code image is class place number m known found s =
    let p = three (is_instance m) (is_at_or_above image m.class class)
    (not (is_abstract m) || rule.is_abstract_class known.info)
    (stands_in_table image is class place number m known.info known.stands found s) in
    by_test (is_abstract m) (rule.is_abstract_class known.info) known.concrete p.2
  where
    by_test : (a b : Bool) → b ≡ false → (not a || b) ≡ true → a ≡ false
    by_test false b e h = refl
    by_test true b e h = no_truth (sym e ∙ h)
