-- A component of a file as a form of bytes, and the components up to the mark behind them.
use Rattle.std.specs.Prelude.{◌≡◌, ℕ, ◌==◌, ◌&&◌, ◌^◌, Bool, true, false, cond, List, [], ◌∷◌, slice_get, Option, Some}
use Rattle.std.specs.Prelude.{None, refl}
use Rattle.std.specs.Option.{option_and_then, option_map_or}
use Rattle.std.specs.List.{position}
use Rattle.std.proofs.Common.{ap, ap₂, sym, ◌∙◌, eqb-true}
use Rattle.std.proofs.lemmas.Bool.{and_parts}
use Rattle.std.proofs.lemmas.List.Quantifiers.{position-Some}
use Rattle.std.proofs.lemmas.Option.{slice_get-get_or}
use Rattle.std.specs.Prelude.{get_or, nat_lt}
use Rattle.sed_value.specs.Names.{is_name}
use Rattle.sed_value.specs.declared.id.Id.{Id}
use Rattle.sed_value.specs.declared.value.Value.{Value}
use Rattle.sed_typed.specs.Classes.{slots}
use Rattle.sed_typed.specs.Schemas.{numbered, type_at}
use Rattle.sed_typed.specs.declared.number.TypeNo.{TypeNo}
use Rattle.sed_typed.specs.declared.schema.ClassInfo.{ClassInfo}
use Rattle.node_table.specs.Read.{types_in}
use Rattle.sed_wire.specs.Form.{Form, given, only, seen_as, then, ◌&◌}
use Rattle.sed_wire.specs.Leaves.{mark, number, text}
use Rattle.comp_tree.specs.Parts.{no_id}
use Rattle.app_front.specs.Ended.{Begin, ended, never}
use Rattle.app_front.specs.ValueForm.{values}
use Rattle.app_front.specs.declared.rows.FileRow.{FileRow}

-- ---- ids

abbrev pub id_of : ℕ → Option Id
id_of n = cond (n == no_id) None (Some (record { 0 = n }))

abbrev pub id_number : Option Id → ℕ
id_number id = option_map_or (λ (i : Id). i.0) id no_id

pub id_again : (n : ℕ) → id_number (id_of n) ≡ n
id_again n = by (n == no_id) refl
  where
    by : (b : Bool) → (n == no_id) ≡ b → id_number (cond b None (Some (record { 0 = n }))) ≡ n
    by true is = sym (eqb-true n no_id is)
    by false is = refl

pub one_id : (k : ℕ × Option Id) (bytes : List ℕ) → (then (number 2) (λ n. given (id_of n))).spells k bytes
    → (id_number k.1, k.1) ≡ k
one_id k bytes h = ap (λ (n : ℕ). (n, k.1)) (ap id_number h.3.0 ∙ id_again k.0)

-- an id, or the number that no component has
unfoldable pub id : Form (Option Id)
id = seen_as (λ k. k.1) (λ o. (id_number o, o)) (λ o. refl) (then (number 2) (λ n. given (id_of n))) one_id

-- ---- classes

abbrev pub known : Option ℕ → Form ℕ
known None = never
known (Some n) = given n

-- the kit of a class, and its number there
abbrev pub place_of : List ClassInfo → ℕ → ℕ × ℕ
place_of classes class = option_map_or (λ (c : ClassInfo). (c.kit, c.number)) (slice_get classes class) (0, 0)

pub known_is : (o : Option ℕ) (n : ℕ) (bytes : List ℕ) → (known o).spells n bytes → o ≡ Some n
known_is None n bytes h = absurd h
known_is (Some k) n bytes h = ap (λ (x : ℕ). Some x) (sym h.0)

pub numbered_is : (o : Option ℕ) (n : ℕ) → option_and_then numbered o ≡ Some n → o ≡ Some n
numbered_is None n e = absurd (let no : ◌≡◌ {A = Option ℕ} None (Some n) = e in cc)
numbered_is (Some k) n e = by (nat_lt k (2 ^ 16)) e
  where
    by : (b : Bool) → cond b (Some k) None ≡ Some n → Some k ≡ Some n
    by true e = e
    by false e = absurd (let no : ◌≡◌ {A = Option ℕ} None (Some n) = e in cc)

pub place_is : (classes : List ClassInfo) (kit n class : ℕ) → type_at classes kit n ≡ Some class
    → place_of classes class ≡ (kit, n)
place_is [] kit n class e =
    absurd (let no : ◌≡◌ {A = Option ℕ} None (Some class) =
    numbered_is (position (λ (c : ClassInfo). (c.kit == kit) && (c.number == n)) []) class e in cc)
place_is (d ∷ classes) kit n class e =
    let all = d ∷ classes in
    let test = λ (c : ClassInfo). (c.kit == kit) && (c.number == n) in
    let at = position-Some test all class d (numbered_is (position test all) class e) in
    let there = slice_get-get_or all class d at.0 in
    let c = get_or all class d in
    let parts = and_parts (c.kit == kit) (c.number == n) at.1 in
    ap (λ (o : Option ClassInfo). option_map_or (λ (c : ClassInfo). (c.kit, c.number)) o (0, 0)) there
    ∙ ap₂ (λ (x y : ℕ). (x, y)) (eqb-true c.kit kit parts.0) (eqb-true c.number n parts.1)

abbrev pub class_form : List ClassInfo → Form ((ℕ × ℕ) × ℕ)
class_form classes = then (number 1 & number 1) (λ k. known (type_at classes k.0 k.1))

pub one_class : (classes : List ClassInfo) (k : (ℕ × ℕ) × ℕ) (bytes : List ℕ)
    → (class_form classes).spells k bytes → (place_of classes k.1, k.1) ≡ k
one_class classes k bytes h =
    ap (λ (p : ℕ × ℕ). (p, k.1)) (place_is classes k.0.0 k.0.1 k.1 (known_is (type_at classes k.0.0 k.0.1) k.1 h.1 h.3))

-- the first class with a kit and a number
unfoldable pub class : List ClassInfo → Form TypeNo
class classes =
    seen_as (λ k. record { 0 = k.1 }) (λ t. (place_of classes t.0, t.0))
    (λ t. refl) (class_form classes) (one_class classes)

-- ---- components

unfoldable pub name : Form (List ℕ)
name = only is_name text

-- the values of the config properties of a class, in the order of the slots
unfoldable pub config : List ClassInfo → ℕ → Form (List Value)
config classes class = values (types_in (slots classes class))

unfoldable pub row_end : Form (Unit {0})
row_end = mark 1 0x3b

abbrev pub RowParts : Type 0
RowParts = ℕ × (TypeNo × (List ℕ × (Option Id × (Option Id × (Option Id × (List Value × Unit {0}))))))

abbrev pub row_parts : FileRow → RowParts
row_parts r = (r.id.0, (r.kind, (r.name, (r.parent, (r.first_child, (r.next_sibling, (r.config, tt)))))))

abbrev pub row_of : RowParts → FileRow
row_of (n, (kind, (name, (parent, (first_child, (next_sibling, (config, _))))))) =
    record {
      id = record { 0 = n };
      kind = kind;
      name = name;
      parent = parent;
      first_child = first_child;
      next_sibling = next_sibling;
      config = config;
    }

abbrev pub behind_class : List ClassInfo → TypeNo
    → Form (List ℕ × (Option Id × (Option Id × (Option Id × (List Value × Unit {0})))))
behind_class classes kind = name & (id & (id & (id & (config classes kind.0 & row_end))))

-- a component with this id, behind the id
unfoldable pub row_behind : List ClassInfo → ℕ → Form FileRow
row_behind classes n =
    seen_as row_of row_parts (λ r. refl) (given n & then (class classes) (behind_class classes)) (λ r bytes h. refl)

pub rows_begin : (classes : List ClassInfo) → Begin (λ r. r.id.0) (row_behind classes)
unfolding row_behind
rows_begin classes n r bytes h = h.2.0

-- fewer than so many components, and the mark behind them
unfoldable pub rows : List ClassInfo → ℕ → Form (List FileRow)
rows classes most = ended (λ r. r.id.0) (row_behind classes) (rows_begin classes) most
