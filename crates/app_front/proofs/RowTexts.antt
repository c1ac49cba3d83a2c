-- Rows and links, as their forms spell them.
use Rattle.std.proofs.Common.{◌≡◌, ℕ, ◌<◌, IsTrue, List, [], ◌∷◌, ◌++◌, refl, sym, ◌∙◌, ap, ap₂, subst, arith, append_assoc, eqb-true}
use Rattle.std.specs.Prelude.{◌==◌, ◌&&◌, Option, Some, None, IfSome, get_or, slice_get}
use Rattle.std.specs.Option.{option_map_or}
use Rattle.std.specs.List.{list_all, position}
use Rattle.std.proofs.lemmas.Bool.Decides.{nat_tests}
use Rattle.std.proofs.lemmas.Bool.{and_parts}
use Rattle.std.proofs.lemmas.List.{append-nil}
use Rattle.std.proofs.lemmas.List.Quantifiers.{position-Some}
use Rattle.std.proofs.lemmas.Option.{slice_get-get_or}
use Rattle.sed_value.specs.Characters.{is_letter, is_word_byte}
use Rattle.sed_value.specs.Names.{is_name}
use Rattle.sed_typed.specs.Classes.{slots}
use Rattle.sed_typed.specs.Schemas.{type_at}
use Rattle.sed_typed.specs.declared.number.TypeNo.{TypeNo}
use Rattle.sed_typed.specs.declared.schema.ClassInfo.{ClassInfo}
use Rattle.sed_engine.specs.Code.{Meaning}
use Rattle.sed_wire.specs.Text.{is_character, is_text}
use Rattle.node_table.specs.Properties.{config_types}
use Rattle.node_table.specs.Read.{types_in}
use Rattle.node_table.specs.Values.{spelling_of_all}
use Rattle.node_table.proofs.ConfigLemmas.{types_are_config}
use Rattle.comp_tree.specs.Application.{Link}
use Rattle.comp_tree.specs.Parts.{class_bytes, link_bytes, no_id, text, u1, u2}
use Rattle.app_file.specs.Text.{id_text, row_text}
use Rattle.app_front.specs.LinkForm as link
use Rattle.app_front.specs.RowForm as form
use Rattle.app_front.specs.Rows.{AreOfTypes, IsToldClass, IsToldId, IsToldLink, IsToldRow, number_of_id, told_row}
use Rattle.app_front.specs.declared.rows.FileRow.{FileRow}
use Rattle.app_front.proofs.EndedTexts.{IsBehind}
use Rattle.app_front.proofs.IdTexts.{id_texts}
use Rattle.app_front.proofs.Texts.{Texts, number_texts, only_texts, same_texts, text_texts, then_texts}
use Rattle.app_front.proofs.ValueTexts.{AreHeld, values_said, values_spelled}

-- ---- names

letter_of : (byte : ℕ) → IsTrue (is_letter byte) → IsTrue (is_character byte)
letter_of byte is = grind (arith, nat_tests)

word_of : (byte : ℕ) → IsTrue (is_word_byte byte) → IsTrue (is_character byte)
word_of byte is = grind (arith, nat_tests)

each_word : (bytes : List ℕ) → IsTrue (list_all is_word_byte bytes) → IsTrue (is_text bytes)
each_word [] all = refl
each_word (byte ∷ behind) all =
    let here : IsTrue (is_word_byte byte) = grind (arith, nat_tests) in
    let there : IsTrue (list_all is_word_byte behind) = grind (arith, nat_tests) in
    let first : IsTrue (is_character byte) = word_of byte here in
    let rest = each_word behind there in
    grind (arith, nat_tests)

name_is_text : (name : List ℕ) → IsTrue (is_name name) → IsTrue (is_text name)
name_is_text [] is = cc
name_is_text (byte ∷ behind) is =
    let here : IsTrue (is_letter byte) = grind (arith, nat_tests) in
    let there : IsTrue (list_all is_word_byte behind) = grind (arith, nat_tests) in
    let first = letter_of byte here in
    let rest = each_word behind there in
    grind (arith, nat_tests)

name_texts : Texts form.name.spells (λ n. IsTrue (is_name n)) text
unfolding form.name
name_texts = same_texts (λ n. IsTrue (is_name n)) (λ n is. is.1) (λ n is. (name_is_text n is, is)) (only_texts is_name text_texts)

-- ---- the end of a row

row_end_texts : Texts form.row_end.spells (λ (u : Unit {0}). Unit {0}) (λ u. u1 0x3b)
unfolding form.row_end
row_end_texts = record {
  said = λ u bytes is. (tt, ((number_texts 1).said 0x3b bytes is.0).1);
  spelled = λ u is. ((number_texts 1).spelled 0x3b (omega arith), refl);
}

-- ---- classes

record IsThere (classes : List ClassInfo) (kit n class : ℕ) : Type 0 where
  info : ClassInfo
  there : slice_get classes class ≡ Some info
  same_kit : info.kit ≡ kit
  same_number : info.number ≡ n

class_there : (classes : List ClassInfo) (kit n class : ℕ) → type_at classes kit n ≡ Some class → IsThere classes kit n class
class_there [] kit n class e =
    absurd (let no : ◌≡◌ {A = Option ℕ} None (Some class) = form.numbered_is (position (λ (c : ClassInfo). (c.kit == kit) && (c.number == n)) []) class e in cc)
class_there (d ∷ classes) kit n class e =
    let all = d ∷ classes in
    let test = λ (c : ClassInfo). (c.kit == kit) && (c.number == n) in
    let at = position-Some test all class d (form.numbered_is (position test all) class e) in
    let c = get_or all class d in
    let parts = and_parts (c.kit == kit) (c.number == n) at.1 in
    record { info = c; there = slice_get-get_or all class d at.0; same_kit = eqb-true c.kit kit parts.0; same_number = eqb-true c.number n parts.1 }

known_empty : (o : Option ℕ) (n : ℕ) (bytes : List ℕ) → (form.known o).spells n bytes → bytes ≡ []
known_empty None n bytes is = absurd is
known_empty (Some k) n bytes is = is.1

known_told : (o : Option ℕ) (n : ℕ) → o ≡ Some n → (form.known o).spells n []
known_told o n e = subst (λ (p : Option ℕ). (form.known p).spells n []) (sym e) (refl, refl)

-- what stands behind the class
abbrev pub behind_text : FileRow → List ℕ
behind_text r =
    text r.name ++ (id_text (number_of_id r.parent) ++ (id_text (number_of_id r.first_child) ++ (id_text (number_of_id r.next_sibling)
    ++ (spelling_of_all r.config ++ u1 0x3b))))

nested : (a b c d e f g h : List ℕ) → a ++ (b ++ (c ++ (d ++ (e ++ (f ++ (g ++ h)))))) ≡ a ++ b ++ c ++ d ++ e ++ f ++ g ++ h
nested a b c d e f g h = simp append_assoc

pub row_is : (m : Meaning) (r : FileRow) → u2 r.id.0 ++ (class_bytes m r.kind.0 ++ behind_text r) ≡ row_text m (told_row r)
row_is m r =
    nested (u2 r.id.0) (class_bytes m r.kind.0) (text r.name) (id_text (number_of_id r.parent)) (id_text (number_of_id r.first_child)) (id_text (number_of_id r.next_sibling))
    (spelling_of_all r.config) (u1 0x3b)

module _ (m : Meaning) where
  class_texts : Texts (form.class m.schema.classes).spells (λ t. IsToldClass m t.0) (λ t. class_bytes m t.0)
  unfolding form.class
  class_texts = record { said = said; spelled = spelled }
    where
      said : (t : TypeNo) (bytes : List ℕ) → (form.class m.schema.classes).spells t bytes → IsToldClass m t.0 × (bytes ≡ class_bytes m t.0)
      said t bytes is =
          let place = form.place_of m.schema.classes t.0 in
          let both = (then_texts (number_texts 1) (number_texts 1)).said place is.0 is.2 in
          let known = form.known_is (type_at m.schema.classes place.0 place.1) t.0 is.1 is.3 in
          let at = class_there m.schema.classes place.0 place.1 t.0 known in
          let same : u1 place.0 ++ u1 place.1 ≡ class_bytes m t.0 =
          ap₂ (λ (x y : ℕ). u1 x ++ u1 y) (sym at.same_kit) (sym at.same_number)
          ∙ ap (λ (o : Option ClassInfo). option_map_or (λ (c : ClassInfo). u1 c.kit ++ u1 c.number) o []) (sym at.there) in (
            record {
              info = at.info;
              there = at.there;
              first = ap₂ (λ (x y : ℕ). type_at m.schema.classes x y) at.same_kit at.same_number ∙ known;
              kit = subst (λ (n : ℕ). n < 256) (sym at.same_kit) both.0.0;
              number = subst (λ (n : ℕ). n < 256) (sym at.same_number) both.0.1;
            },
            is.4 ∙ ap₂ (λ (x y : List ℕ). x ++ y) both.1 (known_empty (type_at m.schema.classes place.0 place.1) t.0 is.1 is.3)
                ∙ append-nil (u1 place.0 ++ u1 place.1) ∙ same,
          )

      spelled : (t : TypeNo) → IsToldClass m t.0 → (form.class m.schema.classes).spells t (class_bytes m t.0)
      spelled t is =
          let there : form.place_of m.schema.classes t.0 ≡ (is.info.kit, is.info.number) =
          ap (λ (o : Option ClassInfo). option_map_or (λ (c : ClassInfo). (c.kit, c.number)) o (0, 0)) is.there in
          let text : class_bytes m t.0 ≡ u1 is.info.kit ++ u1 is.info.number =
          ap (λ (o : Option ClassInfo). option_map_or (λ (c : ClassInfo). u1 c.kit ++ u1 c.number) o []) is.there in
          let all : (form.class_form m.schema.classes).spells ((is.info.kit, is.info.number), t.0) (class_bytes m t.0) = (
            u1 is.info.kit ++ u1 is.info.number,
            [],
            (then_texts (number_texts 1) (number_texts 1)).spelled (is.info.kit, is.info.number) (is.kit, is.number),
            known_told (type_at m.schema.classes is.info.kit is.info.number) t.0 is.first,
            text ∙ sym (append-nil (u1 is.info.kit ++ u1 is.info.number)),
          ) in
          subst (λ (p : ℕ × ℕ). (form.class_form m.schema.classes).spells (p, t.0) (class_bytes m t.0)) (sym there) all

  -- ---- values

  config_texts : (class : ℕ) → AreHeld (types_in (slots m.schema.classes class)) → Texts (form.config m.schema.classes class).spells (AreOfTypes (config_types m class)) spelling_of_all
  unfolding form.config
  config_texts class held =
      let same = types_are_config m class in
      record {
        said = λ values bytes is.
            let one = values_said (types_in (slots m.schema.classes class)) held values bytes is in
            (rw same one.0, one.1);
        spelled = λ values is.
            values_spelled (types_in (slots m.schema.classes class)) held values (subst (λ ts. AreOfTypes ts values) same is);
      }

  -- ---- rows

  module _ (held : (class : ℕ) → AreHeld (types_in (slots m.schema.classes class))) where
    behind_texts : (kind : TypeNo) → Texts (form.behind_class m.schema.classes kind).spells
        (λ p. IsTrue (is_name p.0) × (IfSome p.1.0 IsToldId × (IfSome p.1.1.0 IsToldId × (IfSome p.1.1.1.0 IsToldId × (AreOfTypes (config_types m kind.0) p.1.1.1.1.0 × Unit {0})))))
        (λ p. text p.0 ++ (id_text (number_of_id p.1.0) ++ (id_text (number_of_id p.1.1.0) ++ (id_text (number_of_id p.1.1.1.0) ++ (spelling_of_all p.1.1.1.1.0 ++ u1 0x3b)))))
    behind_texts kind =
        then_texts name_texts (then_texts id_texts (then_texts id_texts (then_texts id_texts (then_texts (config_texts kind.0 (held kind.0)) row_end_texts))))

    pub row_said : (r : FileRow) (bytes : List ℕ) → r.id.0 < no_id → (form.row_behind m.schema.classes r.id.0).spells r bytes → IsToldRow m r × (u2 r.id.0 ++ bytes ≡ row_text m (told_row r))
    unfolding form.row_behind
    row_said r bytes lt is =
        let class = class_texts.said r.kind is.3.0 is.3.2 in
        let behind = (behind_texts r.kind).said (r.name, (r.parent, (r.first_child, (r.next_sibling, (r.config, tt))))) is.3.1 is.3.3 in (
          record {
            id = lt;
            class = class.0;
            name = behind.0.0;
            parent = behind.0.1.0;
            first_child = behind.0.1.1.0;
            next_sibling = behind.0.1.1.1.0;
            config = behind.0.1.1.1.1.0;
          },
          ap (λ (b : List ℕ). u2 r.id.0 ++ b)
              (is.4 ∙ ap₂ (λ (x y : List ℕ). x ++ y) is.2.1 is.3.4 ∙ ap₂ (λ (x y : List ℕ). x ++ y) class.1 behind.1) ∙ row_is m r,
        )

    pub row_told : (r : FileRow) → IsToldRow m r → IsBehind (λ (r : FileRow). r.id.0) (form.row_behind m.schema.classes) (λ r. row_text m (told_row r)) r
    unfolding form.row_behind
    row_told r is = record {
      bytes = class_bytes m r.kind.0 ++ behind_text r;
      spelled = (
        [],
        class_bytes m r.kind.0 ++ behind_text r,
        (refl, refl),
        (
          class_bytes m r.kind.0,
          behind_text r,
          class_texts.spelled r.kind is.class,
          (behind_texts r.kind).spelled (r.name, (r.parent, (r.first_child, (r.next_sibling, (r.config, tt))))) (is.name, (is.parent, (is.first_child, (is.next_sibling, (is.config, tt))))),
          refl,
        ),
        refl,
      );
      text = sym (row_is m r);
    }

-- ---- links

pub link_said : (l : Link) (bytes : List ℕ) → l.from < no_id → (link.link_behind l.from).spells l bytes → IsToldLink l × (u2 l.from ++ bytes ≡ link_bytes l)
unfolding link.link_behind
link_said l bytes lt is =
    let parts = (then_texts (number_texts 1) (then_texts (number_texts 2) (number_texts 1))).said (l.from_slot, (l.to, l.to_slot)) is.1 is.3 in (
      record { from = lt; from_slot = parts.0.0; to = parts.0.1.0; to_slot = parts.0.1.1 },
      ap (λ (b : List ℕ). u2 l.from ++ b) (is.4 ∙ ap₂ (λ (x y : List ℕ). x ++ y) is.2.1 parts.1),
    )

pub link_told : (l : Link) → IsToldLink l → IsBehind (λ (l : Link). l.from) link.link_behind link_bytes l
unfolding link.link_behind
link_told l is = record {
  bytes = u1 l.from_slot ++ (u2 l.to ++ u1 l.to_slot);
  spelled = (
    [],
    u1 l.from_slot ++ (u2 l.to ++ u1 l.to_slot),
    (refl, refl),
    (then_texts (number_texts 1) (then_texts (number_texts 2) (number_texts 1))).spelled (l.from_slot, (l.to, l.to_slot)) (is.from_slot, (is.to, is.to_slot)),
    refl,
  );
  text = refl;
}
