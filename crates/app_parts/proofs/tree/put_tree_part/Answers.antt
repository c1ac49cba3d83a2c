use Rattle.std.proofs.Common.{◌≡◌, ◌≤◌, ℕ, List, [], ◌∷◌, length, sym, subst, arith, length-append}
use Rattle.std.specs.Prelude.{IsTrue}
use Rattle.std.specs.Option.{option_map_or}
use Rattle.sed_value.specs.Names.{is_name}
use Rattle.sed_value.specs.declared.id.Id.{Id}
use Rattle.sed_engine.specs.Code.{Meaning}
use Rattle.sed_wire.specs.Writing.{Appends, room}
use Rattle.sed_wire.specs.declared.writer.Writer.{Writer}
use Rattle.sed_wire.proofs.WritingLemmas.{appends-then, room-after}
use Rattle.comp_tree.specs.Parts.{class_bytes, no_id, text, u1, u2}
use Rattle.comp_tree.specs.Application.{children_of}
use Rattle.comp_tree.specs.Held.{components_of}
use Rattle.app_parts.proofs.Lengths.{tree-short}
use Rattle.app_parts.proofs.ValueLemmas.{class_short, name_short}
use Rattle.app_parts.proofs.tree.put_tree_part.Goals as goal

-- what room is left behind each part: the class, the name, the parent, the permissions and the count of children
short_bytes : (name bytes : List ℕ) → bytes ≡ name → IsTrue (is_name name) → length bytes ≤ 31
short_bytes name bytes same form = name_short bytes (subst (λ (n : List ℕ). IsTrue (is_name n)) (sym same) form)

module _ (m : Meaning) (kind : ℕ) (a b : Writer) (start : 438 ≤ room a) (class : Appends a b (class_bytes m kind)) where
  after_class : 436 ≤ room b
  after_class =
      let left = room-after a b (class_bytes m kind) class in
      let two = class_short m kind in
      omega (arith, left, two, start)

  module _ (name : List ℕ) (short : length name ≤ 31) (c : Writer) (named : Appends b c (text name)) where
    after_name : 404 ≤ room c
    after_name =
        let left = room-after b c (text name) named in
        let ended = length-append name (0 ∷ []) in
        omega (arith, left, ended, short, after_class)

    module _ (up : ℕ) (d : Writer) (below : Appends c d (u2 up)) where
      after_parent : 402 ≤ room d
      after_parent = let left = room-after c d (u2 up) below in omega (arith, left, after_name)

      module _ (e : Writer) (allowed : Appends d e (u1 255)) where
        after_permissions : 401 ≤ room e
        after_permissions = let left = room-after d e (u1 255) allowed in omega (arith, left, after_parent)

        after_count : (count : ℕ) (f : Writer) → Appends e f (u1 count) → 400 ≤ room f
        after_count count f counted = let left = room-after e f (u1 count) counted in omega (arith, left, after_permissions)

pub put_text-requires : goal.put_text-requires
put_text-requires g c =
    let m = g.E.Engine.meaning c.args.tree.now.engine in
    let short = short_bytes _ _ c.as_bytes.ensures.same c.as_bytes.ensures.form in
    let left = after_class m c.args.entry.now.kind.0 _ _ c.requires.room (c.put_class.ensures m (sym c.schema.ensures.same)) in
    omega (arith, left, short)

pub put_id-requires : goal.put_id-requires
put_id-requires g c =
    let m = g.E.Engine.meaning c.args.tree.now.engine in
    let short = short_bytes _ _ c.as_bytes.ensures.same c.as_bytes.ensures.form in
    let left = after_name m c.args.entry.now.kind.0 _ _ c.requires.room (c.put_class.ensures m (sym c.schema.ensures.same)) c.as_bytes.result.now short _ c.put_text.ensures in
    omega (arith, left)

pub put_u1-requires : goal.put_u1-requires
put_u1-requires g c =
    let m = g.E.Engine.meaning c.args.tree.now.engine in
    let short = short_bytes _ _ c.as_bytes.ensures.same c.as_bytes.ensures.form in
    let left = after_parent m c.args.entry.now.kind.0 _ _ c.requires.room (c.put_class.ensures m (sym c.schema.ensures.same)) c.as_bytes.result.now short _ c.put_text.ensures
    (option_map_or (λ (i : Id). i.0) c.args.entry.now.parent no_id) _ c.put_id.ensures in
    omega (arith, left)

pub put_u1-requires-2 : goal.put_u1-requires-2
put_u1-requires-2 g c =
    let m = g.E.Engine.meaning c.args.tree.now.engine in
    let short = short_bytes _ _ c.as_bytes.ensures.same c.as_bytes.ensures.form in
    let left = after_permissions m c.args.entry.now.kind.0 _ _ c.requires.room (c.put_class.ensures m (sym c.schema.ensures.same)) c.as_bytes.result.now short _ c.put_text.ensures
    (option_map_or (λ (i : Id). i.0) c.args.entry.now.parent no_id) _ c.put_id.ensures _ c.put_u1.ensures.bytes in
    omega (arith, left)

pub put_children-requires-clause-room : goal.put_children-requires-clause-room
put_children-requires-clause-room g c =
    let m = g.E.Engine.meaning c.args.tree.now.engine in
    let short = short_bytes _ _ c.as_bytes.ensures.same c.as_bytes.ensures.form in
    let left = after_count m c.args.entry.now.kind.0 _ _ c.requires.room (c.put_class.ensures m (sym c.schema.ensures.same)) c.as_bytes.result.now short _ c.put_text.ensures
    (option_map_or (λ (i : Id). i.0) c.args.entry.now.parent no_id) _ c.put_id.ensures _ c.put_u1.ensures.bytes c.args.entry.now.children _ c.put_u1-2.ensures.bytes in
    let few = c.requires.few in
    omega (arith, left, few)

pub returns-clause-bytes : goal.returns-clause-bytes
returns-clause-bytes g c =
    let m = g.E.Engine.meaning c.args.tree.now.engine in
    let class = c.put_class.ensures m (sym c.schema.ensures.same) in
    let name = subst (λ (n : List ℕ). Appends c.put_class.new.writer c.put_text.new.writer (text n)) c.as_bytes.ensures.same c.put_text.ensures in
    appends-then _ _ _ _ _ (appends-then _ _ _ _ _ (appends-then _ _ _ _ _ (appends-then _ _ _ _ _ (appends-then _ _ _ _ _ class name) c.put_id.ensures) c.put_u1.ensures.bytes) c.put_u1-2.ensures.bytes) c.put_children.ensures

pub returns-clause-short : goal.returns-clause-short
returns-clause-short g c =
    let m = g.E.Engine.meaning c.args.tree.now.engine in
    let form = subst (λ (n : List ℕ). IsTrue (is_name n)) c.as_bytes.ensures.same
    (subst (λ (n : List ℕ). IsTrue (is_name n)) (sym c.as_bytes.ensures.same) c.as_bytes.ensures.form) in
    let few = c.requires.few in
    let count = c.requires.children in
    tree-short m c.args.entry.now.kind.0 c.args.entry.now.name (option_map_or (λ (i : Id). i.0) c.args.entry.now.parent no_id) c.args.entry.now.children
    (children_of (components_of g.E.Engine c.args.tree.now).by_id c.args.id.0) form (omega (arith, few, count))
