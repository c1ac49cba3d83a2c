use Rattle.std.proofs.Common.{◌≡◌, ◌∙◌, true, false, ap, sym, subst}
use Rattle.std.specs.Prelude.{IsTrue}
use Rattle.sed_typed.specs.declared.program.FieldForm.TheVariants as form
use Rattle.sed_value.specs.declared.slot_type.Primitive.{Primitive}
use Rattle.sed_value.specs.declared.slot_type.SlotType.{SlotType}
use Rattle.sed_value.specs.declared.slot_type.SlotType.TheVariants as slot
use Rattle.sed_value.specs.Value.{goes_to, stored}
use Rattle.sed_engine.specs.Values.{Component}
use Rattle.scode_state.specs.Stands.{IsStored}
use Rattle.scode_engine.specs.Slots.{is_buf}
use Rattle.scode_engine.proofs.Fields.{buf_type, few, of_buf, of_prim, prim_type, reaches, stands_as}
use Rattle.scode_engine.proofs.slots.write_part.Goals as goal

pub write_bytes-requires-clause-few : goal.write_bytes-requires-clause-few
write_bytes-requires-clause-few c = few c.args.f c.requires.held (sym c.is_buf.ensures ∙ c.if-is_buf.true)

pub write_bytes-requires-clause-there : goal.write_bytes-requires-clause-there
write_bytes-requires-clause-there c =
    let f = c.args.f in
    let part = c.requires.stands in
    let buf : is_buf f.form ≡ true = sym c.is_buf.ensures ∙ c.if-is_buf.true in
    c.parts_lie_within.ensures.has c.args.image.now part.class Component part.path c.args.pool.now c.args.b f.offset
    (form.Buf f.n)
    (stands_as c.args.image.now part.class part.path c.args.pool.now c.args.b f (form.Buf f.n)
    (of_buf f c.requires.held buf) part.stands)

pub write_bytes-requires-clause-reach : goal.write_bytes-requires-clause-reach
write_bytes-requires-clause-reach c =
    let f = c.args.f in
    let part = c.requires.stands in
    let buf : is_buf f.form ≡ true = sym c.is_buf.ensures ∙ c.if-is_buf.true in
    reaches c.args.image.now part.class c.args.pool.now c.args.b part.path f.offset f.n
    (stands_as c.args.image.now part.class part.path c.args.pool.now c.args.b f (form.Buf f.n)
    (of_buf f c.requires.held buf) part.stands) c.parts_lie_within.ensures.within c.parts_lie_within.ensures.reach

pub write_bytes-requires-clause-goes : goal.write_bytes-requires-clause-goes
write_bytes-requires-clause-goes c =
    subst (λ (t : SlotType). IsTrue (goes_to t c.args.v.now))
    (buf_type c.args.f c.requires.held (sym c.is_buf.ensures ∙ c.if-is_buf.true)) c.requires.goes

pub write_number-requires-clause-there : goal.write_number-requires-clause-there
write_number-requires-clause-there c =
    let f = c.args.f in
    let part = c.requires.stands in
    let none : is_buf f.form ≡ false = sym c.is_buf.ensures ∙ c.if-is_buf.false in
    c.parts_lie_within.ensures.has c.args.image.now part.class Component part.path c.args.pool.now c.args.b f.offset
    (form.Prim c.primitive_of.result)
    (stands_as c.args.image.now part.class part.path c.args.pool.now c.args.b f (form.Prim c.primitive_of.result)
    (of_prim f c.requires.held none ∙ ap (λ (p : Primitive). form.Prim p) (sym c.primitive_of.ensures)) part.stands)

pub write_number-requires-clause-goes : goal.write_number-requires-clause-goes
write_number-requires-clause-goes c =
    subst (λ (t : SlotType). IsTrue (goes_to t c.args.v.now))
    (prim_type c.args.f c.requires.held (sym c.is_buf.ensures ∙ c.if-is_buf.false)
    ∙ ap (λ (p : Primitive). slot.Prim p) (sym c.primitive_of.ensures)) c.requires.goes

pub returns-then-is_buf : goal.returns-then-is_buf
returns-then-is_buf c = λ class path at.
    let f = c.args.f in
    let buf : is_buf f.form ≡ true = sym c.is_buf.ensures ∙ c.if-is_buf.true in
    subst (λ (t : SlotType). IsStored c.args.image.now class Component path c.args.pool.now c.write_bytes.new.pool
    c.args.b (stored t c.args.v.now)) (sym (buf_type f c.requires.held buf))
    (c.write_bytes.ensures c.args.image.now class path
    (stands_as c.args.image.now class path c.args.pool.now c.args.b f (form.Buf f.n) (of_buf f c.requires.held buf)
    at))

pub returns-else-is_buf : goal.returns-else-is_buf
returns-else-is_buf c = λ class path at.
    let f = c.args.f in
    let none : is_buf f.form ≡ false = sym c.is_buf.ensures ∙ c.if-is_buf.false in
    subst (λ (t : SlotType). IsStored c.args.image.now class Component path c.args.pool.now c.write_number.new.pool
    c.args.b (stored t c.args.v.now))
    (sym (prim_type f c.requires.held none ∙ ap (λ (p : Primitive). slot.Prim p) (sym c.primitive_of.ensures)))
    (c.write_number.ensures c.args.image.now class path
    (stands_as c.args.image.now class path c.args.pool.now c.args.b f (form.Prim c.primitive_of.result)
    (of_prim f c.requires.held none ∙ ap (λ (p : Primitive). form.Prim p) (sym c.primitive_of.ensures)) at))
