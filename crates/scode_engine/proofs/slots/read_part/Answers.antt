use Rattle.std.proofs.Common.{◌≡◌, ◌∙◌, true, false, ap, sym, arith}
use Rattle.sed_typed.specs.declared.program.FieldForm.TheVariants as form
use Rattle.sed_value.specs.declared.slot_type.Primitive.{Primitive}
use Rattle.sed_engine.specs.Values.{Component}
use Rattle.scode_engine.specs.Slots.{is_buf}
use Rattle.scode_engine.proofs.Fields.{few, of_buf, of_prim, reaches, stands_as}
use Rattle.scode_engine.proofs.slots.read_part.Goals as goal

pub overflow_cast-most : goal.overflow_cast-most
overflow_cast-most c =
    let small = few c.args.f c.requires.held (sym c.is_buf.ensures ∙ c.if-is_buf.true) in
    omega (arith, small)

pub read_buf-requires-clause-few : goal.read_buf-requires-clause-few
read_buf-requires-clause-few c = few c.args.f c.requires.held (sym c.is_buf.ensures ∙ c.if-is_buf.true)

pub read_buf-requires-clause-there : goal.read_buf-requires-clause-there
read_buf-requires-clause-there c =
    let f = c.args.f in
    let part = c.requires.stands in
    let buf : is_buf f.form ≡ true = sym c.is_buf.ensures ∙ c.if-is_buf.true in
    c.parts_lie_within.ensures.buf c.args.image.now part.class Component part.path c.args.pool.now c.args.b f.offset f.n
    (stands_as c.args.image.now part.class part.path c.args.pool.now c.args.b f (form.Buf f.n)
    (of_buf f c.requires.held buf) part.stands)

pub read_buf-requires-clause-reach : goal.read_buf-requires-clause-reach
read_buf-requires-clause-reach c =
    let f = c.args.f in
    let part = c.requires.stands in
    let buf : is_buf f.form ≡ true = sym c.is_buf.ensures ∙ c.if-is_buf.true in
    let low = reaches c.args.image.now part.class c.args.pool.now c.args.b part.path f.offset f.n
    (stands_as c.args.image.now part.class part.path c.args.pool.now c.args.b f (form.Buf f.n)
    (of_buf f c.requires.held buf) part.stands) c.parts_lie_within.ensures.within c.parts_lie_within.ensures.reach in
    omega (arith, low)

pub read_value-requires : goal.read_value-requires
read_value-requires c =
    let f = c.args.f in
    let part = c.requires.stands in
    let none : is_buf f.form ≡ false = sym c.is_buf.ensures ∙ c.if-is_buf.false in
    c.parts_lie_within.ensures.has c.args.image.now part.class Component part.path c.args.pool.now c.args.b f.offset
    (form.Prim c.primitive_of.result)
    (stands_as c.args.image.now part.class part.path c.args.pool.now c.args.b f (form.Prim c.primitive_of.result)
    (of_prim f c.requires.held none ∙ ap (λ (p : Primitive). form.Prim p) (sym c.primitive_of.ensures)) part.stands)

pub returns-then-is_buf : goal.returns-then-is_buf
returns-then-is_buf c = λ class path at.
    let f = c.args.f in
    let buf : is_buf f.form ≡ true = sym c.is_buf.ensures ∙ c.if-is_buf.true in
    c.read_buf.ensures.path c.args.image.now class Component path f.n
    (stands_as c.args.image.now class path c.args.pool.now c.args.b f (form.Buf f.n) (of_buf f c.requires.held buf) at)

pub returns-else-is_buf : goal.returns-else-is_buf
returns-else-is_buf c = λ class path at.
    let f = c.args.f in
    let none : is_buf f.form ≡ false = sym c.is_buf.ensures ∙ c.if-is_buf.false in
    c.read_value.ensures.path c.args.image.now class Component path
    (stands_as c.args.image.now class path c.args.pool.now c.args.b f (form.Prim c.primitive_of.result)
    (of_prim f c.requires.held none ∙ ap (λ (p : Primitive). form.Prim p) (sym c.primitive_of.ensures)) at)
