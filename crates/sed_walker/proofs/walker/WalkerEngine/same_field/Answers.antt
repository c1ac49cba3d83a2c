use Rattle.std.proofs.Common.{◌≡◌, ◌==◌, subst}
use Rattle.std.specs.Prelude.{IsTrue}
use Rattle.sed_engine.specs.Code.{is_property, is_same_field}
use Rattle.sed_engine.specs.Program.{meaning_of}
use Rattle.sed_walker.specs.Held.{Held}
use Rattle.sed_walker.proofs.SlotFields.{same_field_is}
use Rattle.sed_walker.proofs.walker.WalkerEngine.same_field.Goals as goal

pub returns : goal.returns
returns c =
    let a = c.args.a.0 in
    let b = c.args.b.0 in
    let t = c.args._t.0 in
    subst (λ (h : Held). IsTrue (is_property (meaning_of h.program) t a) → IsTrue (is_property (meaning_of h.program) t b) → (a == b) ≡ is_same_field (meaning_of h.program) t a b) c.self.view_is
    (same_field_is c.self.inside.slots.program c.self.invariant.whole.tables t a b) c.requires.first c.requires.other
