use Rattle.std.proofs.Common.{◌≡◌, ℕ, length, refl, sym, subst, arith}
use Rattle.sed_wire.specs.Writing.{Appends}
use Rattle.sed_wire.proofs.WritingLemmas.{appends-then}
use Rattle.comp_tree.specs.Held.{components_of}
use Rattle.comp_tree.specs.Parts.{u2}
use Rattle.app_writer.specs.Written.{rows_text}
use Rattle.app_writer.proofs.Lengths.{components-length, room-left}
use Rattle.app_writer.proofs.RowsLeft.{greatest-is}
use Rattle.app_writer.proofs.writing.put_components.Goals as goal

pub put_u2-requires : goal.put_u2-requires
put_u2-requires g c =
    let whole = components-length (g.E.Engine.meaning c.args.tree.now.engine) (components_of g.E.Engine c.args.tree.now).by_id in
    let fits = c.requires in
    omega (arith, whole, fits)

pub put_rows-requires : goal.put_rows-requires
put_rows-requires g c =
    let whole = components-length (g.E.Engine.meaning c.args.tree.now.engine) (components_of g.E.Engine c.args.tree.now).by_id in
    let fits = c.requires in
    let two : length (u2 c.greatest.result.0) ≡ 2 = refl in
    let first = room-left _ _ (u2 c.greatest.result.0) c.put_u2.ensures.bytes (omega (arith, whole, fits, two)) in
    omega (arith, whole, fits, two, first)

pub put_u2-requires-2 : goal.put_u2-requires-2
put_u2-requires-2 g c =
    let m = g.E.Engine.meaning c.args.tree.now.engine in
    let all = (components_of g.E.Engine c.args.tree.now).by_id in
    let whole = components-length m all in
    let fits = c.requires in
    let two : length (u2 c.greatest.result.0) ≡ 2 = refl in
    let first = room-left _ _ (u2 c.greatest.result.0) c.put_u2.ensures.bytes (omega (arith, whole, fits, two)) in
    let rows = room-left _ _ (rows_text m all) c.put_rows.ensures (omega (arith, whole, fits, two, first)) in
    omega (arith, whole, fits, two, first, rows)

pub returns : goal.returns
returns g c =
    let m = g.E.Engine.meaning c.args.tree.now.engine in
    let all = (components_of g.E.Engine c.args.tree.now).by_id in
    let first = subst (λ (n : ℕ). Appends c.args.writer.now c.put_u2.new.self (u2 n)) (sym (greatest-is m all c.greatest.result.0 c.greatest.ensures)) c.put_u2.ensures.bytes in
    appends-then _ _ _ _ _ (appends-then _ _ _ _ _ first c.put_rows.ensures) c.put_u2-2.ensures.bytes
