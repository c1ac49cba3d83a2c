use Rattle.std.proofs.Common.{◌≡◌, length, ap, ◌∙◌, arith}
use Rattle.std.proofs.lemmas.List.{with_items_is}
use Rattle.std.specs.Prelude.{vec_len}
use Rattle.scode_cells.specs.Rows.{put_at}
use Rattle.scode_cells.proofs.Told.{enter_room_told, enter_told, on}
use Rattle.scode_cells.proofs.cells.Cells.enter.Goals as goal

pub put_cells-requires : goal.put_cells-requires
put_cells-requires c =
    let is_on = on c.self.inside c.self.invariant c.args.self.now c.self.view_is c.requires.running in
    let room = enter_room_told c.self.inside c.self.invariant c.args.self.now c.self.view_is is_on c.args.args c.args.zeros.now c.requires.there c.requires.room c.requires.few in
    let long = ap length c.deref_mut.ensures.value in
    omega arith

pub returns : goal.returns
returns c =
    let is_on = on c.self.inside c.self.invariant c.args.self.now c.self.view_is c.requires.running in
    let as_long : length c.put_cells.new.row ≡ vec_len c.self.inside.row = (let same = c.put_cells.auto.row in let long = ap length c.deref_mut.ensures.value in omega arith) in
    let put = with_items_is c.self.inside.row c.put_cells.new.row as_long ∙ c.put_cells.ensures ∙ ap (λ l. put_at l c.self.inside.frame.top c.args.zeros.now) c.deref_mut.ensures.value in
    enter_told c.self.inside c.self.invariant c.args.self.now c.self.view_is is_on c.args.args c.args.zeros.now c.requires.there c.requires.room c.args.method _ _ put c.push_reserved.ensures.items
