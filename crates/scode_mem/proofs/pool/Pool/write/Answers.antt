use Rattle.std.proofs.Common.{◌≡◌, ◌+◌, ℕ, length, ap, sym, subst, ◌∙◌, arith}
use Rattle.std.specs.Prelude.{vec_len}
use Rattle.std.specs.Int.{bytes_high_first}
use Rattle.std.specs.Vec.{with_items}
use Rattle.std.proofs.lemmas.List.{with_items_is}
use Rattle.byteorder.specs.Numbers.{length-bytes_high_first}
use Rattle.scode_mem.specs.declared.block.Block.{Block}
use Rattle.scode_mem.specs.declared.block.Block.TheVariants.{Live}
use Rattle.scode_mem.specs.declared.entry.Entry.{Entry}
use Rattle.scode_mem.specs.Blocks.{HasBytes, put_at, with_bytes}
use Rattle.scode_mem.specs.Kept.{start_at}
use Rattle.scode_mem.proofs.Told.{entry_read, has_bytes, has_place, in_directory, parts_of, written_told}
use Rattle.scode_mem.proofs.pool.Pool.write.Goals as goal

pub index-requires : goal.index-requires
index-requires c =
    let has : HasBytes c.args.self.now (Live c.in-Live.p) c.args.at c.args.width = subst (λ (b : Block). HasBytes c.args.self.now b c.args.at c.args.width) c.in-Live.is c.requires.there in
    let there = has_place c.self.inside c.self.invariant c.args.self.now c.self.view_is c.in-Live.p c.args.at c.args.width has in
    let below = in_directory c.self.inside c.self.invariant c.args.self.now c.self.view_is c.in-Live.p.0 there in
    omega arith

pub put_number-requires-clause-there : goal.put_number-requires-clause-there
put_number-requires-clause-there c =
    let has : HasBytes c.args.self.now (Live c.in-Live.p) c.args.at c.args.width = subst (λ (b : Block). HasBytes c.args.self.now b c.args.at c.args.width) c.in-Live.is c.requires.there in
    let there = has_place c.self.inside c.self.invariant c.args.self.now c.self.view_is c.in-Live.p c.args.at c.args.width has in
    let far = has_bytes c.self.inside c.self.invariant c.args.self.now c.self.view_is c.in-Live.p c.args.at c.args.width has in
    let entry = ap (λ (e : Entry). e.offset) (entry_read c.self.inside c.self.invariant c.args.self.now c.self.view_is c.in-Live.p.0 there c.index.result.now c.index.ensures) in
    let long = ap length c.deref_mut.ensures.value in
    omega arith

pub returns-in-Live : goal.returns-in-Live
returns-in-Live c =
    let i = c.self.inside in
    let new = bytes_high_first c.args.width c.args.v in
    let many : length new ≡ c.args.width = length-bytes_high_first c.args.width c.args.v in
    let has : HasBytes c.args.self.now (Live c.in-Live.p) c.args.at c.args.width = subst (λ (b : Block). HasBytes c.args.self.now b c.args.at c.args.width) c.in-Live.is c.requires.there in
    let has_new : HasBytes c.args.self.now (Live c.in-Live.p) c.args.at (length new) = subst (λ (n : ℕ). HasBytes c.args.self.now (Live c.in-Live.p) c.args.at n) (sym many) has in
    let there = has_place i c.self.invariant c.args.self.now c.self.view_is c.in-Live.p c.args.at c.args.width has in
    let entry = ap (λ (e : Entry). e.offset) (entry_read i c.self.invariant c.args.self.now c.self.view_is c.in-Live.p.0 there c.index.result.now c.index.ensures) in
    let start : c.index.result.now.offset + c.from.result ≡ start_at (parts_of i) c.in-Live.p.0 + c.args.at = (λ j. entry j + c.from.ensures j) in
    let put : c.put_number.new.bytes ≡ put_at i.bytes.items (start_at (parts_of i) c.in-Live.p.0 + c.args.at) new =
    c.put_number.ensures ∙ (λ j. put_at (c.deref_mut.ensures.value j) (start j) (bytes_high_first (c.from-in-Live.ensures j) c.args.v)) in
    let long : length c.put_number.new.bytes ≡ vec_len i.bytes = (let same = c.put_number.auto.bytes in let all = c.deref_mut.ensures.len in omega arith) in
    written_told i c.self.invariant c.args.self.now c.self.view_is c.in-Live.p c.args.at new (with_items i.bytes c.put_number.new.bytes).items has_new
    (with_items_is i.bytes c.put_number.new.bytes long ∙ put)
    ∙ ap (λ (b : Block). with_bytes c.args.self.now b c.args.at new) (sym c.in-Live.is)
