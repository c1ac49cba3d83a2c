use Rattle.std.proofs.Common.{◌≡◌, ◌+◌, length, ap, sym, subst, ◌∙◌, arith}
use Rattle.std.specs.Prelude.{IfSome}
use Rattle.sed_wire.specs.Number.{number_of}
use Rattle.scode_mem.specs.declared.block.Block.{Block}
use Rattle.scode_mem.specs.declared.block.Block.TheVariants.{Live}
use Rattle.scode_mem.specs.declared.entry.Entry.{Entry}
use Rattle.scode_mem.specs.Blocks.{HasBytes, bytes_at, bytes_of}
use Rattle.scode_mem.specs.Kept.{start_at}
use Rattle.scode_mem.proofs.Told.{bytes_told, entry_read, has_bytes, has_place, in_directory, parts_of}
use Rattle.scode_mem.proofs.pool.Pool.read.Goals as goal

pub index-requires : goal.index-requires
index-requires c =
    let has : HasBytes c.args.self.now (Live c.in-Live.p) c.args.at c.args.width = subst (λ (b : Block). HasBytes c.args.self.now b c.args.at c.args.width) c.in-Live.is c.requires.there in
    let there = has_place c.self.inside c.self.invariant c.args.self.now c.self.view_is c.in-Live.p c.args.at c.args.width has in
    let below = in_directory c.self.inside c.self.invariant c.args.self.now c.self.view_is c.in-Live.p.0 there in
    omega arith

pub number_at-requires-clause-there : goal.number_at-requires-clause-there
number_at-requires-clause-there c =
    let has : HasBytes c.args.self.now (Live c.in-Live.p) c.args.at c.args.width = subst (λ (b : Block). HasBytes c.args.self.now b c.args.at c.args.width) c.in-Live.is c.requires.there in
    let there = has_place c.self.inside c.self.invariant c.args.self.now c.self.view_is c.in-Live.p c.args.at c.args.width has in
    let far = has_bytes c.self.inside c.self.invariant c.args.self.now c.self.view_is c.in-Live.p c.args.at c.args.width has in
    let entry = ap (λ (e : Entry). e.offset) (entry_read c.self.inside c.self.invariant c.args.self.now c.self.view_is c.in-Live.p.0 there c.index.result.now c.index.ensures) in
    let long = ap length c.deref.ensures.value in
    omega arith

pub returns-in-Live-clause-number : goal.returns-in-Live-clause-number
returns-in-Live-clause-number c =
    let has : HasBytes c.args.self.now (Live c.in-Live.p) c.args.at c.args.width = subst (λ (b : Block). HasBytes c.args.self.now b c.args.at c.args.width) c.in-Live.is c.requires.there in
    let there = has_place c.self.inside c.self.invariant c.args.self.now c.self.view_is c.in-Live.p c.args.at c.args.width has in
    let entry = ap (λ (e : Entry). e.offset) (entry_read c.self.inside c.self.invariant c.args.self.now c.self.view_is c.in-Live.p.0 there c.index.result.now c.index.ensures) in
    let start : c.index.result.now.offset + c.from.result ≡ start_at (parts_of c.self.inside) c.in-Live.p.0 + c.args.at = (λ i. entry i + c.from.ensures i) in
    let same : bytes_at c.deref.result.now (c.index.result.now.offset + c.from.result) c.from-in-Live.result ≡ bytes_at c.self.inside.bytes.items (start_at (parts_of c.self.inside) c.in-Live.p.0 + c.args.at) c.args.width =
    (λ i. bytes_at (c.deref.ensures.value i) (start i) (c.from-in-Live.ensures i)) in
    subst (λ (b : Block). IfSome (bytes_of c.args.self.now b) (λ bytes. c.number_at.result ≡ number_of (bytes_at bytes c.args.at c.args.width))) (sym c.in-Live.is)
    (bytes_told c.self.inside c.self.invariant c.args.self.now c.self.view_is c.in-Live.p c.args.at c.args.width has (λ bytes. c.number_at.result ≡ number_of bytes)
    (c.number_at.ensures.number ∙ ap number_of same))
