use Rattle.std.proofs.Common.{◌≡◌, ap, sym, subst, arith}
use Rattle.std.specs.Prelude.{IfSome, Option}
use Rattle.scode_mem.specs.declared.entry.Entry.{Entry}
use Rattle.scode_mem.specs.Blocks.{Kept}
use Rattle.scode_mem.proofs.Told.{block_of, entry_read, in_directory}
use Rattle.scode_mem.proofs.pool.Pool.kind.Goals as goal

pub index-requires : goal.index-requires
index-requires c = let below = in_directory c.self.inside c.self.invariant c.args.self.now c.self.view_is c.args.p.0 c.requires in omega arith

pub returns : goal.returns
returns c =
    let entry = entry_read c.self.inside c.self.invariant c.args.self.now c.self.view_is c.args.p.0 c.requires c.index.result.now c.index.ensures in
    subst (λ (o : Option Kept). IfSome o (λ b. c.index.result.now.class ≡ b.class))
    (sym (block_of c.self.inside c.self.invariant c.args.self.now c.self.view_is c.args.p.0 c.requires)) (ap (λ (e : Entry). e.class) entry)
