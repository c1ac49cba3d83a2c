use Rattle.std.proofs.Common.{◌≡◌, ◌≤◌, length, ap, subst, arith}
use Rattle.std.specs.FinMap as map
use Rattle.comp_tree.specs.Held.{Held, components_of}
use Rattle.link_prop.specs.Linked.{application_of}
use Rattle.app_parts.specs.declared.values.Values.TheVariants.{Config, Runtime}
use Rattle.app_parts.specs.Longest.{longest_part, longest_values}
use Rattle.app_parts.specs.Values.{values_bytes}
use Rattle.app_parts.proofs.PartLemmas.{config-is, runtime-is, some_and}
use Rattle.app_parts.proofs.part.put_part_told.Goals as goal

pub returns-in-99-clause-short : goal.returns-in-99-clause-short
returns-in-99-clause-short g c =
    let h = c.args.app.now.tree in
    let m = g.E.Engine.meaning h.engine in
    let t = some_and (map.get (components_of g.E.Engine h).by_id c.args.id.0) c.requires.told in
    let same = ap length (config-is m (g.E.Engine.live h.engine) (application_of g.E.Engine c.args.app.now) c.args.id.0 c.args.entry.now t.0 t.1 t.2 c.args.part c.in-99.is) in
    let sized = subst (λ (h : Held _). length (values_bytes (g.E.Engine.meaning h.engine) (components_of g.E.Engine h).by_id c.args.id.0 c.args.entry.now.kind.0 Config)
    ≤ longest_values Config (g.E.Engine.meaning h.engine).schema.classes) c.tree-in-99.ensures c.put_values.ensures.sized in
    let most : longest_part m.schema c.args.part ≡ longest_values Config m.schema.classes = ap (longest_part m.schema) c.in-99.is in
    omega (arith, same, sized, most)

pub returns-in-114-clause-short : goal.returns-in-114-clause-short
returns-in-114-clause-short g c =
    let h = c.args.app.now.tree in
    let m = g.E.Engine.meaning h.engine in
    let t = some_and (map.get (components_of g.E.Engine h).by_id c.args.id.0) c.requires.told in
    let same = ap length (runtime-is m (g.E.Engine.live h.engine) (application_of g.E.Engine c.args.app.now) c.args.id.0 c.args.entry.now t.0 t.1 t.2 c.args.part c.in-114.is) in
    let sized = subst (λ (h : Held _). length (values_bytes (g.E.Engine.meaning h.engine) (components_of g.E.Engine h).by_id c.args.id.0 c.args.entry.now.kind.0 Runtime)
    ≤ longest_values Runtime (g.E.Engine.meaning h.engine).schema.classes) c.tree-in-114.ensures c.put_values-in-114.ensures.sized in
    let most : longest_part m.schema c.args.part ≡ longest_values Runtime m.schema.classes = ap (longest_part m.schema) c.in-114.is in
    omega (arith, same, sized, most)
