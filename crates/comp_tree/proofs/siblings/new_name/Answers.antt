use Rattle.std.proofs.Common.{sym}
use Rattle.comp_tree.proofs.EditLemmas.{name_read, no_name, rename_allowed, rename_app, rename_bad_name, rename_no_component, rename_taken}
use Rattle.comp_tree.proofs.siblings.new_name.Goals as goal

pub returns-in_default-clause-first : goal.returns-in_default-clause-first
returns-in_default-clause-first c = λ live. rename_no_component live c.args.nodes.now c.args.id.0 c.args.name.now (sym c.in_default.ensures)

pub returns-in_default-read-clause-first : goal.returns-in_default-read-clause-first
returns-in_default-read-clause-first c = λ live.
    rename_bad_name live c.args.nodes.now c.args.id.0 c.args.name.now c.in-Some.node.now (sym c.in-Some.ensures) (no_name c.args.name.now c.in_default-read.ensures)

pub returns-then-has_sibling_named-clause-first : goal.returns-then-has_sibling_named-clause-first
returns-then-has_sibling_named-clause-first c = λ live.
    rename_taken live c.args.nodes.now c.args.id.0 c.args.name.now c.in-Some.node.now (sym c.in-Some.ensures) _ c.has_sibling_named.ensures (name_read c.args.name.now _ c.in-Some-read.ensures) c.if-has_sibling_named.true

pub returns-then-id-eq0-clause-first : goal.returns-then-id-eq0-clause-first
returns-then-id-eq0-clause-first c = λ live.
    rename_app live c.args.nodes.now c.args.id.0 c.args.name.now c.in-Some.node.now (sym c.in-Some.ensures) _ c.has_sibling_named.ensures (name_read c.args.name.now _ c.in-Some-read.ensures) c.if-has_sibling_named.false c.if-id-eq0.true

pub returns-clause-first : goal.returns-clause-first
returns-clause-first c = λ live.
    rename_allowed live c.args.nodes.now c.args.id.0 c.args.name.now c.in-Some.node.now (sym c.in-Some.ensures) _ c.has_sibling_named.ensures (name_read c.args.name.now _ c.in-Some-read.ensures) c.if-has_sibling_named.false c.if-id-eq0.false
