use Rattle.std.proofs.Common.{◌≡◌, Some, None, not, [], ◌∷◌, ◌++◌, true, sym, ap, ◌∙◌}
use Rattle.std.specs.Prelude.{is_ok, position}
use Rattle.sed_outside.specs.Named.{value_of}
use Rattle.sed_outside.proofs.Entries.{has_name, value_of-set_same, value_of-set_other, value_of-push_same, value_of-push_other}
use Rattle.sed_outside.proofs.named.put.Goals as goal

pub returns-in-Some-clause-ok : goal.returns-in-Some-clause-ok
returns-in-Some-clause-ok g c =
    let found : position (has_name c.args.name.now) c.args.entries.now.items ≡ Some c.in-Some.i =
    ap (position (has_name c.args.name.now)) (sym c.deref.ensures.value) ∙ (sym c.place_of.ensures ∙ c.in-Some.is) in
    value_of-set_same c.args.entries.now.items c.args.name.now c.in-Some.i c.index_mut.result.now c.args.value found c.index_mut.ensures.value

pub returns-in-Some-clause-others : goal.returns-in-Some-clause-others
returns-in-Some-clause-others g c = λ other apart.
    let found : position (has_name c.args.name.now) c.args.entries.now.items ≡ Some c.in-Some.i =
    ap (position (has_name c.args.name.now)) (sym c.deref.ensures.value) ∙ (sym c.place_of.ensures ∙ c.in-Some.is) in
    value_of-set_other c.args.entries.now.items c.args.name.now other c.in-Some.i c.index_mut.result.now c.args.value found c.index_mut.ensures.value apart

pub returns-else-is_err-clause-ok : goal.returns-else-is_err-clause-ok
returns-else-is_err-clause-ok g c =
    let absent : position (has_name c.args.name.now) c.args.entries.now.items ≡ None =
    ap (position (has_name c.args.name.now)) (sym c.deref.ensures.value) ∙ (sym c.place_of.ensures ∙ c.in-None.is) in
    let pushed : is_ok c.push.result ≡ true = c.is_err.ensures.negation ∙ ap not c.if-is_err.false in
    let last : c.push.new.self.items ≡ c.args.entries.now.items ++ (c.in-Ok.name, c.args.value) ∷ [] = rw pushed at c.push.ensures.items in
    ap (λ entries. value_of entries c.args.name.now) last
    ∙ value_of-push_same c.args.entries.now.items c.args.name.now (c.in-Ok.name, c.args.value) absent c.in-Ok.ensures.ok

pub returns-else-is_err-clause-others : goal.returns-else-is_err-clause-others
returns-else-is_err-clause-others g c = λ other apart.
    let pushed : is_ok c.push.result ≡ true = c.is_err.ensures.negation ∙ ap not c.if-is_err.false in
    let last : c.push.new.self.items ≡ c.args.entries.now.items ++ (c.in-Ok.name, c.args.value) ∷ [] = rw pushed at c.push.ensures.items in
    ap (λ entries. value_of entries other) last
    ∙ value_of-push_other c.args.entries.now.items c.args.name.now other (c.in-Ok.name, c.args.value) c.in-Ok.ensures.ok apart
