use Rattle.std.proofs.Common.{◌≡◌, ◌∙◌, ◌-◌, ℕ, suc, List, ◌++◌, ap, subst, arith}
use Rattle.std.specs.Prelude.{OnOk}
use Rattle.sed_typed.specs.Classes.{fields}
use Rattle.scode_gen.specs.FirstBytes.{fields_bytes, object_bytes}
use Rattle.scode_gen.proofs.first_bytes.+objects.Goals as goal

pub push_object-returns : goal.push_object-returns
push_object-returns t c =
    let program = c.args.program.now in
    let class = c.args.class in
    let depth = c.args.depth in
    let all : c.deref.result.now ≡ fields program class = c.deref.ensures.value ∙ c.in_ok-all.ensures in
    let deep : suc (depth - 1) ≡ depth = omega arith in
    subst (λ (xs : List ℕ). OnOk c.push_fields.result (c.push_fields.new.bytes.items ≡ c.args.bytes.now.items ++ xs))
    (ap (fields_bytes (object_bytes program (depth - 1))) all ∙ ap (λ (n : ℕ). object_bytes program n class) deep) c.push_fields.ensures
