use Rattle.std.proofs.Common.{◌≡◌, true, false, refl}
use Rattle.app_reader.specs.Checks.{name_at}
use Rattle.app_reader.proofs.Apart.{all_put, beside_none, put_new, put_twice}
use Rattle.app_reader.proofs.names.are_apart.Goals as goal

pub loop-n-init : goal.loop-n-init
loop-n-init c = beside_none _ c.new-names.ensures.empty

pub returns-then-not-is_new : goal.returns-then-not-is_new
returns-then-not-is_new c = (
  λ never. absurd (let no : false ≡ true = never in cc),
  λ distinct. absurd
      (put_twice (name_at c.args.rows.now) c.args.places.now c.loop-n.n c.name_at-name.result c.loop-n.names c.in_ok-is_new.is_new c.loop-n-test.true c.name_at-name.ensures c.in_ok-is_new.ensures.new c.if-not-is_new.true c.loop-n.invariant distinct),
)

pub loop-n-preserved : goal.loop-n-preserved
loop-n-preserved c =
    put_new (name_at c.args.rows.now) c.args.places.now c.loop-n.n c.name_at-name.result c.loop-n.names _ c.in_ok-is_new.is_new c.loop-n-test.true c.name_at-name.ensures c.in_ok-is_new.ensures.new c.if-not-is_new.false c.in_ok-is_new.ensures.put c.loop-n.invariant

pub returns : goal.returns
returns c = (λ _. all_put (name_at c.args.rows.now) c.args.places.now c.loop-n.n c.loop-n.names c.loop-n-test.false c.loop-n.invariant, λ _. refl)
