use Rattle.std.proofs.Common.{◌≡◌, ◌+◌, ◌++◌, drop}
use Rattle.sed_value.specs.declared.slot_type.Primitive.TheVariants as prim
use Rattle.scode_emit.specs.Code.{tests_code}
use Rattle.scode_emit.specs.Lists.{begins_of, block_size}
use Rattle.scode_emit.specs.Rows.{seen}
use Rattle.scode_emit.specs.Site.{waiting}
use Rattle.scode_emit.proofs.statements.emit_tests.Given as goal

abbrev pub invariant-loop-label : goal.invariant-loop-label
invariant-loop-label l =
    let w = seen l.site in
    let end = l.fn.first + block_size w l.all in
    record {
      code : l.ops.items ++ tests_code (waiting w prim.Int) end (drop l.label-index l.labels) (begins_of w l.place l.rest)
          ≡ l.initial.ops.items ++ tests_code (waiting w prim.Int) end l.labels (begins_of w l.fn.first l.all);
      place : l.place + block_size w l.rest ≡ end;
    }
