use Rattle.std.proofs.Common.{◌≡◌, ◌+◌, drop}
use Rattle.scode_emit.specs.Code.{default_place}
use Rattle.scode_emit.specs.Lists.{begins_of, block_size}
use Rattle.scode_emit.specs.Rows.{seen}
use Rattle.scode_emit.proofs.statements.default_place.Given as goal

abbrev pub invariant-loop-label : goal.invariant-loop-label
invariant-loop-label l =
    let w = seen l.site in
    let end = l.fn.first + block_size w l.all in
    record {
      found : default_place end (drop l.label-index l.labels) (begins_of w l.place l.rest) ≡ default_place end l.labels (begins_of w l.fn.first l.all);
      place : l.place + block_size w l.rest ≡ end;
    }
