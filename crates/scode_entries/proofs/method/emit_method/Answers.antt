use Rattle.scode_emit.specs.Rows.{seen}
use Rattle.scode_entries.proofs.SpelledCode.{code_spelled}
use Rattle.scode_entries.proofs.Exists.{locals_fit}
use Rattle.scode_entries.proofs.method.emit_method.Goals as goal

pub site_of-site-requires : goal.site_of-site-requires
site_of-site-requires c = locals_fit c.args.program.now c.args.m.now c.requires

pub method_at-requires-clause-spelled : goal.method_at-requires-clause-spelled
method_at-requires-clause-spelled c = code_spelled c.args.program.now c.args.m.now (seen c.site_of-site.result) c.requires
