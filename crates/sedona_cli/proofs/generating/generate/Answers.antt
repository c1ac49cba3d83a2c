use Rattle.std.proofs.Common.{ℕ, List, subst, sym}
use Rattle.sedona_words.specs.Asked.{asked_record}
use Rattle.sedona_cli.specs.Gen.{IsRecordFrom}
use Rattle.sedona_cli.proofs.GenSteps.{gen_leaves, gen_refused, gen_wanted, gen_written}
use Rattle.sedona_cli.proofs.generating.generate.Goals as goal

pub returns-in-Err-clause-asks : goal.returns-in-Err-clause-asks
returns-in-Err-clause-asks g c =
    gen_refused g.F.Files c.args.files.now c.record_inputs.new.files (asked_record c.args.words) c.record_inputs.result c.in-Err.refusal c.in-Err.is c.record_inputs.ensures.read

pub returns-in-Ok-record_bytes-clause-asks : goal.returns-in-Ok-record_bytes-clause-asks
returns-in-Ok-record_bytes-clause-asks g c =
    gen_written g.F.Files c.args.files.now c.record_inputs.new.files c.write_output.new.files (asked_record c.args.words) c.record_inputs.result c.in-Ok.inputs c.as_slice.result.now c.write_output.result c.in-Ok.is c.record_inputs.ensures.read
    (subst (λ (b : List ℕ). IsRecordFrom (asked_record c.args.words) c.in-Ok.inputs b) (sym c.as_slice.ensures) c.in-Ok-record_bytes.ensures.made) c.write_output.ensures.asks

pub returns-in-Ok-record_bytes-clause-leaves : goal.returns-in-Ok-record_bytes-clause-leaves
returns-in-Ok-record_bytes-clause-leaves g c =
    gen_leaves g.F.Files c.args.files.now c.record_inputs.new.files c.write_output.new.files (asked_record c.args.words) c.record_inputs.result c.in-Ok.inputs c.as_slice.result.now c.write_output.result c.in-Ok.is c.record_inputs.ensures.read
    (subst (λ (b : List ℕ). IsRecordFrom (asked_record c.args.words) c.in-Ok.inputs b) (sym c.as_slice.ensures) c.in-Ok-record_bytes.ensures.made) c.write_output.ensures.written

pub returns-in-Err-record_bytes-clause-asks : goal.returns-in-Err-record_bytes-clause-asks
returns-in-Err-record_bytes-clause-asks g c =
    gen_wanted g.F.Files c.args.files.now c.record_inputs.new.files (asked_record c.args.words) _ c.in-Err-record_bytes.refusal c.in-Err-record_bytes.ensures.refused c.record_inputs.ensures.read
