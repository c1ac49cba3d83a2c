use Rattle.std.proofs.Common.{◌≡◌, ◌≤◌, List, [], length}
use Rattle.sed_wire.specs.Reading.{Reads}
use Rattle.dasp_msg.specs.declared.message.Msg.{Msg}
use Rattle.dasp_msg.specs.Field.{Part, SpellsFields}
use Rattle.dasp_msg.specs.Shown.{shown_by}
use Rattle.dasp_msg.specs.View.{message_of}
use Rattle.dasp_msg.proofs.reading.read_fields.Given as goal

abbrev pub invariant-loop : goal.invariant-loop
invariant-loop l =
    -- a loop has the message by its parts
    let msg : Msg = record {
      to = l.msg.0;
      sequence = l.msg.1.0;
      kind = l.msg.1.1.0;
      version = l.msg.1.1.1.0;
      remote_id = l.msg.1.1.1.1.0;
      algorithm = l.msg.1.1.1.1.1.0;
      nonce = l.msg.1.1.1.1.1.1.0;
      username = l.msg.1.1.1.1.1.1.1.0;
      digest = l.msg.1.1.1.1.1.1.1.1.0;
      ideal_max = l.msg.1.1.1.1.1.1.1.1.1.0;
      abs_max = l.msg.1.1.1.1.1.1.1.1.1.1.0;
      ack = l.msg.1.1.1.1.1.1.1.1.1.1.1.0;
      ack_more = l.msg.1.1.1.1.1.1.1.1.1.1.1.1.0;
      receive_max = l.msg.1.1.1.1.1.1.1.1.1.1.1.1.1.0;
      receive_timeout = l.msg.1.1.1.1.1.1.1.1.1.1.1.1.1.1.0;
      error_code = l.msg.1.1.1.1.1.1.1.1.1.1.1.1.1.1.1.0;
      platform_id = l.msg.1.1.1.1.1.1.1.1.1.1.1.1.1.1.1.1.0;
      payload = l.msg.1.1.1.1.1.1.1.1.1.1.1.1.1.1.1.1.1.0;
    } in
    (fields : List Part) × (length fields ≡ l.counter) × (l.counter ≤ l.end) × Reads SpellsFields fields l.fn.reader l.reader
    × (message_of msg ≡ shown_by l.header fields [])
