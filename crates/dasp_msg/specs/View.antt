-- Messages and fields without where their bytes lie in memory.
use Rattle.std.specs.Option.{option_map}
use Rattle.dasp_msg.specs.declared.field.Field.{Field}
use Rattle.dasp_msg.specs.declared.field.Value.{Value}
use Rattle.dasp_msg.specs.declared.field.Value.TheVariants.{Nil, Number, Text, Run}
use Rattle.dasp_msg.specs.declared.message.Msg.{Msg}
use Rattle.dasp_msg.specs.Field.{Content, nil, number, text, run, Part}
use Rattle.dasp_msg.specs.Shown.{Message}

abbrev pub content_of : Value → Content
content_of Nil = nil
content_of (Number n) = number n
content_of (Text characters) = text characters.now
content_of (Run bytes) = run bytes.now

abbrev pub part_of : Field → Part
part_of field = record { byte = field.byte; content = content_of field.value }

abbrev pub message_of : Msg → Message
message_of msg = record {
  to = msg.to;
  sequence = msg.sequence;
  kind = msg.kind;
  version = msg.version;
  remote_id = msg.remote_id;
  algorithm = option_map (λ bytes. bytes.now) msg.algorithm;
  nonce = option_map (λ bytes. bytes.now) msg.nonce;
  username = option_map (λ bytes. bytes.now) msg.username;
  digest = option_map (λ bytes. bytes.now) msg.digest;
  ideal_max = msg.ideal_max;
  abs_max = msg.abs_max;
  ack = msg.ack;
  ack_more = option_map (λ bytes. bytes.now) msg.ack_more;
  receive_max = msg.receive_max;
  receive_timeout = msg.receive_timeout;
  error_code = msg.error_code;
  platform_id = option_map (λ bytes. bytes.now) msg.platform_id;
  payload = msg.payload.now;
}
