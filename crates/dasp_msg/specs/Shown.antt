-- What a datagram's parts say.
use Rattle.std.specs.Prelude.{ℕ, ◌==◌, if◌then◌else◌, Option, Some, None, List, [], ◌∷◌}
use Rattle.std.specs.Option.{option_and_then}
use Rattle.dasp_msg.specs.declared.header.Header.{Header}
use Rattle.dasp_msg.specs.declared.kind.MsgKind.{MsgKind}
use Rattle.dasp_msg.specs.Field.{Content, number, text, run, Part}

-- a message without where its bytes lie in memory
pub record Message : Type 0 where
  pub to : ℕ
  pub sequence : ℕ
  pub kind : MsgKind
  pub version : Option ℕ
  pub remote_id : Option ℕ
  pub algorithm : Option (List ℕ)
  pub nonce : Option (List ℕ)
  pub username : Option (List ℕ)
  pub digest : Option (List ℕ)
  pub ideal_max : Option ℕ
  pub abs_max : Option ℕ
  pub ack : Option ℕ
  pub ack_more : Option (List ℕ)
  pub receive_max : Option ℕ
  pub receive_timeout : Option ℕ
  pub error_code : Option ℕ
  pub platform_id : Option (List ℕ)
  pub payload : List ℕ

-- a message of a kind that has no field and no payload
abbrev pub without_fields : ℕ → ℕ → MsgKind → Message
without_fields to sequence kind = record {
  to = to;
  sequence = sequence;
  kind = kind;
  version = None;
  remote_id = None;
  algorithm = None;
  nonce = None;
  username = None;
  digest = None;
  ideal_max = None;
  abs_max = None;
  ack = None;
  ack_more = None;
  receive_max = None;
  receive_timeout = None;
  error_code = None;
  platform_id = None;
  payload = [];
}

-- of several fields with one byte the first counts
abbrev pub first_of : ℕ → List Part → Option Content
first_of byte [] = None
first_of byte (part ∷ behind) = if part.byte == byte then Some part.content else first_of byte behind

abbrev pub as_number : Content → Option ℕ
as_number (number n) = Some n
as_number content = None

abbrev pub as_text : Content → Option (List ℕ)
as_text (text characters) = Some characters
as_text content = None

abbrev pub as_run : Content → Option (List ℕ)
as_run (run bytes) = Some bytes
as_run content = None

unfoldable pub number_of_first : ℕ → List Part → Option ℕ
number_of_first byte parts = option_and_then as_number (first_of byte parts)

unfoldable pub text_of_first : ℕ → List Part → Option (List ℕ)
text_of_first byte parts = option_and_then as_text (first_of byte parts)

unfoldable pub run_of_first : ℕ → List Part → Option (List ℕ)
run_of_first byte parts = option_and_then as_run (first_of byte parts)

-- Each field that is known has its byte. A field with another byte says nothing.
abbrev pub shown_by : Header → List Part → List ℕ → Message
shown_by header fields payload = record {
  to = header.to;
  sequence = header.sequence;
  kind = header.kind;
  version = number_of_first 5 fields;
  remote_id = number_of_first 9 fields;
  algorithm = text_of_first 14 fields;
  nonce = run_of_first 19 fields;
  username = text_of_first 22 fields;
  digest = run_of_first 27 fields;
  ideal_max = number_of_first 29 fields;
  abs_max = number_of_first 33 fields;
  ack = number_of_first 37 fields;
  ack_more = run_of_first 43 fields;
  receive_max = number_of_first 45 fields;
  receive_timeout = number_of_first 49 fields;
  error_code = number_of_first 53 fields;
  platform_id = text_of_first 58 fields;
  payload = payload;
}
