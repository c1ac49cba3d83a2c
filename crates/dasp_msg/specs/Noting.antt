-- What a message says once one field more is read.
use Rattle.std.specs.Prelude.{[], ◌∷◌}
use Rattle.std.specs.Option.{option_or}
use Rattle.dasp_msg.specs.Field.{Part}
use Rattle.dasp_msg.specs.Shown.{Message, number_of_first, text_of_first, run_of_first}

-- what it says already stays
abbrev pub noted : Message → Part → Message
noted message part = record message {
  version = option_or message.version (number_of_first 5 (part ∷ []));
  remote_id = option_or message.remote_id (number_of_first 9 (part ∷ []));
  algorithm = option_or message.algorithm (text_of_first 14 (part ∷ []));
  nonce = option_or message.nonce (run_of_first 19 (part ∷ []));
  username = option_or message.username (text_of_first 22 (part ∷ []));
  digest = option_or message.digest (run_of_first 27 (part ∷ []));
  ideal_max = option_or message.ideal_max (number_of_first 29 (part ∷ []));
  abs_max = option_or message.abs_max (number_of_first 33 (part ∷ []));
  ack = option_or message.ack (number_of_first 37 (part ∷ []));
  ack_more = option_or message.ack_more (run_of_first 43 (part ∷ []));
  receive_max = option_or message.receive_max (number_of_first 45 (part ∷ []));
  receive_timeout = option_or message.receive_timeout (number_of_first 49 (part ∷ []));
  error_code = option_or message.error_code (number_of_first 53 (part ∷ []));
  platform_id = option_or message.platform_id (text_of_first 58 (part ∷ []));
}
