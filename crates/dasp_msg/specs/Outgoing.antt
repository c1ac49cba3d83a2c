-- What a sender keeps, and what it stands for.
use Rattle.std.specs.Prelude.{◌≡◌, ℕ, Bool, is_some, List}
use Rattle.dasp_msg.specs.declared.outgoing.Message.{Message}
use Rattle.dasp_msg.specs.Numbers.{wire_number}
use Rattle.dasp_msg.specs.Posted.{first_open, open_part, message_of}

-- the messages from the first open one on, and that one's number
pub record Window : Type 0 where
  pub first : ℕ
  pub messages : List Message

-- one of them has this number
abbrev pub has_message : Window → ℕ → Bool
has_message window number = is_some (message_of number window.first window.messages)

-- the window on these messages
pub record SendsLike (window : Window) (posted : List Message) : Type 0 where
  pub first : window.first ≡ wire_number (first_open posted)
  pub messages : window.messages ≡ open_part posted
