use Rattle.node_events.proofs.Replies.{delivery_saves}
use Rattle.node_events.proofs.deliveries.saves_show_in_replies.Goals as goal

pub returns : goal.returns
returns c = λ m s n from heard mishap save is. (delivery_saves m s n from heard mishap save is).reply
