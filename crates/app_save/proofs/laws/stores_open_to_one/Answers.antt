use Rattle.std.proofs.Common.{arith}
use Rattle.app_save.proofs.Newest.{payload_is_one}
use Rattle.app_save.proofs.Whole.{store_opens}
use Rattle.app_save.proofs.laws.stores_open_to_one.Goals as goal

pub returns : goal.returns
returns c = record {
  slot = λ S T image one two. let a = one.size in let b = two.size in omega (arith, a, b);
  some = store_opens;
  payload = payload_is_one;
}
