-- A command and the row of its refusals.
use Rattle.std.proofs.Common.{◌≡◌, ℕ, refl}
use Rattle.std.specs.Prelude.{ℤ, IsOk, Some, None}
use Rattle.sed_value.specs.declared.refusal.Refusal.{Refusal}
use Rattle.sed_engine.specs.Code.{Meaning}
use Rattle.comp_tree.specs.Application.{Application}
use Rattle.comp_tree.specs.Edit.{Edit}
use Rattle.comp_tree.specs.Refusals.{first_refusal}
use Rattle.sox_msg.specs.Command.{Asked, add, read_part, delete, invoke, link, unlink, rename, reorder, read_slot, subscribe, unsubscribe, version, write, clear}
use Rattle.sox_serve.specs.Answer.{answer, command_of, refused_by}
use Rattle.sox_serve.specs.Table.{refusals_of}

pub refused_first : (m : Meaning) (a : Application) (asked : Asked) (turns : ℕ) (moment : ℤ) (refusal : Refusal)
    → first_refusal (refusals_of m a asked) ≡ Some refusal → answer m a asked turns moment ≡ refused_by a refusal
refused_first m a (add parent kit kind name config) turns moment refusal is = rw is refl
refused_first m a (read_part id part) turns moment refusal is = rw is refl
refused_first m a (delete id) turns moment refusal is = rw is refl
refused_first m a (invoke id slot argument) turns moment refusal is = rw is refl
refused_first m a (link source from_slot target to_slot) turns moment refusal is = rw is refl
refused_first m a (unlink source from_slot target to_slot) turns moment refusal is = rw is refl
refused_first m a (rename id name) turns moment refusal is = rw is refl
refused_first m a (reorder id children) turns moment refusal is = rw is refl
refused_first m a (read_slot id slot) turns moment refusal is = rw is refl
refused_first m a (subscribe id mask) turns moment refusal is = rw is refl
refused_first m a (unsubscribe id mask) turns moment refusal is = rw is refl
refused_first m a version turns moment refusal is = absurd (cc)
refused_first m a (write id slot value) turns moment refusal is = rw is refl
refused_first m a (clear id) turns moment refusal is = rw is refl

pub done_else : (m : Meaning) (a : Application) (asked : Asked) (turns : ℕ) (moment : ℤ)
    → first_refusal (refusals_of m a asked) ≡ None → IsOk (Edit m a (command_of asked) turns moment)
done_else m a (add parent kit kind name config) turns moment is = rw is refl
done_else m a (read_part id part) turns moment is = rw is refl
done_else m a (delete id) turns moment is = rw is refl
done_else m a (invoke id slot argument) turns moment is = rw is refl
done_else m a (link source from_slot target to_slot) turns moment is = rw is refl
done_else m a (unlink source from_slot target to_slot) turns moment is = rw is refl
done_else m a (rename id name) turns moment is = rw is refl
done_else m a (reorder id children) turns moment is = rw is refl
done_else m a (read_slot id slot) turns moment is = rw is refl
done_else m a (subscribe id mask) turns moment is = rw is refl
done_else m a (unsubscribe id mask) turns moment is = rw is refl
done_else m a version turns moment is = refl
done_else m a (write id slot value) turns moment is = rw is refl
done_else m a (clear id) turns moment is = rw is refl
