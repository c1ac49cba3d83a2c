-- What goes on to be kept.
use Rattle.std.proofs.Common.{◌≡◌, ◌≤◌, ℕ, refl, sym, subst, arith}
use Rattle.disk_model.specs.Disk.{Elapses, Meaning as DiskMeaning}
use Rattle.sed_engine.specs.declared.engine.Engine.{Ghosts}
use Rattle.sed_engine.specs.Code.{Meaning}
use Rattle.sed_engine.specs.Whole.{IsWhole}
use Rattle.comp_tree.specs.Application.{Application}
use Rattle.comp_tree.specs.Whole.{Whole}
use Rattle.link_prop.specs.Linked.{application_of}
use Rattle.sub_table.specs.declared.part.Part.{Part}
use Rattle.sox_events.specs.Due.{AllMarksAgree, longest, room_for, subscriptions}
use Rattle.sed_node.specs.Standing.{IsKept, code_of}
use Rattle.sed_node.specs.declared.kept.Kept.{Kept}

pub kept_by : {E : Type 0} (g : Ghosts E) (old new : Kept E) → IsKept g old → code_of g new ≡ code_of g old
    → Whole (code_of g old) (application_of g new.app) → AllMarksAgree g new.app (subscriptions new.subs)
    → ((part : Part) → room_for new.subs part ≡ room_for old.subs part) → IsKept g new
kept_by g old new kept code whole agree room = record {
  code = subst IsWhole (sym code) kept.code;
  whole = subst (λ (m : Meaning). Whole m (application_of g new.app)) (sym code) whole;
  agree = agree;
  room = λ part. subst (λ (n : ℕ). longest (code_of g new).schema part ≤ n) (sym (room part))
      (subst (λ (m : Meaning). longest m.schema part ≤ room_for old.subs part) (sym code) (kept.room part));
}

-- under an application and a code that are the same
pub at_same : (P : Meaning → Application → Type 0) (m n : Meaning) (a b : Application) → m ≡ n → a ≡ b → P m a → P n b
at_same P m n a b code application p = subst (λ (x : Meaning). P x b) code (subst (P m) application p)

-- no time goes by
pub no_time : (d : DiskMeaning) → Elapses d d
no_time d = record {
  later = omega arith;
  told = refl;
  told_marks = refl;
  told_syncs = refl;
  past = λ tells u image before. ((λ x. x), (λ x. x));
  past_marks = λ tells u before. refl;
  past_syncs = λ tells u before. refl;
}
