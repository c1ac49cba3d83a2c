-- Why a reply says that memory was wanted, or that the disk failed.
use Rattle.std.proofs.Common.{◌≡◌, ℕ, Bool, true, false, List, [], ◌∷◌, refl, sym, ◌∙◌, ap, subst}
use Rattle.std.specs.Prelude.{ℤ, not, IsOk, Option, Some, None, Result, Ok, Err, if◌then◌else◌}
use Rattle.std.specs.List.{list_all}
use Rattle.sed_outside.specs.declared.addr.Addr.{Addr}
use Rattle.sed_value.specs.declared.refusal.Refusal.{Refusal}
use Rattle.sed_value.specs.declared.refusal.Refusal.TheVariants.{OutOfMemory, SaveDevice, StoreFull}
use Rattle.sed_engine.specs.Code.{Meaning}
use Rattle.comp_tree.specs.Application.{Application}
use Rattle.comp_tree.specs.Edit.{Edit, Edited, Reply, Done, Added, Told}
use Rattle.comp_tree.specs.Parts.{Kept}
use Rattle.comp_tree.specs.Refusals.{first_refusal}
use Rattle.dasp_session.specs.Letters.{Letter}
use Rattle.dasp_session.specs.Receive.{Handing, none, ended_at, payload_at, received}
use Rattle.sox_msg.specs.Answered as told
use Rattle.sox_msg.specs.Answered.{Answered, refused}
use Rattle.sox_msg.specs.Command.{Asked, add, read_part, delete, invoke, link, unlink, rename, reorder, read_slot, subscribe, unsubscribe, version, write, clear}
use Rattle.sox_msg.specs.Refused.{IsRefusedFor}
use Rattle.sox_serve.specs.Answer.{Answer, answer, answer_by, answered_by, asks_for_save, command_of, refused_by}
use Rattle.sox_serve.specs.Table.{refusals_of}
use Rattle.node_events.specs.Delivering.{delivered, handed}
use Rattle.node_events.specs.Heard.{Heard, IsWish, Wish, asks, is_refused}
use Rattle.node_events.specs.Mishap.{Mishap, disk_failed, is_disk_failed, is_no_memory, no_memory, nothing_wrong}
use Rattle.node_events.specs.Node.{Node, Setup}
use Rattle.node_events.specs.Saving.{answer_to_save, is_too_long}
use Rattle.node_events.specs.Serving.{done_by, given, lacks_memory, served}
use Rattle.node_events.proofs.Truths.{both_true, no_true}

-- ---- the refusals of rows

abbrev is_of_row : Refusal → Bool
is_of_row OutOfMemory = false
is_of_row SaveDevice = false
is_of_row refusal = true

abbrev row_is : Bool × Refusal → Bool
row_is row = is_of_row row.1

same_refusal : (x y : Refusal) → ◌≡◌ {A = Option Refusal} (Some x) (Some y) → x ≡ y
same_refusal x y is = cc

no_refusal : (x : Refusal) → ◌≡◌ {A = Option Refusal} None (Some x) → ⊥
no_refusal x is = cc

same_answer : (x y : Refusal) → ◌≡◌ {A = Option Answered} (Some (refused x)) (Some (refused y)) → x ≡ y
same_answer x y is = cc

given_by_rows : (rows : List (Bool × Refusal)) (refusal : Refusal) → list_all row_is rows ≡ true → first_refusal rows ≡ Some refusal → is_of_row refusal ≡ true
given_by_rows [] refusal all is = absurd (no_refusal refusal is)
given_by_rows (row ∷ rows) refusal all is = by_test row.0 (given_by_rows rows refusal both.1) is
  where
    both : (is_of_row row.1 ≡ true) × (list_all row_is rows ≡ true)
    both = both_true (is_of_row row.1) (list_all row_is rows) all

    by_test : (b : Bool) → (first_refusal rows ≡ Some refusal → is_of_row refusal ≡ true)
        → (if b then Some row.1 else first_refusal rows) ≡ Some refusal → is_of_row refusal ≡ true
    by_test true later is = ap is_of_row (sym (same_refusal row.1 refusal is)) ∙ both.0
    by_test false later is = later is

rows_are : (m : Meaning) (a : Application) (asked : Asked) → list_all row_is (refusals_of m a asked) ≡ true
rows_are m a (add parent kit kind name config) = refl
rows_are m a (read_part id part) = refl
rows_are m a (delete id) = refl
rows_are m a (invoke id slot argument) = refl
rows_are m a (link source from_slot target to_slot) = refl
rows_are m a (unlink source from_slot target to_slot) = refl
rows_are m a (rename id name) = refl
rows_are m a (reorder id children) = refl
rows_are m a (read_slot id slot) = refl
rows_are m a (subscribe id mask) = refl
rows_are m a (unsubscribe id mask) = refl
rows_are m a version = refl
rows_are m a (write id slot value) = refl
rows_are m a (clear id) = refl

-- ---- what a command that is done is answered

done_apart : (letter : ℕ) (refusal : Refusal) → told.done letter ≡ refused refusal → ⊥
done_apart letter refusal is = cc

added_apart : (id : ℕ) (refusal : Refusal) → told.added id ≡ refused refusal → ⊥
added_apart id refusal is = cc

part_apart : (id letter : ℕ) (bytes : List ℕ) (refusal : Refusal) → told.part id letter bytes ≡ refused refusal → ⊥
part_apart id letter bytes refusal is = cc

slot_apart : (id number : ℕ) (bytes : List ℕ) (refusal : Refusal) → told.slot id number bytes ≡ refused refusal → ⊥
slot_apart id number bytes refusal is = cc

version_apart : (schema : List ℕ) (refusal : Refusal) → told.version schema ≡ refused refusal → ⊥
version_apart schema refusal is = cc

answered_apart : (asked : Asked) (reply : Reply) (refusal : Refusal) → answered_by asked reply ≡ refused refusal → ⊥
answered_apart (add parent kit kind name config) Done refusal is = done_apart _ refusal is
answered_apart (add parent kit kind name config) (Added id) refusal is = added_apart id refusal is
answered_apart (add parent kit kind name config) (Told bytes) refusal is = done_apart _ refusal is
answered_apart (read_part id part) Done refusal is = done_apart _ refusal is
answered_apart (read_part id part) (Added other) refusal is = done_apart _ refusal is
answered_apart (read_part id part) (Told bytes) refusal is = part_apart id part bytes refusal is
answered_apart (delete id) reply refusal is = done_apart _ refusal is
answered_apart (invoke id slot argument) reply refusal is = done_apart _ refusal is
answered_apart (link source from_slot target to_slot) reply refusal is = done_apart _ refusal is
answered_apart (unlink source from_slot target to_slot) reply refusal is = done_apart _ refusal is
answered_apart (rename id name) reply refusal is = done_apart _ refusal is
answered_apart (reorder id children) reply refusal is = done_apart _ refusal is
answered_apart (read_slot id slot) Done refusal is = done_apart _ refusal is
answered_apart (read_slot id slot) (Added other) refusal is = done_apart _ refusal is
answered_apart (read_slot id slot) (Told bytes) refusal is = slot_apart id slot bytes refusal is
answered_apart (subscribe id mask) reply refusal is = done_apart _ refusal is
answered_apart (unsubscribe id mask) reply refusal is = done_apart _ refusal is
answered_apart version Done refusal is = done_apart _ refusal is
answered_apart version (Added other) refusal is = done_apart _ refusal is
answered_apart version (Told bytes) refusal is = version_apart bytes refusal is
answered_apart (write id slot value) reply refusal is = done_apart _ refusal is
answered_apart (clear id) reply refusal is = done_apart _ refusal is

-- ---- the causes

-- want of memory for one refusal, and a disk that fails for another
pub record Caused (refusal : Refusal) (mishap : Mishap) : Type 0 where
  pub memory : refusal ≡ OutOfMemory → mishap ≡ no_memory
  pub disk : refusal ≡ SaveDevice → mishap ≡ disk_failed

row_caused : (refusal : Refusal) (mishap : Mishap) → is_of_row refusal ≡ true → Caused refusal mishap
row_caused refusal mishap is = record {
  memory = λ e. absurd (let no : false ≡ true = sym (ap is_of_row e) ∙ is in cc);
  disk = λ e. absurd (let no : false ≡ true = sym (ap is_of_row e) ∙ is in cc);
}

wish_caused : (payload : List ℕ) (refusal : Refusal) (mishap : Mishap) → IsRefusedFor refusal payload → Caused refusal mishap
wish_caused payload refusal mishap why = record {
  memory = λ e. absurd (subst (λ (r : Refusal). IsRefusedFor r payload) e why);
  disk = λ e. absurd (subst (λ (r : Refusal). IsRefusedFor r payload) e why);
}

memory_is : (mishap : Mishap) → is_no_memory mishap ≡ true → mishap ≡ no_memory
memory_is nothing_wrong is = absurd (no_true is)
memory_is no_memory is = refl
memory_is disk_failed is = absurd (no_true is)

disk_is : (mishap : Mishap) → not (is_disk_failed mishap) ≡ false → mishap ≡ disk_failed
disk_is nothing_wrong is = absurd (no_true (sym is))
disk_is no_memory is = absurd (no_true (sym is))
disk_is disk_failed is = refl

memory_caused : (refusal : Refusal) (mishap : Mishap) → refusal ≡ OutOfMemory → is_no_memory mishap ≡ true → Caused refusal mishap
memory_caused refusal mishap same is = record {
  memory = λ e. memory_is mishap is;
  disk = λ e. absurd (let no : OutOfMemory ≡ SaveDevice = sym same ∙ e in cc);
}

-- of a save
module _ (m : Meaning) (slot : ℕ) (a : Application) (mishap : Mishap) where
  full_caused : (refusal : Refusal) → refused StoreFull ≡ refused refusal → Caused refusal mishap
  full_caused refusal is = row_caused refusal mishap (ap is_of_row (sym (same_answer StoreFull refusal (ap Some is))))

  disk_caused : (b : Bool) (refusal : Refusal) → not (is_disk_failed mishap) ≡ b → (if b then told.done 73 else refused SaveDevice) ≡ refused refusal → Caused refusal mishap
  disk_caused true refusal so is = absurd (done_apart 73 refusal is)
  disk_caused false refusal so is = record {
    memory = λ e. absurd (let no : SaveDevice ≡ OutOfMemory = same_answer SaveDevice refusal (ap Some is) ∙ e in cc);
    disk = λ e. disk_is mishap so;
  }

  save_caused : (b : Bool) (refusal : Refusal)
      → answer_to_save (if b then None else Some (record { application = Kept m a; acknowledged = not (is_disk_failed mishap) })) ≡ refused refusal → Caused refusal mishap
  save_caused true refusal is = full_caused refusal is
  save_caused false refusal is = disk_caused (not (is_disk_failed mishap)) refusal refl is

-- ---- a command

abbrev pub RowsRefuse : Type 0
RowsRefuse = (m : Meaning) (a : Application) (asked : Asked) (turns : ℕ) (moment : ℤ) (refusal : Refusal)
    → first_refusal (refusals_of m a asked) ≡ Some refusal → answer m a asked turns moment ≡ refused_by a refusal

abbrev pub RowsAllow : Type 0
RowsAllow = (m : Meaning) (a : Application) (asked : Asked) (turns : ℕ) (moment : ℤ)
    → first_refusal (refusals_of m a asked) ≡ None → IsOk (Edit m a (command_of asked) turns moment)

module _ (refuse : RowsRefuse) (allow : RowsAllow) (m : Meaning) (s : Setup) where
  module _ (a : Application) (asked : Asked) (turns : ℕ) (moment : ℤ) (refusal : Refusal) where
    done_never : (b : Bool) (reply : Reply) → (if b then None else Some (answered_by asked reply)) ≡ Some (refused refusal) → ⊥
    done_never true reply is = no is
      where
        no : ◌≡◌ {A = Option Answered} None (Some (refused refusal)) → ⊥
        no is = cc
    done_never false reply is = answered_apart asked reply refusal (same (answered_by asked reply) (refused refusal) is)
      where
        same : (x y : Answered) → ◌≡◌ {A = Option Answered} (Some x) (Some y) → x ≡ y
        same x y is = cc

    allowed_never : (e : Result Edited Refusal) → IsOk e → (answer_by a asked e).reply ≡ Some (refused refusal) → ⊥
    allowed_never (Ok edited) ok is = done_never (asks_for_save asked) edited.reply is
    allowed_never (Err number) ok is = absurd (let no : false ≡ true = ok in cc)

    answer_of_row : (o : Option Refusal) → first_refusal (refusals_of m a asked) ≡ o → (answer m a asked turns moment).reply ≡ Some (refused refusal) → is_of_row refusal ≡ true
    answer_of_row None row is = absurd (allowed_never (Edit m a (command_of asked) turns moment) (allow m a asked turns moment row) is)
    answer_of_row (Some first) row is =
        let same : first ≡ refusal = same_answer first refusal (sym (ap (λ (x : Answer). x.reply) (refuse m a asked turns moment first row)) ∙ is) in
        given_by_rows (refusals_of m a asked) refusal (rows_are m a asked) (row ∙ ap Some same)

  given_caused : (n : Node) (asked : Asked) (mishap : Mishap) (refusal : Refusal) → (given m s n asked mishap).reply ≡ Some (refused refusal) → Caused refusal mishap
  given_caused n asked mishap refusal = by_test (lacks_memory m s n asked mishap) refl
    where
      by_test : (b : Bool) → lacks_memory m s n asked mishap ≡ b
          → (if b then refused_by n.application OutOfMemory else answer m n.application asked s.turns n.sessions.moment).reply ≡ Some (refused refusal)
          → Caused refusal mishap
      by_test true lacks is = memory_caused refusal mishap (sym (same_answer OutOfMemory refusal is)) (both_true (is_no_memory mishap) _ lacks).0
      by_test false lacks is =
          row_caused refusal mishap
          (answer_of_row n.application asked s.turns n.sessions.moment refusal (first_refusal (refusals_of m n.application asked)) refl is)

  done_caused : (n : Node) (place : ℕ) (mishap : Mishap) (x : Answer) (reply : Option Answered) (refusal : Refusal)
      → (reply ≡ Some (refused refusal) → Caused refusal mishap) → (done_by m s n place mishap x reply).reply ≡ refused refusal → Caused refusal mishap
  done_caused n place mishap x (Some reply) refusal why is = why (ap Some is)
  done_caused n place mishap x None refusal why is = save_caused m s.slot n.application mishap (is_too_long m s.slot n.application) refusal is

  served_caused : (n : Node) (place : ℕ) (payload : List ℕ) (wish : Wish) (mishap : Mishap) (refusal : Refusal) → IsWish payload wish
      → (served m s n place wish mishap).reply ≡ refused refusal → Caused refusal mishap
  served_caused n place payload (is_refused r) mishap refusal why is =
      wish_caused payload refusal mishap (subst (λ (r : Refusal). IsRefusedFor r payload) (same_answer r refusal (ap Some is)) why)
  served_caused n place payload (asks asked) mishap refusal why is =
      done_caused n place mishap (given m s n asked mishap) (given m s n asked mishap).reply refusal (given_caused n asked mishap refusal) is

  handed_caused : (n : Node) (payload : List ℕ) (wish : Wish) (mishap : Mishap) (sent : List Letter) (handing : Handing) (refusal : Refusal) → IsWish payload wish
      → (handed m s wish mishap n sent handing).reply ≡ Some (refused refusal) → Caused refusal mishap
  handed_caused n payload wish mishap sent none refusal why is = absurd (no_reply is)
    where
      no_reply : ◌≡◌ {A = Option Answered} None (Some (refused refusal)) → ⊥
      no_reply is = cc
  handed_caused n payload wish mishap sent (ended_at place) refusal why is = absurd (no_reply is)
    where
      no_reply : ◌≡◌ {A = Option Answered} None (Some (refused refusal)) → ⊥
      no_reply is = cc
  handed_caused n payload wish mishap sent (payload_at place bytes) refusal why is =
      served_caused n place payload wish mishap refusal why (same (served m s n place wish mishap).reply (refused refusal) is)
    where
      same : (x y : Answered) → ◌≡◌ {A = Option Answered} (Some x) (Some y) → x ≡ y
      same x y is = cc

  pub delivery_caused : (n : Node) (from : Addr) (heard : Heard) (mishap : Mishap) (refusal : Refusal) → IsWish heard.message.payload heard.wish
      → (delivered m s n from (Some heard) mishap).reply ≡ Some (refused refusal) → Caused refusal mishap
  delivery_caused n from heard mishap refusal why is =
      let outcome = received n.sessions from (Some heard.message) in
      handed_caused (record n { sessions = outcome.state }) heard.message.payload heard.wish mishap outcome.letters outcome.handing refusal why is
