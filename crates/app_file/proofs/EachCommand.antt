-- Each command.
use Rattle.std.proofs.Common.{ℕ, ℤ, ◌≡◌, ◌≤◌, false, subst}
use Rattle.std.specs.Prelude.{IsTrue, List, ◌∷◌, Ok, Result, ◌==◌, length}
use Rattle.std.specs.List.{All, list_any}
use Rattle.sed_value.specs.declared.refusal.Refusal.{Refusal}
use Rattle.sed_value.specs.declared.value.Value.{Value}
use Rattle.sed_engine.specs.Code.{Meaning, Object, is_creatable, may_store, new_object, with_slot}
use Rattle.sed_engine.specs.Whole.{IsObject, IsWhole}
use Rattle.sub_table.specs.Link.{Link}
use Rattle.sub_table.specs.Links.{AreInOrder, has_target, links_at, with_link, without_link, without_links_at}
use Rattle.comp_tree.specs.Application.{Application}
use Rattle.comp_tree.specs.Edit.{Add, Clear, Command, Connect, Delete, Disconnect, Edit, Edited, Invoke, ReadPart, ReadSlot, Rename, Reorder, Subscribe, Unsubscribe, Version, Write, is_save}
use Rattle.comp_tree.specs.Whole.{Whole}
use Rattle.app_file.specs.Bytes.{GivesBytes}
use Rattle.app_file.proofs.Added.{whole_add}
use Rattle.app_file.proofs.Changes.{whole_clear, whole_invoke, whole_link, whole_unlink}
use Rattle.app_file.proofs.Nodes.{whole_rename, whole_reorder}
use Rattle.app_file.proofs.Refused.{allowed}
use Rattle.app_file.proofs.Removed.{whole_delete}
use Rattle.app_file.proofs.Writes.{whole_write}

-- what is known of lists of links in order
pub record LinkLaws : Type 0 where
  pub count : (l : Link) (links : List Link) (id : ℕ) → length (links_at id (with_link l links)) ≡ length (links_at id (l ∷ links))
  pub more : (l : Link) (links : List Link) → AreInOrder links → list_any (has_target l.to l.to_slot) links ≡ false → AreInOrder (with_link l links)
  pub less : (l : Link) (links : List Link) → AreInOrder links → AreInOrder (without_link l links)
  pub less_at : (ids : List ℕ) (links : List Link) → AreInOrder links → AreInOrder (without_links_at ids links)
  pub fewer : (l : Link) (links : List Link) (id : ℕ) → length (links_at id (without_link l links)) ≤ length (links_at id links)
  pub fewer_at : (ids : List ℕ) (links : List Link) (id : ℕ) → length (links_at id (without_links_at ids links)) ≤ length (links_at id links)
  pub gone : (ids : List ℕ) (links : List Link) → All (λ l. (list_any (λ id. l.from == id) ids ≡ false) × (list_any (λ id. l.to == id) ids ≡ false)) (without_links_at ids links)

module _ (m : Meaning) (code : IsWhole m) (stored : (o : Object) (slot : ℕ) (v : Value) → IsObject m o → IsTrue (may_store m o.class slot v) → IsObject m (with_slot m o slot v))
    (made : (class : ℕ) → IsTrue (is_creatable m class) → IsObject m (new_object m class)) (laws : LinkLaws) (a : Application) (whole : Whole m a) (turns : ℕ) (moment : ℤ) (e : Edited) where
  abbrev after : (x : Edited) → x ≡ e → Whole m x.application → Whole m e.application
  after x is kept = subst (λ (e : Edited). Whole m e.application) is kept

  pub whole_edit : (command : Command) → GivesBytes command → Edit m a command turns moment ≡ Ok e → Whole m e.application
  whole_edit (Add parent kit number name config) bytes done =
      let may = allowed _ _ e done in after _ may.1 (whole_add m code stored made a whole parent kit number name config turns moment bytes may.0)
  whole_edit (ReadPart id letter) bytes done = after _ (allowed _ _ e done).1 whole
  whole_edit (Delete id) bytes done =
      let may = allowed _ _ e done in after _ may.1 (whole_delete m code a whole id turns moment may.0 laws.gone laws.less_at laws.fewer_at)
  whole_edit (Invoke id slot argument) bytes done = after _ (allowed _ _ e done).1 (whole_invoke m a whole code id slot argument turns moment (is_save id slot))
  whole_edit (Connect l) bytes done =
      let may = allowed _ _ e done in after _ may.1 (whole_link m a whole l (laws.count l a.links) (laws.more l a.links whole.formed.order) may.0)
  whole_edit (Disconnect l) bytes done = after _ (allowed _ _ e done).1 (whole_unlink m a whole l (laws.fewer l a.links) (laws.less l a.links whole.formed.order))
  whole_edit (Rename id name) bytes done = let may = allowed _ _ e done in after _ may.1 (whole_rename m a whole id name may.0)
  whole_edit (Reorder id children) bytes done = let may = allowed _ _ e done in after _ may.1 (whole_reorder m a whole id children may.0)
  whole_edit (ReadSlot id slot) bytes done = after _ (allowed _ _ e done).1 whole
  whole_edit (Subscribe id) bytes done = after _ (allowed _ _ e done).1 whole
  whole_edit (Unsubscribe id) bytes done = after _ (allowed _ _ e done).1 whole
  whole_edit Version bytes done = after _ (same _ _ done) whole
    where
      same : (x y : Edited) → ◌≡◌ {A = Result Edited Refusal} (Ok x) (Ok y) → x ≡ y
      same x y is = cc
  whole_edit (Write id slot value) bytes done =
      let may = allowed _ _ e done in after _ may.1 (whole_write m code stored a whole id slot value turns moment bytes may.0)
  whole_edit (Clear id) bytes done = after _ (allowed _ _ e done).1 (whole_clear m a whole id)
