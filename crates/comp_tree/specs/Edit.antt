-- One command to an application: a refusal, or the application after it and the reply.
use Rattle.std.specs.Prelude.{ℕ, ℤ, ◌==◌, ◌&&◌, Bool, if◌then◌else◌, List, [], ◌++◌, length, Option, Some, None, Result}
use Rattle.std.specs.Prelude.{Ok, Err}
use Rattle.std.specs.Option.{option_and_then, option_map_or}
use Rattle.std.specs.List.{flat_map}
use Rattle.std.specs.Int.{w32, bytes_high_first, cast_unsigned}
use Rattle.std.specs.FinMap as map
use Rattle.sed_value.specs.declared.kit.KitRef.{KitRef}
use Rattle.sed_value.specs.declared.refusal.Refusal.{Refusal}
use Rattle.sed_typed.specs.Schemas.{type_at as class_numbered}
use Rattle.sed_engine.specs.Code.{Meaning}
use Rattle.comp_tree.specs.Application.{Application, Component, Components, Link, value_at}
use Rattle.comp_tree.specs.Edits.{after_add, after_clear, after_delete, after_invoke, after_rename, after_reorder}
use Rattle.comp_tree.specs.Edits.{after_write}
use Rattle.comp_tree.specs.Links.{with_link, without_link, without_links_at}
use Rattle.comp_tree.specs.Order.{least_free, subtree}
use Rattle.comp_tree.specs.Parts.{part_of, text, u1}
use Rattle.comp_tree.specs.Refusals.{first_refusal, refusals_of_add, refusals_of_clear, refusals_of_delete}
use Rattle.comp_tree.specs.Refusals.{refusals_of_invoke, refusals_of_link, refusals_of_part, refusals_of_read}
use Rattle.comp_tree.specs.Refusals.{refusals_of_rename, refusals_of_reorder, refusals_of_unlink, refusals_of_write}
use Rattle.node_table.specs.Values.{spelling_of}

pub data Command : Type 0 where
  Add : (parent kit number : ℕ) (name config : List ℕ) → Command
  ReadPart : (id letter : ℕ) → Command
  Delete : (id : ℕ) → Command
  Invoke : (id slot : ℕ) (argument : List ℕ) → Command
  Connect : (link : Link) → Command
  Disconnect : (link : Link) → Command
  Rename : (id : ℕ) (name : List ℕ) → Command
  Reorder : (id : ℕ) (children : List ℕ) → Command
  ReadSlot : (id slot : ℕ) → Command
  Subscribe : (id : ℕ) → Command
  Unsubscribe : (id : ℕ) → Command
  Version : Command
  Write : (id slot : ℕ) (value : List ℕ) → Command
  Clear : (id : ℕ) → Command

-- what a reply carries besides the command's letter and number; what a read was asked for it repeats
pub data Reply : Type 0 where
  Done : Reply
  Added : (id : ℕ) → Reply
  Told : (bytes : List ℕ) → Reply

pub record Edited : Type 0 where
  pub application : Application
  pub reply : Reply

-- the kits: how many there are, and the name and the checksum of each
abbrev pub kit_bytes : KitRef → List ℕ
kit_bytes kit = text kit.name ++ bytes_high_first 4 (cast_unsigned w32 kit.checksum)

abbrev pub schema_bytes : Meaning → List ℕ
schema_bytes m = u1 (length m.schema.kits) ++ flat_map kit_bytes m.schema.kits

-- the refusal, where there is one, and else what follows
abbrev pub unless_refused : Option Refusal → Edited → Result Edited Refusal
unless_refused None edited = Ok edited
unless_refused (Some refusal) edited = Err refusal

-- other components, under the same links
abbrev pub over : Application → Components → Application
over a components = record { components = components; links = a.links }

abbrev pub done : Application → Edited
done a = record { application = a; reply = Done }

abbrev pub told : Application → List ℕ → Edited
told a bytes = record { application = a; reply = Told bytes }

-- what the App's `save` does is said where there is a store to save it in: here it changes nothing
abbrev pub is_save : ℕ → ℕ → Bool
is_save id slot = (id == 0) && (slot == 1)

-- the class that an add names, where there is one
abbrev pub class_or_none : Meaning → ℕ → ℕ → ℕ
class_or_none m kit number = option_map_or (λ class. class) (class_numbered m.schema.classes kit number) 0

abbrev pub part_bytes : Meaning → Application → ℕ → ℕ → List ℕ
part_bytes m a id letter =
    option_map_or (λ bytes. bytes)
    (option_and_then (λ (c : Component). part_of m a.links id c letter) (map.get a.components.by_id id)) []

abbrev pub Edit : Meaning → Application → Command → ℕ → ℤ → Result Edited Refusal
Edit m a (Add parent kit number name config) turns moment =
    unless_refused (first_refusal (refusals_of_add m a.components parent kit number name config))
    (record {
      application = over a (after_add m a.components parent (class_or_none m kit number) name config turns moment).left;
      reply = Added (least_free a.components.by_id);
    })
Edit m a (ReadPart id letter) turns moment =
    unless_refused (first_refusal (refusals_of_part a.components.by_id id)) (told a (part_bytes m a id letter))
Edit m a (Delete id) turns moment =
    unless_refused (first_refusal (refusals_of_delete a.components.by_id id))
    (done (record {
      components = after_delete m a.components id turns moment;
      links = without_links_at (subtree a.components.by_id id) a.links;
    }))
Edit m a (Invoke id slot argument) turns moment =
    unless_refused (first_refusal (refusals_of_invoke m a.components.by_id id slot argument))
    (done (if is_save id slot then a
    else over a (after_invoke m a.components id (record { 0 = slot }) argument turns moment).left))
Edit m a (Connect link) turns moment =
    unless_refused (first_refusal (refusals_of_link m a.components.by_id a.links link))
    (done (record { components = a.components; links = with_link link a.links }))
Edit m a (Disconnect link) turns moment =
    unless_refused (first_refusal (refusals_of_unlink a.links link))
    (done (record { components = a.components; links = without_link link a.links }))
Edit m a (Rename id name) turns moment =
    unless_refused (first_refusal (refusals_of_rename a.components.by_id id name))
    (done (over a (after_rename a.components id name)))
Edit m a (Reorder id children) turns moment =
    unless_refused (first_refusal (refusals_of_reorder a.components.by_id id children))
    (done (over a (after_reorder a.components id children)))
Edit m a (ReadSlot id slot) turns moment =
    unless_refused (first_refusal (refusals_of_read m a.components.by_id id slot))
    (told a (spelling_of (value_at m a.components.by_id id slot)))
Edit m a (Subscribe id) turns moment = unless_refused (first_refusal (refusals_of_clear a.components.by_id id)) (done a)
Edit m a (Unsubscribe id) turns moment =
    unless_refused (first_refusal (refusals_of_clear a.components.by_id id)) (done a)
Edit m a Version turns moment = Ok (told a (schema_bytes m))
Edit m a (Write id slot value) turns moment =
    unless_refused (first_refusal (refusals_of_write m a.components.by_id id slot value))
    (done (over a (after_write m a.components id slot value turns moment)))
Edit m a (Clear id) turns moment =
    unless_refused (first_refusal (refusals_of_clear a.components.by_id id))
    (done (over a (after_clear a.components id)))
