-- Codes that differ in their root calls alone read a file alike, as those of programs that are alike in all but their
-- methods.
use Rattle.std.proofs.Common.{◌≡◌, ℕ, zero, suc, List, [], length, map, Option, Some, None, sym, subst, inl, inr}
use Rattle.std.specs.Prelude.{IfSome, IsSomeAnd, position, sum_by}
use Rattle.std.proofs.lemmas.List.Elements.{All-weaker}
use Rattle.sed_typed.specs.declared.program.Field.{Field}
use Rattle.sed_typed.specs.declared.program.Program.{Program}
use Rattle.sed_typed.specs.declared.schema.Schema.{Schema}
use Rattle.sed_typed.specs.Classes.{fields}
use Rattle.sed_typed.specs.Contents.{Contents, Shape}
use Rattle.sed_typed.specs.Initial.{object_begun, fields_begun}
use Rattle.sed_typed.specs.Sizes.{data_within, form_size}
use Rattle.sed_typed.specs.TypedSchema.{in_slot}
use Rattle.sed_engine.specs.Code.{Meaning, Question}
use Rattle.sed_engine.specs.Program.{meaning_of, shape_of}
use Rattle.sed_engine.specs.Root.{RootEnd}
use Rattle.comp_tree.specs.Application.{Application, ById, Component, Link}
use Rattle.comp_tree.specs.Whole.{IsApp, IsFormed, IsLink, IsOther, Whole}
use Rattle.app_file.specs.Reading.{HasNoBody, IsFile, IsReadAs, Reading, StandsFor, no_file, wrong_kits, over_limit, file}
use Rattle.app_file.specs.Text.{IsTextOf}
use Rattle.sed_check.specs.Refusals.{AreAlike}
use Rattle.std.specs.FinMap as by

-- ---- codes that differ in their root calls alone

some_and : {A : Type 0} (o : Option A) (P Q : A → Type 0) → ((x : A) → P x → Q x) → IsSomeAnd o P → IsSomeAnd o Q
some_and None P Q f is = is
some_and (Some x) P Q f is = f x is

if_some : {A : Type 0} (o : Option A) (P Q : A → Type 0) → ((x : A) → P x → Q x) → IfSome o P → IfSome o Q
if_some None P Q f is = is
if_some (Some x) P Q f is = f x is

module _ (schema : Schema) (shapes : ℕ → List Shape) (slot_field : ℕ → ℕ → Option ℕ) (static_fields : List Shape) (initial : ℕ → Contents) (initial_statics : Contents) (data_size : ℕ → ℕ) where
  abbrev code : (Question → RootEnd) → Meaning
  code root = record {
    schema = schema;
    fields = shapes;
    slot_field = slot_field;
    static_fields = static_fields;
    initial = initial;
    initial_statics = initial_statics;
    data_size = data_size;
    root = root;
  }

  app_alike : (r t : Question → RootEnd) (c : Component) → IsApp (code r) c → IsApp (code t) c
  app_alike r t c is = record { class = is.class; name = is.name; parent = is.parent }

  other_alike : (r t : Question → RootEnd) (c : Component) → IsOther (code r) c → IsOther (code t) c
  other_alike r t c is = record { component = is.component; concrete = is.concrete }

  link_alike : (r t : Question → RootEnd) (all : ById) (l : Link) → IsLink (code r) all l → IsLink (code t) all l
  link_alike r t all l is = record { from = is.from; to = is.to; typed = is.typed }

  formed_alike : (r t : Question → RootEnd) (a : Application) → IsFormed (code r) a → IsFormed (code t) a
  formed_alike r t a is = record {
    tree = is.tree;
    app = some_and (by.get a.components.by_id 0) (IsApp (code r)) (IsApp (code t)) (app_alike r t) is.app;
    others = λ id. if_some (by.get a.components.by_id id) _ _ (λ c other some. other_alike r t c (other some)) (is.others id);
    names = is.names;
    siblings = is.siblings;
    links = All-weaker (IsLink (code r) a.components.by_id) (IsLink (code t) a.components.by_id) (link_alike r t a.components.by_id) a.links is.links;
    order = is.order;
    values = is.values;
    faults = is.faults;
    statics = is.statics;
    ids = is.ids;
  }

  whole_alike : (r t : Question → RootEnd) (a : Application) → Whole (code r) a → Whole (code t) a
  whole_alike r t a is = record {
    formed = formed_alike r t a is.formed;
    ids = is.ids;
    link_count = is.link_count;
    depths = is.depths;
    children = is.children;
    links_at_each = is.links_at_each;
    data_sizes = is.data_sizes;
    least_limit = is.least_limit;
    most_limit = is.most_limit;
  }

  text_alike : (r t : Question → RootEnd) (a : Application) (bytes : List ℕ) → IsTextOf (code r) a bytes → IsTextOf (code t) a bytes
  text_alike r t a bytes (inl new) = inl new
  text_alike r t a bytes (inr old) = inr (record { text = old.text; short = old.short })

  stands_alike : (r t : Question → RootEnd) (limit : ℕ) (bytes : List ℕ) (a : Application) → StandsFor (code r) limit bytes a → StandsFor (code t) limit bytes a
  stands_alike r t limit bytes a is = record { formed = formed_alike r t a is.formed; kept = is.kept; under = is.under; text = text_alike r t a bytes is.text }

  file_alike : (r t : Question → RootEnd) (limit : ℕ) (bytes : List ℕ) (a : Application) → IsFile (code r) limit bytes a → IsFile (code t) limit bytes a
  file_alike r t limit bytes a is = record { whole = whole_alike r t a is.whole; kept = is.kept; under = is.under; text = text_alike r t a bytes is.text }

  body_alike : (r t : Question → RootEnd) (limit : ℕ) (bytes : List ℕ) → HasNoBody (code r) limit bytes → HasNoBody (code t) limit bytes
  body_alike r t limit bytes is = record {
    version = is.version;
    rest = is.rest;
    front = is.front;
    none = λ a stands. is.none a (stands_alike t r limit bytes a stands);
  }

  read_alike : (r t : Question → RootEnd) (limit : ℕ) (bytes : List ℕ) (reading : Reading) → IsReadAs (code r) limit bytes reading → IsReadAs (code t) limit bytes reading
  read_alike r t limit bytes no_file (inl none) = inl none
  read_alike r t limit bytes no_file (inr none) = inr (body_alike r t limit bytes none)
  read_alike r t limit bytes (wrong_kits place in_file in_kits) is =
      record { version = is.version; kits = is.kits; rest = is.rest; front = is.front; first = is.first }
  read_alike r t limit bytes (over_limit which) is =
      record { application = is.application; stands = stands_alike r t limit bytes is.application is.stands; first = is.first }
  read_alike r t limit bytes (file a) is = file_alike r t limit bytes a is

-- ---- programs

-- the fields of a class
pub fields_alike : (p q : Program) → p.schema ≡ q.schema → p.fields ≡ q.fields → fields p ≡ fields q
fields_alike p q schema same = λ i class. fields (record { schema = schema i; fields = same i; statics = p.statics; methods = p.methods; texts = p.texts }) class

-- what an object begins with, and its size
pub begun_alike : (p q : Program) → fields p ≡ fields q → (depth : ℕ) → object_begun p depth ≡ object_begun q depth
begun_alike p q same zero = λ i class path. []
begun_alike p q same (suc depth) = λ i class path. fields_begun (begun_alike p q same depth i) path (same i class)

pub sizes_alike : (p q : Program) → fields p ≡ fields q → (depth : ℕ) → data_within p depth ≡ data_within q depth
sizes_alike p q same zero = λ i class. 0
sizes_alike p q same (suc depth) = λ i class. sum_by (λ (f : Field). form_size (sizes_alike p q same depth i) f.form) (same i class)

-- two codes differ in their root calls alone
abbrev pub MeanAlike : Meaning → Meaning → Type 0
MeanAlike m n = record m { root = n.root } ≡ n

pub codes_read_alike : (m n : Meaning) (limit : ℕ) (bytes : List ℕ) (reading : Reading) → MeanAlike m n → IsReadAs n limit bytes reading → IsReadAs m limit bytes reading
codes_read_alike m n limit bytes reading alike is =
    read_alike m.schema m.fields m.slot_field m.static_fields m.initial m.initial_statics m.data_size n.root m.root limit bytes reading (subst (λ (k : Meaning). IsReadAs k limit bytes reading) (sym alike) is)

pub programs_mean_alike : (p q : Program) → AreAlike p q → MeanAlike (meaning_of p) (meaning_of q)
programs_mean_alike p q alike = rooted
  where
    all : fields p ≡ fields q
    all = fields_alike p q alike.schema alike.fields

    rooted : record (meaning_of p) { root = (meaning_of q).root } ≡ meaning_of q
    rooted = λ i. record {
      schema = alike.schema i;
      fields = λ class. map shape_of (all i class);
      slot_field = λ class slot. position (in_slot slot) (all i class);
      static_fields = map shape_of (alike.statics i);
      initial = λ class. begun_alike p q all (length (alike.schema i).classes) i class [];
      initial_statics = fields_begun (begun_alike p q all (length (alike.schema i).classes) i) [] (alike.statics i);
      data_size = λ class. sizes_alike p q all (length (alike.schema i).classes) i class;
      root = (meaning_of q).root;
    }
