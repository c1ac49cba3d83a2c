-- The bytes of an image.
use Rattle.std.specs.Prelude.{◌≡◌, ◌≢◌, ◌⊎◌, ℕ, ◌==◌, ◌||◌, Bool, cond, nat_le, ◌+◌, List, [], length, refl}
use Rattle.sed_value.specs.Characters.{is_between}
use Rattle.scode_image.specs.declared.image.Image.{Image}
use Rattle.scode_image.specs.declared.image.ImageKit.{ImageKit}
use Rattle.scode_image.specs.declared.image.ImageClass.{ImageClass}
use Rattle.scode_image.specs.declared.image.ImageField.{ImageField}
use Rattle.scode_image.specs.declared.image.ImageSlot.{ImageSlot}
use Rattle.scode_image.specs.declared.image.ImageMethod.{ImageMethod}
use Rattle.scode_image.specs.declared.image.ImageEntry.{ImageEntry}
use Rattle.scode_image.specs.declared.image.ImageKind.{ImageKind}
use Rattle.sed_wire.specs.FormSpelling.{Begins}
use Rattle.sed_wire.specs.Form.{Form, seen_as, only, given, then, sized, ◌&◌}
use Rattle.sed_wire.specs.Leaves.{u1, u2, i4, mark, run, counted_run, text}
use Rattle.sed_wire.specs.Row.{row, length-row, times, counted}

-- a number that is at most so much, and one that is at least
unfoldable pub u1_to : ℕ → Form ℕ
u1_to most = only (λ n. nat_le n most) u1

unfoldable pub u2_from : ℕ → Form ℕ
u2_from least = only (λ n. nat_le least n) u2

-- ---- kits

unfoldable pub kit : Form ImageKit
kit =
    seen_as (λ k. record { name = k.0; checksum = k.1 }) (λ k. (k.name, k.checksum)) (λ k. refl)
    (text & i4) (λ k s h. refl)

-- ---- fields and slots

-- a primitive, a Str, a Buf, an object, or an array of primitives
abbrev pub is_field_form : ℕ → Bool
is_field_form form = is_between 1 13 form

-- a property that is a primitive or a Buf, or an action
abbrev pub is_slot_form : ℕ → Bool
is_slot_form form = is_between 1 5 form || (form == 7) || is_between 0x10 0x13 form

unfoldable pub field_form : Form ℕ
field_form = only is_field_form u1

unfoldable pub slot_form : Form ℕ
slot_form = only is_slot_form u1

unfoldable pub field : Form ImageField
field =
    seen_as (λ f. record { offset = f.0; form = f.1.0; n = f.1.1 }) (λ f. (f.offset, (f.form, f.n))) (λ f. refl)
    (u2 & (field_form & u2)) (λ f bytes h. refl)

abbrev pub SlotParts : Type 0
SlotParts = List ℕ × (ℕ × (ℕ × (ℕ × ℕ)))

abbrev pub slot_parts : ImageSlot → SlotParts
slot_parts s = (s.name, (s.form, (s.place, (s.n, s.config))))

abbrev pub slot_of : SlotParts → ImageSlot
slot_of (name, (form, (place, (n, config)))) =
    record { name = name; form = form; place = place; n = n; config = config }

unfoldable pub slot : Form ImageSlot
slot = seen_as slot_of slot_parts (λ s. refl) (text & (slot_form & (u2 & (u2 & u1_to 1)))) (λ s bytes h. refl)

-- ---- classes

-- what has a size in front, which is that of the contents
abbrev pub ClassBody : Type 0
ClassBody = List ImageField × (List ImageSlot × (List ℕ × List ℕ))

abbrev pub data_size : ClassBody → ℕ
data_size (fields, (slots, (table, contents))) = length contents

-- the fields, slots, table and first contents of a class, whose data has so many bytes
unfoldable pub body : ℕ → Form ClassBody
body size = counted u2 field & (counted u1 slot & (counted u1 u2 & run size))

pub class_size : (size : ℕ) (parts : ClassBody) (bytes : List ℕ) → (body size).spells parts bytes
    → data_size parts ≡ size
unfolding body
class_size size parts bytes h = h.3.3.3.as_many

abbrev pub ClassParts : Type 0
ClassParts = ℕ × (ℕ × (List ℕ × (ℕ × (ℕ × ClassBody))))

abbrev pub class_parts : ImageClass → ClassParts
class_parts c = (c.kit, (c.number, (c.name, (c.base, (c.flags, (c.fields, (c.slots, (c.table, c.contents))))))))

abbrev pub class_of : ClassParts → ImageClass
class_of (kit, (number, (name, (base, (flags, (fields, (slots, (table, contents)))))))) =
    record {
      kit = kit;
      number = number;
      name = name;
      base = base;
      flags = flags;
      fields = fields;
      slots = slots;
      table = table;
      contents = contents;
    }

-- what a class has behind its flags: its data size, and then these
unfoldable pub behind : Form ClassBody
behind = sized data_size u2 body class_size

unfoldable pub class : Form ImageClass
class = seen_as class_of class_parts (λ c. refl) (u1 & (u1 & (text & (u2 & (u1_to 3 & behind)))))
    (λ c bytes h. refl)

-- ---- methods

-- a kind: of an object, with its class
unfoldable pub kind_class : ℕ → Form ℕ
kind_class kind = cond (kind == 6) u2 (given 0)

unfoldable pub kind : Form ImageKind
kind =
    seen_as (λ k. record { kind = k.0; class = k.1 }) (λ k. (k.kind, k.class)) (λ k. refl)
    (then (u1_to 6) kind_class) (λ k bytes h. refl)

-- an entry of a method with so many locals, at this place or behind it
unfoldable pub entry : ℕ → ℕ → Form ImageEntry
entry locals least =
    seen_as (λ e. record { place = e.0; locals = e.1.0; stack = e.1.1 })
    (λ e. (e.place, (e.locals, e.stack))) (λ e. refl)
    (u2_from least & (times locals kind & counted u2 kind)) (λ e bytes h. refl)

-- so many, whose places ascend
unfoldable pub entries : ℕ → ℕ → Form (List ImageEntry)
entries locals count = row (entry locals) (λ least e. e.place + 1) count 0

pub length-entries : (locals count : ℕ) (all : List ImageEntry) (bytes : List ℕ)
    → (entries locals count).spells all bytes → length all ≡ count
unfolding entries
length-entries locals count all bytes h = length-row (entry locals) (λ least e. e.place + 1) count 0 all bytes h

unfoldable pub counted_entries : ℕ → Form (List ImageEntry)
counted_entries locals = sized length u2 (entries locals) (length-entries locals)

-- what is behind the kinds of the locals, and they
unfoldable pub behind_locals : List ImageKind → Form (ℕ × (List ℕ × List ImageEntry))
behind_locals locals = u2 & (counted_run u2 & counted_entries (length locals))

abbrev pub MethodParts : Type 0
MethodParts = ℕ × (ℕ × (List ImageKind × (ImageKind × (List ImageKind × (ℕ × (List ℕ × List ImageEntry))))))

abbrev pub method_parts : ImageMethod → MethodParts
method_parts m = (m.class, (m.flags, (m.params, (m.result, (m.locals, (m.stack, (m.code, m.entries)))))))

abbrev pub method_of : MethodParts → ImageMethod
method_of (class, (flags, (params, (result, (locals, (stack, (code, entries))))))) =
    record {
      class = class;
      flags = flags;
      params = params;
      result = result;
      locals = locals;
      stack = stack;
      code = code;
      entries = entries;
    }

unfoldable pub method : Form ImageMethod
method =
    seen_as method_of method_parts (λ m. refl)
    (u2 & (u1_to 3 & (counted u1 kind & (kind & then (counted u1 kind) behind_locals)))) (λ m bytes h. refl)

-- ---- the static block, and the whole

abbrev pub Statics : Type 0
Statics = List ImageField × List ℕ

abbrev pub block_size : Statics → ℕ
block_size (fields, bytes) = length bytes

unfoldable pub block : ℕ → Form Statics
block size = counted u2 field & run size

pub size-block : (size : ℕ) (statics : Statics) (bytes : List ℕ) → (block size).spells statics bytes
    → block_size statics ≡ size
unfolding block
size-block size statics bytes h = h.3.as_many

unfoldable pub statics : Form Statics
statics = sized block_size u2 block size-block

-- `SCD0`, and the version
unfoldable pub head : Form (Unit {0})
head = mark 4 0x53434430

unfoldable pub version : Form (Unit {0})
version = mark 1 1

unfoldable pub end : Form (Unit {0})
end = mark 1 0x2e

unfoldable pub literal : Form (List ℕ)
literal = counted_run u1

abbrev pub ImageParts : Type 0
ImageParts = Unit {0} × (Unit {0}
    × (List ImageKit × (List ImageClass × (Statics × (List (List ℕ) × (List ImageMethod × Unit {0}))))))

abbrev pub image_parts : Image → ImageParts
image_parts i = (tt, (tt, (i.kits, (i.classes, ((i.static_fields, i.static_bytes), (i.texts, (i.methods, tt)))))))

abbrev pub image_of : ImageParts → Image
image_of (_, (_, (kits, (classes, (statics, (texts, (methods, _))))))) =
    record {
      kits = kits;
      classes = classes;
      static_fields = statics.0;
      static_bytes = statics.1;
      texts = texts;
      methods = methods;
    }

unfoldable pub image : Form Image
image =
    seen_as image_of image_parts (λ i. refl)
    (head & (version & (counted u1 kit
    & (counted u2 class & (statics & (counted u2 literal & (counted u2 method & end))))))) (λ i bytes h. refl)

-- ---- what is an image, and where bytes are none

-- the bytes are the image's, with nothing behind them
abbrev pub IsImage : List ℕ → Image → Type 0
IsImage bytes i = image.spells i bytes

-- an image that the grammar can spell
abbrev pub HasText : Image → Type 0
HasText i = (bytes : List ℕ) × IsImage bytes i

-- a field is cut or not allowed where these bytes are left; or an image ended, and they are left
abbrev pub IsFault : List ℕ → List ℕ → Type 0
IsFault bytes rest = image.faults bytes rest ⊎ ((i : Image) × Begins (image.spells i) bytes rest × (rest ≢ []))

-- the place of the first field that is cut or not allowed
pub record FaultsAt (bytes : List ℕ) (at : ℕ) : Type 0 where
  pub rest : List ℕ
  pub fault : IsFault bytes rest
  pub place : at + length rest ≡ length bytes
