-- The parts of an image have a spelling, if their fields have.
use Rattle.std.proofs.Common.{◌≡◌, ℕ, ◌+◌, ◌≤◌, nat_le, List, [], ◌∷◌, ◌++◌, length, refl, subst, arith}
use Rattle.std.specs.Prelude.{All, IsTrue}
use Rattle.std.proofs.lemmas.Bool.{and_from, le-leb}
use Rattle.sed_wire.specs.Form.{then, ◌&◌}
use Rattle.sed_wire.specs.Leaves.{u1, u2, i4, run, counted_run, text}
use Rattle.sed_wire.specs.Number.{SpellsNumber}
use Rattle.sed_wire.specs.Row.{row, times, counted}
use Rattle.sed_wire.specs.Text.{is_text}
use Rattle.scode_image.specs.declared.image.Image.{Image}
use Rattle.scode_image.specs.declared.image.ImageClass.{ImageClass}
use Rattle.scode_image.specs.declared.image.ImageEntry.{ImageEntry}
use Rattle.scode_image.specs.declared.image.ImageField.{ImageField}
use Rattle.scode_image.specs.declared.image.ImageKind.{ImageKind}
use Rattle.scode_image.specs.declared.image.ImageKit.{ImageKit}
use Rattle.scode_image.specs.declared.image.ImageMethod.{ImageMethod}
use Rattle.scode_image.specs.declared.image.ImageSlot.{ImageSlot}
use Rattle.scode_image.specs.Grammar.{u1_to, u2_from, kit, is_field_form, is_slot_form, field_form, slot_form, field, slot, data_size, body, class_size, behind, class, kind, entry, entries, length-entries, counted_entries, behind_locals, method, block_size, block, size-block, statics, head, version, end, literal, image}
use Rattle.scode_text.proofs.Forms.{HasBytes, counted_bytes, counted_run_bytes, only_bytes, run_bytes, sized_bytes, text_bytes, then_bytes, times_bytes, u1_bytes, u1_to_bytes, u2_bytes, u2_from_bytes}
use Rattle.scode_text.proofs.ToldKinds.{IsToldKind}

pub kit_told : (k : ImageKit) → HasBytes text k.name → HasBytes i4 k.checksum → HasBytes kit k
unfolding kit
kit_told k name checksum = then_bytes text (λ _. i4) k.name k.checksum name checksum

-- ---- fields and slots

field_form_told : (n : ℕ) → 1 ≤ n → n ≤ 13 → HasBytes field_form n
unfolding field_form
field_form_told n low high = only_bytes is_field_form u1 n (u1_bytes n (omega (arith, high))) (and_from (nat_le 1 n) (nat_le n 13) (le-leb 1 n low) (le-leb n 13 high))

pub slot_form_told : (n : ℕ) → n ≤ 255 → IsTrue (is_slot_form n) → HasBytes slot_form n
unfolding slot_form
slot_form_told n le is = only_bytes is_slot_form u1 n (u1_bytes n le) is

pub field_told : (f : ImageField) → f.offset ≤ 65535 → 1 ≤ f.form → f.form ≤ 13 → f.n ≤ 65535 → HasBytes field f
unfolding field
field_told f offset low high room =
    then_bytes u2 (λ _. field_form & u2) f.offset (f.form, f.n) (u2_bytes f.offset offset)
    (then_bytes field_form (λ _. u2) f.form f.n (field_form_told f.form low high) (u2_bytes f.n room))

pub record IsToldSlot (s : ImageSlot) : Type 0 where
  pub name : IsTrue (is_text s.name)
  pub form : HasBytes slot_form s.form
  pub place : s.place ≤ 65535
  pub room : s.n ≤ 65535
  pub config : s.config ≤ 1

pub slot_told : (s : ImageSlot) → IsToldSlot s → HasBytes slot s
unfolding slot
slot_told s is =
    then_bytes text (λ _. slot_form & (u2 & (u2 & u1_to 1))) s.name (s.form, (s.place, (s.n, s.config))) (text_bytes s.name is.name)
    (then_bytes slot_form (λ _. u2 & (u2 & u1_to 1)) s.form (s.place, (s.n, s.config)) is.form
    (then_bytes u2 (λ _. u2 & u1_to 1) s.place (s.n, s.config) (u2_bytes s.place is.place)
    (then_bytes u2 (λ _. u1_to 1) s.n s.config (u2_bytes s.n is.room) (u1_to_bytes 1 s.config is.config (omega (arith, is.config))))))

-- ---- classes

pub record IsToldClass (c : ImageClass) : Type 0 where
  pub kit : c.kit ≤ 255
  pub number : c.number ≤ 255
  pub name : IsTrue (is_text c.name)
  pub base : c.base ≤ 65535
  pub flags : c.flags ≤ 3
  pub size : length c.contents ≤ 65535
  pub fields : HasBytes (counted u2 field) c.fields
  pub slots : HasBytes (counted u1 slot) c.slots
  pub table : HasBytes (counted u1 u2) c.table

behind_told : (c : ImageClass) → IsToldClass c → HasBytes behind (c.fields, (c.slots, (c.table, c.contents)))
unfolding behind body
behind_told c is =
    sized_bytes data_size u2 body class_size (c.fields, (c.slots, (c.table, c.contents))) (u2_bytes (length c.contents) is.size)
    (then_bytes (counted u2 field) (λ _. counted u1 slot & (counted u1 u2 & run (length c.contents))) c.fields (c.slots, (c.table, c.contents)) is.fields
    (then_bytes (counted u1 slot) (λ _. counted u1 u2 & run (length c.contents)) c.slots (c.table, c.contents) is.slots
    (then_bytes (counted u1 u2) (λ _. run (length c.contents)) c.table c.contents is.table (run_bytes c.contents))))

pub class_told : (c : ImageClass) → IsToldClass c → HasBytes class c
unfolding class
class_told c is =
    then_bytes u1 (λ _. u1 & (text & (u2 & (u1_to 3 & behind)))) c.kit (c.number, (c.name, (c.base, (c.flags, (c.fields, (c.slots, (c.table, c.contents))))))) (u1_bytes c.kit is.kit)
    (then_bytes u1 (λ _. text & (u2 & (u1_to 3 & behind))) c.number (c.name, (c.base, (c.flags, (c.fields, (c.slots, (c.table, c.contents)))))) (u1_bytes c.number is.number)
    (then_bytes text (λ _. u2 & (u1_to 3 & behind)) c.name (c.base, (c.flags, (c.fields, (c.slots, (c.table, c.contents))))) (text_bytes c.name is.name)
    (then_bytes u2 (λ _. u1_to 3 & behind) c.base (c.flags, (c.fields, (c.slots, (c.table, c.contents)))) (u2_bytes c.base is.base)
    (then_bytes (u1_to 3) (λ _. behind) c.flags (c.fields, (c.slots, (c.table, c.contents))) (u1_to_bytes 3 c.flags is.flags (omega (arith, is.flags)))
    (behind_told c is)))))

-- ---- entries

so_many : (n : ℕ) (ks : List ImageKind) → length ks ≡ n → All IsToldKind ks → HasBytes (times n kind) ks
so_many n ks long h = subst (λ (k : ℕ). HasBytes (times k kind) ks) long (times_bytes kind ks h)

pub entry_told : (n least : ℕ) (e : ImageEntry) → least ≤ e.place → e.place ≤ 65535 → length e.locals ≡ n → All IsToldKind e.locals → length e.stack ≤ 65535 → All IsToldKind e.stack →
    HasBytes (entry n least) e
unfolding entry
entry_told n least e low high long locals few stack =
    then_bytes (u2_from least) (λ _. times n kind & counted u2 kind) e.place (e.locals, e.stack) (u2_from_bytes least e.place low high)
    (then_bytes (times n kind) (λ _. counted u2 kind) e.locals e.stack (so_many n e.locals long locals) (counted_bytes u2 kind e.stack (u2_bytes (length e.stack) few) stack))

-- each has a spelling behind the one before
abbrev pub AreToldFrom : ℕ → ℕ → List ImageEntry → Type 0
AreToldFrom n least [] = Unit {0}
AreToldFrom n least (e ∷ es) = HasBytes (entry n least) e × AreToldFrom n (e.place + 1) es

row_told : (n least : ℕ) (es : List ImageEntry) → AreToldFrom n least es → HasBytes (row (entry n) (λ (s : ℕ) (e : ImageEntry). e.place + 1) (length es) least) es
row_told n least [] h = ([], (refl, refl))
row_told n least (e ∷ es) h =
    let one : HasBytes (entry n least) e = h.0 in
    let rest : HasBytes (row (entry n) (λ (s : ℕ) (x : ImageEntry). x.place + 1) (length es) (e.place + 1)) es = row_told n (e.place + 1) es h.1 in
    (one.0 ++ rest.0, (one.0, rest.0, one.1, rest.1, refl))

entries_told : (n : ℕ) (es : List ImageEntry) → AreToldFrom n 0 es → HasBytes (entries n (length es)) es
unfolding entries
entries_told n es h = row_told n 0 es h

counted_told : (n : ℕ) (es : List ImageEntry) → length es ≤ 65535 → AreToldFrom n 0 es → HasBytes (counted_entries n) es
unfolding counted_entries
counted_told n es few h = sized_bytes length u2 (entries n) (length-entries n) es (u2_bytes (length es) few) (entries_told n es h)

-- ---- methods

pub record IsToldMethod (m : ImageMethod) : Type 0 where
  pub class : m.class ≤ 65535
  pub flags : m.flags ≤ 3
  pub few_params : length m.params ≤ 255
  pub params : All IsToldKind m.params
  pub result : IsToldKind m.result
  pub few_locals : length m.locals ≤ 255
  pub locals : All IsToldKind m.locals
  pub stack : m.stack ≤ 65535
  pub short : length m.code ≤ 65535
  pub few_entries : length m.entries ≤ 65535
  pub entries : AreToldFrom (length m.locals) 0 m.entries

pub method_told : (m : ImageMethod) → IsToldMethod m → HasBytes method m
unfolding method behind_locals
method_told m is =
    then_bytes u2 (λ _. u1_to 3 & (counted u1 kind & (kind & then (counted u1 kind) behind_locals))) m.class (m.flags, (m.params, (m.result, (m.locals, (m.stack, (m.code, m.entries)))))) (u2_bytes m.class is.class)
    (then_bytes (u1_to 3) (λ _. counted u1 kind & (kind & then (counted u1 kind) behind_locals)) m.flags (m.params, (m.result, (m.locals, (m.stack, (m.code, m.entries))))) (u1_to_bytes 3 m.flags is.flags (omega (arith, is.flags)))
    (then_bytes (counted u1 kind) (λ _. kind & then (counted u1 kind) behind_locals) m.params (m.result, (m.locals, (m.stack, (m.code, m.entries)))) (counted_bytes u1 kind m.params (u1_bytes (length m.params) is.few_params) is.params)
    (then_bytes kind (λ _. then (counted u1 kind) behind_locals) m.result (m.locals, (m.stack, (m.code, m.entries))) is.result
    (then_bytes (counted u1 kind) behind_locals m.locals (m.stack, (m.code, m.entries)) (counted_bytes u1 kind m.locals (u1_bytes (length m.locals) is.few_locals) is.locals)
    (then_bytes u2 (λ _. counted_run u2 & counted_entries (length m.locals)) m.stack (m.code, m.entries) (u2_bytes m.stack is.stack)
    (then_bytes (counted_run u2) (λ _. counted_entries (length m.locals)) m.code m.entries (counted_run_bytes u2 m.code (u2_bytes (length m.code) is.short))
    (counted_told (length m.locals) m.entries is.few_entries is.entries)))))))

-- ---- the whole

pub block_told : (fields : List ImageField) (bytes : List ℕ) → length bytes ≤ 65535 → HasBytes (counted u2 field) fields → HasBytes statics (fields, bytes)
unfolding statics block
block_told fields bytes size each =
    sized_bytes block_size u2 block size-block (fields, bytes) (u2_bytes (length bytes) size)
    (then_bytes (counted u2 field) (λ _. run (length bytes)) fields bytes each (run_bytes bytes))

pub literal_told : (t : List ℕ) → length t ≤ 255 → HasBytes literal t
unfolding literal
literal_told t le = counted_run_bytes u1 t (u1_bytes (length t) le)

head_told : HasBytes head tt
unfolding head
head_told =
    let spelled : SpellsNumber 4 0x53434430 (0x53 ∷ 0x43 ∷ 0x44 ∷ 0x30 ∷ []) = record { as_many = refl; are_bytes = refl; is_number = refl } in
    (0x53 ∷ 0x43 ∷ 0x44 ∷ 0x30 ∷ [], (spelled, refl))

version_told : HasBytes version tt
unfolding version
version_told =
    let spelled : SpellsNumber 1 1 (1 ∷ []) = record { as_many = refl; are_bytes = refl; is_number = refl } in
    (1 ∷ [], (spelled, refl))

end_told : HasBytes end tt
unfolding end
end_told =
    let spelled : SpellsNumber 1 0x2e (0x2e ∷ []) = record { as_many = refl; are_bytes = refl; is_number = refl } in
    (0x2e ∷ [], (spelled, refl))

pub image_told : (i : Image) → HasBytes (counted u1 kit) i.kits → HasBytes (counted u2 class) i.classes → HasBytes statics (i.static_fields, i.static_bytes) →
    HasBytes (counted u2 literal) i.texts → HasBytes (counted u2 method) i.methods → HasBytes image i
unfolding image
image_told i kits classes fixed texts methods =
    then_bytes head (λ _. version & (counted u1 kit & (counted u2 class & (statics & (counted u2 literal & (counted u2 method & end)))))) tt (tt, (i.kits, (i.classes, ((i.static_fields, i.static_bytes), (i.texts, (i.methods, tt)))))) head_told
    (then_bytes version (λ _. counted u1 kit & (counted u2 class & (statics & (counted u2 literal & (counted u2 method & end))))) tt (i.kits, (i.classes, ((i.static_fields, i.static_bytes), (i.texts, (i.methods, tt))))) version_told
    (then_bytes (counted u1 kit) (λ _. counted u2 class & (statics & (counted u2 literal & (counted u2 method & end)))) i.kits (i.classes, ((i.static_fields, i.static_bytes), (i.texts, (i.methods, tt)))) kits
    (then_bytes (counted u2 class) (λ _. statics & (counted u2 literal & (counted u2 method & end))) i.classes ((i.static_fields, i.static_bytes), (i.texts, (i.methods, tt))) classes
    (then_bytes statics (λ _. counted u2 literal & (counted u2 method & end)) (i.static_fields, i.static_bytes) (i.texts, (i.methods, tt)) fixed
    (then_bytes (counted u2 literal) (λ _. counted u2 method & end) i.texts (i.methods, tt) texts
    (then_bytes (counted u2 method) (λ _. end) i.methods tt methods end_told))))))
