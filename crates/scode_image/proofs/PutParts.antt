-- The parts of an image, put field by field.
use Rattle.std.proofs.lemmas.List.{append-nil}
use Rattle.std.proofs.Common.{◌≡◌, arith, ℕ, true, false, List, ◌++◌, length, sym, ◌∙◌, ap, subst}
use Rattle.std.specs.Prelude.{◌==◌, cond, Bool}
use Rattle.scode_image.specs.declared.image.Image.{Image}
use Rattle.scode_image.specs.declared.image.ImageKit.{ImageKit}
use Rattle.scode_image.specs.declared.image.ImageClass.{ImageClass}
use Rattle.scode_image.specs.declared.image.ImageField.{ImageField}
use Rattle.scode_image.specs.declared.image.ImageSlot.{ImageSlot}
use Rattle.scode_image.specs.declared.image.ImageMethod.{ImageMethod}
use Rattle.scode_image.specs.declared.image.ImageEntry.{ImageEntry}
use Rattle.scode_image.specs.declared.image.ImageKind.{ImageKind}
use Rattle.sed_wire.specs.Form.{Form, then, ◌&◌, given, sized}
use Rattle.sed_wire.specs.Leaves.{u1, u2, i4, run, counted_run, text}
use Rattle.sed_wire.specs.Row.{times, counted}
use Rattle.scode_image.specs.Grammar.{u1_to, u2_from, kit, field_form, slot_form, field, slot, data_size, body, class_size, behind, class, kind_class, kind, entry, entries, length-entries, counted_entries, behind_locals, method, block_size, block, size-block, statics, head, version, end, literal, image}
use Rattle.scode_image.specs.Steps.{Puts}
use Rattle.scode_image.proofs.Putting.{then_puts, puts_same}

-- a size in front of what has it
sized_puts : {B : Type 0} (size : B → ℕ) (count : Form ℕ) (f : ℕ → Form B) (has : (n : ℕ) (b : B) (bytes : List ℕ) → (f n).spells b bytes → size b ≡ n)
    (b : B) (old middle new : List ℕ) → Puts count (size b) old middle → Puts (f (size b)) b middle new → Puts (sized size count f has) b old new
sized_puts size count f has b old middle new first second = then_puts count f (size b) b old middle new first second

pub counted_puts : {A : Type 0} (count : Form ℕ) (item : Form A) (xs ys : List A) (n : ℕ) (old middle new : List ℕ)
    → n ≡ length xs → ys ≡ xs → Puts count n old middle → ((k : ℕ) → Puts (times k item) ys middle new) → Puts (counted count item) xs old new
counted_puts count item xs ys n old middle new long same first second =
    then_puts count (λ k. times k item) (length xs) xs old middle new (puts_same count n (length xs) old middle long first)
    (puts_same (times (length xs) item) ys xs middle new same (second (length xs)))

pub counted_run_puts : (count : Form ℕ) (r : List ℕ) (n : ℕ) (old middle new : List ℕ)
    → n ≡ length r → Puts count n old middle → ((k : ℕ) → Puts (run k) r middle new) → Puts (counted_run count) r old new
counted_run_puts count r n old middle new long first second =
    then_puts count (λ k. run k) (length r) r old middle new (puts_same count n (length r) old middle long first) (second (length r))

pub kit_puts : (k : ImageKit) (old a new : List ℕ) → Puts text k.name old a → Puts i4 k.checksum a new → Puts kit k old new
unfolding kit
kit_puts k old a new p q = then_puts text (λ _. i4) k.name k.checksum old a new p q

u1_to_puts : (most n : ℕ) (old new : List ℕ) → Puts u1 n old new → Puts (u1_to most) n old new
unfolding u1_to
u1_to_puts most n old new p bytes is = p bytes is.0

field_form_puts : (n : ℕ) (old new : List ℕ) → Puts u1 n old new → Puts field_form n old new
unfolding field_form
field_form_puts n old new p bytes is = p bytes is.0

slot_form_puts : (n : ℕ) (old new : List ℕ) → Puts u1 n old new → Puts slot_form n old new
unfolding slot_form
slot_form_puts n old new p bytes is = p bytes is.0

u2_from_puts : (least n : ℕ) (old new : List ℕ) → Puts u2 n old new → Puts (u2_from least) n old new
unfolding u2_from
u2_from_puts least n old new p bytes is = p bytes is.0

pub field_puts : (f : ImageField) (old a b new : List ℕ) → Puts u2 f.offset old a → Puts u1 f.form a b → Puts u2 f.n b new → Puts field f old new
unfolding field
field_puts f old a b new p q r =
    then_puts u2 (λ _. field_form & u2) f.offset (f.form, f.n) old a new p
    (then_puts field_form (λ _. u2) f.form f.n a b new (field_form_puts f.form a b q) r)

pub slot_puts : (s : ImageSlot) (old a b c d new : List ℕ) → Puts text s.name old a → Puts u1 s.form a b → Puts u2 s.place b c → Puts u2 s.n c d → Puts u1 s.config d new → Puts slot s old new
unfolding slot
slot_puts s old a b c d new p q r t u =
    then_puts text (λ _. slot_form & (u2 & (u2 & u1_to 1))) s.name (s.form, (s.place, (s.n, s.config))) old a new p
    (then_puts slot_form (λ _. u2 & (u2 & u1_to 1)) s.form (s.place, (s.n, s.config)) a b new (slot_form_puts s.form a b q)
    (then_puts u2 (λ _. u2 & u1_to 1) s.place (s.n, s.config) b c new r
    (then_puts u2 (λ _. u1_to 1) s.n s.config c d new t (u1_to_puts 1 s.config d new u))))

body_puts : (c : ImageClass) (e f g h i new : List ℕ) → Puts u2 (length c.contents) e f → Puts (counted u2 field) c.fields f g → Puts (counted u1 slot) c.slots g h
    → Puts (counted u1 u2) c.table h i → ((n : ℕ) → Puts (run n) c.contents i new) → Puts behind (c.fields, (c.slots, (c.table, c.contents))) e new
unfolding behind body
body_puts c e f g h i new p q r t u =
    sized_puts data_size u2 body class_size (c.fields, (c.slots, (c.table, c.contents))) e f new p
    (then_puts (counted u2 field) (λ _. counted u1 slot & (counted u1 u2 & run (length c.contents))) c.fields (c.slots, (c.table, c.contents)) f g new q
    (then_puts (counted u1 slot) (λ _. counted u1 u2 & run (length c.contents)) c.slots (c.table, c.contents) g h new r
    (then_puts (counted u1 u2) (λ _. run (length c.contents)) c.table c.contents h i new t (u (length c.contents)))))

pub class_puts : (c : ImageClass) (old a b d e g f h i j new : List ℕ)
    → Puts u1 c.kit old a → Puts u1 c.number a b → Puts text c.name b d → Puts u2 c.base d e → Puts u1 c.flags e g → Puts u2 (length c.contents) g f
    → Puts (counted u2 field) c.fields f h → Puts (counted u1 slot) c.slots h i → Puts (counted u1 u2) c.table i j → ((n : ℕ) → Puts (run n) c.contents j new)
    → Puts class c old new
unfolding class
class_puts c old a b d e g f h i j new p q r s t u v w x y =
    then_puts u1 (λ _. u1 & (text & (u2 & (u1_to 3 & behind)))) c.kit (c.number, (c.name, (c.base, (c.flags, (c.fields, (c.slots, (c.table, c.contents))))))) old a new p
    (then_puts u1 (λ _. text & (u2 & (u1_to 3 & behind))) c.number (c.name, (c.base, (c.flags, (c.fields, (c.slots, (c.table, c.contents)))))) a b new q
    (then_puts text (λ _. u2 & (u1_to 3 & behind)) c.name (c.base, (c.flags, (c.fields, (c.slots, (c.table, c.contents))))) b d new r
    (then_puts u2 (λ _. u1_to 3 & behind) c.base (c.flags, (c.fields, (c.slots, (c.table, c.contents)))) d e new s
    (then_puts (u1_to 3) (λ _. behind) c.flags (c.fields, (c.slots, (c.table, c.contents))) e g new (u1_to_puts 3 c.flags e g t)
    (body_puts c g f h i j new u v w x y)))))

-- ---- methods

pub kind_puts_object : (k : ImageKind) (old a new : List ℕ) → k.kind ≡ 6 → Puts u1 k.kind old a → Puts u2 k.class a new → Puts kind k old new
unfolding kind kind_class
kind_puts_object k old a new is p q =
    then_puts (u1_to 6) kind_class k.kind k.class old a new (u1_to_puts 6 k.kind old a p) (subst (λ (n : ℕ). Puts (kind_class n) k.class a new) (sym is) q)

no_class : (class : ℕ) (now : List ℕ) (b : Bool) → b ≡ false → Puts (cond b u2 (given 0)) class now now
no_class class now true e = absurd cc
no_class class now false e = λ bytes h. sym (append-nil now) ∙ ap (λ (s : List ℕ). now ++ s) (sym h.1)

pub kind_puts_plain : (k : ImageKind) (old new : List ℕ) → (k.kind ≡ 6 → ⊥) → Puts u1 k.kind old new → Puts kind k old new
unfolding kind kind_class
kind_puts_plain k old new other p =
    let is : (k.kind == 6) ≡ false = grind (arith, other) in
    then_puts (u1_to 6) kind_class k.kind k.class old new new (u1_to_puts 6 k.kind old new p) (no_class k.class new (k.kind == 6) is)

pub entry_puts : (e : ImageEntry) (old a b new : List ℕ) → Puts u2 e.place old a → ((n : ℕ) → Puts (times n kind) e.locals a b) → Puts (counted u2 kind) e.stack b new
    → (locals least : ℕ) → Puts (entry locals least) e old new
unfolding entry
entry_puts e old a b new p q r locals least =
    then_puts (u2_from least) (λ _. times locals kind & counted u2 kind) e.place (e.locals, e.stack) old a new (u2_from_puts least e.place old a p)
    (then_puts (times locals kind) (λ _. counted u2 kind) e.locals e.stack a b new (q locals) r)

pub entries_put : (es : List ImageEntry) (old a new : List ℕ) → Puts u2 (length es) old a → ((locals count : ℕ) → Puts (entries locals count) es a new)
    → (locals : ℕ) → Puts (counted_entries locals) es old new
unfolding counted_entries
entries_put es old a new p q locals = sized_puts length u2 (entries locals) (length-entries locals) es old a new p (q locals (length es))

pub method_puts : (m : ImageMethod) (old a b c d e f g new : List ℕ)
    → Puts u2 m.class old a → Puts u1 m.flags a b → Puts (counted u1 kind) m.params b c → Puts kind m.result c d → Puts (counted u1 kind) m.locals d e
    → Puts u2 m.stack e f → Puts (counted_run u2) m.code f g → ((locals : ℕ) → Puts (counted_entries locals) m.entries g new)
    → Puts method m old new
unfolding method behind_locals
method_puts m old a b c d e f g new p q r s t u v w =
    then_puts u2 (λ _. u1_to 3 & (counted u1 kind & (kind & then (counted u1 kind) behind_locals))) m.class (m.flags, (m.params, (m.result, (m.locals, (m.stack, (m.code, m.entries)))))) old a new p
    (then_puts (u1_to 3) (λ _. counted u1 kind & (kind & then (counted u1 kind) behind_locals)) m.flags (m.params, (m.result, (m.locals, (m.stack, (m.code, m.entries))))) a b new (u1_to_puts 3 m.flags a b q)
    (then_puts (counted u1 kind) (λ _. kind & then (counted u1 kind) behind_locals) m.params (m.result, (m.locals, (m.stack, (m.code, m.entries)))) b c new r
    (then_puts kind (λ _. then (counted u1 kind) behind_locals) m.result (m.locals, (m.stack, (m.code, m.entries))) c d new s
    (then_puts (counted u1 kind) behind_locals m.locals (m.stack, (m.code, m.entries)) d e new t
    (then_puts u2 (λ _. counted_run u2 & counted_entries (length m.locals)) m.stack (m.code, m.entries) e f new u
    (then_puts (counted_run u2) (λ _. counted_entries (length m.locals)) m.code m.entries f g new v (w (length m.locals))))))))

-- ---- the whole

pub literal_puts : (t old a new : List ℕ) → Puts u1 (length t) old a → ((n : ℕ) → Puts (run n) t a new) → Puts literal t old new
unfolding literal
literal_puts t old a new p q = then_puts u1 (λ k. run k) (length t) t old a new p (q (length t))

pub statics_put : (fields : List ImageField) (bytes old a b new : List ℕ) → Puts u2 (length bytes) old a → Puts (counted u2 field) fields a b → ((n : ℕ) → Puts (run n) bytes b new)
    → Puts statics (fields, bytes) old new
unfolding statics block
statics_put fields bytes old a b new p q r =
    sized_puts block_size u2 block size-block (fields, bytes) old a new p
    (then_puts (counted u2 field) (λ _. run (length bytes)) fields bytes a b new q (r (length bytes)))

pub image_puts : (i : Image) (old a b c d e f g new : List ℕ)
    → Puts head tt old a → Puts version tt a b → Puts (counted u1 kit) i.kits b c → Puts (counted u2 class) i.classes c d → Puts statics (i.static_fields, i.static_bytes) d e
    → Puts (counted u2 literal) i.texts e f → Puts (counted u2 method) i.methods f g → Puts end tt g new
    → Puts image i old new
unfolding image
image_puts i old a b c d e f g new p q r s t u v w =
    then_puts head (λ _. version & (counted u1 kit & (counted u2 class & (statics & (counted u2 literal & (counted u2 method & end)))))) tt (tt, (i.kits, (i.classes, ((i.static_fields, i.static_bytes), (i.texts, (i.methods, tt)))))) old a new p
    (then_puts version (λ _. counted u1 kit & (counted u2 class & (statics & (counted u2 literal & (counted u2 method & end))))) tt (i.kits, (i.classes, ((i.static_fields, i.static_bytes), (i.texts, (i.methods, tt))))) a b new q
    (then_puts (counted u1 kit) (λ _. counted u2 class & (statics & (counted u2 literal & (counted u2 method & end)))) i.kits (i.classes, ((i.static_fields, i.static_bytes), (i.texts, (i.methods, tt)))) b c new r
    (then_puts (counted u2 class) (λ _. statics & (counted u2 literal & (counted u2 method & end))) i.classes ((i.static_fields, i.static_bytes), (i.texts, (i.methods, tt))) c d new s
    (then_puts statics (λ _. counted u2 literal & (counted u2 method & end)) (i.static_fields, i.static_bytes) (i.texts, (i.methods, tt)) d e new t
    (then_puts (counted u2 literal) (λ _. counted u2 method & end) i.texts (i.methods, tt) e f new u
    (then_puts (counted u2 method) (λ _. end) i.methods tt f g new v w))))))
