-- Fields: each has one spelling, and bytes begin with one field at most.
use Rattle.std.proofs.Common.{◌≡◌, ℕ, ◌%◌, ◌<◌, List, [], ◌∷◌, ◌++◌, length, refl, sym, ◌∙◌, ap, arith, append_assoc}
use Rattle.std.proofs.lemmas.List.{append-nil}
use Rattle.sed_wire.specs.Reading.{Reads}
use Rattle.sed_wire.proofs.FrontLemmas.{one_number, read_number, same_front}
use Rattle.sed_wire.proofs.TextLemmas.{read_text}
use Rattle.dasp_msg.specs.Field.{Content, nil, number, text, run, Part, form_of, SpellsContent, SpellsField, SpellsFields, SpellsRun}
use Rattle.dasp_msg.specs.Message.{SpellsSoMany}
use Rattle.dasp_msg.specs.Reading.{BeginsNone}

-- what bytes begin with, where they are known in two ways
pub run-one_way : (v w a b after others : List ℕ) → SpellsRun v a → SpellsRun w b → a ++ after ≡ b ++ others
    → (v ≡ w) × (after ≡ others)
run-one_way v w a b after others of_v of_w e =
    let whole : length v ∷ (v ++ after) ≡ length w ∷ (w ++ others) =
    sym (ap (λ (t : List ℕ). t ++ after) of_v.1) ∙ e ∙ ap (λ (t : List ℕ). t ++ others) of_w.1 in
    let long : length v ≡ length w = cc in
    let behind : v ++ after ≡ w ++ others = cc in
    same_front v w after others long behind

pub content-one_way : (v w : Content) (a b after others : List ℕ) → form_of v ≡ form_of w → SpellsContent v a
    → SpellsContent w b → a ++ after ≡ b ++ others → (v ≡ w) × (after ≡ others)
content-one_way nil nil a b after others form of_v of_w e =
    (refl, sym (ap (λ (t : List ℕ). t ++ after) of_v) ∙ e ∙ ap (λ (t : List ℕ). t ++ others) of_w)
content-one_way nil (number n) a b after others form of_v of_w e = absurd (omega (arith, form))
content-one_way nil (text t) a b after others form of_v of_w e = absurd (omega (arith, form))
content-one_way nil (run r) a b after others form of_v of_w e = absurd (omega (arith, form))
content-one_way (number m) nil a b after others form of_v of_w e = absurd (omega (arith, form))
content-one_way (number m) (number n) a b after others form of_v of_w e =
    let same = read_number 2 m n a b after others of_v of_w e in
    (ap number same.0, same.2)
content-one_way (number m) (text t) a b after others form of_v of_w e = absurd (omega (arith, form))
content-one_way (number m) (run r) a b after others form of_v of_w e = absurd (omega (arith, form))
content-one_way (text s) nil a b after others form of_v of_w e = absurd (omega (arith, form))
content-one_way (text s) (number n) a b after others form of_v of_w e = absurd (omega (arith, form))
content-one_way (text s) (text t) a b after others form of_v of_w e =
    let same = read_text s t a b after others of_v of_w e in
    (ap text same.0, same.2)
content-one_way (text s) (run r) a b after others form of_v of_w e = absurd (omega (arith, form))
content-one_way (run q) nil a b after others form of_v of_w e = absurd (omega (arith, form))
content-one_way (run q) (number n) a b after others form of_v of_w e = absurd (omega (arith, form))
content-one_way (run q) (text t) a b after others form of_v of_w e = absurd (omega (arith, form))
content-one_way (run q) (run r) a b after others form of_v of_w e =
    let same = run-one_way q r a b after others of_v of_w e in
    (ap run same.0, same.1)

abbrev part : ℕ → Content → Part
part byte content = record { byte = byte; content = content }

-- the byte of a field, and what is behind it, from the whole
pub field-parts : (f : Part) (spelling after : List ℕ) (spelled : SpellsField f spelling)
    → spelling ++ after ≡ f.byte ∷ (spelled.content ++ after)
field-parts f spelling after spelled = ap (λ (t : List ℕ). t ++ after) spelled.whole

pub field-one_way : (f g : Part) (a b after others : List ℕ) → SpellsField f a → SpellsField g b
    → a ++ after ≡ b ++ others → (f ≡ g) × (after ≡ others)
field-one_way f g a b after others of_f of_g e =
    let whole : f.byte ∷ (of_f.content ++ after) ≡ g.byte ∷ (of_g.content ++ others) =
    sym (field-parts f a after of_f) ∙ e ∙ field-parts g b others of_g in
    let byte : f.byte ≡ g.byte = cc in
    let behind : of_f.content ++ after ≡ of_g.content ++ others = cc in
    let form : form_of f.content ≡ form_of g.content =
    sym of_f.form ∙ ap (λ (n : ℕ). n % 4) byte ∙ of_g.form in
    let same = content-one_way f.content g.content of_f.content of_g.content after others form of_f.spelled of_g.spelled
    behind in (
      ap (λ (n : ℕ). part n f.content) byte ∙ ap (λ (c : Content). part g.byte c) same.0,
      same.1,
    )

pub fields-one_way : (fs gs : List Part) (a b after others : List ℕ) → length fs ≡ length gs → SpellsFields fs a
    → SpellsFields gs b → a ++ after ≡ b ++ others → (fs ≡ gs) × (after ≡ others)
fields-one_way [] [] a b after others long of_f of_g e =
    (refl, sym (ap (λ (t : List ℕ). t ++ after) of_f) ∙ e ∙ ap (λ (t : List ℕ). t ++ others) of_g)
fields-one_way [] (g ∷ gs) a b after others long of_f of_g e = absurd (omega (arith, long))
fields-one_way (f ∷ fs) [] a b after others long of_f of_g e = absurd (omega (arith, long))
fields-one_way (f ∷ fs) (g ∷ gs) a b after others long of_f of_g e =
    let whole : of_f.0 ++ (of_f.1 ++ after) ≡ of_g.0 ++ (of_g.1 ++ others) =
    sym (append_assoc of_f.0 of_f.1 after) ∙ sym (ap (λ (t : List ℕ). t ++ after) of_f.4) ∙ e
    ∙ ap (λ (t : List ℕ). t ++ others) of_g.4 ∙ append_assoc of_g.0 of_g.1 others in
    let first = field-one_way f g of_f.0 of_g.0 (of_f.1 ++ after) (of_g.1 ++ others) of_f.2 of_g.2 whole in
    let shorter : length fs ≡ length gs = omega (arith, long) in
    let rest = fields-one_way fs gs of_f.1 of_g.1 after others shorter of_f.3 of_g.3 first.1 in
    (ap (λ (p : Part). p ∷ fs) first.0 ∙ ap (λ (ps : List Part). g ∷ ps) rest.0, rest.1)

-- where more fields stand than were read, one more stands behind these
pub next-field : (fs gs : List Part) (a b after others : List ℕ) → length fs < length gs → SpellsFields fs a
    → SpellsFields gs b → a ++ after ≡ b ++ others → BeginsNone SpellsField after → ⊥
next-field [] [] a b after others fewer of_f of_g e none = absurd (omega (arith, fewer))
next-field [] (g ∷ gs) a b after others fewer of_f of_g e none =
    let whole : after ≡ of_g.0 ++ (of_g.1 ++ others) =
    sym (ap (λ (t : List ℕ). t ++ after) of_f) ∙ e ∙ ap (λ (t : List ℕ). t ++ others) of_g.4
    ∙ append_assoc of_g.0 of_g.1 others in
    none g of_g.0 (of_g.1 ++ others) of_g.2 whole
next-field (f ∷ fs) [] a b after others fewer of_f of_g e none = absurd (omega (arith, fewer))
next-field (f ∷ fs) (g ∷ gs) a b after others fewer of_f of_g e none =
    let whole : of_f.0 ++ (of_f.1 ++ after) ≡ of_g.0 ++ (of_g.1 ++ others) =
    sym (append_assoc of_f.0 of_f.1 after) ∙ sym (ap (λ (t : List ℕ). t ++ after) of_f.4) ∙ e
    ∙ ap (λ (t : List ℕ). t ++ others) of_g.4 ∙ append_assoc of_g.0 of_g.1 others in
    let first = field-one_way f g of_f.0 of_g.0 (of_f.1 ++ after) (of_g.1 ++ others) of_f.2 of_g.2 whole in
    next-field fs gs of_f.1 of_g.1 after others (omega (arith, fewer)) of_f.3 of_g.3 first.1 none

pub fields-push : (fs : List Part) (f : Part) (a b : List ℕ) → SpellsFields fs a → SpellsField f b
    → SpellsFields (fs ++ f ∷ []) (a ++ b)
fields-push [] f a b of_fs of_f =
    (b, [], of_f, refl, ap (λ (t : List ℕ). t ++ b) of_fs ∙ sym (append-nil b))
fields-push (g ∷ gs) f a b of_fs of_f = (
  of_fs.0,
  of_fs.1 ++ b,
  of_fs.2,
  fields-push gs f of_fs.1 b of_fs.3 of_f,
  ap (λ (t : List ℕ). t ++ b) of_fs.4 ∙ append_assoc of_fs.0 of_fs.1 b,
)

-- one field more is read
pub read-push : (fs : List Part) (f : Part) (old mid new : List ℕ) → Reads SpellsFields fs old mid
    → Reads SpellsField f mid new → Reads SpellsFields (fs ++ f ∷ []) old new
read-push fs f old mid new first next = record {
  spelling = first.spelling ++ next.spelling;
  spelled = fields-push fs f first.spelling next.spelling first.spelled next.spelled;
  front = first.front ∙ ap (λ (t : List ℕ). first.spelling ++ t) next.front
      ∙ sym (append_assoc first.spelling next.spelling new);
}

-- where the field behind those that were read isn't there, there are not so many
pub too_few : (fs : List Part) (count : ℕ) (old now : List ℕ) → length fs < count → Reads SpellsFields fs old now
    → BeginsNone SpellsField now → BeginsNone (SpellsSoMany count) old
too_few fs count old now fewer found none gs spelling follows spelled front =
    next-field fs gs found.spelling spelling now follows (omega (arith, spelled.0)) found.spelled spelled.1
    (sym found.front ∙ front) none

-- each thing has one spelling

content-one : (v : Content) (a b : List ℕ) → SpellsContent v a → SpellsContent v b → a ≡ b
content-one nil a b of_a of_b = of_a ∙ sym of_b
content-one (number n) a b of_a of_b = one_number 2 n a b of_a of_b
content-one (text t) a b of_a of_b = of_a.ended ∙ sym of_b.ended
content-one (run r) a b of_a of_b = of_a.1 ∙ sym of_b.1

pub fields-one : (fs : List Part) (a b : List ℕ) → SpellsFields fs a → SpellsFields fs b → a ≡ b
fields-one [] a b of_a of_b = of_a ∙ sym of_b
fields-one (f ∷ fs) a b of_a of_b =
    let content = content-one f.content of_a.2.content of_b.2.content of_a.2.spelled of_b.2.spelled in
    let first : of_a.0 ≡ of_b.0 =
    of_a.2.whole ∙ ap (λ (t : List ℕ). f.byte ∷ t) content ∙ sym of_b.2.whole in
    let others = fields-one fs of_a.1 of_b.1 of_a.3 of_b.3 in
    of_a.4 ∙ ap (λ (t : List ℕ). t ++ of_a.1) first ∙ ap (λ (t : List ℕ). of_b.0 ++ t) others ∙ sym of_b.4

pub read-none : (bytes : List ℕ) → Reads SpellsFields [] bytes bytes
read-none bytes = record { spelling = []; spelled = refl; front = refl }

pub so_many : (fs : List Part) (count : ℕ) (old new : List ℕ) → length fs ≡ count → Reads SpellsFields fs old new
    → Reads (SpellsSoMany count) fs old new
so_many fs count old new long found = record {
  spelling = found.spelling;
  spelled = (long, found.spelled);
  front = found.front;
}
