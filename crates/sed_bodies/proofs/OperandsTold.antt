-- The rules on operands, choices and stores, with all faults and with the least.
use Rattle.std.proofs.Common.{◌≡◌, ℕ, Bool, true, false, ◌&&◌, if◌then◌else◌, List, refl}
use Rattle.sed_value.specs.declared.slot_type.Primitive.{Primitive}
use Rattle.sed_typed.specs.declared.operators.Arithmetic.{Arithmetic}
use Rattle.sed_typed.specs.declared.operators.Gives.{Gives}
use Rattle.sed_faults.specs.declared.fault.Fault.{Fault}
use Rattle.sed_terms.specs.declared.judged.Judged.{Judged}
use Rattle.sed_terms.specs.declared.judged.Judged.TheVariants.{Sound, Unknown}
use Rattle.sed_terms.specs.declared.sort.Sort.{Sort}
use Rattle.sed_terms.specs.Faults.{all_faults, least_fault, broken, told, joined, unless}
use Rattle.sed_terms.specs.Forms.{has_elements, updated}
use Rattle.sed_terms.specs.Sorts.{sort_of, term_kind, is_place}
use Rattle.sed_terms.specs.Term.{Term}
use Rattle.sed_body_rules.specs.Choices.{branches, branched, chosen}
use Rattle.sed_body_rules.specs.Conversions.{is_number, is_int, is_bool, is_operand, placed, width_of, in_width}
use Rattle.sed_body_rules.specs.Operands.{negated, opposite, flipped, is_cast, cast, Form, Numbers, Shift, Order, Equality, Both as BothBools, Either, equated, operated, element}
use Rattle.sed_body_rules.specs.Wants.{wants, as_bool, truth}
use Rattle.sed_body_rules.specs.Stores.{target, going, assigned, is_target, number_target, storing, is_shift, is_no_longer, lengthened, compound, counted}
use Rattle.sed_bodies.proofs.Told.{Both, after_told, joined_told, unless_told, some_told}

abbrev All : Type 0
All = Judged Term (List Fault)

pub wants_told : (test : Sort → Bool) (at : ℕ) (x : All) → told (wants all_faults test at x) ≡ wants least_fault test at (told x)
wants_told test at x = after_told x (told x) _ _ refl (λ t. unless_told (test (sort_of t)) (broken 13 at) t)

pub truth_told : (at : ℕ) (x : All) → told (truth all_faults at x) ≡ truth least_fault at (told x)
truth_told at x = after_told x (told x) _ _ refl (λ t. unless_told (is_bool (sort_of (as_bool t))) (broken 13 at) (as_bool t))

pub negated_told : (at : ℕ) (x : All) → told (negated all_faults at x) ≡ negated least_fault at (told x)
negated_told at x = after_told (truth all_faults at x) (truth least_fault at (told x)) _ _ (truth_told at x) (λ t. refl)

pub opposite_told : (at : ℕ) (x : All) → told (opposite all_faults at x) ≡ opposite least_fault at (told x)
opposite_told at x = after_told (wants all_faults is_number at x) (wants least_fault is_number at (told x)) _ _ (wants_told is_number at x) (λ t. refl)

pub flipped_told : (at : ℕ) (x : All) → told (flipped all_faults at x) ≡ flipped least_fault at (told x)
flipped_told at x = after_told (wants all_faults is_number at x) (wants least_fault is_number at (told x)) _ _ (wants_told is_number at x) (λ t. refl)

pub cast_told : Both → (at : ℕ) (p : Primitive) (right : ℕ) (x : All) → told (cast all_faults at p right x) ≡ cast least_fault at p right (told x)
cast_told both at p right x =
    joined_told both (unless all_faults (is_cast p) (broken 13 at) p) (wants all_faults is_number right x) (unless least_fault (is_cast p) (broken 13 at) p)
    (wants least_fault is_number right (told x)) _ _ (unless_told (is_cast p) (broken 13 at) p) (wants_told is_number right x) (λ q t. refl)

pub operated_told : Both → (f : Form) (at right : ℕ) (x y : All) → told (operated all_faults f at right x y) ≡ operated least_fault f at right (told x) (told y)
operated_told both (Numbers a) at right x y =
    joined_told both (wants all_faults is_number at x) (wants all_faults is_number right y) (wants least_fault is_number at (told x)) (wants least_fault is_number right (told y)) _ _
    (wants_told is_number at x) (wants_told is_number right y) (λ s t. refl)
operated_told both (Shift a) at right x y =
    joined_told both (wants all_faults is_number at x) (wants all_faults is_int right y) (wants least_fault is_number at (told x)) (wants least_fault is_int right (told y)) _ _
    (wants_told is_number at x) (wants_told is_int right y) (λ s t. refl)
operated_told both (Order o) at right x y =
    joined_told both (wants all_faults is_number at x) (wants all_faults is_number right y) (wants least_fault is_number at (told x)) (wants least_fault is_number right (told y)) _ _
    (wants_told is_number at x) (wants_told is_number right y) (λ s t. refl)
operated_told both (Equality o truths references) at right x y =
    joined_told both x y (told x) (told y) _ _ refl refl (λ s t. some_told (broken 13 at) (equated o truths references s t))
operated_told both BothBools at right x y =
    joined_told both (truth all_faults at x) (truth all_faults right y) (truth least_fault at (told x)) (truth least_fault right (told y)) _ _
    (truth_told at x) (truth_told right y) (λ s t. refl)
operated_told both Either at right x y =
    joined_told both (truth all_faults at x) (truth all_faults right y) (truth least_fault at (told x)) (truth least_fault right (told y)) _ _
    (truth_told at x) (truth_told right y) (λ s t. refl)

pub element_told : Both → (at right : ℕ) (x y : All) → told (element all_faults at right x y) ≡ element least_fault at right (told x) (told y)
element_told both at right x y =
    joined_told both (wants all_faults has_elements at x) (wants all_faults is_int right y) (wants least_fault has_elements at (told x)) (wants least_fault is_int right (told y)) _ _
    (wants_told has_elements at x) (wants_told is_int right y) (λ s t. refl)

-- ---- `? :`

branched_told : Both → (left right : ℕ) (x y : All) → told (branched all_faults left right x y) ≡ branched least_fault left right (told x) (told y)
branched_told both left right x y =
    joined_told {C = Term × Term} both (wants all_faults is_operand left x) (wants all_faults is_operand right y) (wants least_fault is_operand left (told x))
    (wants least_fault is_operand right (told y)) _ _ (wants_told is_operand left x) (wants_told is_operand right y)
    (λ s t. some_told {A = Term × Term} (broken 13 right) (branches s t))

pub chosen_told : Both → (at left right : ℕ) (t x y : All) → told (chosen all_faults at left right t x y) ≡ chosen least_fault at left right (told t) (told x) (told y)
chosen_told both at left right t x y =
    joined_told {B = Term × Term} both (truth all_faults at t) (branched all_faults left right x y) (truth least_fault at (told t))
    (branched least_fault left right (told x) (told y)) _ _ (truth_told at t) (branched_told both left right x y) (λ s p. refl)

-- ---- stores

target_told : (at : ℕ) (may : Bool) (x : All) → told (target all_faults at may x) ≡ target least_fault at may (told x)
target_told at may x = after_told x (told x) _ _ refl (λ t. unless_told (may && is_place t) (broken 14 at) t)

pub assigned_told : Both → (below : ℕ → ℕ → Bool) (at : ℕ) (may : Bool) (right : ℕ) (x y : All) →
    told (assigned all_faults below at may right x y) ≡ assigned least_fault below at may right (told x) (told y)
assigned_told both below at may right x y =
    joined_told both (target all_faults at may x) y (target least_fault at may (told x)) (told y) _ _ (target_told at may x) refl
    (λ s t. after_told (going all_faults below (term_kind s) right t) (going least_fault below (term_kind s) right t) _ _
    (some_told (broken 15 right) (placed below (term_kind s) t)) (λ v. refl))

is_target_told : Both → (at left : ℕ) (p q : Bool) → told (is_target all_faults at left p q) ≡ is_target least_fault at left p q
is_target_told both at left p q =
    joined_told both (unless all_faults p (broken 14 at) p) (unless all_faults q (broken 13 left) q) (unless least_fault p (broken 14 at) p) (unless least_fault q (broken 13 left) q) _ _
    (unless_told p (broken 14 at) p) (unless_told q (broken 13 left) q) (λ a b. refl)

number_target_told : Both → (at : ℕ) (may : Bool) (left : ℕ) (x : All) → told (number_target all_faults at may left x) ≡ number_target least_fault at may left (told x)
number_target_told both at may left x =
    after_told x (told x) _ _ refl (λ t. after_told {A = Bool} (is_target all_faults at left (may && is_place t) (is_number (sort_of t)))
    (is_target least_fault at left (may && is_place t) (is_number (sort_of t))) _ _ (is_target_told both at left (may && is_place t) (is_number (sort_of t))) (λ b. refl))

if_sound_told : (x : Term) (f : Fault) (b : Bool) → told (if b then Sound x else Unknown (all_faults.one f)) ≡ (if b then Sound x else Unknown (least_fault.one f))
if_sound_told x f true = refl
if_sound_told x f false = refl

lengthened_told : (a : Arithmetic) (right : ℕ) (s t : Term) → told (lengthened all_faults a right s t) ≡ lengthened least_fault a right s t
lengthened_told a right s t =
    if_sound_told (updated (storing a (width_of s)) s (in_width (width_of s) t)) (broken 15 right) (is_no_longer s t)

pub compound_told : Both → (a : Arithmetic) (at : ℕ) (may : Bool) (right : ℕ) (x y : All) →
    told (compound all_faults a at may right x y) ≡ compound least_fault a at may right (told x) (told y)
compound_told both a at may right x y = by_shift (is_shift a)
  where
    by_shift : (b : Bool) →
        told (if b
        then joined all_faults (number_target all_faults at may at x) (wants all_faults is_int right y) (λ s t. Sound (updated (storing a (width_of s)) s t))
        else joined all_faults (number_target all_faults at may at x) (wants all_faults is_number right y) (λ s t. lengthened all_faults a right s t))
        ≡ (if b
        then joined least_fault (number_target least_fault at may at (told x)) (wants least_fault is_int right (told y)) (λ s t. Sound (updated (storing a (width_of s)) s t))
        else joined least_fault (number_target least_fault at may at (told x)) (wants least_fault is_number right (told y)) (λ s t. lengthened least_fault a right s t))
    by_shift true =
        joined_told both (number_target all_faults at may at x) (wants all_faults is_int right y) (number_target least_fault at may at (told x)) (wants least_fault is_int right (told y)) _ _
        (number_target_told both at may at x) (wants_told is_int right y) (λ s t. refl)
    by_shift false =
        joined_told both (number_target all_faults at may at x) (wants all_faults is_number right y) (number_target least_fault at may at (told x)) (wants least_fault is_number right (told y)) _ _
        (number_target_told both at may at x) (wants_told is_number right y) (λ s t. lengthened_told a right s t)

pub counted_told : Both → (a : Arithmetic) (gives : Gives) (at : ℕ) (may : Bool) (left : ℕ) (x : All) →
    told (counted all_faults a gives at may left x) ≡ counted least_fault a gives at may left (told x)
counted_told both a gives at may left x =
    after_told (number_target all_faults at may left x) (number_target least_fault at may left (told x)) _ _ (number_target_told both at may left x) (λ s. refl)
