-- An image that breaks no rule is verified by the kinds at its places, which are covered.
use Rattle.std.proofs.Common.{◌≡◌, ◌⊎◌, inl, inr, ℕ, ◌+◌, ◌<◌, ◌≤◌, Bool, true, false, List, [], ◌∷◌, length, refl, sym, ◌∙◌, ap, arith, ltb-true, ltb-false}
use Rattle.std.specs.Prelude.{◌||◌, ◌≢◌, IfSome, not, nat_lt, slice_get, Option, Some, None}
use Rattle.std.specs.Option.{option_map_or}
use Rattle.std.proofs.lemmas.List.{length-reverse}
use Rattle.scode_ops.specs.declared.op.Op.{Op}
use Rattle.scode_ops.specs.declared.op.Op.TheVariants.{Turn}
use Rattle.scode_ops.specs.Decoding.{op_at, size_of}
use Rattle.scode_image.specs.declared.image.Image.{Image}
use Rattle.scode_image.specs.declared.image.ImageEntry.{ImageEntry}
use Rattle.scode_image.specs.declared.image.ImageKind.{ImageKind}
use Rattle.scode_image.specs.declared.image.ImageMethod.{ImageMethod}
use Rattle.scode_code.specs.Kinds.{Shape, all_go, goes_to, shape_goes}
use Rattle.scode_code.specs.Wants.{needs}
use Rattle.scode_code.specs.CodeRules.{after, entry_at, entry_shape, field_missing, first_shape, is_abstract, is_end, is_start, is_turn, jumps_to, kind_differs, misses_start, number_missing, result_differs, stack_breaks}
use Rattle.scode_code.specs.TableRules.{tables_agree}
use Rattle.scode_code.specs.Faults.{IsVerified}
use Rattle.scode_code.specs.Breaks as breaks
use Rattle.scode_code.specs.Breaks.{Arrives, BreaksNone, CodeBreaks, IsReached, IsStart, KindsAt, Runs, StartsAt}
use Rattle.scode_code.specs.Verified.{AreCovered, IsCovered, IsFine, IsVerifiedBy, KindsIn, Leads, MayJump, Stands}
use Rattle.scode_code.proofs.Places.{less_or_same, same_eq, start_or_not, start_told}
use Rattle.scode_code.proofs.Arrivals.{arrived}
use Rattle.scode_code.proofs.Instructions.{or_true}
use Rattle.scode_code.proofs.Firsts.{breaks_none}

-- ---- kinds go to themselves

pub goes_to_itself : (image : Image) (k : ImageKind) → goes_to image k k ≡ true
goes_to_itself image k = let a = same_eq k.kind in let b = same_eq k.class in rw (a, b) refl

pub all_go_to_themselves : (image : Image) (ks : List ImageKind) → all_go image ks ks ≡ true
all_go_to_themselves image [] = refl
all_go_to_themselves image (k ∷ ks) = rw (goes_to_itself image k, all_go_to_themselves image ks) refl

pub shape_goes_to_itself : (image : Image) (s : Shape) → shape_goes image s s ≡ true
shape_goes_to_itself image s = rw (all_go_to_themselves image s.locals, all_go_to_themselves image s.stack) refl

-- ---- where no rule is broken

-- a test that would break a rule fails
fails : (b : Bool) → (b ≡ true → ⊥) → b ≡ false
fails true none = absurd (none refl)
fails false none = refl

holds : (b : Bool) → (b ≡ false → ⊥) → b ≡ true
holds true none = refl
holds false none = absurd (none refl)

module _ (image : Image) (m : ImageMethod) (clean : (place rule : ℕ) → CodeBreaks image m place rule → ⊥) where
  decodes : (place : ℕ) → IsReached m place → place < length m.code → IsStart m place
  decodes place reached within = by_op (op_at m.code place) refl
    where
      by_op : (o : Option Op) → op_at m.code place ≡ o → IsStart m place
      by_op None none = absurd (clean place 2 (breaks.nothing_stands place reached within none))
      by_op (Some i) there = (i, record { reached = reached; stands = there })

  some_code : 0 < length m.code
  some_code = by_order (less_or_same 0 (length m.code) (omega arith))
    where
      by_order : (0 < length m.code) ⊎ (0 ≡ length m.code) → 0 < length m.code
      by_order (inl less) = less
      by_order (inr same) = absurd (clean 0 2 (breaks.no_code (sym same)))

  next_stands : (place : ℕ) (i : Op) → StartsAt m place i → is_end i ≡ false → IsStart m (place + size_of i)
  unfolding decodes
  next_stands place i starts on =
      by_test (nat_lt (place + size_of i) (length m.code)) refl
    where
      next : IsReached m (place + size_of i)
      next = breaks.behind place i starts.reached starts.stands

      by_test : (b : Bool) → nat_lt (place + size_of i) (length m.code) ≡ b → IsStart m (place + size_of i)
      by_test true is =
          decodes (place + size_of i) next (ltb-true (place + size_of i) (length m.code) is)
      by_test false is =
          absurd (clean place 2 (breaks.runs_past place i starts on
          (ltb-false (place + size_of i) (length m.code) is)))

  kinds_start : (place : ℕ) (shape : Shape) → KindsAt image m place shape → IsStart m place
  kinds_start place shape (breaks.entered at e start there) = start
  kinds_start place shape (breaks.begun none) = decodes 0 breaks.first some_code
  kinds_start place shape (breaks.left at before i kinds starts on none) = next_stands at i starts on

  -- ---- the rules at one instruction

  entry_or_not : (place : ℕ) → ((e : ImageEntry) × (entry_at m place ≡ Some e)) ⊎ (entry_at m place ≡ None)
  entry_or_not place = by_entry (entry_at m place) refl
    where
      by_entry : (o : Option ImageEntry) → entry_at m place ≡ o
          → ((e : ImageEntry) × (entry_at m place ≡ Some e)) ⊎ (entry_at m place ≡ None)
      by_entry None is = inr is
      by_entry (Some e) is = inl (e, is)

  target_starts : (place to : ℕ) (i : Op) → StartsAt m place i → jumps_to i ≡ Some to → IsStart m to
  target_starts place to i starts is = by_start (start_or_not m to)
    where
      by_start : IsStart m to ⊎ (IsStart m to → ⊥) → IsStart m to
      by_start (inl start) = start
      by_start (inr none) = absurd (clean place 3 (breaks.misses_start place to i starts is none))

  target_entered : (place to : ℕ) (i : Op) → StartsAt m place i → jumps_to i ≡ Some to
      → (e : ImageEntry) × (entry_at m to ≡ Some e)
  unfolding entry_or_not
  target_entered place to i starts is = by_entry (entry_or_not to)
    where
      by_entry : ((e : ImageEntry) × (entry_at m to ≡ Some e)) ⊎ (entry_at m to ≡ None)
          → (e : ImageEntry) × (entry_at m to ≡ Some e)
      by_entry (inl there) = there
      by_entry (inr none) = absurd (clean place 9 (breaks.no_entry place to i starts is none))

  start_hit : (place : ℕ) (i : Op) → StartsAt m place i → misses_start m i ≡ false
  start_hit place i starts = by_jump (jumps_to i) refl
    where
      by_jump : (o : Option ℕ) → jumps_to i ≡ o → option_map_or (λ to. not (is_start m.code to)) o false ≡ false
      by_jump None is = refl
      by_jump (Some to) is = ap not (start_told m to (target_starts place to i starts is))

  turn_or_not : (j : Op) → is_turn (Some j) ≡ false → j ≢ Turn
  turn_or_not j e same = let turn : is_turn (Some j) ≡ true = ap (λ (k : Op). is_turn (Some k)) same in absurd cc

  turn_is : (j : Op) → is_turn (Some j) ≡ true → j ≡ Turn
  turn_is Turn e = refl
  turn_is _ e = absurd cc

  may_jump : (place : ℕ) (i : Op) → StartsAt m place i → IfSome (jumps_to i) (λ to. MayJump m place to)
  may_jump place i starts = by_jump (jumps_to i) refl
    where
      by_order : (to : ℕ) → jumps_to i ≡ Some to → IsStart m to → (b : Bool) → nat_lt place to ≡ b → MayJump m place to
      by_order to is target true less = inl (ltb-true place to less)
      by_order to is target false less =
          let turn : is_turn (Some target.0) ≡ true =
          holds (is_turn (Some target.0)) (λ other. clean place 4 (breaks.goes_back place to i target.0 starts is
          (ltb-false place to less) target.1 (turn_or_not target.0 other))) in
          inr (target.1.stands ∙ ap (λ (j : Op). Some j) (turn_is target.0 turn))

      by_jump : (o : Option ℕ) → jumps_to i ≡ o → IfSome o (λ to. MayJump m place to)
      by_jump None is = tt
      by_jump (Some to) is = by_order to is (target_starts place to i starts is) (nat_lt place to) refl

  not_above : (place : ℕ) (s : Shape) → KindsAt image m place s → length s.stack ≤ m.stack
  not_above place s (breaks.entered at e start there) =
      let long = length-reverse e.stack in
      omega (arith, long, not_high at e start there)
    where
      not_high : (at : ℕ) (e : ImageEntry) → IsStart m at → entry_at m at ≡ Some e → length e.stack ≤ m.stack
      not_high at e start there = by_test (nat_lt m.stack (length e.stack)) refl
        where
          by_test : (b : Bool) → nat_lt m.stack (length e.stack) ≡ b → length e.stack ≤ m.stack
          by_test true is =
              absurd (clean at 6 (breaks.enters_above at e start there (ltb-true m.stack (length e.stack) is)))
          by_test false is = ltb-false m.stack (length e.stack) is
  not_above place s (breaks.begun none) = omega arith
  not_above place s (breaks.left at before i kinds starts on none) =
      by_test (nat_lt m.stack (length (after image before i).stack)) refl
    where
      by_test : (b : Bool) → nat_lt m.stack (length (after image before i).stack) ≡ b
          → length (after image before i).stack ≤ m.stack
      by_test true is =
          absurd (clean at 6 (breaks.goes_above at before i (record { starts = starts; kinds = kinds })
          (ltb-true m.stack (length (after image before i).stack) is)))
      by_test false is = ltb-false m.stack (length (after image before i).stack) is

-- in a method of the image that is not abstract
module _ (image : Image) (n : ℕ) (m : ImageMethod) (there : slice_get image.methods n ≡ Some m)
    (concrete : is_abstract m ≡ false) (clean : (place rule : ℕ) → CodeBreaks image m place rule → ⊥) where
  kinds_in : (place : ℕ) (s : Shape) → KindsAt image m place s → KindsIn image n place s
  kinds_in place s kinds = record { m = m; there = there; concrete = concrete; kinds = kinds }

  -- kinds that go to the entry of a place, or stand there
  leads_to_entry : (to : ℕ) (s : Shape) (e : ImageEntry) → IsStart m to → entry_at m to ≡ Some e
      → shape_goes image s (entry_shape e) ≡ true → Leads image (KindsIn image) n to s
  unfolding kinds_in
  leads_to_entry to s e start is goes = record {
    reached = entry_shape e;
    stands = kinds_in to (entry_shape e) (breaks.entered to e start is);
    goes = goes;
  }

  leads_on : (to : ℕ) (s : Shape) → IsStart m to → Arrives image m to s → Leads image (KindsIn image) n to s
  unfolding kinds_in leads_to_entry
  leads_on to s start arrives = by_entry (entry_or_not image m clean to)
    where
      by_entry : ((e : ImageEntry) × (entry_at m to ≡ Some e)) ⊎ (entry_at m to ≡ None)
          → Leads image (KindsIn image) n to s
      by_entry (inl entry) =
          leads_to_entry to s entry.0 start entry.1
          (holds (shape_goes image s (entry_shape entry.0))
          (λ other. clean to 9 (breaks.arrives_other to s entry.0 start arrives entry.1 other)))
      by_entry (inr none) = record {
        reached = s;
        stands = kinds_in to s (arrived image m to s none arrives);
        goes = shape_goes_to_itself image s;
      }

  jumps_lead : (place : ℕ) (s : Shape) (i : Op) → KindsAt image m place s → StartsAt m place i
      → IfSome (jumps_to i) (λ to. Leads image (KindsIn image) n to (after image s i))
  unfolding leads_to_entry
  jumps_lead place s i kinds starts = by_jump (jumps_to i) refl
    where
      by_jump : (o : Option ℕ) → jumps_to i ≡ o → IfSome o (λ to. Leads image (KindsIn image) n to (after image s i))
      by_jump None is = tt
      by_jump (Some to) is =
          let entry = target_entered image m clean place to i starts is in
          leads_to_entry to (after image s i) entry.0 (target_starts image m clean place to i starts is) entry.1
          (holds (shape_goes image (after image s i) (entry_shape entry.0))
          (λ other. clean place 9 (breaks.brings_other place to s i entry.0
          (record { starts = starts; kinds = kinds }) is entry.1 other)))

  stack_fine : (place : ℕ) (s : Shape) (i : Op) → KindsAt image m place s → StartsAt m place i
      → stack_breaks image m s i ≡ false
  stack_fine place s i kinds starts = fails (stack_breaks image m s i) (λ e. by_part (or_true _ _ e))
    where
      runs : Runs image m place s i
      runs = record { starts = starts; kinds = kinds }

      by_cells : (nat_lt m.stack (length s.stack) ≡ true)
          ⊎ (nat_lt (length s.stack) (length (needs image s i)) ≡ true) → ⊥
      by_cells (inl t) =
          let high = ltb-true m.stack (length s.stack) t in
          let low = not_above image m clean place s kinds in omega (arith, high, low)
      by_cells (inr t) =
          clean place 6 (breaks.lacks_cell place s i runs
          (ltb-true (length s.stack) (length (needs image s i)) t))

      by_part : (nat_lt m.stack (length s.stack) || nat_lt (length s.stack) (length (needs image s i)) ≡ true)
          ⊎ (nat_lt m.stack (length (after image s i).stack) ≡ true) → ⊥
      by_part (inl t) =
          by_cells (or_true (nat_lt m.stack (length s.stack))
          (nat_lt (length s.stack) (length (needs image s i))) t)
      by_part (inr t) =
          clean place 6 (breaks.goes_above place s i runs (ltb-true m.stack (length (after image s i).stack) t))

  fine_there : (place : ℕ) (s : Shape) (i : Op) → KindsAt image m place s → StartsAt m place i
      → IsFine image (KindsIn image) n m place s i
  unfolding leads_on jumps_lead stack_fine
  fine_there place s i kinds starts =
      let runs : Runs image m place s i = record { starts = starts; kinds = kinds } in
      record {
        start = start_hit image m clean place i starts;
        numbers = fails (number_missing image m i) (λ e. clean place 5 (breaks.lacks_number place i starts e));
        stack = stack_fine place s i kinds starts;
        kinds = fails (kind_differs image s i) (λ e. clean place 7 (breaks.differs place s i runs e));
        fields = fails (field_missing image s.stack i) (λ e. clean place 8 (breaks.lacks_field place s i runs e));
        result = fails (result_differs image m s i) (λ e. clean place 10 (breaks.returns_other place s i runs e));
        may_jump = may_jump image m clean place i starts;
        jumps = jumps_lead place s i kinds starts;
        goes_on = λ on.
            leads_on (place + size_of i) (after image s i) (next_stands image m clean place i starts on)
            (breaks.from_before place s i kinds starts on);
      }

  stands_there : (place : ℕ) (s : Shape) → KindsAt image m place s → Stands image (KindsIn image) n place s
  unfolding fine_there
  stands_there place s kinds =
      let start = kinds_start image m clean place s kinds in
      record {
        m = m;
        i = start.0;
        there = there;
        instruction = start.1.stands;
        fine = fine_there place s start.0 kinds start.1;
      }

  leads_first : Leads image (KindsIn image) n 0 (first_shape m)
  unfolding leads_on
  leads_first =
      leads_on 0 (first_shape m) (decodes image m clean 0 breaks.first (some_code image m clean)) breaks.at_first

  shapes_stand : (place : ℕ) → IsReached m place → IsStart m place → (shape : Shape) × KindsAt image m place shape
  shapes_stand place breaks.first start = by_entry (entry_or_not image m clean 0)
    where
      by_entry : ((e : ImageEntry) × (entry_at m 0 ≡ Some e)) ⊎ (entry_at m 0 ≡ None)
          → (shape : Shape) × KindsAt image m 0 shape
      by_entry (inl entry) = (entry_shape entry.0, breaks.entered 0 entry.0 start entry.1)
      by_entry (inr none) = (first_shape m, breaks.begun none)
  shapes_stand place (breaks.behind before i reached stands) start =
      by_entry (entry_or_not image m clean (before + size_of i)) (shapes_stand before reached (i, starts))
    where
      starts : StartsAt m before i
      starts = record { reached = reached; stands = stands }

      by_end : (b : Bool) → is_end i ≡ b → entry_at m (before + size_of i) ≡ None
          → (shape : Shape) × KindsAt image m before shape
          → (shape : Shape) × KindsAt image m (before + size_of i) shape
      by_end true end none shape =
          absurd (clean (before + size_of i) 9 (breaks.nothing_arrives before i starts end start none))
      by_end false on none shape = (after image shape.0 i, breaks.left before shape.0 i shape.1 starts on none)

      by_entry : ((e : ImageEntry) × (entry_at m (before + size_of i) ≡ Some e))
          ⊎ (entry_at m (before + size_of i) ≡ None) → (shape : Shape) × KindsAt image m before shape
          → (shape : Shape) × KindsAt image m (before + size_of i) shape
      by_entry (inl entry) shape =
          (entry_shape entry.0, breaks.entered (before + size_of i) entry.0 start entry.1)
      by_entry (inr none) shape = by_end (is_end i) refl none shape

  covered_there : IsCovered image m
  unfolding shapes_stand
  covered_there = record {
    decoded = decodes image m clean;
    shaped = λ place start. shapes_stand place start.1.reached start;
    entered = λ place to i starts is. rw (target_entered image m clean place to i starts is).1 refl;
    placed = λ number e is. by_start number e is (start_or_not m e.place);
  }
    where
      by_start : (number : ℕ) (e : ImageEntry) → slice_get m.entries number ≡ Some e
          → IsStart m e.place ⊎ (IsStart m e.place → ⊥) → IsStart m e.place
      by_start number e is (inl start) = start
      by_start number e is (inr none) = absurd (clean e.place 9 (breaks.enters_no_start number e is none))

-- ---- the image

module _ (image : Image) (none : BreaksNone image) where
  agree : tables_agree image ≡ true
  agree = holds (tables_agree image) (λ other. none 65535 0 1 (breaks.tables other))

  code_clean : (n : ℕ) (m : ImageMethod) → slice_get image.methods n ≡ Some m → is_abstract m ≡ false
      → (place rule : ℕ) → CodeBreaks image m place rule → ⊥
  unfolding agree
  code_clean n m there concrete place rule broken =
      none n place rule (breaks.code n place rule m agree there concrete broken)

  pub verified : IsVerifiedBy image (KindsIn image)
  unfolding agree code_clean
  verified = record {
    tables = agree;
    starts = λ n. by_method n (slice_get image.methods n) refl;
    each = λ n place shape k.
        stands_there image n k.m k.there k.concrete (code_clean n k.m k.there k.concrete) place shape k.kinds;
  }
    where
      by_method : (n : ℕ) (o : Option ImageMethod) → slice_get image.methods n ≡ o
          → IfSome o (λ m. is_abstract m ≡ false → Leads image (KindsIn image) n 0 (first_shape m))
      by_method n None is = tt
      by_method n (Some m) is = λ concrete. leads_first image n m is concrete (code_clean n m is concrete)

  pub covers : AreCovered image
  unfolding code_clean
  covers n m there concrete = covered_there image n m there concrete (code_clean n m there concrete)

pub stack_is_low : (image : Image) (method place : ℕ) (shape : Shape) → IsVerified image
    → (here : KindsIn image method place shape) → length shape.stack ≤ here.m.stack
stack_is_low image method place shape clean here =
    not_above image here.m (code_clean image ((breaks_none image).0 clean) method here.m here.there here.concrete) place
    shape here.kinds
