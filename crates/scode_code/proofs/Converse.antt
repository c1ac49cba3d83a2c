-- An image that is verified by the kinds at its places, which are covered, breaks no rule.
use Rattle.std.proofs.Common.{◌≡◌, inl, inr, ℕ, ◌+◌, ◌<◌, ◌≤◌, Bool, true, false, length, refl, sym, ◌∙◌, ap, subst, arith, ltb-false}
use Rattle.std.specs.Prelude.{◌↔◌, ◌||◌, IfSome, is_some, not, nat_lt, slice_get, Option, Some, None}
use Rattle.std.specs.Option.{option_map_or}
use Rattle.std.proofs.lemmas.Bool.{or_parts}
use Rattle.std.proofs.lemmas.List.{length-reverse}
use Rattle.scode_ops.specs.declared.op.Op.{Op}
use Rattle.scode_ops.specs.declared.op.Op.TheVariants.{Turn}
use Rattle.scode_ops.specs.Decoding.{op_at, size_of}
use Rattle.scode_image.specs.declared.image.Image.{Image}
use Rattle.scode_image.specs.declared.image.ImageEntry.{ImageEntry}
use Rattle.scode_image.specs.declared.image.ImageMethod.{ImageMethod}
use Rattle.scode_code.specs.Kinds.{Shape, shape_goes}
use Rattle.scode_code.specs.Wants.{needs}
use Rattle.scode_code.specs.CodeRules.{after, entry_at, entry_shape, field_missing, first_shape, is_abstract, is_start, jumps_to, kind_differs, number_missing, result_differs}
use Rattle.scode_code.specs.Faults.{IsVerified}
use Rattle.scode_code.specs.Breaks as breaks
use Rattle.scode_code.specs.Breaks.{Arrives, BreaksNone, CodeBreaks, IsReached, IsStart, KindsAt, StartsAt}
use Rattle.scode_code.specs.Verified.{AreCovered, IsCovered, IsFine, IsVerifiedBy, KindsIn, Leads, MayJump, Stands}
use Rattle.scode_code.proofs.Places.{none_some, some_eq, start_is, within_code}
use Rattle.scode_code.proofs.Arrivals.{ends_none}
use Rattle.scode_code.proofs.Firsts.{breaks_none}
use Rattle.scode_code.proofs.Verifies.{covers, verified}

-- kinds at a place without an entry arrive there
arrives_there : (image : Image) (m : ImageMethod) (place : ℕ) (s : Shape) → entry_at m place ≡ None
    → KindsAt image m place s → Arrives image m place s
arrives_there image m place s none (breaks.entered at e start there) = absurd (none_some e (sym none ∙ there))
arrives_there image m place s none (breaks.begun empty) = breaks.at_first
arrives_there image m place s none (breaks.left at before i kinds starts on empty) =
    breaks.from_before at before i kinds starts on

-- and at an entry they are its own
entry_kinds : (image : Image) (m : ImageMethod) (place : ℕ) (s : Shape) (e : ImageEntry) → entry_at m place ≡ Some e
    → KindsAt image m place s → s ≡ entry_shape e
entry_kinds image m place s e is (breaks.entered at d start there) =
    ap (λ (x : ImageEntry). entry_shape x) (some_eq d e (sym there ∙ is))
entry_kinds image m place s e is (breaks.begun none) = absurd (none_some e (sym none ∙ is))
entry_kinds image m place s e is (breaks.left at before i kinds starts on none) = absurd (none_some e (sym none ∙ is))

kinds_reached : (image : Image) (m : ImageMethod) (place : ℕ) (s : Shape) → KindsAt image m place s → IsReached m place
kinds_reached image m place s (breaks.entered at e start there) = start.1.reached
kinds_reached image m place s (breaks.begun none) = breaks.first
kinds_reached image m place s (breaks.left at before i kinds starts on none) =
    breaks.behind at i starts.reached starts.stands

module _ (image : Image) (n : ℕ) (m : ImageMethod) (there : slice_get image.methods n ≡ Some m)
    (concrete : is_abstract m ≡ false) (v : IsVerifiedBy image (KindsIn image)) (covered : IsCovered image m) where
  -- an instruction with kinds is fine
  fine_at : (place : ℕ) (i : Op) (s : Shape) → StartsAt m place i → KindsAt image m place s
      → IsFine image (KindsIn image) n m place s i
  fine_at place i s starts kinds =
      subst (λ (j : Op). IsFine image (KindsIn image) n m place s j) op
      (subst (λ (x : ImageMethod). IsFine image (KindsIn image) n x place s found.i) same found.fine)
    where
      found : Stands image (KindsIn image) n place s
      found = v.each n place s (record { m = m; there = there; concrete = concrete; kinds = kinds })

      same : found.m ≡ m
      same = some_eq found.m m (sym found.there ∙ there)

      op : found.i ≡ i
      op = some_eq found.i i
          (sym (ap (λ (x : ImageMethod). op_at x.code place) (sym same) ∙ found.instruction) ∙ starts.stands)

  -- of the method's own kinds
  kinds_of : (place : ℕ) (s : Shape) → KindsIn image n place s → KindsAt image m place s
  kinds_of place s k =
      subst (λ (x : ImageMethod). KindsAt image x place s) (some_eq k.m m (sym k.there ∙ there)) k.kinds

  within_there : (place : ℕ) (s : Shape) → KindsAt image m place s → place < length m.code
  within_there place s kinds = within_code m.code place found.i
      (ap (λ (x : ImageMethod). op_at x.code place) (some_eq m found.m (sym there ∙ found.there)) ∙ found.instruction)
    where
      found : Stands image (KindsIn image) n place s
      found = v.each n place s (record { m = m; there = there; concrete = concrete; kinds = kinds })

  leads_within : (place : ℕ) (s : Shape) → Leads image (KindsIn image) n place s → place < length m.code
  unfolding kinds_of within_there
  leads_within place s l = within_there place l.reached (kinds_of place l.reached l.stands)

  -- what leads to an entry goes to it
  leads_goes : (place : ℕ) (s : Shape) (e : ImageEntry) → entry_at m place ≡ Some e
      → Leads image (KindsIn image) n place s → shape_goes image s (entry_shape e) ≡ true
  unfolding kinds_of
  leads_goes place s e is l =
      subst (λ (t : Shape). shape_goes image s t ≡ true)
      (entry_kinds image m place l.reached e is (kinds_of place l.reached l.stands)) l.goes

  leads_first_there : Leads image (KindsIn image) n 0 (first_shape m)
  leads_first_there = by_method (slice_get image.methods n) there (v.starts n)
    where
      by_method : (o : Option ImageMethod) → o ≡ Some m
          → IfSome o (λ x. is_abstract x ≡ false → Leads image (KindsIn image) n 0 (first_shape x))
          → Leads image (KindsIn image) n 0 (first_shape m)
      by_method None is leads = absurd (none_some m is)
      by_method (Some x) is leads =
          subst (λ (y : ImageMethod). is_abstract y ≡ false → Leads image (KindsIn image) n 0 (first_shape y))
          (some_eq x m is) leads concrete

  arrival_leads : (place : ℕ) (s : Shape) → Arrives image m place s → Leads image (KindsIn image) n place s
  unfolding leads_first_there fine_at
  arrival_leads place s breaks.at_first = leads_first_there
  arrival_leads place s (breaks.from_before at before i kinds starts on) = (fine_at at i before starts kinds).goes_on on

  jump_fine : (place to : ℕ) (i : Op) (s : Shape) → StartsAt m place i → KindsAt image m place s → jumps_to i ≡ Some to
      → IsStart m to × MayJump m place to × Leads image (KindsIn image) n to (after image s i)
  unfolding fine_at
  jump_fine place to i s starts kinds is = by_jump (jumps_to i) is fine.start fine.may_jump fine.jumps
    where
      fine : IsFine image (KindsIn image) n m place s i
      fine = fine_at place i s starts kinds

      by_test : (t : ℕ) (b : Bool) → is_start m.code t ≡ b → not b ≡ false → IsStart m t
      by_test t true told e = start_is m t told
      by_test t false told e = absurd cc

      by_jump : (o : Option ℕ) → o ≡ Some to → option_map_or (λ t. not (is_start m.code t)) o false ≡ false
          → IfSome o (λ t. MayJump m place t) → IfSome o (λ t. Leads image (KindsIn image) n t (after image s i))
          → IsStart m to × MayJump m place to × Leads image (KindsIn image) n to (after image s i)
      by_jump None is start may leads = absurd (none_some to is)
      by_jump (Some t) is start may leads =
          subst (λ (k : ℕ). IsStart m k × MayJump m place k × Leads image (KindsIn image) n k (after image s i))
          (some_eq t to is) (by_test t (is_start m.code t) refl start, may, leads)

  differ : (b : Bool) → b ≡ true → b ≡ false → ⊥
  differ b is other = cc

  low_parts : (place : ℕ) (i : Op) (s : Shape) → StartsAt m place i → KindsAt image m place s
      → (length s.stack ≤ m.stack) × (length (needs image s i) ≤ length s.stack)
      × (length (after image s i).stack ≤ m.stack)
  unfolding fine_at
  low_parts place i s starts kinds =
      let e = (fine_at place i s starts kinds).stack in
      let p = or_parts (nat_lt m.stack (length s.stack) || nat_lt (length s.stack) (length (needs image s i)))
      (nat_lt m.stack (length (after image s i).stack)) e in
      let q = or_parts (nat_lt m.stack (length s.stack)) (nat_lt (length s.stack) (length (needs image s i))) p.0 in (
        ltb-false m.stack (length s.stack) q.0,
        ltb-false (length s.stack) (length (needs image s i)) q.1,
        ltb-false m.stack (length (after image s i).stack) p.1,
      )

  none_breaks : (place rule : ℕ) → CodeBreaks image m place rule → ⊥
  unfolding fine_at kinds_of within_there leads_within leads_goes leads_first_there arrival_leads jump_fine low_parts
  none_breaks place rule (breaks.no_code none) =
      let within = leads_within 0 (first_shape m) leads_first_there in omega (arith, within, none)
  none_breaks place rule (breaks.nothing_stands at reached within none) =
      let start = covered.decoded at reached within in none_some start.0 (sym none ∙ start.1.stands)
  none_breaks place rule (breaks.runs_past at i starts on past) =
      let kinds = covered.shaped at (i, starts) in
      let within =
      leads_within (at + size_of i) (after image kinds.0 i) ((fine_at at i kinds.0 starts kinds.1).goes_on on) in
      omega (arith, within, past)
  none_breaks place rule (breaks.misses_start at to i starts is none) =
      let kinds = covered.shaped at (i, starts) in none (jump_fine at to i kinds.0 starts kinds.1 is).0
  none_breaks place rule (breaks.goes_back at to i j starts is back target other) =
      let kinds = covered.shaped at (i, starts) in by_jump (jump_fine at to i kinds.0 starts kinds.1 is).1
    where
      by_jump : MayJump m at to → ⊥
      by_jump (inl less) = omega (arith, less, back)
      by_jump (inr turn) = other (some_eq j Turn (sym target.stands ∙ turn))
  none_breaks place rule (breaks.lacks_number at i starts lacks) =
      let kinds = covered.shaped at (i, starts) in
      differ (number_missing image m i) lacks (fine_at at i kinds.0 starts kinds.1).numbers
  none_breaks place rule (breaks.enters_above at e start there high) =
      let low = low_parts at start.0 (entry_shape e) start.1 (breaks.entered at e start there) in
      let long = length-reverse e.stack in omega (arith, low.0, high, long)
  none_breaks place rule (breaks.lacks_cell at s i runs few) =
      let low = low_parts at i s runs.starts runs.kinds in omega (arith, low.1, few)
  none_breaks place rule (breaks.goes_above at s i runs high) =
      let low = low_parts at i s runs.starts runs.kinds in omega (arith, low.2, high)
  none_breaks place rule (breaks.differs at s i runs other) =
      differ (kind_differs image s i) other (fine_at at i s runs.starts runs.kinds).kinds
  none_breaks place rule (breaks.lacks_field at s i runs lacks) =
      differ (field_missing image s.stack i) lacks (fine_at at i s runs.starts runs.kinds).fields
  none_breaks place rule (breaks.no_entry at to i starts is none) =
      let entry = covered.entered at to i starts is in
      let no : is_some (entry_at m to) ≡ false = ap (λ (o : Option ImageEntry). is_some o) none in
      differ (is_some (entry_at m to)) entry no
  none_breaks place rule (breaks.brings_other at to s i e runs is there other) =
      let goes = leads_goes to (after image s i) e there (jump_fine at to i s runs.starts runs.kinds is).2 in
      differ (shape_goes image (after image s i) (entry_shape e)) goes other
  none_breaks place rule (breaks.arrives_other at s e start arrives there other) =
      let goes = leads_goes at s e there (arrival_leads at s arrives) in
      differ (shape_goes image s (entry_shape e)) goes other
  none_breaks place rule (breaks.nothing_arrives at i starts end start none) =
      let kinds = covered.shaped (at + size_of i) start in
      ends_none image m (at + size_of i) kinds.0
      (record { before = at; i = i; starts = starts; end = end; next = refl })
      (arrives_there image m (at + size_of i) kinds.0 none kinds.1)
  none_breaks place rule (breaks.enters_no_start number e there none) = none (covered.placed number e there)
  none_breaks place rule (breaks.returns_other at s i runs other) =
      differ (result_differs image m s i) other (fine_at at i s runs.starts runs.kinds).result

-- ---- the image

breaks_no_rule : (image : Image) → IsVerifiedBy image (KindsIn image) → AreCovered image → BreaksNone image
breaks_no_rule image v covered method place rule (breaks.tables other) = let agree = v.tables in absurd cc
breaks_no_rule image v covered method place rule (breaks.code n p r m agreed there concrete broken) =
    none_breaks image n m there concrete v (covered n m there concrete) p r broken

pub verified_by_kinds : (image : Image) → IsVerified image ↔ (IsVerifiedBy image (KindsIn image) × AreCovered image)
verified_by_kinds image =
    (λ clean. both ((breaks_none image).0 clean), λ v. (breaks_none image).1 (breaks_no_rule image v.0 v.1))
  where
    both : BreaksNone image → IsVerifiedBy image (KindsIn image) × AreCovered image
    both none = (verified image none, covers image none)
