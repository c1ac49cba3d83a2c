-- The entries of a method: each place once, ascending, where an instruction starts, and with no more on the stack than the
-- method says.
use Rattle.std.proofs.Common.{◌≡◌, ◌≢◌, ◌≤◌, ◌<◌, ℕ, zero, suc, ◌+◌, ◌==◌, eqb, Bool, true, false, if◌then◌else◌, List, [], ◌∷◌, ◌++◌, length, map, reverse, slice_index, Option, Some, None, refl, sym, ap, subst, ◌∙◌, arith, append_assoc}
use Rattle.std.specs.Prelude.{All, Contains}
use Rattle.std.specs.List.Sorted.{IsStrictlyIncreasing}
use Rattle.std.proofs.lemmas.Bool.{eqb-true, eqb-false}
use Rattle.std.proofs.lemmas.List.{length-reverse}
use Rattle.std.proofs.lemmas.List.Elements.{All-nil, All-cons, Contains-append_right}
use Rattle.sed_typed.specs.declared.kind.Kind.{Kind}
use Rattle.sed_typed.specs.declared.kind.Kind.TheVariants as kind
use Rattle.sed_typed.specs.declared.program.Method.{Method}
use Rattle.sed_typed.specs.declared.program.Program.{Program}
use Rattle.sed_typed.specs.declared.statement.Stmt.{Stmt}
use Rattle.scode_image.specs.declared.image.ImageEntry.{ImageEntry}
use Rattle.scode_image.specs.declared.image.ImageKind.{ImageKind}
use Rattle.scode_ops.specs.declared.op.Op.{Op}
use Rattle.scode_ops.specs.declared.op.Op.TheVariants as op
use Rattle.scode_ops.specs.Decoding.{size_of}
use Rattle.scode_entries.specs.declared.marks.Mark.{Mark}
use Rattle.scode_emit.specs.Site.{Site, Layout}
use Rattle.scode_emit.specs.Instructions.{zero_op}
use Rattle.scode_emit.specs.Sizes.{stmt_size}
use Rattle.scode_emit.specs.Code.{stmt_code, end_code, body_code}
use Rattle.scode_entries.specs.Stack.{stmt_stack, body_stack}
use Rattle.scode_emit.specs.Starts.{starts_of}
use Rattle.scode_entries.specs.Entries.{stmt_marks, body_marks, with_mark, with_marks, each_once}
use Rattle.scode_emit.specs.Method.{site_of, code_of}
use Rattle.scode_entries.specs.Method.{entry_of, entries_of, local_kinds}
use Rattle.scode_entries.proofs.Admits.{Each}
use Rattle.scode_entries.proofs.Ascend.{Ascends, stmt_ascends}
use Rattle.scode_emit.proofs.Counts.{count, count-append}
use Rattle.scode_entries.proofs.Cuts.{Cut, Cuts, stmt_cuts}
use Rattle.scode_entries.proofs.Tall.{Low, stmt_low}

-- ---- each place once

-- each place is behind the one before, none is before `low`, and none behind `high`
abbrev Rises : ℕ → List Mark → ℕ → Type 0
Rises low [] high = Unit {0}
Rises low (m ∷ ms) high = (low ≤ m.place) × ((m.place ≤ high) × Rises (m.place + 1) ms high)

rises_higher : (low : ℕ) (ms : List Mark) (high top : ℕ) → high ≤ top → Rises low ms high → Rises low ms top
rises_higher low [] high top le h = tt
rises_higher low (m ∷ ms) high top le h = (h.0, (omega (arith, le, h.1.0), rises_higher (m.place + 1) ms high top le h.1.1))

one_more : (low : ℕ) (told : List Mark) (high : ℕ) (m : Mark) → low ≤ m.place → high ≤ m.place → Rises low told high → Rises low (with_mark told m) m.place
one_more low [] high m lo hi h = (lo, (omega arith, tt))
one_more low (l ∷ []) high m lo hi h = cases (l.place == m.place) refl
  where
    cases : (b : Bool) → (l.place == m.place) ≡ b → Rises low (if b then l ∷ [] else l ∷ m ∷ []) m.place
    cases true e = (h.0, (omega (arith, hi, h.1.0), tt))
    cases false e =
        let other : l.place ≡ m.place → ⊥ = eqb-false l.place m.place e in
        let later : l.place + 1 ≤ m.place = omega (arith, hi, h.1.0, other) in
        (h.0, (omega (arith, hi, h.1.0), (later, (omega arith, tt))))
one_more low (l ∷ k ∷ told) high m lo hi h =
    (h.0, (omega (arith, hi, h.1.0), one_more (l.place + 1) (k ∷ told) high m (omega (arith, hi, h.1.1.0, h.1.1.1.0)) hi h.1.1))

all_more : (low : ℕ) (told : List Mark) (high : ℕ) (ms : List Mark) (top : ℕ) → low ≤ high → Rises low told high → Ascends high ms top → Rises low (with_marks told ms) top
all_more low told high [] top le h up = rises_higher low told high top up h
all_more low told high (m ∷ ms) top le h up =
    all_more low (with_mark told m) m.place ms top (omega (arith, le, up.0)) (one_more low told high m (omega (arith, le, up.0)) up.0 h) up.1

-- what holds of each mark holds of each that is told
pub each_with : (P : Mark → Type 0) (told : List Mark) (m : Mark) → Each P told → P m → Each P (with_mark told m)
each_with P [] m h p = (p, tt)
each_with P (l ∷ []) m h p = cases (l.place == m.place)
  where
    cases : (b : Bool) → Each P (if b then l ∷ [] else l ∷ m ∷ [])
    cases true = h
    cases false = (h.0, (p, tt))
each_with P (l ∷ k ∷ told) m h p = (h.0, each_with P (k ∷ told) m h.1 p)

pub each_told : (P : Mark → Type 0) (told ms : List Mark) → Each P told → Each P ms → Each P (with_marks told ms)
each_told P told [] h g = h
each_told P told (m ∷ ms) h g = each_told P (with_mark told m) ms (each_with P told m h g.0) g.1

-- ---- entries

pub places_rise : (low : ℕ) (ms : List Mark) (high : ℕ) (locals : List ImageKind) → Rises low ms high →
    IsStrictlyIncreasing (map (λ (e : ImageEntry). e.place) (map (entry_of locals) ms))
places_rise low [] high locals h k lt = absurd (omega (arith, lt))
places_rise low (m ∷ []) high locals h k lt = absurd (omega (arith, lt))
places_rise low (m ∷ n ∷ ms) high locals h zero lt = omega (arith, h.1.1.0)
places_rise low (m ∷ n ∷ ms) high locals h (suc k) lt =
    let places = map (λ (e : ImageEntry). e.place) (map (entry_of locals) (n ∷ ms)) in
    let later : slice_index places k < slice_index places (k + 1) = places_rise (m.place + 1) (n ∷ ms) high locals h.1.1 k (omega (arith, lt)) in
    let step : suc (k + 1) ≡ suc k + 1 = omega arith in
    subst (λ (i : ℕ). slice_index places k < slice_index (m.place ∷ places) i) step later

each_entry : (P : Mark → Type 0) (Q : ImageEntry → Type 0) (locals : List ImageKind) → ((m : Mark) → P m → Q (entry_of locals m)) → (ms : List Mark) → Each P ms → All Q (map (entry_of locals) ms)
each_entry P Q locals f [] h = All-nil Q
each_entry P Q locals f (m ∷ ms) h = All-cons Q (entry_of locals m) (map (entry_of locals) ms) (f m h.0) (each_entry P Q locals f ms h.1)

-- ---- starts

some_behind : (k : Kind) → (i : Op) × ((is : List Op) × (end_code k ≡ i ∷ is))
some_behind kind.Void = (op.Return, ([], refl))
some_behind kind.Bool = (zero_op kind.Bool, (op.ReturnValue ∷ [], refl))
some_behind kind.Int = (zero_op kind.Int, (op.ReturnValue ∷ [], refl))
some_behind kind.Long = (zero_op kind.Long, (op.ReturnValue ∷ [], refl))
some_behind kind.Text = (zero_op kind.Text, (op.ReturnValue ∷ [], refl))
some_behind (kind.Object class) = (zero_op (kind.Object class), (op.ReturnValue ∷ [], refl))

starts_has : (at : ℕ) (before : List Op) (i : Op) (after : List Op) → Contains (starts_of at (before ++ i ∷ after)) (at + count before)
starts_has at [] i after = (0, omega arith, omega arith)
starts_has at (j ∷ before) i after =
    let behind = starts_of (at + size_of j) (before ++ i ∷ after) in
    let later = Contains-append_right (at ∷ []) behind (at + size_of j + count before) (starts_has (at + size_of j) before i after) in
    let same : at + size_of j + count before ≡ at + (size_of j + count before) = omega arith in
    subst (λ (p : ℕ). Contains (at ∷ behind) p) same later

-- a place of a body, behind which something is answered
cut_starts : (ops behind : List Op) (i : Op) (is : List Op) (p : ℕ) → behind ≡ i ∷ is → Cut 0 ops p → Contains (starts_of 0 (ops ++ behind)) p
cut_starts ops behind i is p e c = by_after c.after c.whole
  where
    there : (j : Op) (js : List Op) → ops ++ behind ≡ c.before ++ j ∷ js → Contains (starts_of 0 (ops ++ behind)) p
    there j js f =
        let same : 0 + count c.before ≡ p = sym c.stands in
        subst (λ (q : ℕ). Contains (starts_of 0 (ops ++ behind)) q) same
        (subst (λ (all : List Op). Contains (starts_of 0 all) (0 + count c.before)) (sym f) (starts_has 0 c.before j js))

    by_after : (after : List Op) → ops ≡ c.before ++ after → Contains (starts_of 0 (ops ++ behind)) p
    by_after [] f =
        there i is (ap (λ (xs : List Op). xs ++ behind) f ∙ append_assoc c.before [] behind ∙ ap (λ (xs : List Op). c.before ++ xs) e)
    by_after (j ∷ js) f = there j (js ++ behind) (ap (λ (xs : List Op). xs ++ behind) f ∙ append_assoc c.before (j ∷ js) behind)

-- ---- a method

abbrev entries_by : Site → List ImageKind → Option Stmt → List ImageEntry
entries_by w locals o = map (entry_of locals) (each_once (body_marks w o))

ascend_by : (w : Site) (locals : List ImageKind) (o : Option Stmt) → IsStrictlyIncreasing (map (λ (e : ImageEntry). e.place) (entries_by w locals o))
ascend_by w locals None = λ k lt. absurd (omega (arith, lt))
ascend_by w locals (Some body) =
    let end = 0 + stmt_size w body in
    places_rise 0 (each_once (stmt_marks w 0 body)) end locals (all_more 0 [] 0 (stmt_marks w 0 body) end (omega arith) tt (stmt_ascends w 0 body))

stand_by : (w : Site) (locals : List ImageKind) (k : Kind) (o : Option Stmt) → All (λ (e : ImageEntry). Contains (starts_of 0 (body_code w k o)) e.place) (entries_by w locals o)
stand_by w locals k None = All-nil (λ (e : ImageEntry). Contains (starts_of 0 (body_code w k None)) e.place)
stand_by w locals k (Some body) =
    let ops = stmt_code w 0 0 0 body in
    let last = some_behind k in
    each_entry (λ (m : Mark). Cut 0 ops m.place) (λ (e : ImageEntry). Contains (starts_of 0 (ops ++ end_code k)) e.place) locals
    (λ m c. cut_starts ops (end_code k) last.0 last.1.0 m.place last.1.1 c) (each_once (stmt_marks w 0 body))
    (each_told (λ (m : Mark). Cut 0 ops m.place) [] (stmt_marks w 0 body) tt (stmt_cuts w 0 0 0 body))

low_by : (w : Site) (locals : List ImageKind) (o : Option Stmt) → All (λ (e : ImageEntry). length e.stack ≤ body_stack o) (entries_by w locals o)
low_by w locals None = All-nil (λ (e : ImageEntry). length e.stack ≤ 0)
low_by w locals (Some body) =
    let high = body_stack (Some body) in
    each_entry (λ (m : Mark). length m.stack ≤ high) (λ (e : ImageEntry). length e.stack ≤ high) locals
    (λ m le. omega (arith, le, length-reverse m.stack)) (each_once (stmt_marks w 0 body))
    (each_told (λ (m : Mark). length m.stack ≤ high) [] (stmt_marks w 0 body) tt (stmt_low w 0 high body (omega arith)))

pub entries_ascend : (program : Program) (layout : Layout) (m : Method) → IsStrictlyIncreasing (map (λ (e : ImageEntry). e.place) (entries_of program layout m))
entries_ascend program layout m = ascend_by (site_of program layout m) (local_kinds m) m.body

pub entries_stand : (program : Program) (layout : Layout) (m : Method) → All (λ (e : ImageEntry). Contains (starts_of 0 (code_of program layout m)) e.place) (entries_of program layout m)
entries_stand program layout m = stand_by (site_of program layout m) (local_kinds m) m.result m.body

pub entries_low : (program : Program) (layout : Layout) (m : Method) → All (λ (e : ImageEntry). length e.stack ≤ body_stack m.body) (entries_of program layout m)
entries_low program layout m = low_by (site_of program layout m) (local_kinds m) m.body
