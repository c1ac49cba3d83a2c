-- Entries between two starts.
use Rattle.std.proofs.Common.{◌≡◌, ℕ, zero, suc, ◌+◌, ◌<◌, ◌≤◌, ◌&&◌, nat_lt, nat_le, cond, Bool, true, List, [], ◌∷◌, drop, find, length, get_or, refl, ap, sym, ◌∙◌, arith, Option, Some, None}
use Rattle.std.specs.Option.{option_map}
use Rattle.std.proofs.lemmas.Bool.{and_left, and_parts, and_right, lt-ltb, le-ltb, leb-true}
use Rattle.std.proofs.lemmas.List.{drop_all}
use Rattle.scode_tables.proofs.Rests.{next_left}
use Rattle.scode_image.specs.declared.image.ImageEntry.{ImageEntry}
use Rattle.scode_code.specs.TableRules.{places_ascend}
use Rattle.scode_code.specs.CodeRules.{entry_between, is_between}

-- one that stands at a place or before it is not between it and another
pub passes : (es : List ImageEntry) (k : ℕ) (e : ImageEntry) (from to : ℕ) → k < length es → e ≡ get_or es k e
    → e.place ≤ from → find (is_between from to) (drop k es) ≡ find (is_between from to) (drop (k + 1) es)
passes es k e from to within is low =
    ap (λ (xs : List ImageEntry). find (is_between from to) xs) (next_left k es e within is)
    ∙ ap (λ (b : Bool). cond b (Some e) (find (is_between from to) (drop (k + 1) es)))
    (and_left (nat_lt from e.place) (nat_lt e.place to) (le-ltb from e.place low))

-- entries that ascend from a place on are none before it
none_before : (least from to : ℕ) (es : List ImageEntry) → places_ascend least es ≡ true → to ≤ least
    → find (is_between from to) es ≡ None
none_before least from to [] ascend high = refl
none_before least from to (e ∷ es) ascend high =
    let p = and_parts (nat_le least e.place) (places_ascend (suc e.place) es) ascend in
    let above : least ≤ e.place = leb-true least e.place p.0 in
    ap (λ (b : Bool). cond b (Some e) (find (is_between from to) es))
    (and_right (nat_lt from e.place) (nat_lt e.place to) (le-ltb e.place to (omega arith)))
    ∙ none_before (suc e.place) from to es p.1 (omega arith)

-- those behind the first ones ascend too
ascend_behind : (k least : ℕ) (es : List ImageEntry) → places_ascend least es ≡ true
    → (from : ℕ) × (places_ascend from (drop k es) ≡ true)
ascend_behind zero least es ascend = (least, ascend)
ascend_behind (suc k) least [] ascend = (least, ascend)
ascend_behind (suc k) least (e ∷ es) ascend =
    ascend_behind k (suc e.place) es (and_parts (nat_le least e.place) (places_ascend (suc e.place) es) ascend).1

between_next : (e : ImageEntry) (es : List ImageEntry) (least from to : ℕ) → places_ascend least (e ∷ es) ≡ true
    → from < e.place → to ≤ e.place → find (is_between from to) (e ∷ es) ≡ None
between_next e es least from to ascend low high =
    let p = and_parts (nat_le least e.place) (places_ascend (suc e.place) es) ascend in
    ap (λ (b : Bool). cond b (Some e) (find (is_between from to) es))
    (and_right (nat_lt from e.place) (nat_lt e.place to) (le-ltb e.place to high))
    ∙ none_before (suc e.place) from to es p.1 (omega arith)

-- the next entry stands between the two places
pub stray_there : (es : List ImageEntry) (k : ℕ) (e : ImageEntry) (from to : ℕ) → k < length es → e ≡ get_or es k e
    → find (is_between from to) es ≡ find (is_between from to) (drop k es) → from < e.place → e.place < to
    → entry_between es from to ≡ Some e.place
stray_there es k e from to within is passed low high =
    ap (λ (o : Option ImageEntry). option_map (λ x. x.place) o)
    (passed ∙ ap (λ (xs : List ImageEntry). find (is_between from to) xs) (next_left k es e within is)
    ∙ ap (λ (b : Bool). cond b (Some e) (find (is_between from to) (drop (k + 1) es)))
    (ap (λ (b : Bool). b && nat_lt e.place to) (lt-ltb from e.place low) ∙ lt-ltb e.place to high))

-- it stands behind both
pub stray_behind : (es : List ImageEntry) (k : ℕ) (e : ImageEntry) (from to : ℕ) → k < length es → e ≡ get_or es k e
    → places_ascend 0 es ≡ true
    → find (is_between from to) es ≡ find (is_between from to) (drop k es) → from < e.place → to ≤ e.place
    → entry_between es from to ≡ None
stray_behind es k e from to within is ascend passed low high =
    let rest = ascend_behind k 0 es ascend in
    let next = next_left k es e within is in
    ap (λ (o : Option ImageEntry). option_map (λ x. x.place) o)
    (passed ∙ ap (λ (xs : List ImageEntry). find (is_between from to) xs) next
    ∙ between_next e (drop (k + 1) es) rest.0 from to (ap (λ (xs : List ImageEntry). places_ascend rest.0 xs) (sym next) ∙ rest.1) low high)

-- there is none
pub stray_none : (es : List ImageEntry) (k from to : ℕ) → length es ≤ k
    → find (is_between from to) es ≡ find (is_between from to) (drop k es) → entry_between es from to ≡ None
stray_none es k from to past passed =
    ap (λ (o : Option ImageEntry). option_map (λ x. x.place) o)
    (passed ∙ ap (λ (xs : List ImageEntry). find (is_between from to) xs) (drop_all k es past))
