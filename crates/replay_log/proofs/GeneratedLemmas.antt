-- What the loops of a generated record have done so far.
use Rattle.std.proofs.Common.{◌≡◌, ◌≢◌, ◌==◌, eq-eqb, ℕ, suc, ◌+◌, ◌*◌, ◌%◌, true, false, List, [], ◌∷◌, ◌++◌, length, map, slice_index_or, refl, sym, subst, ◌∙◌, ap, arith, add-one}
use Rattle.std.proofs.lemmas.Bool.Decides.{nat_tests}
use Rattle.std.proofs.lemmas.List.{append-nil}
use Rattle.replay_log.specs.declared.gen_spec.GenSpec.{GenSpec}
use Rattle.replay_log.specs.declared.gen_spec.GenType.{GenType}
use Rattle.replay_log.specs.declared.making.Making.{Making}
use Rattle.replay_log.specs.declared.places.Place.{Place}
use Rattle.replay_log.specs.Draw.{draw, next_draw}
use Rattle.sox_msg.specs.Command.{invoke}
use Rattle.replay_log.specs.declared.making.Next.{Next}
use Rattle.replay_log.specs.declared.session.Session.{Session}
use Rattle.replay_log.specs.declared.session.Session.TheVariants.{A, B}
use Rattle.replay_log.specs.Generated.{IsGenerated, acts, component_acts, drawn_type, draws_below, edit, first_draw, folder_add, folder_type, for_each, greetings, is_folder, link_acts, link_count, link_with, linked, other_add, place, place_in, places, places_of, second_draw, tick_acts, tick_with}
use Rattle.replay_log.specs.Making.{AddsAll, AddsOne, Does, EditsAll, EditsOnce, LinksAll, PutsSteps}
use Rattle.replay_log.specs.Session.{in_turn}
use Rattle.replay_log.specs.Step.{Act, asks, waits, greeting, steps_of}
use Rattle.replay_log.proofs.MakingLemmas.{does-none, does-then, puts-then}

-- one draw more
draw-next : (seed n : ℕ) → draw seed (suc n) ≡ next_draw (draw seed n)
unfolding draw
draw-next seed n = refl

drawn-next : (seed n last : ℕ) → last ≡ draw seed n → next_draw last ≡ draw seed (suc n)
drawn-next seed n last drawn = ap next_draw drawn ∙ sym (draw-next seed n)

-- ---- components

pub adds-none : (spec : GenSpec) (making : Making) → making.last ≡ spec.seed → AddsAll spec 0 making making []
unfolding draw draws_below
adds-none spec making seed = record { does = does-none making; drawn = seed; found = refl }

pub adds-more : (spec : GenSpec) (n : ℕ) (a b c : Making) (old new : List Place) → AddsAll spec n a b old
    → AddsOne spec n b c old new → AddsAll spec (n + 1) a c new
adds-more spec n a b c old new first second =
    subst (λ (k : ℕ). AddsAll spec k a c new) (sym (add-one n))
    (record {
      does = does-then (for_each n (component_acts spec)) (component_acts spec n) a b c first.does second.does;
      drawn = second.drawn;
      found = second.found ∙ ap (λ (ps : List Place). ps ++ places_of spec n) first.found;
    })

draws-folder : (i : ℕ) → is_folder i ≡ true → draws_below (suc i) ≡ draws_below i
unfolding draws_below
draws-folder i folder = rw folder refl

draws-other : (i : ℕ) → is_folder i ≡ false → draws_below (suc i) ≡ suc (draws_below i)
unfolding draws_below
draws-other i other = rw other refl

pub folder-test : (i : ℕ) → i % 100 ≡ 0 → is_folder i ≡ true
folder-test i e = eq-eqb (i % 100) 0 e

pub other-test : (i : ℕ) → i % 100 ≢ 0 → is_folder i ≡ false
other-test i other = test (i % 100) other
  where
    test : (n : ℕ) → n ≢ 0 → (n == 0) ≡ false
    test n other = grind (arith, nat_tests)

pub adds-folder : (spec : GenSpec) (i : ℕ) (a b : Making) (places : List Place) → is_folder i ≡ true
    → a.last ≡ draw spec.seed (draws_below i)
    → Does (asks (in_turn i) (folder_add i) ∷ []) a b → b.last ≡ a.last
    → AddsOne spec i a b places places
adds-folder spec i a b places folder drawn does last = record {
  does = rw folder does;
  drawn = last ∙ drawn ∙ ap (draw spec.seed) (sym (draws-folder i folder));
  found = rw folder (sym (append-nil places));
}

-- a draw changes nothing but the number drawn last
does-from : (acts : List Act) (a b c : Making) (drawn : ℕ) → b ≡ record a { last = drawn } → Does acts b c
    → Does acts a c
does-from acts a b c drawn is does =
    let P : Making → Type 0 = λ m. Does acts m c in
    let from_drawn : Does acts (record a { last = drawn }) c = subst P is does in
    record { puts = from_drawn.puts; counted = from_drawn.counted }

pub adds-drawn : (spec : GenSpec) (i : ℕ) (kind : GenType) (a b c : Making) (old new : List Place) → is_folder i ≡ false
    → a.last ≡ draw spec.seed (draws_below i)
    → kind ≡ slice_index_or spec.types (next_draw a.last % length spec.types) folder_type
    → b ≡ record a { last = next_draw a.last }
    → Does (asks (in_turn i) (other_add kind i) ∷ []) b c → c.last ≡ b.last
    → new ≡ old ++ map (place (i + 1)) kind.ints → AddsOne spec i a c old new
adds-drawn spec i kind a b c old new other drawn is from does last found =
    let next : next_draw a.last ≡ draw spec.seed (suc (draws_below i)) =
    drawn-next spec.seed (draws_below i) a.last drawn in
    let kind_is : kind ≡ drawn_type spec i =
    is ∙ ap (λ (x : ℕ). slice_index_or spec.types (x % length spec.types) folder_type) next in
    let b_last : b.last ≡ next_draw a.last = ap (λ (m : Making). m.last) from in
    record {
      does = rw other
          (subst (λ (k : GenType). Does (asks (in_turn i) (other_add k i) ∷ []) a c) kind_is
          (does-from (asks (in_turn i) (other_add kind i) ∷ []) a b c (next_draw a.last) from does));
      drawn = last ∙ b_last ∙ next ∙ ap (draw spec.seed) (sym (draws-other i other));
      found = rw other (found ∙ ap (λ (k : GenType). old ++ map (place (i + 1)) k.ints) kind_is);
    }

-- ---- links

pub links-none : (spec : GenSpec) (making : Making) → making.last ≡ draw spec.seed (draws_below spec.components)
    → LinksAll spec 0 making making
links-none spec making drawn = record {
  does = does-none making;
  drawn = drawn ∙ ap (draw spec.seed) (omega arith);
}

pub links-more : (spec : GenSpec) (all : List Place) (n : ℕ) (a b c : Making) → all ≡ places spec → LinksAll spec n a b
    → Does (asks (in_turn n) (link_with all (next_draw b.last) n) ∷ []) b c → c.last ≡ next_draw b.last
    → LinksAll spec (n + 1) a c
links-more spec all n a b c all_are first does last =
    let next : next_draw b.last ≡ draw spec.seed (draws_below spec.components + suc n) =
    drawn-next spec.seed (draws_below spec.components + n) b.last first.drawn ∙ ap (draw spec.seed) (omega arith) in
    let one : Does (link_acts spec n) b c =
    subst (λ (x : ℕ). Does (asks (in_turn n) (link_with (places spec) x n) ∷ []) b c) next
    (subst (λ (ps : List Place). Does (asks (in_turn n) (link_with ps (next_draw b.last) n) ∷ []) b c) all_are does) in
    subst (λ (k : ℕ). LinksAll spec k a c) (sym (add-one n))
    (record {
      does = does-then (for_each n (link_acts spec)) (link_acts spec n) a b c first.does one;
      drawn = last ∙ next;
    })

-- ---- ticks

pub edits-none : (spec : GenSpec) (making : Making)
    → making.last ≡ draw spec.seed (draws_below spec.components + link_count spec) → EditsAll spec 0 making making
edits-none spec making drawn = record {
  does = does-none making;
  drawn = drawn ∙ ap (draw spec.seed) (omega arith);
}

pub edits-more : (spec : GenSpec) (n : ℕ) (a b c : Making) → EditsAll spec n a b
    → EditsOnce spec.components (n + 1) b c → EditsAll spec (n + 1) a c
edits-more spec n a b c first second =
    let first_is : next_draw b.last ≡ first_draw spec n =
    drawn-next spec.seed (draws_below spec.components + link_count spec + 2 * n) b.last first.drawn
    ∙ ap (draw spec.seed) (omega arith) in
    let second_is : next_draw (next_draw b.last) ≡ second_draw spec n =
    drawn-next spec.seed (draws_below spec.components + link_count spec + suc (2 * n)) (next_draw b.last) first_is
    ∙ ap (draw spec.seed) (omega arith) in
    let one : Does (tick_acts spec n) b c =
    subst (λ (y : ℕ). Does (tick_with spec.components (n + 1) (first_draw spec n) y) b c) second_is
    (subst (λ (x : ℕ). Does (tick_with spec.components (n + 1) x (next_draw (next_draw b.last))) b c) first_is
    second.does) in
    record {
      does = subst (λ (k : ℕ). Does (for_each k (tick_acts spec)) a c) (sym (add-one n))
          (does-then (for_each n (tick_acts spec)) (tick_acts spec n) a b c first.does one);
      drawn = second.last ∙ second_is ∙ ap (draw spec.seed) (omega arith);
    }

-- a tick, two draws and an edit
pub edits-once : (components number p q moment : ℕ) (w : Session) (a b c d e : Making) → moment ≡ number * 100000000
    → w ≡ in_turn number → Does (waits moment ∷ []) a b → b.last ≡ a.last → p ≡ next_draw b.last
    → c ≡ record b { last = p } → q ≡ next_draw c.last → d ≡ record c { last = q }
    → Does (asks w (edit (1 + p % components) number q) ∷ []) d e → e.last ≡ d.last → EditsOnce components number a e
edits-once components number p q moment w a b c d e moment_is w_is waited b_last p_is c_is q_is d_is edited e_last =
    let first : Does (waits (number * 100000000) ∷ []) a b =
    subst (λ (m : ℕ). Does (waits m ∷ []) a b) moment_is waited in
    let second : Does (asks (in_turn number) (edit (1 + p % components) number q) ∷ []) d e =
    subst (λ (v : Session). Does (asks v (edit (1 + p % components) number q) ∷ []) d e) w_is edited in
    let p_drawn : p ≡ next_draw a.last = p_is ∙ ap next_draw b_last in
    let c_last : c.last ≡ p = ap (λ (m : Making). m.last) c_is in
    let q_drawn : q ≡ next_draw (next_draw a.last) = q_is ∙ ap next_draw (c_last ∙ p_drawn) in
    let d_last : d.last ≡ q = ap (λ (m : Making). m.last) d_is in
    let asked : List Act = asks (in_turn number) (edit (1 + p % components) number q) ∷ [] in
    let from_b : Does asked b e = does-from asked b c e p c_is (does-from asked c d e q d_is second) in
    let both : Does (tick_with components number p q) a e =
    does-then (waits (number * 100000000) ∷ []) asked a b e first from_b in
    record {
      does = subst (λ (x : ℕ). Does (tick_with components number x (next_draw (next_draw a.last))) a e) p_drawn
          (subst (λ (y : ℕ). Does (tick_with components number p y) a e) q_drawn both);
      last = e_last ∙ d_last ∙ q_drawn;
    }

-- a link from a place that is drawn
pub link-added : (all : List Place) (who w : Session) (j x : ℕ) (source target : Place) (a b c : Making)
    → source ≡ place_in all (x % length all) → target ≡ place_in all j → x ≡ next_draw a.last
    → b ≡ record a { last = x } → w ≡ who → Does (asks w (linked source target) ∷ []) b c
    → Does (asks who (link_with all (next_draw a.last) j) ∷ []) a c
link-added all who w j x source target a b c source_is target_is x_is b_is w_is does =
    let from_a : Does (asks w (linked source target) ∷ []) a c =
    does-from (asks w (linked source target) ∷ []) a b c x b_is does in
    let source_drawn : source ≡ place_in all (next_draw a.last % length all) =
    source_is ∙ ap (λ (n : ℕ). place_in all (n % length all)) x_is in
    subst (λ (s : Place). Does (asks who (linked s (place_in all j)) ∷ []) a c) source_drawn
    (subst (λ (t : Place). Does (asks who (linked source t) ∷ []) a c) target_is
    (subst (λ (v : Session). Does (asks v (linked source target) ∷ []) a c) w_is from_a))

-- ---- the whole

pub does-all : (spec : GenSpec) (a b c d e : Making) (all : List Place) → AddsAll spec spec.components a b all
    → LinksAll spec (link_count spec) b c → EditsAll spec spec.ticks c d → Does (asks A (invoke 0 1 []) ∷ []) d e
    → Does (acts spec) a e
does-all spec a b c d e all first second third fourth =
    let save : List Act = asks A (invoke 0 1 []) ∷ [] in
    let edits : List Act = for_each spec.ticks (tick_acts spec) in
    let links : List Act = for_each (link_count spec) (link_acts spec) in
    let adds : List Act = for_each spec.components (component_acts spec) in
    does-then adds (links ++ (edits ++ save)) a b e first.does
    (does-then links (edits ++ save) b c e second.does (does-then edits save c d e third.does fourth))

pub puts-greetings : (spec : GenSpec) (u v d e a b c : List ℕ) → PutsSteps (greeting A u d) a b
    → PutsSteps (greeting B v e) b c → u ≡ spec.user → v ≡ spec.user → d ≡ slice_index_or spec.digests 0 []
    → e ≡ slice_index_or spec.digests 1 [] → PutsSteps (greetings spec) a c
puts-greetings spec u v d e a b c first second u_is v_is d_is e_is =
    let one : PutsSteps (greeting A spec.user (slice_index_or spec.digests 0 [])) a b =
    subst (λ (t : List ℕ). PutsSteps (greeting A spec.user t) a b) d_is
    (subst (λ (t : List ℕ). PutsSteps (greeting A t d) a b) u_is first) in
    let two : PutsSteps (greeting B spec.user (slice_index_or spec.digests 1 [])) b c =
    subst (λ (t : List ℕ). PutsSteps (greeting B spec.user t) b c) e_is
    (subst (λ (t : List ℕ). PutsSteps (greeting B t e) b c) v_is second) in
    puts-then (greeting A spec.user (slice_index_or spec.digests 0 []))
    (greeting B spec.user (slice_index_or spec.digests 1 [])) a b c one two

pub whole : (spec : GenSpec) (start after : Making) (bytes : List ℕ) → PutsSteps (greetings spec) [] start.text.items
    → start.next ≡ record { a = 0; b = 0 } → Does (acts spec) start after → bytes ≡ after.text.items ++ 122 ∷ []
    → IsGenerated spec bytes
whole spec start after bytes greeted from_0 done ended =
    let behind : PutsSteps (steps_of (record { a = 0; b = 0 }) (acts spec)) start.text.items after.text.items =
    subst (λ (n : Next). PutsSteps (steps_of n (acts spec)) start.text.items after.text.items) from_0 done.puts in
    let all = puts-then (greetings spec) (steps_of (record { a = 0; b = 0 }) (acts spec)) [] start.text.items
    after.text.items greeted behind in
    record {
      entries = all.entries;
      left = all.left;
      whole = record {
        text = all.text;
        spelled = all.spelled;
        ended = ended ∙ ap (λ (t : List ℕ). t ++ 122 ∷ []) all.behind;
      };
    }
