-- All parts of all live components, in their order, and what a tick does with one after another.
use Rattle.std.proofs.Common.{◌≡◌, ◌<◌, ◌≤◌, ◌+◌, ◌*◌, ℕ, Bool, true, false, List, [], ◌∷◌, ◌++◌, map, refl, sym, ◌∙◌, ap, arith}
use Rattle.std.specs.Prelude.{◌==◌, ◌&&◌, ◌||◌, nat_lt, T, Option, None, Some, if◌then◌else◌}
use Rattle.std.specs.FinMap as finite
use Rattle.std.specs.FinMap.{is_sorted}
use Rattle.std.specs.FinMap.Entries.{below_all}
use Rattle.std.specs.List.{flat_map, fold, list_all, list_any}
use Rattle.std.specs.Option.{option_map_or}
use Rattle.std.specs.Ordering.{eq_by_cmp, is_lt, nat_cmp}
use Rattle.std.proofs.lemmas.Bool.Decides.{nat_tests}
use Rattle.sed_engine.specs.Code.{Meaning}
use Rattle.comp_tree.specs.Application.{Application, Component, is_live}
use Rattle.dasp_session.specs.Letters.{Letter}
use Rattle.dasp_session.specs.Looking.{session_at}
use Rattle.dasp_session.specs.Session.{Session}
use Rattle.sub_table.specs.declared.part.Part.{Part}
use Rattle.sub_table.specs.declared.part.Part.TheVariants.{Tree, Config, Runtime, Links}
use Rattle.sub_table.specs.Events.{posted}
use Rattle.sub_table.specs.Parts.{is_part}
use Rattle.sub_table.specs.Table.{Subscriptions}
use Rattle.sox_events.specs.Due.{letter_of}
use Rattle.sox_msg.specs.Reply.{event_bytes}
use Rattle.node_events.specs.Events.{PartAt, Telling, bytes_of, differs_from, has_room_at, is_due, parts_at, parts_of, told, told_if_due}
use Rattle.node_events.specs.InOrder.{ascend, is_part_of, order_of}
use Rattle.node_events.specs.Replying.{next_letter}
use Rattle.node_events.proofs.Taking.{posted_letters}
use Rattle.node_events.proofs.Truths.{both, both_true}

-- ---- each part of each live component

either_of : (b r : Bool) → ((b && true) || ((b && false) || ((b && false) || ((b && false) || r)))) ≡ (b || r)
either_of true r = refl
either_of false r = refl

second_of_four : (b r : Bool) → ((b && false) || ((b && true) || ((b && false) || ((b && false) || r)))) ≡ (b || r)
second_of_four true r = refl
second_of_four false r = refl

third_of_four : (b r : Bool) → ((b && false) || ((b && false) || ((b && true) || ((b && false) || r)))) ≡ (b || r)
third_of_four true r = refl
third_of_four false r = refl

last_of_four : (b r : Bool) → ((b && false) || ((b && false) || ((b && false) || ((b && true) || r)))) ≡ (b || r)
last_of_four true r = refl
last_of_four false r = refl

one_of_four : (part : Part) (b r : Bool)
    → ((b && is_part part Tree) || ((b && is_part part Config) || ((b && is_part part Runtime) || ((b && is_part part Links) || r)))) ≡ (b || r)
one_of_four Tree b r = either_of b r
one_of_four Config b r = second_of_four b r
one_of_four Runtime b r = third_of_four b r
one_of_four Links b r = last_of_four b r

same_test : (key id : ℕ) → (key == id) ≡ eq_by_cmp nat_cmp id key
same_test key id = grind (arith, nat_tests)

listed_by : (id : ℕ) (part : Part) (keys : List ℕ) → list_any (is_part_of id part) (flat_map parts_at keys) ≡ list_any (eq_by_cmp nat_cmp id) keys
listed_by id part [] = refl
listed_by id part (key ∷ keys) =
    one_of_four part (key == id) (list_any (is_part_of id part) (flat_map parts_at keys))
    ∙ ap (λ (b : Bool). b || list_any (is_part_of id part) (flat_map parts_at keys)) (same_test key id)
    ∙ ap (λ (b : Bool). eq_by_cmp nat_cmp id key || b) (listed_by id part keys)

pub parts_listed : (a : Application) (id : ℕ) (part : Part) → list_any (is_part_of id part) (parts_of a) ≡ is_live a.components.by_id id
parts_listed a id part = listed_by id part (finite.keys a.components.by_id) ∙ sym (finite.contains_key-keys a.components.by_id id)

-- ---- in order

true_of : (b : Bool) → T b → b ≡ true
true_of true is = refl
true_of false is = absurd is

less_than : (x y : ℕ) → x < y → nat_lt x y ≡ true
less_than x y lt = grind (arith, nat_tests)

less_of : (x y : ℕ) → is_lt (nat_cmp x y) ≡ true → x < y
less_of x y is = grind (arith, nat_tests)

abbrev numbers : List (ℕ × Component) → List ℕ
numbers es = map order_of (flat_map parts_at (map (λ (e : ℕ × Component). e.0) es))

-- a number of an id is below those of the ids above it
all_above : (number id : ℕ) (es : List (ℕ × Component)) → number ≤ id * 4 + 3 → below_all nat_cmp id es ≡ true
    → list_all (nat_lt number) (numbers es) ≡ true
all_above number id [] small below = refl
all_above number id (e ∷ es) small below =
    let two = both_true (is_lt (nat_cmp id e.0)) (below_all nat_cmp id es) below in
    let less : id < e.0 = less_of id e.0 two.0 in
    let rest = all_above number id es small two.1 in
    both _ _ (less_than number (e.0 * 4 + 0) (omega arith))
    (both _ _ (less_than number (e.0 * 4 + 1) (omega arith))
    (both _ _ (less_than number (e.0 * 4 + 2) (omega arith)) (both _ _ (less_than number (e.0 * 4 + 3) (omega arith)) rest)))

ascend_by : (es : List (ℕ × Component)) → is_sorted nat_cmp es ≡ true → ascend (numbers es) ≡ true
ascend_by [] sorted = refl
ascend_by (e ∷ es) sorted = at_id e.0 two.0 (ascend_by es two.1)
  where
    two : (below_all nat_cmp e.0 es ≡ true) × (is_sorted nat_cmp es ≡ true)
    two = both_true (below_all nat_cmp e.0 es) (is_sorted nat_cmp es) sorted

    at_id : (id : ℕ) → below_all nat_cmp id es ≡ true → ascend (numbers es) ≡ true
        → ascend ((id * 4 + 0) ∷ (id * 4 + 1) ∷ (id * 4 + 2) ∷ (id * 4 + 3) ∷ numbers es) ≡ true
    at_id id below rest =
        both _ _
        (both _ _ (less_than (id * 4 + 0) (id * 4 + 1) (omega arith))
        (both _ _ (less_than (id * 4 + 0) (id * 4 + 2) (omega arith))
        (both _ _ (less_than (id * 4 + 0) (id * 4 + 3) (omega arith)) (all_above (id * 4 + 0) id es (omega arith) below))))
        (both _ _
        (both _ _ (less_than (id * 4 + 1) (id * 4 + 2) (omega arith))
        (both _ _ (less_than (id * 4 + 1) (id * 4 + 3) (omega arith)) (all_above (id * 4 + 1) id es (omega arith) below)))
        (both _ _ (both _ _ (less_than (id * 4 + 2) (id * 4 + 3) (omega arith)) (all_above (id * 4 + 2) id es (omega arith) below))
        (both _ _ (all_above (id * 4 + 3) id es (omega arith) below) rest)))

pub parts_ascend : (a : Application) → ascend (map order_of (parts_of a)) ≡ true
parts_ascend a =
    ascend_by (finite.entries a.components.by_id)
    (true_of (is_sorted nat_cmp (finite.entries a.components.by_id)) (finite.entries_sorted a.components.by_id))

-- ---- one after another

module _ (m : Meaning) (place : ℕ) (t : Telling) (p : PartAt) (later : List PartAt) where
  abbrev goes_on : Bool → Telling
  goes_on b = fold (told_if_due m place) (if b then told place p.id p.part (bytes_of m t.node.application p.id p.part) t else t) later

  pub part_skipped : (has_room_at t.node.sessions place && is_due m t.node.application t.node.subscriptions place p.id p.part) ≡ false
      → fold (told_if_due m place) t (p ∷ later) ≡ fold (told_if_due m place) t later
  part_skipped is = ap goes_on is

  pub part_told : (has_room_at t.node.sessions place && is_due m t.node.application t.node.subscriptions place p.id p.part) ≡ true
      → fold (told_if_due m place) t (p ∷ later)
      ≡ fold (told_if_due m place) (told place p.id p.part (bytes_of m t.node.application p.id p.part) t) later
  part_told is = ap goes_on is

-- ---- where nothing is subscribed

none_of : (b : Bool) → (b && false) ≡ false
none_of true = refl
none_of false = refl

pub nothing_due : (m : Meaning) (a : Application) (subs : Subscriptions) (place id : ℕ) (part : Part) → subs place id part ≡ None
    → is_due m a subs place id part ≡ false
nothing_due m a subs place id part none =
    ap (λ (o : Option (Option (List ℕ))). is_live a.components.by_id id && option_map_or (differs_from (bytes_of m a id part)) o false) none
    ∙ none_of (is_live a.components.by_id id)

pub nothing_told : (m : Meaning) (place : ℕ) (t : Telling) → ((id : ℕ) (part : Part) → t.node.subscriptions place id part ≡ None)
    → (parts : List PartAt) → fold (told_if_due m place) t parts ≡ t
nothing_told m place t none [] = refl
nothing_told m place t none (p ∷ parts) =
    part_skipped m place t p parts
    (ap (λ (b : Bool). has_room_at t.node.sessions place && b)
    (nothing_due m t.node.application t.node.subscriptions place p.id p.part (none p.id p.part))
    ∙ none_of (has_room_at t.node.sessions place))
    ∙ nothing_told m place t none parts

-- ---- one event

module _ (place id : ℕ) (part : Part) (bytes : List ℕ) (t : Telling) where
  pub event_sent : (y : Session) → session_at t.node.sessions place ≡ Some y
      → (told place id part bytes t).sent
      ≡ t.sent ++ next_letter y (event_bytes id (letter_of part) bytes) ∷ []
  event_sent y is = ap (λ (more : List Letter). t.sent ++ more) (posted_letters t.node.sessions place (event_bytes id (letter_of part) bytes) y is)

  same : (k : ℕ) → (k == k) ≡ true
  same k = grind (arith, nat_tests)

  same_part : (x : Part) → is_part x x ≡ true
  same_part Tree = refl
  same_part Config = refl
  same_part Runtime = refl
  same_part Links = refl

  pub event_kept : (told place id part bytes t).node.subscriptions place id part ≡ Some (Some bytes)
  event_kept =
      ap (λ (b : Bool). if b then posted bytes (t.node.subscriptions place id part) else t.node.subscriptions place id part)
      (both (place == place && id == id) (is_part part part) (both (place == place) (id == id) (same place) (same id)) (same_part part))
