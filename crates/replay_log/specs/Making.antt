-- What a generated record has grown by.
use Rattle.std.specs.Prelude.{◌≡◌, ℕ, suc, ◌+◌, ◌*◌, List, ◌++◌}
use Rattle.replay_log.specs.declared.gen_spec.GenSpec.{GenSpec}
use Rattle.replay_log.specs.declared.making.Making.{Making}
use Rattle.replay_log.specs.declared.places.Place.{Place}
use Rattle.replay_log.specs.Draw.{draw, next_draw}
use Rattle.replay_log.specs.Entry.{Entry, SpellsEntry}
use Rattle.replay_log.specs.Generated.{component_acts, draws_below, for_each, link_acts, link_count, places_of}
use Rattle.replay_log.specs.Generated.{tick_acts, tick_with}
use Rattle.replay_log.specs.Record.{SpellsEntries}
use Rattle.replay_log.specs.Step.{Act, AreLeft, Step, next_after, steps_of}

-- the text of an entry stands behind what stood there
pub record PutsEntry (entry : Entry) (old new : List ℕ) : Type 0 where
  pub text : List ℕ
  pub spelled : SpellsEntry entry text
  pub behind : new ≡ old ++ text

-- the text of the entries that steps leave stands there
pub record PutsSteps (steps : List Step) (old new : List ℕ) : Type 0 where
  pub entries : List Entry
  pub text : List ℕ
  pub left : AreLeft steps entries
  pub spelled : SpellsEntries entries text
  pub behind : new ≡ old ++ text

-- that of the acts, and the numbers of the next messages are those that follow
pub record Does (acts : List Act) (before after : Making) : Type 0 where
  pub puts : PutsSteps (steps_of before.next acts) before.text.items after.text.items
  pub counted : after.next ≡ next_after before.next acts

-- ---- components, links and ticks

-- the i-th component is added, and its places are found
pub record AddsOne (spec : GenSpec) (i : ℕ) (before after : Making) (old new : List Place) : Type 0 where
  pub does : Does (component_acts spec i) before after
  pub drawn : after.last ≡ draw spec.seed (draws_below (suc i))
  pub found : new ≡ old ++ places_of spec i

-- the first n components are
pub record AddsAll (spec : GenSpec) (n : ℕ) (before after : Making) (all : List Place) : Type 0 where
  pub does : Does (for_each n (component_acts spec)) before after
  pub drawn : after.last ≡ draw spec.seed (draws_below n)
  pub found : all ≡ for_each n (places_of spec)

-- the first n links are added
pub record LinksAll (spec : GenSpec) (n : ℕ) (before after : Making) : Type 0 where
  pub does : Does (for_each n (link_acts spec)) before after
  pub drawn : after.last ≡ draw spec.seed (draws_below spec.components + n)

-- the tick of this number comes, and then an edit of what is drawn
pub record EditsOnce (components number : ℕ) (before after : Making) : Type 0 where
  pub does : Does (tick_with components number (next_draw before.last) (next_draw (next_draw before.last))) before after
  pub last : after.last ≡ next_draw (next_draw before.last)

-- the first n ticks come
pub record EditsAll (spec : GenSpec) (n : ℕ) (before after : Making) : Type 0 where
  pub does : Does (for_each n (tick_acts spec)) before after
  pub drawn : after.last ≡ draw spec.seed (draws_below spec.components + link_count spec + 2 * n)
