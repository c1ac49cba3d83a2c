use Rattle.std.proofs.Common.{◌≡◌, ◌∙◌, ◌-◌, ℕ, List, length, map, ap, sym, take, drop, replicate, ◌++◌, pos, Result, Ok, Err, None, Option}
use Rattle.std.specs.Prelude.{slice_index}
use Rattle.std.specs.Str.{bytes_eq}
use Rattle.std.specs.Borrow.{Bor}
use Rattle.std.proofs.lemmas.List.{take-replicate, drop-replicate}
use Rattle.sed_engine.specs.Stops.{Stop, map_ok}
use Rattle.sed_engine.specs.Values.{Val, Int, Spot, truth}
use Rattle.sed_engine.specs.State.{State, End, gives, answers, then_do}
use Rattle.sed_engine.specs.Steps.{read_bytes, write_bytes}
use Rattle.sed_engine.specs.Texts.{index_of, characters, filled}
use Rattle.sed_engine.specs.Expressions.{operand, text_bytes, text_call, changeable}
use Rattle.walk_steps.specs.declared.word.Stop.{Stop as Own}
use Rattle.walk_steps.specs.Seen.{seen, ends, as_it_is, spot_seen, spots_seen}
use Rattle.walk_steps.specs.Stored.{stepped, shared_of}
use Rattle.walk_steps.specs.Targets.{lent, text_lent, as_text, literal_in, character_put, put_character, text_copied}
use Rattle.walk_steps.proofs.Strs.{alike-end, alike-last, text-kept, lent-kept, count-goes, get-goes, set-goes, equals-goes, copy-kept, put-made, copy-made, lent-chars, lent-bytes, made-of, chars-as-text}
use Rattle.walk_steps.proofs.store.are_bytes_alike.Goals as goal

pub returns-then-last_of-ne0 : goal.returns-then-last_of-ne0
returns-then-last_of-ne0 c =
    alike-end c.args.old.now c.args.new.now c.last_of.result (λ k. (c.type_inv.new k).fits) c.if-new-old.true c.last_of.ensures c.if-last_of-ne0.true

pub returns-else-last_of-ne0 : goal.returns-else-last_of-ne0
returns-else-last_of-ne0 c =
    alike-last c.args.old.now c.args.new.now c.last_of.result c.last_of-else-last_of-ne0.result (λ k. (c.type_inv.new k).fits) c.if-new-old.true c.last_of.ensures c.if-last_of-ne0.false c.last_of-else-last_of-ne0.ensures
