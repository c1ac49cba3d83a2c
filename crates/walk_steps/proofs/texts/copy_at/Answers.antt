use Rattle.std.proofs.Common.{◌≡◌, ◌∙◌, ◌-◌, ℕ, List, length, map, ap, sym, take, drop, replicate, ◌++◌, pos, Result, Ok, Err, None, Option}
use Rattle.std.specs.Prelude.{slice_index}
use Rattle.std.specs.Str.{bytes_eq}
use Rattle.std.specs.Borrow.{Bor}
use Rattle.std.proofs.lemmas.List.{take-replicate, drop-replicate}
use Rattle.sed_engine.specs.Stops.{Stop, map_ok}
use Rattle.sed_engine.specs.Values.{Val, Int, Spot, truth}
use Rattle.sed_engine.specs.State.{State, End, gives, answers, then_do}
use Rattle.sed_engine.specs.Steps.{read_bytes, write_bytes}
use Rattle.sed_engine.specs.Texts.{index_of, characters, filled}
use Rattle.sed_engine.specs.Expressions.{operand, text_bytes, text_call, changeable}
use Rattle.walk_steps.specs.declared.word.Stop.{Stop as Own}
use Rattle.walk_steps.specs.Seen.{seen, ends, as_it_is, spot_seen, spots_seen}
use Rattle.walk_steps.specs.Stored.{stepped, shared_of}
use Rattle.walk_steps.specs.Targets.{lent, text_lent, as_text, literal_in, character_put, put_character, text_copied}
use Rattle.walk_steps.proofs.Strs.{alike-end, alike-last, text-kept, lent-kept, count-goes, get-goes, set-goes, equals-goes, copy-kept, put-made, copy-made, lent-chars, lent-bytes, made-of, chars-as-text}
use Rattle.walk_steps.proofs.texts.copy_at.Goals as goal

pub returns-clause-end : goal.returns-clause-end
returns-clause-end c = λ locals.
    let plan = c.args.plan.now in
    let class = c.args.class in
    let s : State = record { shared = shared_of plan class c.args.store.now; locals = locals } in
    c.write_result.ensures.end locals
    ∙ copy-made plan.program.texts s (spot_seen plan class c.args.base c.args.place) (seen plan class c.args.other) (as_it_is c.filled_in-new.result) (c.filled_in-new.ensures locals)
