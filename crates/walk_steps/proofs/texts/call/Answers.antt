use Rattle.std.proofs.Common.{◌≡◌, ◌∙◌, ◌-◌, ℕ, List, length, map, ap, sym, take, drop, replicate, ◌++◌, pos, Result, Ok, Err, None, Option}
use Rattle.std.specs.Prelude.{slice_index}
use Rattle.std.specs.Str.{bytes_eq}
use Rattle.std.specs.Borrow.{Bor}
use Rattle.std.proofs.lemmas.List.{take-replicate, drop-replicate}
use Rattle.sed_engine.specs.Stops.{Stop, map_ok}
use Rattle.sed_engine.specs.Values.{Val, Int, Spot, spot_of, truth}
use Rattle.sed_engine.specs.State.{State, End, gives, answers, then_do}
use Rattle.sed_engine.specs.Steps.{read_bytes, write_bytes}
use Rattle.sed_engine.specs.Texts.{index_of, characters, filled}
use Rattle.sed_engine.specs.Expressions.{operand, text_bytes, text_call, changeable}
use Rattle.walk_steps.specs.declared.word.Stop.{Stop as Own}
use Rattle.walk_steps.specs.Seen.{seen, ends, as_it_is, spot_seen, spots_seen}
use Rattle.walk_steps.specs.Stored.{stepped, shared_of}
use Rattle.walk_steps.specs.Targets.{lent, text_lent, as_text, literal_in, character_put, put_character, text_copied}
use Rattle.walk_steps.proofs.Strs.{alike-end, alike-last, text-kept, lent-kept, count-goes, get-goes, set-goes, equals-goes, copy-kept, put-made, copy-made, lent-chars, lent-bytes, made-of, chars-as-text}
use Rattle.sed_typed.specs.declared.operators.TextCall.{TextCall}
use Rattle.walk_steps.proofs.texts.call.Goals as goal

pub returns-in-Set-clause-end : goal.returns-in-Set-clause-end
returns-in-Set-clause-end c = λ locals.
    let plan = c.args.plan.now in
    let class = c.args.class in
    let v = seen plan class c.args.value in
    let args = map (seen plan class) c.args.operands.now in
    let texts : List (List ℕ) = plan.program.texts in
    let s : State = record { shared = shared_of plan class c.args.store.now; locals = locals } in
    c.set.ensures.end locals ∙ ap (λ (op : TextCall). text_call texts op v args s) (sym c.in-Set.is)
