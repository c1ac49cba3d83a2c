use Rattle.std.proofs.Common.{◌≡◌, ◌∙◌, ◌-◌, ℕ, List, length, map, ap, sym, take, drop, replicate, ◌++◌, pos, Result, Ok, Err, None, Option}
use Rattle.std.specs.Prelude.{slice_index}
use Rattle.std.specs.Str.{bytes_eq}
use Rattle.std.specs.Borrow.{Bor}
use Rattle.std.proofs.lemmas.List.{take-replicate, drop-replicate}
use Rattle.sed_engine.specs.Stops.{Stop, map_ok}
use Rattle.sed_engine.specs.Values.{Val, Int, Spot, truth}
use Rattle.sed_engine.specs.State.{State, End, gives, answers, then_do}
use Rattle.sed_engine.specs.Steps.{read_bytes, write_bytes}
use Rattle.sed_engine.specs.Texts.{index_of, characters, filled}
use Rattle.sed_engine.specs.Expressions.{operand, text_bytes, text_call, changeable}
use Rattle.walk_steps.specs.declared.word.Stop.{Stop as Own}
use Rattle.walk_steps.specs.Seen.{seen, ends, as_it_is, spot_seen, spots_seen}
use Rattle.walk_steps.specs.Stored.{stepped, shared_of}
use Rattle.walk_steps.specs.Targets.{lent, text_lent, as_text, literal_in, character_put, put_character, text_copied}
use Rattle.walk_steps.proofs.Strs.{alike-end, alike-last, text-kept, lent-kept, count-goes, get-goes, set-goes, equals-goes, copy-kept, put-made, copy-made, lent-chars, lent-bytes, made-of, chars-as-text}
use Rattle.walk_steps.proofs.texts.text.Goals as goal

pub returns-in-None-clause-read : goal.returns-in-None-clause-read
returns-in-None-clause-read c = λ locals.
    let plan = c.args.plan.now in
    let class = c.args.class in
    let v = seen plan class c.args.value in
    let texts : List (List ℕ) = plan.program.texts in
    let s : State = record { shared = shared_of plan class c.args.store.now; locals = locals } in
    let none : literal_in v ≡ None = sym (c.literal_number.ensures plan class) ∙ c.in-None.is in
    ap (λ (r : Result (List ℕ) Stop). answers r s) (lent-kept v c.kept_text.result none) ∙ c.kept_text.ensures.read locals ∙ sym (text-kept texts v s none)
