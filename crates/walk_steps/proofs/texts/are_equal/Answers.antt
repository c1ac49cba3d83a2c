use Rattle.std.proofs.Common.{◌≡◌, ◌∙◌, ◌-◌, ℕ, List, length, map, ap, sym, take, drop, replicate, ◌++◌, pos, Result, Ok, Err, None, Option}
use Rattle.std.specs.Prelude.{slice_index}
use Rattle.std.specs.Str.{bytes_eq}
use Rattle.std.specs.Borrow.{Bor}
use Rattle.std.proofs.lemmas.List.{take-replicate, drop-replicate}
use Rattle.sed_engine.specs.Stops.{Stop, map_ok}
use Rattle.sed_engine.specs.Values.{Val, Int, Spot, truth}
use Rattle.sed_engine.specs.State.{State, End, gives, answers, then_do}
use Rattle.sed_engine.specs.Steps.{read_bytes, write_bytes}
use Rattle.sed_engine.specs.Texts.{index_of, characters, filled}
use Rattle.sed_engine.specs.Expressions.{operand, text_bytes, text_call, changeable}
use Rattle.walk_steps.specs.declared.word.Stop.{Stop as Own}
use Rattle.walk_steps.specs.Seen.{seen, ends, as_it_is, spot_seen, spots_seen}
use Rattle.walk_steps.specs.Stored.{stepped, shared_of}
use Rattle.walk_steps.specs.Targets.{lent, text_lent, as_text, literal_in, character_put, put_character, text_copied}
use Rattle.walk_steps.proofs.Strs.{alike-end, alike-last, text-kept, lent-kept, count-goes, get-goes, set-goes, equals-goes, copy-kept, put-made, copy-made, lent-chars, lent-bytes, made-of, chars-as-text}
use Rattle.walk_steps.proofs.texts.are_equal.Goals as goal

pub returns-in-Ok : goal.returns-in-Ok
returns-in-Ok c = λ locals.
    let plan = c.args.plan.now in
    let class = c.args.class in
    let v = seen plan class c.args.value in
    let args = map (seen plan class) c.args.operands.now in
    let texts : List (List ℕ) = plan.program.texts in
    let s : State = record { shared = shared_of plan class c.args.store.now; locals = locals } in
    let a : List ℕ = c.in-Ok.a.now in
    let x = seen plan class c.operand-other.result in
    let e : answers (Ok (as_text v a)) s ≡ text_bytes texts v s = ap (λ (r : Result (Bor (List ℕ)) Own). answers (text_lent v r) s) (sym c.in-Ok.is) ∙ c.text.ensures.read locals in
    let f : answers (text_lent x c.text-in-Ok.result) s ≡ text_bytes texts (operand args 0) s = c.text-in-Ok.ensures.read locals ∙ ap (λ (y : Val). text_bytes texts y s) (c.operand-other.ensures plan class) in
    ap (λ (r : Result Val Stop). answers r s) (c.equal_to.ensures plan class
    ∙ lent-chars (λ b. truth (bytes_eq (characters a) b)) x c.text-in-Ok.result
    ∙ ap (λ (t : List ℕ). map_ok (λ b. truth (bytes_eq t (characters b))) (text_lent x c.text-in-Ok.result)) (sym (chars-as-text v a)))
    ∙ equals-goes texts v args s (as_text v a) (text_lent x c.text-in-Ok.result) e f
