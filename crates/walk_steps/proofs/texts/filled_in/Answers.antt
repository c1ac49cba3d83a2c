use Rattle.std.proofs.Common.{◌≡◌, ◌∙◌, ◌-◌, ℕ, List, length, map, ap, sym, take, drop, replicate, ◌++◌, pos, Result, Ok, Err, None, Option}
use Rattle.std.specs.Prelude.{slice_index}
use Rattle.std.specs.Str.{bytes_eq}
use Rattle.std.specs.Borrow.{Bor}
use Rattle.std.proofs.lemmas.List.{take-replicate, drop-replicate}
use Rattle.sed_engine.specs.Stops.{Stop, map_ok}
use Rattle.sed_engine.specs.Values.{Val, Int, Spot, truth}
use Rattle.sed_engine.specs.State.{State, End, gives, answers, then_do}
use Rattle.sed_engine.specs.Steps.{read_bytes, write_bytes}
use Rattle.sed_engine.specs.Texts.{index_of, characters, filled}
use Rattle.sed_engine.specs.Expressions.{operand, text_bytes, text_call, changeable}
use Rattle.walk_steps.specs.declared.word.Stop.{Stop as Own}
use Rattle.walk_steps.specs.Seen.{seen, ends, as_it_is, spot_seen, spots_seen}
use Rattle.walk_steps.specs.Stored.{stepped, shared_of}
use Rattle.walk_steps.specs.Targets.{lent, text_lent, as_text, literal_in, character_put, put_character, text_copied}
use Rattle.walk_steps.proofs.Strs.{alike-end, alike-last, text-kept, lent-kept, count-goes, get-goes, set-goes, equals-goes, copy-kept, put-made, copy-made, lent-chars, lent-bytes, made-of, chars-as-text}
use Rattle.walk_steps.proofs.texts.filled_in.Goals as goal

pub returns-in-Ok : goal.returns-in-Ok
returns-in-Ok c = λ locals.
    let plan = c.args.plan.now in
    let class = c.args.class in
    let x = seen plan class c.args.other in
    let texts : List (List ℕ) = plan.program.texts in
    let spot : Spot = spot_seen plan class c.args.base c.args.place in
    let s : State = record { shared = shared_of plan class c.args.store.now; locals = locals } in
    let old : List ℕ = c.in-Ok.old.now in
    let e : answers (Ok old) s ≡ read_bytes spot s = ap (λ (r : Result (Bor (List ℕ)) Own). answers (lent r) s) (sym c.in-Ok.is) ∙ c.bytes.ensures.read locals in
    ap (λ (r : Result (List ℕ) Stop). answers r s) (c.filled_from.ensures ∙ lent-chars (λ new. filled (length old) new) x c.text.result)
    ∙ made-of (λ new. filled (length old) (characters new)) (text_bytes texts x s) (text_lent x c.text.result) s (c.text.ensures.read locals)
    ∙ ap (λ (y : End (List ℕ)). then_do y (λ old s1. then_do (text_bytes texts x s1) (λ new s2. gives (filled (length old) (characters new)) s2))) e
