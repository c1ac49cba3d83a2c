use Rattle.std.proofs.Common.{◌-◌, sym, ap, arith, ◌∙◌}
use Rattle.sedona_words.specs.Command.{names_within}
use Rattle.sedona_words.proofs.Commas.{are_names, first_names, no_name, one_within, too_many}
use Rattle.sedona_words.proofs.words.is_manifests.Goals as goal
use Rattle.sedona_words.proofs.words.is_manifests.Goals.{then-count-eq-MOST_KITS-via-then-count-eq-MOST_KITS, then-count-eq-MOST_KITS-via-else-count-eq-MOST_KITS+then-not-is_file_name}

pub names-init : goal.names-init
names-init c = record { some = omega arith; most = omega arith; same = first_names c.args.word.now; utf8 = c.utf8.word }

pub returns-then-count-eq-MOST_KITS : goal.returns-then-count-eq-MOST_KITS
returns-then-count-eq-MOST_KITS c =
    let k = c.names.count - 1 in
    let name = c.in-Some.name.now in
    let rest = names_within c.in-Some.rest.now in
    let cut = c.names.invariant.same ∙ ap (are_names k) c.in-Some.ensures.some in
    elim c.then-count-eq-MOST_KITS.branch [
      | then-count-eq-MOST_KITS-via-then-count-eq-MOST_KITS w ↦
          sym (cut ∙ too_many k name rest (omega (arith, w.if-count-eq-MOST_KITS)) (one_within c.in-Some.rest.now))
      | then-count-eq-MOST_KITS-via-else-count-eq-MOST_KITS+then-not-is_file_name w ↦
          sym (cut ∙ no_name k name rest (sym w.is_file_name.ensures ∙ w.if-not-is_file_name.true))
    ]
