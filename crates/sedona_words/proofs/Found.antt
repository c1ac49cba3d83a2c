-- What clap gives on the words, and when it gives nothing.
use Rattle.std.proofs.Common.{◌≡◌, true, false, List, [], ◌∷◌, Option, Some, None, inl, inr, refl, sym, ap, subst, arith, ◌∙◌}
use Rattle.std.specs.Prelude.{if◌then◌else◌}
use Rattle.clap.specs.Words.{App, HasKind, HasMatchesOf, IsAmong, Kinds, Row, Text, fault_of, found_of, is_simple, is_simple_and_free, kind_of, matches_of, rows_of}
use Rattle.clap.specs.Walk.{is_empty}
use Rattle.clap.specs.declared.error.Error.{Error}
use Rattle.clap.specs.declared.error.kind.ErrorKind.{ErrorKind}
use Rattle.clap.specs.declared.error.kind.ErrorKind.TheVariants.{OutOfMemory}
use Rattle.clap.specs.declared.parser.matches.ArgMatches.{ArgMatches}
use Rattle.clap.proofs.OnLiterals.{clap_on_literals}
use Rattle.sedona_words.specs.Run.{run_command, run_matches}

is_simple_command : is_simple run_command ≡ true
unfolding clap_on_literals
is_simple_command = refl

is_simple_and_free_command : is_simple_and_free run_command ≡ true
unfolding clap_on_literals
is_simple_and_free_command = refl

-- what clap gives, by the faults that it finds
abbrev given : List Text → Kinds → Option (List Row)
given words faults = if is_empty faults then Some (matches_of run_command words) else None

some_kind : (kind : ErrorKind) (kinds : Kinds) → IsAmong kind kinds → is_empty kinds ≡ false
some_kind kind [] among = absurd among
some_kind kind (first ∷ rest) among = grind arith

pub found : (app : App) (words : List Text) (matches : ArgMatches) → app ≡ run_command → HasMatchesOf app words matches
    → (is_simple_and_free app ≡ true → fault_of app words ≡ []) → Some (rows_of (found_of matches)) ≡ run_matches words
found app words matches is has faultless =
    let none : fault_of run_command words ≡ [] = subst (λ (a : App). fault_of a words ≡ []) is (faultless (ap is_simple_and_free is ∙ is_simple_and_free_command)) in
    let rows : rows_of (found_of matches) ≡ matches_of run_command words = (has (ap is_simple is ∙ is_simple_command)).0 ∙ ap (λ (a : App). matches_of a words) is in
    ap Some rows ∙ sym (ap (given words) none)

pub refused : (app : App) (words : List Text) (error : Error) → app ≡ run_command
    → (is_simple_and_free app ≡ true → HasKind (fault_of app words) error) → (kind_of error ≡ OutOfMemory → ⊥)
    → run_matches words ≡ None
refused app words error is fails other = go (fails (ap is_simple_and_free is ∙ is_simple_and_free_command))
  where
    go : HasKind (fault_of app words) error → run_matches words ≡ None
    go (inl memory) = absurd (other memory)
    go (inr among) =
        let here : IsAmong (kind_of error) (fault_of run_command words) = subst (λ (a : App). IsAmong (kind_of error) (fault_of a words)) is among in
        let some : is_empty (fault_of run_command words) ≡ false = some_kind (kind_of error) (fault_of run_command words) here in
        ap (λ (b : _). if b then Some (matches_of run_command words) else None) some
