-- What follows of any words.
use Rattle.std.proofs.Common.{◌≡◌, ℕ, false, List, [], ◌∷◌, Option, Some, None, inl, inr, refl, sym, ◌∙◌, arith}
use Rattle.sed_outside.specs.declared.files.Files.{Ghosts as FileGhosts}
use Rattle.sed_outside.specs.declared.clock.Clock.{Ghosts as ClockGhosts}
use Rattle.sed_outside.specs.declared.link.Link.{Ghosts as LinkGhosts}
use Rattle.sed_outside.specs.declared.sink.Sink.{Ghosts as SinkGhosts}
use Rattle.disk_model.specs.declared.disk.Disk.{Ghosts as DiskGhosts}
use Rattle.sedona_words.specs.Command.{Command}
use Rattle.sedona_cli.specs.declared.status.Status.TheVariants.{NoMemory, Usage}
use Rattle.sedona_cli.specs.Does.{Does, DoesNothing, IsUsage, usage, no_memory}
use Rattle.sedona_cli.specs.Lines.{memory_line, usage_line}
use Rattle.sedona_cli.specs.Puts.{IsOneOf, Puts}
use Rattle.sedona_cli.specs.Words.{command_asked, is_run}
use Rattle.sedona_cli.specs.World.{World}
use Rattle.sedona_cli.proofs.Ends.{not_both}
use Rattle.sedona_laws.specs.Answers.{Answers}
use Rattle.sedona_laws.proofs.Doing.{is_one, not_one}
use Rattle.sedona_laws.proofs.Statuses.{all_statuses, number_is}

-- ---- how words outside the table are answered

module _ (words : List (List ℕ)) (before after : Option (List ℕ)) (fb fa status : ℕ) where
  pub is_either : IsUsage words before after fb fa status → IsOneOf (1 ∷ 7 ∷ []) status
  is_either (usage one puts) = inl one
  is_either (no_memory run seven puts) = inr (inl seven)

  pub is_sure : IsUsage words before after fb fa status → is_run words ≡ false → status ≡ 1
  is_sure (usage one puts) none = one
  is_sure (no_memory run seven puts) none = absurd (not_both (is_run words) run none)

  pub its_line : IsUsage words before after fb fa status → status ≡ 1 → Puts before after fb fa usage_line
  its_line (usage one puts) is = puts
  its_line (no_memory run seven puts) is = absurd (omega (arith, seven, is))

  pub its_want : IsUsage words before after fb fa status → status ≡ 7 → Puts before after fb fa memory_line
  its_want (usage one puts) is = absurd (omega (arith, one, is))
  its_want (no_memory run seven puts) is = puts

  -- none of the statuses that tell of the disk or the link
  pub no_other : (n : ℕ) → IsUsage words before after fb fa status → status ≡ n → (n ≡ 1 → ⊥) → (n ≡ 7 → ⊥) → ⊥
  no_other n (usage one puts) is not_one not_seven = not_one (sym is ∙ one)
  no_other n (no_memory run seven puts) is not_one not_seven = not_seven (sym is ∙ seven)

  pub is_listed : IsUsage words before after fb fa status → IsOneOf all_statuses status
  is_listed (usage one puts) = number_is Usage status one
  is_listed (no_memory run seven puts) = number_is NoMemory status seven

-- ---- any words

module _ {S U V T W : Type 0} (F : FileGhosts S) (L : LinkGhosts U) (C : ClockGhosts V) (D : DiskGhosts T) (O : SinkGhosts W) (words : List (List ℕ)) (old new : World S U V T W) (status : ℕ) (answers : Answers F L C D O words old new status) where
  -- they are a command, or outside the table
  pub of_any : (P : Type 0) → ((command : Command) → Does F L C D O command old new status → P) → (command_asked words ≡ None → DoesNothing O words old new status → P) → P
  of_any P by_command by_none = by (command_asked words) refl
    where
      by : (asked : Option Command) → command_asked words ≡ asked → P
      by None none = by_none none (answers.outside_the_table none)
      by (Some command) is = by_command command (answers.does command is)

  pub statuses : IsOneOf all_statuses status
  statuses = of_any (IsOneOf all_statuses status) (λ command does. is_one F L C D O command old new status does)
      (λ none nothing. is_listed words (O.text old.sink) (O.text new.sink) (O.faults old.sink) (O.faults new.sink) status nothing.answered)

  pub outside : status ≡ 1 → command_asked words ≡ None
  outside one = of_any (command_asked words ≡ None) (λ command does. absurd (not_one F L C D O command old new status does one)) (λ none nothing. none)

  pub its_answer : command_asked words ≡ None → IsUsage words (O.text old.sink) (O.text new.sink) (O.faults old.sink) (O.faults new.sink) status
  its_answer none = (answers.outside_the_table none).answered
