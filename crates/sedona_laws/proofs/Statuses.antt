-- The statuses of what a command does.
use Rattle.std.proofs.Common.{◌≡◌, ℕ, List, [], ◌∷◌, Option, inl, inr, refl, sym, subst, ◌∙◌, arith}
use Rattle.sedona_cli.specs.declared.status.Status.{Status}
use Rattle.sedona_cli.specs.declared.status.Status.TheVariants.{Done, Usage, Refused, FileFault, DeviceFault, StoreRefused, ImageRefused, NoMemory, SinkFault, RecordRefused, LinkFault, InputRefused, SlotTooSmall}
use Rattle.sedona_cli.specs.declared.refusal.Refusal.{Refusal}
use Rattle.sedona_cli.specs.declared.refusal.Refusal.TheVariants as refusal
use Rattle.sedona_cli.specs.Outside.{Ask}
use Rattle.sedona_cli.specs.Program.{IsAnswer, done, unput, stopped, refused, wanted}
use Rattle.sedona_cli.specs.Puts.{IsOneOf}
use Rattle.sedona_cli.specs.Status.{number_of, status_of}
use Rattle.sedona_words.specs.Command.{Command}

abbrev pub all_statuses : List ℕ
all_statuses = 0 ∷ 1 ∷ 2 ∷ 3 ∷ 4 ∷ 5 ∷ 6 ∷ 7 ∷ 8 ∷ 9 ∷ 10 ∷ 11 ∷ 12 ∷ []

is_status : (s : Status) → IsOneOf all_statuses (number_of s)
is_status Done = inl refl
is_status Usage = inr (inl refl)
is_status Refused = inr (inr (inl refl))
is_status FileFault = inr (inr (inr (inl refl)))
is_status DeviceFault = inr (inr (inr (inr (inl refl))))
is_status StoreRefused = inr (inr (inr (inr (inr (inl refl)))))
is_status ImageRefused = inr (inr (inr (inr (inr (inr (inl refl))))))
is_status NoMemory = inr (inr (inr (inr (inr (inr (inr (inl refl)))))))
is_status SinkFault = inr (inr (inr (inr (inr (inr (inr (inr (inl refl))))))))
is_status RecordRefused = inr (inr (inr (inr (inr (inr (inr (inr (inr (inl refl)))))))))
is_status LinkFault = inr (inr (inr (inr (inr (inr (inr (inr (inr (inr (inl refl))))))))))
is_status InputRefused = inr (inr (inr (inr (inr (inr (inr (inr (inr (inr (inr (inl refl)))))))))))
is_status SlotTooSmall = inr (inr (inr (inr (inr (inr (inr (inr (inr (inr (inr (inr (inl refl))))))))))))

pub number_is : (s : Status) (status : ℕ) → status ≡ number_of s → IsOneOf all_statuses status
number_is s status is = subst (λ (n : ℕ). IsOneOf all_statuses n) (sym is) (is_status s)

pub is_answered : (command : Command) (asks : List Ask) (before after : Option (List ℕ)) (fb fa status : ℕ) → IsAnswer command asks before after fb fa status → IsOneOf all_statuses status
is_answered command asks before after fb fa status (done text came is put same) = number_is Done status is
is_answered command asks before after fb fa status (unput text came at_once is rose front) = number_is SinkFault status is
is_answered command asks before after fb fa status (stopped put last until is rose front) = number_is SinkFault status is
is_answered command asks before after fb fa status (refused r came is puts) = number_is (status_of r) status is
is_answered command asks before after fb fa status (wanted spared is puts) = number_is NoMemory status is

-- no refusal is of words that are none
unlike : (r : Refusal) → number_of (status_of r) ≡ 1 → ⊥
unlike (refusal.FileFault file) one = absurd (omega (arith, one))
unlike (refusal.Refused file why) one = absurd (omega (arith, one))
unlike (refusal.Rule file at rule) one = absurd (omega (arith, one))
unlike (refusal.MethodTooLong n) one = absurd (omega (arith, one))
unlike (refusal.ImageRefused at) one = absurd (omega (arith, one))
unlike (refusal.ImageBroken method at rule) one = absurd (omega (arith, one))
unlike (refusal.SlotTooSmall needs has) one = absurd (omega (arith, one))
unlike refusal.DeviceFault one = absurd (omega (arith, one))
unlike refusal.StoreExists one = absurd (omega (arith, one))
unlike refusal.NoStore one = absurd (omega (arith, one))
unlike refusal.NoApplication one = absurd (omega (arith, one))
unlike (refusal.WrongKits kit in_file in_kits) one = absurd (omega (arith, one))
unlike (refusal.OverLimit which) one = absurd (omega (arith, one))
unlike refusal.BadUsers one = absurd (omega (arith, one))
unlike refusal.ShortSecret one = absurd (omega (arith, one))
unlike (refusal.BadRecord at) one = absurd (omega (arith, one))
unlike refusal.LinkFault one = absurd (omega (arith, one))
unlike refusal.Memory one = absurd (omega (arith, one))

-- a command is not answered by 1
pub not_usage : (command : Command) (asks : List Ask) (before after : Option (List ℕ)) (fb fa status : ℕ) → IsAnswer command asks before after fb fa status → status ≡ 1 → ⊥
not_usage command asks before after fb fa status (done text came is put same) one = omega (arith, is, one)
not_usage command asks before after fb fa status (unput text came at_once is rose front) one = omega (arith, is, one)
not_usage command asks before after fb fa status (stopped put last until is rose front) one = omega (arith, is, one)
not_usage command asks before after fb fa status (refused r came is puts) one = unlike r (sym is ∙ one)
not_usage command asks before after fb fa status (wanted spared is puts) one = omega (arith, is, one)
