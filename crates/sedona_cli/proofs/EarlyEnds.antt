-- What a status tells of the disk.
use Rattle.std.proofs.Common.{◌≡◌, ◌⊎◌, ℕ, false, List, Some, sym, ap, ◌∙◌, inl, inr, arith}
use Rattle.sedona_cli.specs.declared.refusal.Refusal.{Refusal}
use Rattle.sedona_cli.specs.declared.refusal.Refusal.TheVariants.{FileFault, ImageBroken, ImageRefused, MethodTooLong, Refused, Rule, SlotTooSmall, DeviceFault, StoreExists, NoStore, NoApplication, WrongKits, OverLimit, BadUsers, ShortSecret, BadRecord, LinkFault, Memory}
use Rattle.sedona_cli.specs.Outside.{Ask, Reads, Writes, Attaches, Makes, Opens, Binds, Runs, Whole, NotEmpty, Failed, Found, NotAStore, Unread, Unheld}
use Rattle.sedona_cli.specs.Puts.{IsOneOf}
use Rattle.sedona_cli.specs.Program.{at_store}
use Rattle.sedona_cli.specs.Refusals.{is_of_store}
use Rattle.sedona_cli.proofs.Ends.{some_refusal, no_refusal}
use Rattle.sedona_cli.proofs.StoreAsked.{EndsBy, StoreAsked, ends_before, ends_unattached, ends_at, of_refusal}

-- ---- numbers of statuses

pub late_at : (r : Refusal) → is_of_store r ≡ false → IsOneOf at_store (of_refusal r) → ⊥
late_at (FileFault file) early (inl e) = absurd (omega (arith, e))
late_at (FileFault file) early (inr (inl e)) = absurd (omega (arith, e))
late_at (FileFault file) early (inr (inr (inl e))) = absurd (omega (arith, e))
late_at (FileFault file) early (inr (inr (inr (inl e)))) = absurd (omega (arith, e))
late_at (FileFault file) early (inr (inr (inr (inr (inl e))))) = absurd (omega (arith, e))
late_at (FileFault file) early (inr (inr (inr (inr (inr never))))) = never
late_at (Refused file why) early (inl e) = absurd (omega (arith, e))
late_at (Refused file why) early (inr (inl e)) = absurd (omega (arith, e))
late_at (Refused file why) early (inr (inr (inl e))) = absurd (omega (arith, e))
late_at (Refused file why) early (inr (inr (inr (inl e)))) = absurd (omega (arith, e))
late_at (Refused file why) early (inr (inr (inr (inr (inl e))))) = absurd (omega (arith, e))
late_at (Refused file why) early (inr (inr (inr (inr (inr never))))) = never
late_at (Rule file at rule) early (inl e) = absurd (omega (arith, e))
late_at (Rule file at rule) early (inr (inl e)) = absurd (omega (arith, e))
late_at (Rule file at rule) early (inr (inr (inl e))) = absurd (omega (arith, e))
late_at (Rule file at rule) early (inr (inr (inr (inl e)))) = absurd (omega (arith, e))
late_at (Rule file at rule) early (inr (inr (inr (inr (inl e))))) = absurd (omega (arith, e))
late_at (Rule file at rule) early (inr (inr (inr (inr (inr never))))) = never
late_at (MethodTooLong n) early (inl e) = absurd (omega (arith, e))
late_at (MethodTooLong n) early (inr (inl e)) = absurd (omega (arith, e))
late_at (MethodTooLong n) early (inr (inr (inl e))) = absurd (omega (arith, e))
late_at (MethodTooLong n) early (inr (inr (inr (inl e)))) = absurd (omega (arith, e))
late_at (MethodTooLong n) early (inr (inr (inr (inr (inl e))))) = absurd (omega (arith, e))
late_at (MethodTooLong n) early (inr (inr (inr (inr (inr never))))) = never
late_at (ImageRefused at) early (inl e) = absurd (omega (arith, e))
late_at (ImageRefused at) early (inr (inl e)) = absurd (omega (arith, e))
late_at (ImageRefused at) early (inr (inr (inl e))) = absurd (omega (arith, e))
late_at (ImageRefused at) early (inr (inr (inr (inl e)))) = absurd (omega (arith, e))
late_at (ImageRefused at) early (inr (inr (inr (inr (inl e))))) = absurd (omega (arith, e))
late_at (ImageRefused at) early (inr (inr (inr (inr (inr never))))) = never
late_at (ImageBroken method at rule) early (inl e) = absurd (omega (arith, e))
late_at (ImageBroken method at rule) early (inr (inl e)) = absurd (omega (arith, e))
late_at (ImageBroken method at rule) early (inr (inr (inl e))) = absurd (omega (arith, e))
late_at (ImageBroken method at rule) early (inr (inr (inr (inl e)))) = absurd (omega (arith, e))
late_at (ImageBroken method at rule) early (inr (inr (inr (inr (inl e))))) = absurd (omega (arith, e))
late_at (ImageBroken method at rule) early (inr (inr (inr (inr (inr never))))) = never
late_at (SlotTooSmall needs has) early (inl e) = absurd (omega (arith, e))
late_at (SlotTooSmall needs has) early (inr (inl e)) = absurd (omega (arith, e))
late_at (SlotTooSmall needs has) early (inr (inr (inl e))) = absurd (omega (arith, e))
late_at (SlotTooSmall needs has) early (inr (inr (inr (inl e)))) = absurd (omega (arith, e))
late_at (SlotTooSmall needs has) early (inr (inr (inr (inr (inl e))))) = absurd (omega (arith, e))
late_at (SlotTooSmall needs has) early (inr (inr (inr (inr (inr never))))) = never
late_at DeviceFault early at = absurd (cc)
late_at StoreExists early at = absurd (cc)
late_at NoStore early at = absurd (cc)
late_at NoApplication early at = absurd (cc)
late_at (WrongKits kit in_file in_kits) early at = absurd (cc)
late_at (OverLimit which) early at = absurd (cc)
late_at LinkFault early at = absurd (cc)
late_at BadUsers early (inl e) = absurd (omega (arith, e))
late_at BadUsers early (inr (inl e)) = absurd (omega (arith, e))
late_at BadUsers early (inr (inr (inl e))) = absurd (omega (arith, e))
late_at BadUsers early (inr (inr (inr (inl e)))) = absurd (omega (arith, e))
late_at BadUsers early (inr (inr (inr (inr (inl e))))) = absurd (omega (arith, e))
late_at BadUsers early (inr (inr (inr (inr (inr never))))) = never
late_at ShortSecret early (inl e) = absurd (omega (arith, e))
late_at ShortSecret early (inr (inl e)) = absurd (omega (arith, e))
late_at ShortSecret early (inr (inr (inl e))) = absurd (omega (arith, e))
late_at ShortSecret early (inr (inr (inr (inl e)))) = absurd (omega (arith, e))
late_at ShortSecret early (inr (inr (inr (inr (inl e))))) = absurd (omega (arith, e))
late_at ShortSecret early (inr (inr (inr (inr (inr never))))) = never
late_at (BadRecord at) early (inl e) = absurd (omega (arith, e))
late_at (BadRecord at) early (inr (inl e)) = absurd (omega (arith, e))
late_at (BadRecord at) early (inr (inr (inl e))) = absurd (omega (arith, e))
late_at (BadRecord at) early (inr (inr (inr (inl e)))) = absurd (omega (arith, e))
late_at (BadRecord at) early (inr (inr (inr (inr (inl e))))) = absurd (omega (arith, e))
late_at (BadRecord at) early (inr (inr (inr (inr (inr never))))) = never
late_at Memory early (inl e) = absurd (omega (arith, e))
late_at Memory early (inr (inl e)) = absurd (omega (arith, e))
late_at Memory early (inr (inr (inl e))) = absurd (omega (arith, e))
late_at Memory early (inr (inr (inr (inl e)))) = absurd (omega (arith, e))
late_at Memory early (inr (inr (inr (inr (inl e))))) = absurd (omega (arith, e))
late_at Memory early (inr (inr (inr (inr (inr never))))) = never

pub four_or_five : (ask : Ask) (r : Refusal) → EndsBy ask (Some r) → (of_refusal r ≡ 4) ⊎ (of_refusal r ≡ 5)
four_or_five (Reads read) r ends = absurd ends
four_or_five (Writes name bytes how) r ends = absurd ends
four_or_five (Attaches name b) r ends = absurd ends
four_or_five (Makes slot text Whole) r ends = absurd (no_refusal r ends)
four_or_five (Makes slot text NotEmpty) r ends = inr (ap of_refusal (some_refusal r StoreExists ends))
four_or_five (Makes slot text Failed) r ends = inl (ap of_refusal (some_refusal r DeviceFault ends))
four_or_five (Opens (Found payload)) r (inl none) = absurd (no_refusal r none)
four_or_five (Opens (Found payload)) r (inr (s, same, five)) = inr (ap of_refusal (some_refusal r s same) ∙ five)
four_or_five (Opens NotAStore) r ends = inr (ap of_refusal (some_refusal r NoStore ends))
four_or_five (Opens Unread) r ends = inl (ap of_refusal (some_refusal r DeviceFault ends))
four_or_five (Opens Unheld) r ends = absurd ends
four_or_five (Binds port b) r ends = absurd ends
four_or_five (Runs ran) r ends = absurd ends

pub five : (r : Refusal) → is_of_store r ≡ false → of_refusal r ≡ 5 → ⊥
five r early is = late_at r early (inr (inr (inl is)))

-- ---- a port

-- 10 only where a port was not taken, and so by no command without one
pub early_link : (r : Refusal) → is_of_store r ≡ false → of_refusal r ≡ 10 → ⊥
early_link r early is = late_at r early (inr (inr (inr (inr (inl is)))))

pub store_link : (Kind : Ask → Type 0) (store : List ℕ) (asks : List Ask) (r : Refusal) → StoreAsked Kind store asks (Some r) → of_refusal r ≡ 10 → ⊥
store_link Kind store asks r (ends_before reads s all same early) is = early_link s early (ap of_refusal (sym (some_refusal r s same)) ∙ is)
store_link Kind store asks r (ends_unattached reads all same) is = let four_is = ap of_refusal (sym (some_refusal r DeviceFault same)) ∙ is in absurd (omega (arith, four_is))
store_link Kind store asks r (ends_at reads ask all kind ends) is = by (four_or_five ask r ends)
  where
    by : (of_refusal r ≡ 4) ⊎ (of_refusal r ≡ 5) → ⊥
    by (inl four_is) = absurd (omega (arith, four_is, is))
    by (inr five_is) = absurd (omega (arith, five_is, is))
