-- The polls and the moments that are still to come, in the course of a run over a link and a clock.
use Rattle.std.proofs.Common.{◌≡◌, ◌∙◌, ℕ, zero, suc, List, refl, sym, ap, subst}
use Rattle.std.specs.Prelude.{Option, Some, None}
use Rattle.std.specs.Option.{option_map}
use Rattle.sed_outside.specs.declared.addr.Addr.{Addr}
use Rattle.sed_outside.specs.declared.polling.Polling.{Polling}
use Rattle.sed_outside.specs.Clock.{Moments, later_moments}
use Rattle.sed_outside.specs.Rounds.{HearsWhereTold, most_polls, unheard}
use Rattle.sed_node.specs.Living.{IsLeft, moments_behind, polls_behind}

-- behind so many cycles, where so many polls are left of the first one
pub to_leave : ℕ → ℕ → List Polling → List Polling
to_leave left zero polls = polls
to_leave left (suc n) polls = polls_behind n (unheard left polls)

leaves_new : (n : ℕ) (polls : List Polling) → to_leave most_polls n polls ≡ polls_behind n polls
unfolding to_leave polls_behind
leaves_new zero polls = refl
leaves_new (suc n) polls = refl

-- what is left behind all cycles is what is left behind those to do
pub record IsLeaving (cycles : ℕ) (polls polls_now : Option (List Polling)) (moments moments_now : Option Moments)
    (left n : ℕ) : Type 0 where
  pub polls_are : option_map (to_leave left n) polls_now ≡ option_map (polls_behind cycles) polls
  pub moments_are : option_map (moments_behind n) moments_now ≡ option_map (moments_behind cycles) moments

at_first : (n : ℕ) (polls : Option (List Polling)) → option_map (to_leave most_polls n) polls
    ≡ option_map (polls_behind n) polls
at_first n None = refl
at_first n (Some polls) = ap (λ (p : List Polling). Some p) (leaves_new n polls)

pub leaves_first : (cycles : ℕ) (polls : Option (List Polling)) (moments : Option Moments) (left n : ℕ)
    → left ≡ most_polls → n ≡ cycles → IsLeaving cycles polls polls moments moments left n
leaves_first cycles polls moments left n new all =
    subst (λ (l : ℕ). IsLeaving cycles polls polls moments moments l n) (sym new)
    (subst (λ (k : ℕ). IsLeaving cycles polls polls moments moments most_polls k) (sym all)
    (record { polls_are = at_first cycles polls; moments_are = refl }))

left_once_heard : (left left' n : ℕ) (polls polls' : Option (List Polling)) (came : Addr × ℕ) (bytes : List ℕ)
    → HearsWhereTold left polls (Some came) bytes left' polls'
    → option_map (to_leave left' (suc n)) polls' ≡ option_map (to_leave left (suc n)) polls
unfolding to_leave
left_once_heard left left' n None None came bytes hears = refl
left_once_heard left left' n None (Some polls') came bytes hears = absurd hears
left_once_heard left left' n (Some polls) None came bytes hears = absurd hears
left_once_heard left left' n (Some polls) (Some polls') came bytes hears =
    ap (λ (p : List Polling). Some (polls_behind n p)) (sym hears.rest)

pub leaves_datagram : (cycles : ℕ) (polls polls_now polls_then : Option (List Polling)) (moments moments_now : Option Moments)
    (left left' n : ℕ) (came : Addr × ℕ) (bytes : List ℕ)
    → IsLeaving cycles polls polls_now moments moments_now left (suc n)
    → HearsWhereTold left polls_now (Some came) bytes left' polls_then
    → IsLeaving cycles polls polls_then moments moments_now left' (suc n)
leaves_datagram cycles polls polls_now polls_then moments moments_now left left' n came bytes leaving hears = record {
  polls_are = left_once_heard left left' n polls_now polls_then came bytes hears ∙ leaving.polls_are;
  moments_are = leaving.moments_are;
}

left_once_over : (left left' n : ℕ) (polls polls' : Option (List Polling)) (bytes : List ℕ)
    → HearsWhereTold left polls None bytes left' polls'
    → option_map (to_leave most_polls n) polls' ≡ option_map (to_leave left (suc n)) polls
unfolding to_leave
left_once_over left left' n None None bytes hears = refl
left_once_over left left' n None (Some polls') bytes hears = absurd hears
left_once_over left left' n (Some polls) None bytes hears = absurd hears
left_once_over left left' n (Some polls) (Some polls') bytes hears =
    ap (λ (p : List Polling). Some p) (leaves_new n polls' ∙ ap (polls_behind n) (sym hears.rest))

later_left : (n : ℕ) (moments moments' : Option Moments) → moments' ≡ option_map later_moments moments
    → option_map (moments_behind n) moments' ≡ option_map (moments_behind (suc n)) moments
unfolding moments_behind
later_left n None moments' later = ap (option_map (moments_behind n)) later
later_left n (Some moments) moments' later = ap (option_map (moments_behind n)) later

pub leaves_tick : (cycles : ℕ) (polls polls_now polls_then : Option (List Polling))
    (moments moments_now moments_then : Option Moments) (left left' n : ℕ) (bytes : List ℕ)
    → IsLeaving cycles polls polls_now moments moments_now left (suc n)
    → HearsWhereTold left polls_now None bytes left' polls_then
    → moments_then ≡ option_map later_moments moments_now
    → IsLeaving cycles polls polls_then moments moments_then most_polls n
leaves_tick cycles polls polls_now polls_then moments moments_now moments_then left left' n bytes leaving hears later =
    record {
      polls_are = left_once_over left left' n polls_now polls_then bytes hears ∙ leaving.polls_are;
      moments_are = later_left n moments_now moments_then later ∙ leaving.moments_are;
    }

polls_same : (left : ℕ) (polls : Option (List Polling)) → option_map (to_leave left 0) polls ≡ polls
unfolding to_leave
polls_same left None = refl
polls_same left (Some polls) = refl

moments_same : (moments : Option Moments) → option_map (moments_behind 0) moments ≡ moments
unfolding moments_behind
moments_same None = refl
moments_same (Some moments) = refl

pub leaves_all : (cycles : ℕ) (polls polls_now : Option (List Polling)) (moments moments_now : Option Moments) (left n : ℕ)
    → n ≡ 0 → IsLeaving cycles polls polls_now moments moments_now left n
    → IsLeft cycles polls polls_now moments moments_now
leaves_all cycles polls polls_now moments moments_now left n none leaving =
    let at_end = subst (λ (k : ℕ). IsLeaving cycles polls polls_now moments moments_now left k) none leaving in
    record {
      polls_are = sym (polls_same left polls_now) ∙ at_end.polls_are;
      moments_are = sym (moments_same moments_now) ∙ at_end.moments_are;
    }
