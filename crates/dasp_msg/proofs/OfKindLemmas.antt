-- The messages of each kind may be sent, and fit a datagram.
use Rattle.std.proofs.Common.{◌≡◌, ℕ, ◌≤◌, List, length, refl, ap, subst, arith, rules}
use Rattle.std.specs.Prelude.{Option, Some, None, IsTrue}
use Rattle.std.specs.Option.{ForSome}
use Rattle.std.proofs.lemmas.Option.{same_Some}
use Rattle.sed_wire.specs.Text.{is_text}
use Rattle.dasp_msg.specs.OfKind.{hello, challenge, authenticate, welcome, keep_alive, datagram, close}
use Rattle.dasp_msg.specs.Sending.{CanGo}
use Rattle.dasp_msg.specs.Shown.{number_of_first, text_of_first, run_of_first}
use Rattle.dasp_msg.specs.UserName.{is_user_name}
use Rattle.dasp_msg.proofs.UserLemmas.{name-text, name-short}

pub hello_can : (remote_id : ℕ) → CanGo (hello remote_id)
unfolding number_of_first text_of_first run_of_first
hello_can remote_id = record {
  may = record {
    has = (refl, refl, refl);
    no_other = refl;
    algorithm = λ x is. absurd (cc);
    username = λ x is. absurd (cc);
    nonce = λ x is. absurd (cc);
    digest = λ x is. absurd (cc);
    sequence = λ other. refl;
    follows = refl;
  };
  fits = omega arith;
}

pub authenticate_can : (to : ℕ) (user digest : List ℕ) → IsTrue (is_user_name user) → length digest ≡ 20
    → CanGo (authenticate to user digest)
unfolding number_of_first text_of_first run_of_first
authenticate_can to user digest named twenty = record {
  may = record {
    has = (refl, refl);
    no_other = refl;
    algorithm = λ x is. absurd (cc);
    username = λ x is. subst (λ (text : List ℕ). IsTrue (is_text text)) (same_Some _ _ is) (name-text user named);
    nonce = λ x is. absurd (cc);
    digest = λ x is. (let e : digest ≡ x = same_Some _ _ is in omega (arith, ap (length {A = ℕ}) e, twenty));
    sequence = λ other. refl;
    follows = refl;
  };
  fits = omega (arith, name-short user named, twenty);
}

pub challenge_can : (remote_id id : ℕ) (nonce : List ℕ) → length nonce ≤ 10 → CanGo (challenge remote_id id nonce)
unfolding number_of_first text_of_first run_of_first
challenge_can remote_id id nonce few = record {
  may = record {
    has = search rules;
    no_other = refl;
    algorithm = λ x is. subst (λ (text : List ℕ). IsTrue (is_text text)) (same_Some _ _ is) refl;
    username = λ x is. absurd (cc);
    nonce = λ x is. (let e : nonce ≡ x = same_Some _ _ is in omega (arith, ap (length {A = ℕ}) e, few));
    digest = λ x is. absurd (cc);
    sequence = λ other. refl;
    follows = refl;
  };
  fits = omega arith;
}

pub welcome_can : (remote_id : ℕ) → CanGo (welcome remote_id)
unfolding number_of_first text_of_first run_of_first
welcome_can remote_id = record {
  may = record {
    has = tt {0};
    no_other = refl;
    algorithm = λ x is. absurd (cc);
    username = λ x is. absurd (cc);
    nonce = λ x is. absurd (cc);
    digest = λ x is. absurd (cc);
    sequence = λ other. refl;
    follows = refl;
  };
  fits = omega arith;
}

pub close_can : (remote_id : ℕ) (code : Option ℕ) → CanGo (close remote_id code)
unfolding number_of_first text_of_first run_of_first
close_can remote_id None = record {
  may = record {
    has = tt {0};
    no_other = refl;
    algorithm = λ x is. absurd (cc);
    username = λ x is. absurd (cc);
    nonce = λ x is. absurd (cc);
    digest = λ x is. absurd (cc);
    sequence = λ other. refl;
    follows = refl;
  };
  fits = omega arith;
}
close_can remote_id (Some code) = record {
  may = record {
    has = tt {0};
    no_other = refl;
    algorithm = λ x is. absurd (cc);
    username = λ x is. absurd (cc);
    nonce = λ x is. absurd (cc);
    digest = λ x is. absurd (cc);
    sequence = λ other. refl;
    follows = refl;
  };
  fits = omega arith;
}

pub keep_alive_can : (remote_id ack : ℕ) (more : Option (List ℕ)) → ForSome more (λ bytes. length bytes ≡ 4)
    → CanGo (keep_alive remote_id ack more)
unfolding number_of_first text_of_first run_of_first
keep_alive_can remote_id ack None four = record {
  may = record {
    has = (search rules, λ x is. absurd (cc));
    no_other = refl;
    algorithm = λ x is. absurd (cc);
    username = λ x is. absurd (cc);
    nonce = λ x is. absurd (cc);
    digest = λ x is. absurd (cc);
    sequence = λ other. refl;
    follows = refl;
  };
  fits = omega arith;
}
keep_alive_can remote_id ack (Some bytes) four = record {
  may = record {
    has = (search rules, four);
    no_other = refl;
    algorithm = λ x is. absurd (cc);
    username = λ x is. absurd (cc);
    nonce = λ x is. absurd (cc);
    digest = λ x is. absurd (cc);
    sequence = λ other. refl;
    follows = refl;
  };
  fits = omega (arith, four bytes refl);
}

pub datagram_can : (remote_id ack number : ℕ) (more : Option (List ℕ)) (payload : List ℕ)
    → ForSome more (λ bytes. length bytes ≡ 4) → length payload ≤ 498
    → CanGo (datagram remote_id ack more number payload)
unfolding number_of_first text_of_first run_of_first
datagram_can remote_id ack number None payload four short = record {
  may = record {
    has = (search rules, λ x is. absurd (cc));
    no_other = refl;
    algorithm = λ x is. absurd (cc);
    username = λ x is. absurd (cc);
    nonce = λ x is. absurd (cc);
    digest = λ x is. absurd (cc);
    sequence = λ other. absurd (other refl);
    follows = tt {0};
  };
  fits = omega arith;
}
datagram_can remote_id ack number (Some bytes) payload four short = record {
  may = record {
    has = (search rules, four);
    no_other = refl;
    algorithm = λ x is. absurd (cc);
    username = λ x is. absurd (cc);
    nonce = λ x is. absurd (cc);
    digest = λ x is. absurd (cc);
    sequence = λ other. absurd (other refl);
    follows = tt {0};
  };
  fits = omega (arith, four bytes refl);
}
