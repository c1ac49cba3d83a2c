-- Words behind the last option.
use Rattle.std.proofs.Common.{◌≡◌, ℕ, true, false, List, [], ◌∷◌, length, Option, Some, None, String, Global, refl, sym, ap, ◌∙◌, arith}
use Rattle.std.proofs.lemmas.Bool.{eqb-true}
use Rattle.std.specs.Prelude.{◌==◌, codes}
use Rattle.replay_log.specs.declared.asked.GenAsked.{GenAsked}
use Rattle.sedona_words.specs.Command.{◌>>=◌, Command, RecordAsked, RunAsked, boot_behind, boot_of, gen_behind, gen_named, gen_numbers, gen_of, image_named, kits_named, word_first, data_first, ended, new_named, new_of, node_named, option_first, option_or, period_first, replay_named, replay_of, run_named, show_named, show_of, texts, turns_first}

ended_none : {A : Type 0} (words : List (List ℕ)) (value : Option A) → (words ≡ [] → ⊥) → ended words value ≡ None
ended_none [] value some = absurd (some refl)
ended_none (word ∷ words) value some = refl

texts_some : (words : List (String Global)) → (length words == 0) ≡ false → texts words ≡ [] → ⊥
texts_some [] some none = cc
texts_some (word ∷ words) some none = cc

-- a word more than `new` has
pub one_more : (all : List (List ℕ)) (kits store slot : List ℕ) (first second : List (List ℕ)) (third : List (String Global))
    → Some (kits, first) ≡ option_first (codes "--kits") all → Some (store, second) ≡ option_first (codes "--store") first → Some (slot, texts third) ≡ option_first (codes "--slot") second
    → (length third == 0) ≡ false → None ≡ new_of all
one_more all kits store slot first second third one two three some = sym (
    ap (λ (o : Option (List ℕ × List (List ℕ))). o >>= (λ k. option_first (codes "--store") k.1 >>= (λ s. option_first (codes "--slot") s.1 >>= (λ t. ended t.1 (new_named k.0 s.0 t.0))))) (sym one)
    ∙ ap (λ (o : Option (List ℕ × List (List ℕ))). o >>= (λ s. option_first (codes "--slot") s.1 >>= (λ t. ended t.1 (new_named kits s.0 t.0)))) (sym two)
    ∙ ap (λ (o : Option (List ℕ × List (List ℕ))). o >>= (λ t. ended t.1 (new_named kits store t.0))) (sym three)
    ∙ ended_none (texts third) (new_named kits store slot) (texts_some third some))

-- the command, with the option read
abbrev pub with_limit : List ℕ → List ℕ → List ℕ × List (List ℕ) → Option Command
with_limit kits store limit = ended limit.1 (show_named kits store limit.0)

-- a word more than `show` has
pub one_more_shown : (all : List (List ℕ)) (kits store limit : List ℕ) (first second : List (List ℕ)) (third : List (String Global))
    → Some (kits, first) ≡ option_first (codes "--kits") all → Some (store, second) ≡ option_first (codes "--store") first
    → (let parts : List ℕ × List (List ℕ) = (limit, texts third) in parts) ≡ option_or (codes "--data") (codes "4194304") second
    → (length third == 0) ≡ false → None ≡ show_of all
one_more_shown all kits store limit first second third one two three some = sym (
    ap (λ (o : Option (List ℕ × List (List ℕ))). o >>= (λ k. option_first (codes "--store") k.1 >>= (λ s. with_limit k.0 s.0 (option_or (codes "--data") (codes "4194304") s.1)))) (sym one)
    ∙ ap (λ (o : Option (List ℕ × List (List ℕ))). o >>= (λ s. with_limit kits s.0 (option_or (codes "--data") (codes "4194304") s.1))) (sym two)
    ∙ ap (λ (t : List ℕ × List (List ℕ)). with_limit kits store t) (sym three)
    ∙ ended_none (texts third) (show_named kits store limit) (texts_some third some))

-- ---- the words of `replay`

abbrev Parts : Type 0
Parts = List ℕ × List (List ℕ)

-- the command, with each option read up to one
abbrev with_data : List ℕ → List ℕ → List ℕ → List ℕ → List ℕ → List ℕ → Parts → Option Command
with_data kits store users secret file turns limit = ended limit.1 (replay_named (node_named (kits_named kits) store users secret turns limit.0) file)

abbrev with_turns : List ℕ → List ℕ → List ℕ → List ℕ → List ℕ → Parts → Option Command
with_turns kits store users secret file turns = with_data kits store users secret file turns.0 (data_first turns.1)

abbrev with_file : List ℕ → List ℕ → List ℕ → List ℕ → Option Parts → Option Command
with_file kits store users secret o = o >>= (λ file. with_turns kits store users secret file.0 (turns_first file.1))

abbrev with_secret : List ℕ → List ℕ → List ℕ → Option Parts → Option Command
with_secret kits store users o = o >>= (λ secret. with_file kits store users secret.0 (option_first (codes "--record") secret.1))

abbrev with_users : List ℕ → List ℕ → Option Parts → Option Command
with_users kits store o = o >>= (λ users. with_secret kits store users.0 (option_first (codes "--secret") users.1))

abbrev with_store : List ℕ → Option Parts → Option Command
with_store kits o = o >>= (λ store. with_users kits store.0 (option_first (codes "--users") store.1))

-- a word more than `replay` has
pub one_more_replayed : (all : List (List ℕ)) (kits store users secret file turns limit : List ℕ) (first second third fourth fifth sixth : List (List ℕ)) (last : List (String Global))
    → Some (kits, first) ≡ option_first (codes "--kits") all → Some (store, second) ≡ option_first (codes "--store") first → Some (users, third) ≡ option_first (codes "--users") second
    → Some (secret, fourth) ≡ option_first (codes "--secret") third → Some (file, fifth) ≡ option_first (codes "--record") fourth
    → (let parts : Parts = (turns, sixth) in parts) ≡ turns_first fifth → (let parts : Parts = (limit, texts last) in parts) ≡ data_first sixth
    → (length last == 0) ≡ false → None ≡ replay_of all
one_more_replayed all kits store users secret file turns limit first second third fourth fifth sixth last one two three four five six seven some = sym (
    ap (λ (o : Option Parts). o >>= (λ k. with_store k.0 (option_first (codes "--store") k.1))) (sym one)
    ∙ ap (with_store kits) (sym two)
    ∙ ap (with_users kits store) (sym three)
    ∙ ap (with_secret kits store users) (sym four)
    ∙ ap (with_file kits store users secret) (sym five)
    ∙ ap (with_turns kits store users secret file) (sym six)
    ∙ ap (with_data kits store users secret file turns) (sym seven)
    ∙ ended_none (texts last) (replay_named (node_named (kits_named kits) store users secret turns limit) file) (texts_some last some))

-- ---- the words of `boot`

-- what is asked, with each option read up to one
abbrev boot_cycles : List ℕ → List ℕ → List ℕ → List ℕ → List ℕ → Option Parts → Option RunAsked
boot_cycles image store users secret port o = o >>= (λ cycles. boot_behind image store users secret port cycles.0 cycles.1)

abbrev boot_port : List ℕ → List ℕ → List ℕ → List ℕ → Option Parts → Option RunAsked
boot_port image store users secret o = o >>= (λ port. boot_cycles image store users secret port.0 (option_first (codes "--cycles") port.1))

abbrev boot_secret : List ℕ → List ℕ → List ℕ → Option Parts → Option RunAsked
boot_secret image store users o = o >>= (λ secret. boot_port image store users secret.0 (option_first (codes "--port") secret.1))

abbrev boot_users : List ℕ → List ℕ → Option Parts → Option RunAsked
boot_users image store o = o >>= (λ users. boot_secret image store users.0 (option_first (codes "--secret") users.1))

abbrev boot_store : List ℕ → Option Parts → Option RunAsked
boot_store image o = o >>= (λ store. boot_users image store.0 (option_first (codes "--users") store.1))

-- the options that have to be there, option by option
pub six_options : (all : List (List ℕ)) (image store users secret port cycles : List ℕ) (first second third fourth fifth sixth : List (List ℕ))
    → Some (image, first) ≡ option_first (codes "--image") all → Some (store, second) ≡ option_first (codes "--store") first → Some (users, third) ≡ option_first (codes "--users") second
    → Some (secret, fourth) ≡ option_first (codes "--secret") third → Some (port, fifth) ≡ option_first (codes "--port") fourth → Some (cycles, sixth) ≡ option_first (codes "--cycles") fifth
    → boot_behind image store users secret port cycles sixth ≡ boot_of all
six_options all image store users secret port cycles first second third fourth fifth sixth one two three four five six =
    ap (boot_cycles image store users secret port) six
    ∙ ap (boot_port image store users secret) five
    ∙ ap (boot_secret image store users) four
    ∙ ap (boot_users image store) three
    ∙ ap (boot_store image) two
    ∙ ap (λ (o : Option Parts). o >>= (λ i. boot_store i.0 (option_first (codes "--store") i.1))) one

-- what is asked, with each of the others read up to one
abbrev boot_data : List ℕ → List ℕ → List ℕ → List ℕ → List ℕ → List ℕ → List ℕ → List ℕ → Parts → Option RunAsked
boot_data image store users secret port cycles period turns limit =
    ended limit.1 (run_named (node_named (image_named image) store users secret turns limit.0) port cycles period)

abbrev boot_turns : List ℕ → List ℕ → List ℕ → List ℕ → List ℕ → List ℕ → List ℕ → Parts → Option RunAsked
boot_turns image store users secret port cycles period turns = boot_data image store users secret port cycles period turns.0 (data_first turns.1)

abbrev boot_period : List ℕ → List ℕ → List ℕ → List ℕ → List ℕ → List ℕ → Parts → Option RunAsked
boot_period image store users secret port cycles period = boot_turns image store users secret port cycles period.0 (turns_first period.1)

-- the options that may be left out
pub three_options : (image store users secret port cycles period turns limit : List ℕ) (words first second third : List (List ℕ)) → (let parts : Parts = (period, first) in parts) ≡ period_first words
    → (let parts : Parts = (turns, second) in parts) ≡ turns_first first → (let parts : Parts = (limit, third) in parts) ≡ data_first second
    → ended third (run_named (node_named (image_named image) store users secret turns limit) port cycles period) ≡ boot_behind image store users secret port cycles words
three_options image store users secret port cycles period turns limit words first second third one two three =
    ap (boot_data image store users secret port cycles period turns) three
    ∙ ap (boot_turns image store users secret port cycles period) two
    ∙ ap (boot_period image store users secret port cycles) one

-- no word more than `boot` has, and one more
pub all_booted : (words : List (String Global)) (asked : Option RunAsked) → (length words == 0) ≡ true → asked ≡ ended (texts words) asked
all_booted [] asked none = refl
all_booted (word ∷ words) asked none = absurd (omega (arith, eqb-true (length (word ∷ words)) 0 none))

pub one_more_booted : (words : List (String Global)) (asked : Option RunAsked) → (length words == 0) ≡ false → None ≡ ended (texts words) asked
one_more_booted words asked some = sym (ended_none (texts words) asked (texts_some words some))

-- ---- the words of `gen`

abbrev gen_out : Option GenAsked → List ℕ → List ℕ → List ℕ → List ℕ → Option Parts → Option RecordAsked
gen_out numbers kits users user secret o = o >>= (λ out. ended out.1 (gen_named numbers kits users user secret out.0))

abbrev gen_secret : Option GenAsked → List ℕ → List ℕ → List ℕ → Option Parts → Option RecordAsked
gen_secret numbers kits users user o = o >>= (λ secret. gen_out numbers kits users user secret.0 (option_first (codes "--out") secret.1))

abbrev gen_user : Option GenAsked → List ℕ → List ℕ → Option Parts → Option RecordAsked
gen_user numbers kits users o = o >>= (λ user. gen_secret numbers kits users user.0 (option_first (codes "--secret") user.1))

abbrev gen_users : Option GenAsked → List ℕ → Option Parts → Option RecordAsked
gen_users numbers kits o = o >>= (λ users. gen_user numbers kits users.0 (option_first (codes "--user") users.1))

-- a word more than `gen` has
pub one_more_generated : (numbers : Option GenAsked) (all : List (List ℕ)) (kits users user secret out : List ℕ) (first second third fourth : List (List ℕ)) (last : List (String Global))
    → Some (kits, first) ≡ option_first (codes "--kits") all → Some (users, second) ≡ option_first (codes "--users") first → Some (user, third) ≡ option_first (codes "--user") second
    → Some (secret, fourth) ≡ option_first (codes "--secret") third → Some (out, texts last) ≡ option_first (codes "--out") fourth
    → (length last == 0) ≡ false → None ≡ gen_behind numbers all
one_more_generated numbers all kits users user secret out first second third fourth last one two three four five some = sym (
    ap (λ (o : Option Parts). o >>= (λ k. gen_users numbers k.0 (option_first (codes "--users") k.1))) (sym one)
    ∙ ap (gen_users numbers kits) (sym two)
    ∙ ap (gen_user numbers kits users) (sym three)
    ∙ ap (gen_secret numbers kits users user) (sym four)
    ∙ ap (gen_out numbers kits users user secret) (sym five)
    ∙ ended_none (texts last) (gen_named numbers kits users user secret out) (texts_some last some))

abbrev word_ticks : List ℕ → List ℕ → List ℕ → Option Parts → Option RecordAsked
word_ticks seed components links o = o >>= (λ ticks. gen_behind (gen_numbers seed components links ticks.0) ticks.1)

abbrev word_links : List ℕ → List ℕ → Option Parts → Option RecordAsked
word_links seed components o = o >>= (λ links. word_ticks seed components links.0 (word_first links.1))

abbrev word_components : List ℕ → Option Parts → Option RecordAsked
word_components seed o = o >>= (λ components. word_links seed components.0 (word_first components.1))

-- the four numbers, word by word
pub four_words : (all : List (List ℕ)) (seed components links ticks : List ℕ) (first second third fourth : List (List ℕ)) → Some (seed, first) ≡ word_first all → Some (components, second) ≡ word_first first
    → Some (links, third) ≡ word_first second → Some (ticks, fourth) ≡ word_first third → gen_behind (gen_numbers seed components links ticks) fourth ≡ gen_of all
four_words all seed components links ticks first second third fourth one two three four =
    ap (word_ticks seed components links) four
    ∙ ap (word_links seed components) three
    ∙ ap (word_components seed) two
    ∙ ap (λ (o : Option Parts). o >>= (λ s. word_components s.0 (word_first s.1))) one
