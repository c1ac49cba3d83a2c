use Rattle.std.proofs.Common.{◌≡◌, Option, Some, None, [], ◌∷◌, refl, ◌∙◌, ap}
use Rattle.std.specs.Option.{option_map, option_or}
use Rattle.dasp_msg.specs.Shown.{number_of_first, text_of_first, run_of_first}
use Rattle.dasp_msg.specs.View.{part_of}
use Rattle.dasp_msg.proofs.message.Msg.noting.Goals as goal

map-or : {A B : Type 0} (f : A → B) (r o p : Option A) (q : Option B) → r ≡ option_or o p → option_map f p ≡ q
    → option_map f r ≡ option_or (option_map f o) q
map-or f r None p q is found = ap (option_map f) is ∙ found
map-or f r (Some x) p q is found = ap (option_map f) is

number-or : {A : Type 0} (r o p q : Option A) → r ≡ option_or o p → p ≡ q → r ≡ option_or o q
number-or r o p q is found = is ∙ ap (option_or o) found

pub returns : goal.returns
returns c =
    let version : c.or.result ≡ option_or c.args.self.now.version (number_of_first 5 (part_of c.args.field.now ∷ [])) =
    number-or _ _ _ _ c.or.ensures c.number.ensures in
    let remote_id : c.or-2.result ≡ option_or c.args.self.now.remote_id (number_of_first 9 (part_of c.args.field.now ∷ [])) =
    number-or _ _ _ _ c.or-2.ensures c.number-2.ensures in
    let algorithm : option_map (λ bytes. bytes.now) c.or-3.result
    ≡ option_or (option_map (λ bytes. bytes.now) c.args.self.now.algorithm) (text_of_first 14 (part_of c.args.field.now ∷ [])) =
    map-or _ _ _ _ _ c.or-3.ensures c.text.ensures in
    let nonce : option_map (λ bytes. bytes.now) c.or-4.result
    ≡ option_or (option_map (λ bytes. bytes.now) c.args.self.now.nonce) (run_of_first 19 (part_of c.args.field.now ∷ [])) =
    map-or _ _ _ _ _ c.or-4.ensures c.run.ensures in
    let username : option_map (λ bytes. bytes.now) c.or-5.result
    ≡ option_or (option_map (λ bytes. bytes.now) c.args.self.now.username) (text_of_first 22 (part_of c.args.field.now ∷ [])) =
    map-or _ _ _ _ _ c.or-5.ensures c.text-2.ensures in
    let digest : option_map (λ bytes. bytes.now) c.or-6.result
    ≡ option_or (option_map (λ bytes. bytes.now) c.args.self.now.digest) (run_of_first 27 (part_of c.args.field.now ∷ [])) =
    map-or _ _ _ _ _ c.or-6.ensures c.run-2.ensures in
    let ideal_max : c.or-7.result ≡ option_or c.args.self.now.ideal_max (number_of_first 29 (part_of c.args.field.now ∷ [])) =
    number-or _ _ _ _ c.or-7.ensures c.number-3.ensures in
    let abs_max : c.or-8.result ≡ option_or c.args.self.now.abs_max (number_of_first 33 (part_of c.args.field.now ∷ [])) =
    number-or _ _ _ _ c.or-8.ensures c.number-4.ensures in
    let ack : c.or-9.result ≡ option_or c.args.self.now.ack (number_of_first 37 (part_of c.args.field.now ∷ [])) =
    number-or _ _ _ _ c.or-9.ensures c.number-5.ensures in
    let ack_more : option_map (λ bytes. bytes.now) c.or-10.result
    ≡ option_or (option_map (λ bytes. bytes.now) c.args.self.now.ack_more) (run_of_first 43 (part_of c.args.field.now ∷ [])) =
    map-or _ _ _ _ _ c.or-10.ensures c.run-3.ensures in
    let receive_max : c.or-11.result ≡ option_or c.args.self.now.receive_max (number_of_first 45 (part_of c.args.field.now ∷ [])) =
    number-or _ _ _ _ c.or-11.ensures c.number-6.ensures in
    let receive_timeout : c.or-12.result ≡ option_or c.args.self.now.receive_timeout (number_of_first 49 (part_of c.args.field.now ∷ [])) =
    number-or _ _ _ _ c.or-12.ensures c.number-7.ensures in
    let error_code : c.or-13.result ≡ option_or c.args.self.now.error_code (number_of_first 53 (part_of c.args.field.now ∷ [])) =
    number-or _ _ _ _ c.or-13.ensures c.number-8.ensures in
    let platform_id : option_map (λ bytes. bytes.now) c.or-14.result
    ≡ option_or (option_map (λ bytes. bytes.now) c.args.self.now.platform_id) (text_of_first 58 (part_of c.args.field.now ∷ [])) =
    map-or _ _ _ _ _ c.or-14.ensures c.text-3.ensures in
    rw (
      version,
      remote_id,
      algorithm,
      nonce,
      username,
      digest,
      ideal_max,
      abs_max,
      ack,
      ack_more,
      receive_max,
      receive_timeout,
      error_code,
      platform_id,
    ) refl
