-- A reply of another status.
use Rattle.std.proofs.Common.{◌≡◌, ℕ, Bool, true, false, ◌==◌, refl, subst}
use Rattle.std.proofs.lemmas.Bool.{eqb-true}
use Rattle.serde_json.specs.Data.{Data}
use Rattle.oauth2_json.specs.Reading.{Reading}
use Rattle.oauth2_wire.specs.declared.content_type.ReplyRule.{ReplyRule}
use Rattle.oauth2_wire.specs.Reply.{ReplyView, answer_of}
use Rattle.oauth2_metadata.specs.Reply.{found_answer, is_redirect, of_failure}

off : (b : Bool) → (b ≡ true → ⊥) → b ≡ false
off true h = absurd (h refl)
off false h = refl

-- it is told as a failure
pub failure_told : {A E : Type 0} (rule : ReplyRule) (reading : Data → Reading A) (error_reading : Data → Reading E) (reply : ReplyView) (status : ℕ)
    → status ≡ reply.status → is_redirect status ≡ false → (status ≡ 200 → ⊥)
    → found_answer rule reading error_reading reply ≡ of_failure status (answer_of rule reading error_reading reply)
failure_told rule reading error_reading reply status is stays other =
    let no_redirect : is_redirect reply.status ≡ false = subst (λ n. is_redirect n ≡ false) is stays in
    let no_success : (reply.status == 200) ≡ false = subst (λ n. (n == 200) ≡ false) is (off (status == 200) (λ same. other (eqb-true status 200 same))) in
    rw (is, no_redirect, no_success) refl
