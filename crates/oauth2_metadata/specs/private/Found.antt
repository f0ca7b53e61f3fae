-- The result for a reply that is not a success.
use Rattle.std.specs.Prelude.{ℕ, Result}
use Rattle.oauth2_wire.specs.Reply.{Answer, ShowsAnswer}
use Rattle.oauth2_wire.specs.declared.error.RequestTokenError.{RequestTokenError}
use Rattle.oauth2_metadata.specs.Reply.{found_seen, of_failure}
use Rattle.oauth2_metadata.specs.declared.reply.OtherReply.{OtherReply}

-- `result` shows the failure with this status that `of_failure` makes of the answer that `read`
-- shows
abbrev pub ShowsFailure : {D A T E RE : Type 0} → (D → A) → (T → E) → ℕ
    → Result D (RequestTokenError RE T) → Result (Result D OtherReply) (RequestTokenError RE T)
    → Type 0
ShowsFailure {A = A} {E = E} meaning error_meaning status read result =
    (answer : Answer A E) → ShowsAnswer meaning error_meaning answer read → ShowsAnswer (found_seen meaning) error_meaning (of_failure status answer) result
