-- What a reply's answer means to a poll.
use Rattle.std.proofs.Common.{◌≡◌, Result, Ok, refl, inl, inr}
use Rattle.oauth2_wire.specs.Reply.{HttpResponse, Answer}
use Rattle.oauth2_device.specs.declared.verdict.Verdict.{Verdict}
use Rattle.oauth2_device.specs.declared.verdict.Verdict.TheVariants.{Again, Decided}
use Rattle.oauth2_device.specs.Poll.{DeviceError}
use Rattle.oauth2_device.specs.private.Round.{IsVerdict, IsJudged}

pub judged : {D A RE : Type 0} (meaning : D → A) (says : HttpResponse → Answer A DeviceError) (reply : HttpResponse) (v : Verdict D RE) → IsVerdict meaning (says reply) v → IsJudged meaning says (Ok reply) v
judged meaning says reply (Again answer) is = is
judged meaning says reply (Decided result) is = elim is [ inl h ↦ inl (reply, refl, h) | inr h ↦ inr h ]
