-- Events that follow each other.
use Rattle.std.proofs.Common.{◌≡◌, List, [], ◌∷◌, ◌++◌, Bool, true, false, Option, Some, Result, refl, subst, sym, ◌∙◌}
use Rattle.std.specs.declared.time.Duration.{Duration}
use Rattle.jiff.specs.Types.{Timestamp}
use Rattle.oauth2_wire.specs.Request.{HttpRequest}
use Rattle.oauth2_wire.specs.Reply.{HttpResponse}
use Rattle.oauth2_device.specs.Events.{PollCall, Reading, Sent, Slept, Leads, EachRequest, has_request, last_reply}

module _ {W RE : Type 0} (reads : W → Timestamp → W → Type 0) (sends : W → HttpRequest → Result HttpResponse RE → W → Type 0) (sleeps : W → Duration → W → Type 0) where
  -- one trace after another
  pub Leads-append : (w : W) (e f : List (PollCall RE)) (u v : W) → Leads reads sends sleeps w e u → Leads reads sends sleeps u f v → Leads reads sends sleeps w (e ++ f) v
  Leads-append w [] f u v h k = subst (λ (x : W). Leads reads sends sleeps x f v) (sym h) k
  Leads-append w (Reading t ∷ e) f u v h k = (h.0, h.1, Leads-append h.0 e f u v h.2 k)
  Leads-append w (Sent r a ∷ e) f u v h k = (h.0, h.1, Leads-append h.0 e f u v h.2 k)
  Leads-append w (Slept d ∷ e) f u v h k = (h.0, h.1, Leads-append h.0 e f u v h.2 k)

pub EachRequest-append : {RE : Type 0} (P : HttpRequest → Type 0) (e f : List (PollCall RE)) → EachRequest P e → EachRequest P f → EachRequest P (e ++ f)
EachRequest-append P [] f h k = k
EachRequest-append P (Reading t ∷ e) f h k = EachRequest-append P e f h k
EachRequest-append P (Sent r a ∷ e) f h k = (h.0, EachRequest-append P e f h.1 k)
EachRequest-append P (Slept d ∷ e) f h k = EachRequest-append P e f h k

-- where no request is one of these, none was sent
pub none_sent : {RE : Type 0} (P : HttpRequest → Type 0) (e : List (PollCall RE)) → ((r : HttpRequest) → P r → ⊥) → EachRequest P e → has_request e ≡ false
none_sent P [] none h = refl
none_sent P (Reading t ∷ e) none h = none_sent P e none h
none_sent P (Sent r a ∷ e) none h = absurd (none r h.0)
none_sent P (Slept d ∷ e) none h = none_sent P e none h

pub has_request-unsent : {RE : Type 0} (e f : List (PollCall RE)) (b : Bool) → has_request e ≡ b → has_request f ≡ false → has_request (e ++ f) ≡ b
has_request-unsent [] f b h k = k ∙ h
has_request-unsent (Reading t ∷ e) f b h k = has_request-unsent e f b h k
has_request-unsent (Sent r a ∷ e) f b h k = h
has_request-unsent (Slept d ∷ e) f b h k = has_request-unsent e f b h k

pub has_request-sent : {RE : Type 0} (e f : List (PollCall RE)) → has_request f ≡ true → has_request (e ++ f) ≡ true
has_request-sent [] f k = k
has_request-sent (Reading t ∷ e) f k = has_request-sent e f k
has_request-sent (Sent r a ∷ e) f k = refl
has_request-sent (Slept d ∷ e) f k = has_request-sent e f k

pub last_reply-append : {RE : Type 0} (o : Option (Result HttpResponse RE)) (e f : List (PollCall RE)) → last_reply o (e ++ f) ≡ last_reply (last_reply o e) f
last_reply-append o [] f = refl
last_reply-append o (Reading t ∷ e) f = last_reply-append o e f
last_reply-append o (Sent r a ∷ e) f = last_reply-append (Some a) e f
last_reply-append o (Slept d ∷ e) f = last_reply-append o e f
