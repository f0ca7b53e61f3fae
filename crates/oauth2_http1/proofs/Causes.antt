-- The causes of errors, where the bytes that a reader has left may be known.
use Rattle.std.proofs.Common.{◌≡◌, ℕ, Bool, true, false, not, ◌&&◌, ◌||◌, eqb, List, [], ◌∷◌, ◌++◌, Option, Some, None, refl, sym, ap, ◌∙◌, subst, append-nil, inl, inr}
use Rattle.std.specs.Prelude.{IfSome, IsFalse, nat_le}
use Rattle.std.specs.Io.KnownBytes.{Keeps, IsAtEnd, prepend_known}
use Rattle.httparse.specs.Grammar.{ResponseHead, HasNoResponse, MayBecomeResponse, status_code}
use Rattle.http1.specs.declared.framing.Framing.{Framing}
use Rattle.http1.specs.declared.error.ReadError.{ReadError}
use Rattle.http1.specs.declared.error.ReadError.TheVariants as Why
use Rattle.http1.specs.declared.client.Client.{Client}
use Rattle.http1.specs.declared.decode.Decoder.{Decoder}
use Rattle.http1.specs.Client.{is_expected}
use Rattle.http1.specs.Decoder.{decoder_for}
use Rattle.http1.specs.Message.{Response}
use Rattle.http1.specs.ReadError.{ResponseError}
use Rattle.oauth2_http1.specs.declared.fault.ReplyFault.{ReplyFault}
use Rattle.oauth2_http1.specs.declared.fault.ReplyFault.TheVariants as Fault
use Rattle.oauth2_http1.specs.Reply.{Terms, IsUncoded, ReadsInterim}
use Rattle.oauth2_http1.specs.Cause.{ReadsInterims, AtHead, HasHead, BehindHead, HeadCause, BodyCause, HasCause, is_answer}
use Rattle.oauth2_http1.specs.Unread.{begins_with_line_end}
use Rattle.oauth2_http1.proofs.EmptyLines.{more_begins}
use Rattle.oauth2_http1.specs.private.Phase.{Behind, FoundAt, BodyHasCause, IsOwnFault, IsPartFault}

one_more : (t : Terms) (ms : List Response) (stream now : List ℕ) (m : Response) (after : List ℕ) → ReadsInterims t ms stream now → ReadsInterim t now m after → ReadsInterims t (ms ++ m ∷ []) stream after
one_more t [] stream now m after read next = (after, subst (λ s. ReadsInterim t s m after) (sym read) next, refl)
one_more t (n ∷ ns) stream now m after read next = (read.0, read.1, one_more t ns read.0 now m after read.2 next)

pub Behind-refl : (t : Terms) (a : Option (List ℕ)) → Behind t a a
Behind-refl t None = tt
Behind-refl t (Some x) = ([], refl)

pub Behind-kept : (t : Terms) (s a b : Option (List ℕ)) → Behind t s a → Keeps a b → Behind t s b
Behind-kept t None a b p q = tt
Behind-kept t (Some s) None b p q = absurd p
Behind-kept t (Some s) (Some x) None p q = absurd q
Behind-kept t (Some s) (Some x) (Some y) p q = subst (λ z. Behind t (Some s) (Some z)) (sym q) p

pub Behind-pass : (t : Terms) (s : Option (List ℕ)) (u v : List ℕ) (left : Option (List ℕ)) → Behind t s (prepend_known u left)
    → ((more : List ℕ) → (m : Response) × ReadsInterim t (u ++ more) m (v ++ more)) → Behind t s (prepend_known v left)
Behind-pass t None u v left p next = tt
Behind-pass t (Some s) u v None p next = absurd p
Behind-pass t (Some s) u v (Some more) p next = let m = next more in (p.0 ++ m.0 ∷ [], one_more t p.0 s (u ++ more) m.0 (v ++ more) p.1 m.1)

-- what holds where a head is due
pub at_head : (t : Terms) (s : Option (List ℕ)) (u : List ℕ) (left : Option (List ℕ)) (P : List ℕ → Type 0) → Behind t s (prepend_known u left)
    → ((more : List ℕ) → P (u ++ more)) → IfSome s (λ stream. AtHead t stream P)
at_head t None u left P p holds = tt
at_head t (Some s) u None P p holds = absurd p
at_head t (Some s) u (Some more) P p holds = (p.0, u ++ more, p.1, holds more)

pub at_end : (t : Terms) (s : Option (List ℕ)) (u : List ℕ) (left : Option (List ℕ)) (P : List ℕ → Type 0) → Behind t s (prepend_known u left) → IsAtEnd left
    → P u → IfSome s (λ stream. AtHead t stream P)
at_end t None u left P p end holds = tt
at_end t (Some s) u None P p end holds = absurd p
at_end t (Some s) u (Some more) P p end holds = (p.0, u ++ more, p.1, subst P (sym (ap (λ x. u ++ x) end ∙ append-nil u)) holds)

of_head : (t : Terms) (s : Option (List ℕ)) (e : ReadError) → IfSome s (λ stream. AtHead t stream (HeadCause t e)) → IfSome s (HasCause (Fault.Response e) t)
of_head t None e p = tt
of_head t (Some s) e p = inl p

-- a status that the client did not expect is no answer
unexpected : (a b w : Bool) → (a && (b || w)) ≡ false → (a && b) ≡ false
unexpected false b w is = refl
unexpected true true w is = is
unexpected true false w is = refl

no_answer : (c : Client) (status : ℕ) → IsFalse (nat_le 100 status && is_expected c status) → IsFalse (is_answer status)
no_answer c status is = unexpected (nat_le 100 status) (not (eqb status 101)) c.wants_upgrade is

answers : (c : Client) (max_len : ℕ) (input : List ℕ) (room : ℕ) (e : ReadError) → ResponseError c.method (λ status. nat_le 100 status && is_expected c status) max_len input room e
    → ResponseError c.method is_answer max_len input room e
answers c max_len input room (Why.Parse e) is = is
answers c max_len input room Why.BareLineFeed is = is
answers c max_len input room Why.TooLarge is = is
answers c max_len input room Why.UriTooLong is = is
answers c max_len input room Why.Host is = is
answers c max_len input room (Why.Framing e) is = is
answers c max_len input room (Why.Chunk e) is = is
answers c max_len input room Why.UnexpectedEof is = is
answers c max_len input room Why.UnexpectedResponse (h, rest, reads, other) = (h, rest, reads, no_answer c (status_code h) other)

pub head_caused : (c : Client) (s : Option (List ℕ)) (u : List ℕ) (left : Option (List ℕ)) (e : ReadError) (t : Terms) → t ≡ record { limits = c.limits; method = c.method; room = 100 } → Behind t s (prepend_known u left)
    → ResponseError c.method (λ status. nat_le 100 status && is_expected c status) c.limits.max_head_len u 100 e → IfSome s (HasCause (Fault.Response e) t)
head_caused c s u left e t are behind is =
    of_head t s e (at_head t s u left (HeadCause t e) behind (λ more. inl (u, more, refl, subst (λ (x : Terms). ResponseError x.method is_answer x.limits.max_head_len u x.room e) (sym are) (answers c c.limits.max_head_len u 100 e is))))

pub answer_caused : (t : Terms) (s : Option (List ℕ)) (u : List ℕ) (left : Option (List ℕ)) (e : ReadError) → Behind t s (prepend_known u left)
    → ResponseError t.method is_answer t.limits.max_head_len u t.room e → IfSome s (HasCause (Fault.Response e) t)
answer_caused t s u left e behind is = of_head t s e (at_head t s u left (HeadCause t e) behind (λ more. inl (u, more, refl, is)))

pub head_cut : (t : Terms) (s : Option (List ℕ)) (u : List ℕ) (left : Option (List ℕ)) → Behind t s (prepend_known u left) → IsAtEnd left → HasNoResponse u → MayBecomeResponse u
    → IfSome s (HasCause (Fault.Response Why.UnexpectedEof) t)
head_cut t s u left behind end none may =
    of_head t s Why.UnexpectedEof (at_end t s u left (HeadCause t Why.UnexpectedEof) behind end (inr (refl, (none, may))))

pub line_caused : (t : Terms) (s : Option (List ℕ)) (u : List ℕ) (left : Option (List ℕ)) → Behind t s (prepend_known u left) → begins_with_line_end u ≡ true → IfSome s (HasCause Fault.EmptyLine t)
line_caused t None u left behind starts = tt
line_caused t (Some s) u None behind starts = absurd behind
line_caused t (Some s) u (Some more) behind starts = (behind.0, u ++ more, behind.1, more_begins u more starts)

pub coded_caused : (t : Terms) (s : Option (List ℕ)) (u : List ℕ) (left : Option (List ℕ)) → Behind t s (prepend_known u left)
    → ((more : List ℕ) → BehindHead t (λ framing h body. IsUncoded framing h → ⊥) (u ++ more)) → IfSome s (HasCause Fault.TransferCoding t)
coded_caused t None u left behind coded = tt
coded_caused t (Some s) u None behind coded = absurd behind
coded_caused t (Some s) u (Some more) behind coded = (behind.0, u ++ more, behind.1, coded more)

pub found_at : (t : Terms) (s : Option (List ℕ)) (u v : List ℕ) (left : Option (List ℕ)) (h : ResponseHead) (framing : Framing) → Behind t s (prepend_known u left)
    → ((more : List ℕ) → HasHead t (u ++ more) h framing (v ++ more)) → FoundAt t h (decoder_for t.limits framing) s (prepend_known v left)
found_at t None u v left h framing behind head = tt
found_at t (Some s) u v None h framing behind head = absurd behind
found_at t (Some s) u v (Some more) h framing behind head = (behind.0, u ++ more, behind.1, framing, head more, refl)

-- a fault that says nothing of the stream
pub own_cause : (e : ReplyFault) (t : Terms) (s : Option (List ℕ)) → IsOwnFault e → IfSome s (HasCause e t)
own_cause e t None own = tt
own_cause (Fault.Response x) t (Some s) own = absurd own
own_cause Fault.EmptyLine t (Some s) own = absurd own
own_cause Fault.TransferCoding t (Some s) own = absurd own
own_cause Fault.TooLong t (Some s) own = absurd own
own_cause Fault.TooManyBytes t (Some s) own = tt
own_cause Fault.TooManyReads t (Some s) own = tt
own_cause Fault.Fields t (Some s) own = tt
own_cause (Fault.Read x) t (Some s) own = tt
own_cause Fault.Memory t (Some s) own = tt

pub part_cause : (e : ReplyFault) (t : Terms) (s : Option (List ℕ)) → IsPartFault e → IfSome s (HasCause e t)
part_cause e t None part = tt
part_cause (Fault.Response x) t (Some s) part = absurd part
part_cause Fault.EmptyLine t (Some s) part = absurd part
part_cause Fault.TransferCoding t (Some s) part = absurd part
part_cause Fault.TooLong t (Some s) part = tt
part_cause Fault.TooManyBytes t (Some s) part = tt
part_cause Fault.TooManyReads t (Some s) part = tt
part_cause Fault.Fields t (Some s) part = tt
part_cause (Fault.Read x) t (Some s) part = tt
part_cause Fault.Memory t (Some s) part = tt

-- behind the head that was found, the cause of a body is one of the reply
pub body_caused : (e : ReplyFault) (t : Terms) (h : ResponseHead) (d : Decoder) (old mid : Option (List ℕ)) → FoundAt t h d old mid → IfSome mid (BodyHasCause e t.room d) → IfSome old (HasCause e t)
body_caused e t h d None mid found caused = tt
body_caused e t h d (Some s) None found caused = absurd found
body_caused (Fault.Response x) t h d (Some s) (Some m) (ms, now, read, framing, head, is) caused =
    inr (ms, now, read, (h, framing, m, head, subst (λ d. BodyCause t.room d x m) is caused))
body_caused Fault.EmptyLine t h d (Some s) (Some m) found caused = absurd caused
body_caused Fault.TransferCoding t h d (Some s) (Some m) found caused = absurd caused
body_caused Fault.TooLong t h d (Some s) (Some m) found caused = tt
body_caused Fault.TooManyBytes t h d (Some s) (Some m) found caused = tt
body_caused Fault.TooManyReads t h d (Some s) (Some m) found caused = tt
body_caused Fault.Fields t h d (Some s) (Some m) found caused = tt
body_caused (Fault.Read x) t h d (Some s) (Some m) found caused = tt
body_caused Fault.Memory t h d (Some s) (Some m) found caused = tt

pub own_body_cause : (e : ReplyFault) (room : ℕ) (d : Decoder) (s : Option (List ℕ)) → IsOwnFault e → IfSome s (BodyHasCause e room d)
own_body_cause e room d None own = tt
own_body_cause (Fault.Response x) room d (Some s) own = absurd own
own_body_cause Fault.EmptyLine room d (Some s) own = absurd own
own_body_cause Fault.TransferCoding room d (Some s) own = absurd own
own_body_cause Fault.TooLong room d (Some s) own = absurd own
own_body_cause Fault.TooManyBytes room d (Some s) own = tt
own_body_cause Fault.TooManyReads room d (Some s) own = tt
own_body_cause Fault.Fields room d (Some s) own = tt
own_body_cause (Fault.Read x) room d (Some s) own = tt
own_body_cause Fault.Memory room d (Some s) own = tt
