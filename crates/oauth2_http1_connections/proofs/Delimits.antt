-- A reply that ends by itself ends at the same byte, whatever follows it.
use Rattle.std.proofs.Common.{◌≡◌, ℕ, ◌≤◌, Bool, true, false, not, List, [], ◌∷◌, ◌++◌, Ok, refl, sym, ap, ◌∙◌, subst, append_assoc, arith}
use Rattle.std.specs.Prelude.{Result}
use Rattle.std.proofs.lemmas.Bool.{cond-true}
use Rattle.std.proofs.lemmas.Bool.Decides.{nat_tests}
use Rattle.httparse.specs.Grammar.{print_response, print_section, status_code}
use Rattle.http1.specs.declared.conn.Limits.{Limits}
use Rattle.http1.specs.declared.fields.KnownFields.{KnownFields}
use Rattle.http1.specs.declared.framing.Framing.{Framing}
use Rattle.http1.specs.declared.framing.Framing.TheVariants as Framed
use Rattle.http1.specs.declared.framing.FramingError.{FramingError}
use Rattle.http1.specs.declared.framing.MethodKind.{MethodKind}
use Rattle.http1.specs.declared.framing.MethodKind.TheVariants as Method
use Rattle.http1.specs.Body.{Body, ReadsBody}
use Rattle.http1.specs.ChunkedBody.{print_chunks}
use Rattle.http1.specs.Client.{is_interim}
use Rattle.http1.specs.Conn.{is_until_close}
use Rattle.http1.specs.Framing.{has_no_body, response_framing}
use Rattle.http1.specs.Message.{Response, ReadsResponseMessage, known_of}
use Rattle.oauth2_http1.specs.Kept.{is_delimited, ends_itself}
use Rattle.oauth2_http1.specs.Reply.{Terms, ReadsInterim, ReadsAfter, IsUncoded}
use Rattle.oauth2_http1_connections.specs.Law.{IsDelimited}

body_delimited : (limits : Limits) (f : Framing) (stream : List ℕ) (body : Body) (rest : List ℕ) → is_until_close f ≡ false → ReadsBody limits f stream body rest
    → IsDelimited (λ s r. ReadsBody limits f s body r) stream rest
body_delimited limits Framed.NoBody stream body rest ends (len, is, none) = (body.bytes, is, λ more. (len, refl, none))
body_delimited limits (Framed.Length n) stream body rest ends (len, is, none) = (body.bytes, is, λ more. (len, refl, none))
body_delimited limits Framed.Chunked stream body rest ends x =
    let chunks = print_chunks x.chunks in
    let section = print_section body.trailers x.trailers.last in (
      chunks ++ section,
      x.reads.1 ∙ ap (λ s. chunks ++ s) x.trailers.reads.1 ∙ sym (append_assoc chunks section rest),
      λ more. record {
        chunks = x.chunks;
        after = section ++ more;
        reads = (x.reads.0, append_assoc chunks section more);
        decoded = x.decoded;
        trailers = record { last = x.trailers.last; reads = (x.trailers.reads.0, refl); strict = x.trailers.strict; within_limit = x.trailers.within_limit };
      },
    )
body_delimited limits Framed.UntilClose stream body rest ends x = cc

-- the bytes of a message, and the message behind which other bytes follow, with the same framing
pub record Delimited (limits : Limits) (method : MethodKind) (stream : List ℕ) (m : Response) (rest : List ℕ) (framing : Framing) : Type 0 where
  pub used : List ℕ
  pub split : stream ≡ used ++ rest
  pub again : (more : List ℕ) → (y : ReadsResponseMessage limits method (used ++ more) m more) × (y.framing ≡ framing)

message_delimited : (limits : Limits) (method : MethodKind) (stream : List ℕ) (m : Response) (rest : List ℕ) (x : ReadsResponseMessage limits method stream m rest)
    → is_until_close x.framing ≡ false → Delimited limits method stream m rest x.framing
message_delimited limits method stream m rest x ends =
    let b = body_delimited limits x.framing x.after_head m.body rest ends x.body in
    let head = print_response m.head in
    record {
      used = head ++ b.0;
      split = x.head.reads.1 ∙ ap (λ s. head ++ s) b.1 ∙ sym (append_assoc head b.0 rest);
      again = λ more. (
        record {
          framing = x.framing;
          after_head = b.0 ++ more;
          head = record {
            reads = (x.head.reads.0, append_assoc head b.0 more);
            strict = x.head.strict;
            status = x.head.status;
            framed = x.head.framed;
          };
          body = b.2 more;
        },
        refl,
      );
    }

-- a response of status 1xx has no body
bodiless : (method : MethodKind) (status : ℕ) → 100 ≤ status → is_interim status ≡ true → has_no_body method status ≡ true
bodiless Method.Head status low is = refl
bodiless Method.Connect status low is = grind (arith, nat_tests)
bodiless Method.Other status low is = grind (arith, nat_tests)

interim_ends : (method : MethodKind) (status minor : ℕ) (k : KnownFields) (f : Framing) → 100 ≤ status → is_interim status ≡ true → response_framing method status minor k ≡ Ok f → is_until_close f ≡ false
interim_ends method status minor k f low is framed =
    let none = sym (cond-true _ _ _ (bodiless method status low is)) ∙ framed in
    let same : Framed.NoBody ≡ f = cc in
    ap is_until_close (sym same)

final_ends : (framed : Result Framing FramingError) (f : Framing) → framed ≡ Ok f → is_delimited framed ≡ true → is_until_close f ≡ false
final_ends framed f is ends = not_true (is_until_close f) (sym (ap is_delimited is) ∙ ends)
  where
    not_true : (b : Bool) → not b ≡ true → b ≡ false
    not_true true e = cc
    not_true false e = refl

pub reply_delimited : (t : Terms) (ms : List Response) (stream : List ℕ) (reply : Response) (rest : List ℕ) → ends_itself t.method reply.head ≡ true → ReadsAfter t ms stream reply rest
    → IsDelimited (λ s r. ReadsAfter t ms s reply r) stream rest
reply_delimited t [] stream reply rest ends x =
    let d = message_delimited t.limits t.method stream reply rest x.message (final_ends _ x.message.framing x.message.head.framed ends) in (
      d.used,
      d.split,
      λ more. let again = d.again more in record {
        message = again.0;
        start = x.start;
        uncoded = subst (λ f. IsUncoded f reply.head) (sym again.1) x.uncoded;
        status = x.status;
        room = x.room;
      },
    )
reply_delimited t (m ∷ ms) stream reply rest ends (after, x, later) =
    let d = message_delimited t.limits t.method stream m after x.message (interim_ends t.method (status_code m.head) m.head.minor (known_of m.head.fields) x.message.framing x.message.head.status x.status x.message.head.framed) in
    let l = reply_delimited t ms after reply rest ends later in (
      d.used ++ l.0,
      d.split ∙ ap (λ s. d.used ++ s) l.1 ∙ sym (append_assoc d.used l.0 rest),
      λ more. (
        l.0 ++ more,
        subst (λ s. ReadsInterim t s m (l.0 ++ more)) (sym (append_assoc d.used l.0 more))
            (record { message = (d.again (l.0 ++ more)).0; start = x.start; status = x.status; room = x.room }),
        l.2 more,
      ),
    )
