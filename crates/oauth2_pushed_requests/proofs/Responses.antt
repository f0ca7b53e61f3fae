-- A response that is read in two steps: its members, and then whether it names a request.
use Rattle.std.proofs.Common.{◌≡◌, [], false, Ok, Result, ap, sym, ◌∙◌, subst}
use Rattle.std.specs.Prelude.{bytes_eq, ◌==◌}
use Rattle.std.proofs.lemmas.Bool.{cond-false}
use Rattle.oauth2_json.specs.Reading.{Reading, ReadsAs, ErrsAs, read_then}
use Rattle.oauth2_json.specs.declared.read.ReadError.{ReadError}
use Rattle.oauth2_json.specs.declared.read.ReadError.TheVariants as errors
use Rattle.oauth2_pushed_requests.specs.Response.{PushedAuthorization, whole_response}

module _ {M N : Type 0} (r : Reading M) (f : M → Reading N) where
  pub then_errs : (e : ReadError) → ErrsAs e r → ErrsAs e (read_then r f)
  then_errs errors.Memory h = tt
  then_errs (errors.Fault fault) h = ap (λ (x : Reading M). read_then x f) h

  pub then_reads : {T : Type 0} (meaning : T → N) (result : Result T ReadError) (m : M) → r ≡ Ok m → ReadsAs meaning result (f m) → ReadsAs meaning result (read_then r f)
  then_reads meaning result m is h = subst (λ (x : Reading M). ReadsAs meaning result (read_then x f)) (sym is) h

  pub then_is : (m : M) (n : N) → r ≡ Ok m → f m ≡ Ok n → read_then r f ≡ Ok n
  then_is m n is h = ap (λ (x : Reading M). read_then x f) is ∙ h

pub is_whole : (r : PushedAuthorization) → bytes_eq r.request_uri [] ≡ false → (r.expires_in == 0) ≡ false → whole_response r ≡ Ok r
is_whole r named lasting = cond-false _ _ _ named ∙ cond-false _ _ _ lasting
