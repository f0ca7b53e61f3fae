-- What the first byte of an input says of a head.
use Rattle.std.proofs.Common.{◌≡◌, ℕ, true, false, List, [], ◌∷◌, ◌++◌, sym, refl, ap, ◌∙◌}
use Rattle.httparse.specs.Grammar.{LineEnd, crlf, lf, print_blank, print_version, ResponseHead, ReadsResponse}
use Rattle.httparse.proofs.GrammarLemmas.{print_response-append}
use Rattle.oauth2_http1.specs.Reply.{HasNoEmptyLine}
use Rattle.oauth2_http1.specs.Unread.{begins_with_line_end}

no_lines : (blank : List LineEnd) (tail input : List ℕ) → input ≡ print_blank blank ++ tail → begins_with_line_end input ≡ false → blank ≡ []
no_lines [] tail input is clear = refl
no_lines (crlf ∷ es) tail input is clear = let e = sym (ap begins_with_line_end is) ∙ clear in cc
no_lines (lf ∷ es) tail input is clear = let e = sym (ap begins_with_line_end is) ∙ clear in cc

-- clear empty line stands before a head where the input begins with clear line end
pub begins_at_once : (input : List ℕ) (h : ResponseHead) (rest : List ℕ) → ReadsResponse input h rest → begins_with_line_end input ≡ false → HasNoEmptyLine h
begins_at_once input h rest reads clear = no_lines h.blank _ input (reads.1 ∙ print_response-append h rest) clear

version_first : (blank : List LineEnd) (minor : ℕ) (tail input : List ℕ) → input ≡ print_blank blank ++ (print_version minor ++ tail) → blank ≡ [] → begins_with_line_end input ≡ false
version_first [] minor tail input is none = ap begins_with_line_end is
version_first (e ∷ es) minor tail input is none = cc

pub more_begins : (input more : List ℕ) → begins_with_line_end input ≡ true → begins_with_line_end (input ++ more) ≡ true
more_begins [] more begins = cc
more_begins (b ∷ bs) more begins = begins

-- clear such head is where the input begins with a line end
pub no_head_there : (input more : List ℕ) (h : ResponseHead) (rest : List ℕ) → begins_with_line_end input ≡ true → HasNoEmptyLine h → ReadsResponse (input ++ more) h rest → ⊥
no_head_there input more h rest begins none reads =
    let other = sym (more_begins input more begins) ∙ version_first h.blank h.minor _ (input ++ more) (reads.1 ∙ print_response-append h rest) none in cc
