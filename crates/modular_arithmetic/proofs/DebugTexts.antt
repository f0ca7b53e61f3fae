-- The text of octets while it is written, and a text that is written without options.
use Rattle.std.proofs.Common.{◌≡◌, ℕ, ◌+◌, ◌<◌, ◌≤◌, List, [], ◌∷◌, ◌++◌, Bool, true, false, length, drop, get_or, refl, sym, ap, subst, ◌∙◌, add-one, drop-cons, append-nil, append_assoc}
use Rattle.std.proofs.Output.{has_written_styled_append, has_written_styled_of_eq}
use Rattle.std.proofs.lemmas.List.{drop_all}
use Rattle.std.specs.declared.fmt.Formatter.{Formatter}
use Rattle.std.specs.declared.fmt.Error.{Error}
use Rattle.std.specs.Prelude.{Result, Some, ◌==◌, ◌&&◌, not, if◌then◌else◌}
use Rattle.std.specs.Fmt.{HasWrittenStyled, WritesStyledOnOk, DisplaysOnOk, formatter_spec, spec_alternate, is_bare_number, decimal, styled_decimal, padded_integral}
use Rattle.std.proofs.Padding.{displays_at_plain}
use Rattle.modular_arithmetic.specs.DebugText.{numbers_text}

numbers_text-nil : (numeral : ℕ → List ℕ) (before between : List ℕ) → numbers_text numeral before between [] ≡ []
unfolding numbers_text
numbers_text-nil numeral before between = refl

numbers_text-cons : (numeral : ℕ → List ℕ) (before between : List ℕ) (x : ℕ) (xs : List ℕ)
    → numbers_text numeral before between (x ∷ xs) ≡ before ++ numeral x ++ numbers_text numeral between between xs
unfolding numbers_text
numbers_text-cons numeral before between x xs = refl

-- g is f after a part of the text; what is left of it is that of the numbers xs
pub record HasLeft {W : Type 0} (took : W → List ℕ → W → Type 0) (f : Formatter W) (text : List ℕ) (numeral : ℕ → List ℕ) (before between xs : List ℕ) (g : Formatter W) : Type 0 where
  pub part : List ℕ
  pub wrote : HasWrittenStyled took f part g
  pub whole : part ++ numbers_text numeral before between xs ≡ text

module _ {W : Type 0} (took : W → List ℕ → W → Type 0) (f : Formatter W) (text : List ℕ) (numeral : ℕ → List ℕ) (before between xs : List ℕ) (i : ℕ) (g : Formatter W) (left : HasLeft took f text numeral before between (drop i xs) g) where
  pub next_number : (h k : Formatter W) → i < length xs → HasWrittenStyled took g before h → HasWrittenStyled took h (numeral (get_or xs i 0)) k
      → HasLeft took f text numeral between between (drop (i + 1) xs) k
  next_number h k l one two =
      let at : drop i xs ≡ get_or xs i 0 ∷ drop (i + 1) xs = rw (add-one i) (drop-cons xs i 0 l) in
      let number = numeral (get_or xs i 0) in
      let rest = numbers_text numeral between between (drop (i + 1) xs) in
      let here : numbers_text numeral before between (drop i xs) ≡ before ++ number ++ rest =
      ap (numbers_text numeral before between) at ∙ numbers_text-cons numeral before between (get_or xs i 0) (drop (i + 1) xs) in
      record {
        part = left.part ++ (before ++ number);
        wrote = has_written_styled_append took f left.part g (before ++ number) k left.wrote (has_written_styled_append took g before h number k one two);
        whole = append_assoc left.part (before ++ number) rest ∙ ap (λ t. left.part ++ t) (sym here) ∙ left.whole;
      }

  pub no_number_left : (end : List ℕ) (h : Formatter W) → length xs ≤ i → HasWrittenStyled took g end h → HasWrittenStyled took f (text ++ end) h
  no_number_left end h l last =
      let none : numbers_text numeral before between (drop i xs) ≡ [] = ap (numbers_text numeral before between) (drop_all i xs l) ∙ numbers_text-nil numeral before between in
      let all : left.part ≡ text = sym (append-nil left.part) ∙ ap (λ t. left.part ++ t) (sym none) ∙ left.whole in
      has_written_styled_of_eq took f (left.part ++ end) (text ++ end) h (ap (λ t. t ++ end) all) (has_written_styled_append took f left.part g end h left.wrote last)

-- a text after another one
module _ {W : Type 0} (took : W → List ℕ → W → Type 0) (f g h : Formatter W) (a : List ℕ) (so_far : HasWrittenStyled took f a g) where
  pub then_text : (b c : List ℕ) → b ≡ c → HasWrittenStyled took g b h → HasWrittenStyled took f (a ++ c) h
  then_text b c same next = has_written_styled_of_eq took f (a ++ b) (a ++ c) h (ap (λ t. a ++ t) same) (has_written_styled_append took f a g b h so_far next)

  -- numbers are written with the options of g, which are those of f
  pub then_numbers : (text : Bool → (ℕ → List ℕ) → List ℕ) → HasWrittenStyled took g (text (spec_alternate (formatter_spec g)) (styled_decimal (formatter_spec g))) h
      → HasWrittenStyled took f (a ++ text (spec_alternate (formatter_spec f)) (styled_decimal (formatter_spec f))) h
  then_numbers text next = then_text _ _ (ap (λ s. text (spec_alternate s) (styled_decimal s)) so_far.spec) next

-- a text whose numbers have the formatter's options, where it has none
pub displays_decimals : {W : Type 0} (took : W → List ℕ → W → Type 0) (f g : Formatter W) (r : Result (Unit {0}) Error) (text : Bool → (ℕ → List ℕ) → List ℕ)
    → WritesStyledOnOk took f r (text (spec_alternate (formatter_spec f)) (styled_decimal (formatter_spec f))) g → DisplaysOnOk took f r (Some (text false decimal)) g
displays_decimals took f g r text styled plain ok =
    let s = formatter_spec f in
    let bare : is_bare_number s ≡ true = λ j. (plain.bare.width j == 0) && not (plain.bare.plus j) && not (plain.bare.alternate j) in
    let numerals : styled_decimal s ≡ decimal = λ j n. if bare j then decimal n else padded_integral s false [] (decimal n) in
    let same : text (spec_alternate s) (styled_decimal s) ≡ text false decimal = λ j. text (plain.bare.alternate j) (numerals j) in
    displays_at_plain took f g r (Some (text false decimal)) (subst (λ (t : List ℕ). WritesStyledOnOk took f r t g) same styled) plain ok
