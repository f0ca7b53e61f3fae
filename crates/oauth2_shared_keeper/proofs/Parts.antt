-- The parts of a renewal, and how they are joined.
use Rattle.std.proofs.Common.{rules, IsSome, ◌≡◌, ℕ, ◌+◌, ◌-◌, ◌^◌, ◌≤◌, Bool, true, false, List, [], ◌∷◌, ◌++◌, Option, Some, None, refl, ap, sym, ◌∙◌, subst, arith, append_assoc}
use Rattle.oauth2_shared_token.specs.declared.renewal.Content.{Content}
use Rattle.oauth2_shared_token.specs.declared.renewal.Content.TheVariants as content
use Rattle.oauth2_shared_token.specs.declared.renewal.StoredValue.{StoredValue}
use Rattle.oauth2_shared_token.specs.declared.renewal.Learnt.{Learnt}
use Rattle.oauth2_shared_token.specs.declared.renewal.Learnt.TheVariants as learnt
use Rattle.oauth2_shared_token.specs.declared.renewal.Phase.{Phase}
use Rattle.oauth2_shared_token.specs.declared.renewal.Phase.TheVariants as phase
use Rattle.oauth2_shared_token.specs.declared.renewal.Step.{Step}
use Rattle.oauth2_shared_token.specs.declared.renewal.Told.TheVariants as told
use Rattle.oauth2_shared_token.specs.declared.renewal.Turn.{Turn}
use Rattle.oauth2_shared_token.specs.Renewal.{turn_of, looked_at, next_turn, sent_if}
use Rattle.oauth2_shared_keeper.specs.declared.renewed.Renewed.{Renewed}
use Rattle.oauth2_shared_keeper.specs.declared.renewed.Renewed.TheVariants.{Kept, Unkept, InUse, LoggedOut, Lost}
use Rattle.oauth2_shared_keeper.specs.declared.renewed.Renewed.TheVariants.{Unanswered, Unclear, Unread, NoNextVersion}
use Rattle.oauth2_shared_keeper.specs.Call.{Call, Load, Replace, Refresh, ToReplace, refreshes_in}
use Rattle.oauth2_shared_keeper.specs.Renewal.{AsksInTurn, asked_by, EndsWith, IsEnd, Renews, first_turn, over}
use Rattle.oauth2_shared_keeper.specs.private.Part.{Passes, marks_next, looks_again, sends_next, keeps_next, keeps_again, token_of, learnt_by}
use Rattle.oauth2_shared_keeper.proofs.Runs.{asks-append, loads_in-append, replacements_in-append, refreshes_in-append, passes-append}

pub same_token : {T : Type 0} (a b : T) → Some a ≡ Some b → a ≡ b
same_token a b e = cc

-- a mark holds its token
pub holds : {T : Type 0} (token : T) (renewal : ℕ) (c : Content T) → c ≡ content.Marked token renewal → IsSome (token_of c)
holds {T} token renewal c is = subst (λ (x : Content T). IsSome (token_of x)) (sym is) (search rules)

pub held_in : {T : Type 0} (token : T) (renewal : ℕ) (c : Content T) (held : T) → c ≡ content.Marked token renewal → token_of c ≡ Some held → Some token ≡ Some held
held_in token renewal c held is e = sym (ap token_of is) ∙ e

pub unsent_more : {T : Type 0} (xs : List (Call T)) (version : ℕ) (c : Content T) (done : Bool) → refreshes_in xs ≡ 0 → refreshes_in (xs ++ Replace version c done ∷ []) ≡ 0
unsent_more xs version c done none = rw (refreshes_in-append xs (Replace version c done ∷ []), none) refl

-- two counts that are equal
pub passes_at : {T : Type 0} (name : ℕ) (from to : Turn T) (xs : List (Call T)) (l m n r : ℕ) → l ≡ m → n ≡ r → Passes name from xs to l n → Passes name from xs to m r
passes_at name from to xs l m n r loads replacements first =
    record { asks = first.asks; loads_are = first.loads_are ∙ loads; replacements_are = first.replacements_are ∙ replacements; unsent = first.unsent }

module _ {T : Type 0} (name : ℕ) where
  -- calls before others, of which the last is known
  pub ends-append : (from mid : Turn T) (xs ys : List (Call T)) (p : Phase T) (call : Call T) → AsksInTurn name from xs mid → EndsWith name mid ys p call → EndsWith name from (xs ++ ys) p call
  ends-append from mid xs ys p call first e =
      record {
        before = xs ++ e.before;
        turn = e.turn;
        asks = asks-append name from mid e.turn xs e.before first e.asks;
        in_phase = e.in_phase;
        is = ap (λ (l : List (Call T)). xs ++ l) e.is ∙ sym (append_assoc xs e.before (call ∷ []));
      }

  module _ {E : Type 0} (from mid : Turn T) (xs ys : List (Call T)) (l n loads replacements : ℕ) (first : Passes name from xs mid l n) where
    end-append : (last : Turn T) (result : Renewed T E) → IsEnd name mid loads replacements ys last result → IsEnd name from (l + loads) (n + replacements) (xs ++ ys) last result
    end-append last (Kept new) (v, e, h) = (v, e, ends-append from mid xs ys _ _ first.asks h)
    end-append last (Unkept marked new) (v, m, e, h) = (v, m, e, rw (replacements_in-append xs ys, first.replacements_are, h) refl)
    end-append last (InUse other token) h = h
    end-append last LoggedOut h = h
    end-append last Lost (v, t, p, e, h) = (v, t, p, e, ends-append from mid xs ys _ _ first.asks h)
    end-append last (Unanswered marked token error) (v, m, e, h) = (v, m, e, ends-append from mid xs ys _ _ first.asks h)
    end-append last (Unclear marked token) (v, m, e, h) = (v, m, e, rw (loads_in-append xs ys, first.loads_are, h) refl)
    end-append last Unread (e, h) = (e, rw (loads_in-append xs ys, first.loads_are, h) refl)
    end-append last (NoNextVersion token) h = h

    -- calls of the store before the rest of a renewal
    pub prepend : (result : Renewed T E) → Renews name mid loads replacements ys result → Renews name from (l + loads) (n + replacements) (xs ++ ys) result
    prepend result r =
        record {
          last = r.last;
          asks = asks-append name from mid r.last xs ys first.asks r.asks;
          end = end-append r.last result r.end;
          few_loads = (let k = r.few_loads in let e = first.loads_are in rw (loads_in-append xs ys) (omega arith));
          few_replacements = (let k = r.few_replacements in let e = first.replacements_are in rw (replacements_in-append xs ys) (omega arith));
        }

  -- one load, and one request to replace
  module _ (version : ℕ) (token : T) where
    pub asked_taken : Passes name (marks_next version token) (Replace version (content.Marked token name) true ∷ []) (sends_next version token) 0 1
    asked_taken = record { asks = (refl, refl); loads_are = refl; replacements_are = refl; unsent = refl }

    pub asked_open : Passes name (marks_next version token) (Replace version (content.Marked token name) false ∷ []) (looks_again version token) 0 1
    asked_open = record { asks = (refl, refl); loads_are = refl; replacements_are = refl; unsent = refl }

    pub looked : (shown : Option (StoredValue T)) → Passes name (looks_again version token) (Load shown ∷ []) (sent_if version token (learnt_by name version shown)) 1 0
    looked None = record { asks = (refl, refl); loads_are = refl; replacements_are = refl; unsent = refl }
    looked (Some p) = record { asks = (refl, refl); loads_are = refl; replacements_are = refl; unsent = refl }

    -- a load more, after which the mark is known to be taken or not
    pub looked_on : (xs : List (Call T)) (shown : Option (StoredValue T)) (l : Learnt) (used : ℕ) → l ≡ learnt_by name version shown
        → Passes name (marks_next version token) xs (looks_again version token) used 1
        → Passes name (marks_next version token) (xs ++ Load shown ∷ []) (sent_if version token l) (used + 1) 1
    looked_on xs shown l used is first =
        let joined = passes-append name (marks_next version token) (looks_again version token) (sent_if version token (learnt_by name version shown)) xs (Load shown ∷ []) used 1 1 0 first (looked shown) in
        subst (λ (m : Learnt). Passes name (marks_next version token) (xs ++ Load shown ∷ []) (sent_if version token m) (used + 1) 1) (sym is) joined

    -- somebody else was first, as the last load shows
    pub passed : (xs : List (Call T)) (shown : Option (StoredValue T)) (used : ℕ) → learnt.Lost ≡ learnt_by name version shown
        → Passes name (marks_next version token) xs (looks_again version token) used 1
        → (p : StoredValue T) × EndsWith name (marks_next version token) (xs ++ Load shown ∷ []) (phase.Asking version token) (Load (Some p))
    passed xs None used is first = absurd (let e : learnt.Lost ≡ learnt.Open = is in cc)
    passed xs (Some p) used is first = (p, record { before = xs; turn = looks_again version token; asks = first.asks; in_phase = refl; is = refl })

    pub kept_not : Passes name (keeps_next version token) (Replace (version + 1) (content.AtRest token) false ∷ []) (keeps_again version token) 0 1
    kept_not = record { asks = (refl, refl); loads_are = refl; replacements_are = refl; unsent = refl }

    pub kept_not_again : Passes name (keeps_again version token) (Replace (version + 1) (content.AtRest token) false ∷ []) (keeps_again version token) 0 1
    kept_not_again = record { asks = (refl, refl); loads_are = refl; replacements_are = refl; unsent = refl }

    -- the store keeps the token at last
    pub kept : {E : Type 0} (held : T) (loads replacements used : ℕ) (xs : List (Call T)) (s : Step T)
        → asked_by name (phase.Keeping version token) s ≡ Some (ToReplace (version + 1) (content.AtRest token))
        → Passes name (keeps_next version token) xs (turn_of (phase.Keeping version token) s) 0 used
        → used + 1 ≤ replacements → Some token ≡ Some held
        → Renews {E = E} name (keeps_next version token) loads replacements (xs ++ Replace (version + 1) (content.AtRest token) true ∷ []) (Kept held)
    kept {E} held loads replacements used xs s asked first few same =
        let before : Turn T = turn_of (phase.Keeping version token) s in
        let ys : List (Call T) = Replace (version + 1) (content.AtRest token) true ∷ [] in
        let l = loads_in-append xs ys in
        let r = replacements_in-append xs ys in
        let fl = first.loads_are in
        let fr = first.replacements_are in
        let whole : Renews {E = E} name (keeps_next version token) loads replacements (xs ++ ys) (Kept token) =
        record {
          last = over;
          asks = asks-append name (keeps_next version token) before over xs ys first.asks (asked, refl);
          end = (version, refl, record { before = xs; turn = before; asks = first.asks; in_phase = refl; is = refl });
          few_loads = omega arith;
          few_replacements = omega arith;
        } in
        subst (λ (x : T). Renews {E = E} name (keeps_next version token) loads replacements (xs ++ ys) (Kept x)) (same_token token held same) whole

    -- it never said that it does
    pub unkept : {E : Type 0} (held : T) (loads replacements : ℕ) (xs : List (Call T))
        → Passes name (keeps_next version token) xs (keeps_again version token) 0 replacements → Some token ≡ Some held
        → Renews {E = E} name (keeps_next version token) loads replacements xs (Unkept (version + 1) held)
    unkept {E} held loads replacements xs first same =
        let fl = first.loads_are in
        let fr = first.replacements_are in
        let whole : Renews {E = E} name (keeps_next version token) loads replacements xs (Unkept (version + 1) token) =
        record {
          last = keeps_again version token;
          asks = first.asks;
          end = (version, refl, refl, first.replacements_are);
          few_loads = omega arith;
          few_replacements = omega arith;
        } in
        subst (λ (x : T). Renews {E = E} name (keeps_next version token) loads replacements xs (Unkept (version + 1) x)) (same_token token held same) whole

    module _ (new : T) (xs : List (Call T)) where
      given_ends : (p : Phase T) (call : Call T) → EndsWith name (keeps_next version new) xs p call → EndsWith name (sends_next version token) (Refresh token (Some new) ∷ xs) p call
      given_ends p call e =
          record {
            before = Refresh token (Some new) ∷ e.before;
            turn = e.turn;
            asks = (refl, e.asks);
            in_phase = e.in_phase;
            is = ap (λ (l : List (Call T)). Refresh token (Some new) ∷ l) e.is;
          }

      given_end : {E : Type 0} (loads replacements : ℕ) (last : Turn T) (result : Renewed T E) → IsEnd name (keeps_next version new) loads replacements xs last result → IsEnd name (sends_next version token) loads replacements (Refresh token (Some new) ∷ xs) last result
      given_end loads replacements last (Kept held) (v, e, h) = (v, e, given_ends _ _ h)
      given_end loads replacements last (Unkept marked held) h = h
      given_end loads replacements last (InUse other held) h = h
      given_end loads replacements last LoggedOut h = h
      given_end loads replacements last Lost (v, t, p, e, h) = (v, t, p, e, given_ends _ _ h)
      given_end loads replacements last (Unanswered marked held error) (v, m, e, h) = (v, m, e, given_ends _ _ h)
      given_end loads replacements last (Unclear marked held) h = h
      given_end loads replacements last Unread h = h
      given_end loads replacements last (NoNextVersion held) h = h

      -- the server gave a token, and then calls of the store
      pub given : {E : Type 0} (loads replacements : ℕ) (result : Renewed T E)
          → Renews name (keeps_next version new) loads replacements xs result
          → Renews name (sends_next version token) loads replacements (Refresh token (Some new) ∷ xs) result
      given loads replacements result r =
          record {
            last = r.last;
            asks = (refl, r.asks);
            end = given_end loads replacements r.last result r.end;
            few_loads = r.few_loads;
            few_replacements = r.few_replacements;
          }

    -- the server gave none
    pub unanswered : {E : Type 0} (error : E) (loads replacements : ℕ)
        → Renews name (sends_next version token) loads replacements (Refresh token None ∷ []) (Unanswered (version + 1) token error)
    unanswered error loads replacements =
        record {
          last = over;
          asks = (refl, refl);
          end = (version, refl, refl, record { before = []; turn = sends_next version token; asks = refl; in_phase = refl; is = refl });
          few_loads = omega arith;
          few_replacements = omega arith;
        }

    -- the mark was taken, and the rest is that of the sending
    pub marked_then : {E : Type 0} (held : T) (loads repeats used : ℕ) (xs ys : List (Call T)) (result : Renewed T E) → held ≡ token → used ≤ loads
        → Passes name (marks_next version token) xs (sends_next version token) used 1
        → ((n l : ℕ) → Renews n (sends_next version held) l (repeats + 1) ys result)
        → Renews name (marks_next version token) loads (repeats + 2) (xs ++ ys) result
    marked_then {E} held loads repeats used xs ys result same few first then =
        let rest = subst (λ (t : T). Renews {E = E} name (sends_next version t) (loads - used) (repeats + 1) ys result) same (then name (loads - used)) in
        let whole = prepend (marks_next version token) (sends_next version token) xs ys used 1 (loads - used) (repeats + 1) first result rest in
        let l : used + (loads - used) ≡ loads = omega arith in
        let r : 1 + (repeats + 1) ≡ repeats + 2 = omega arith in
        subst (λ (n : ℕ). Renews {E = E} name (marks_next version token) n (repeats + 2) (xs ++ ys) result) l
        (subst (λ (n : ℕ). Renews {E = E} name (marks_next version token) (used + (loads - used)) n (xs ++ ys) result) r whole)

    -- somebody else was first
    pub lost : {E : Type 0} (loads repeats used : ℕ) (p : StoredValue T) (xs : List (Call T)) → used ≤ loads → Passes name (marks_next version token) xs over used 1
        → EndsWith name (marks_next version token) xs (phase.Asking version token) (Load (Some p))
        → Renews {E = E} name (marks_next version token) loads (repeats + 2) xs Lost
    lost loads repeats used p xs few first ends =
        let fl = first.loads_are in
        let fr = first.replacements_are in
        record { last = over; asks = first.asks; end = (version, token, p, refl, ends); few_loads = omega arith; few_replacements = omega arith }

    -- no load told of the mark
    pub unclear : {E : Type 0} (held : T) (loads repeats : ℕ) (xs : List (Call T)) → held ≡ token → Passes name (marks_next version token) xs (looks_again version token) loads 1
        → Renews {E = E} name (marks_next version token) loads (repeats + 2) xs (Unclear (version + 1) held)
    unclear {E} held loads repeats xs same first =
        let fl = first.loads_are in
        let fr = first.replacements_are in
        let whole : Renews {E = E} name (marks_next version token) loads (repeats + 2) xs (Unclear (version + 1) token) =
        record {
          last = looks_again version token;
          asks = first.asks;
          end = (version, refl, refl, fl);
          few_loads = omega arith;
          few_replacements = omega arith;
        } in
        subst (λ (x : T). Renews {E = E} name (marks_next version token) loads (repeats + 2) xs (Unclear (version + 1) x)) (sym same) whole

  -- the store has no next version
  pub no_next : {E : Type 0} (p : StoredValue T) (token : T) (loads repeats : ℕ) → p.content ≡ content.AtRest token → p.version + 1 ≡ 2 ^ 64
      → Renews {E = E} name (next_turn name phase.Looking (told.Stored p)) loads repeats [] (NoNextVersion token)
  no_next {E} p token loads repeats is last_version =
      record {
        last = next_turn name phase.Looking (told.Stored p);
        asks = refl;
        end = (p.version, last_version, ap (λ (c : Content T). looked_at p.version c) is);
        few_loads = omega arith;
        few_replacements = omega arith;
      }

  -- a load told nothing, or showed this
  pub looked_first_in_vain : Passes {T = T} name first_turn (Load None ∷ []) first_turn 1 0
  looked_first_in_vain = record { asks = (refl, refl); loads_are = refl; replacements_are = refl; unsent = refl }

  looked_first : (p : StoredValue T) → Passes name first_turn (Load (Some p) ∷ []) (next_turn name phase.Looking (told.Stored p)) 1 0
  looked_first p = record { asks = (refl, refl); loads_are = refl; replacements_are = refl; unsent = refl }

  pub seen_then : {E : Type 0} (p : StoredValue T) (loads left replacements used : ℕ) (xs ys : List (Call T)) (result : Renewed T E) → used + (1 + left) ≡ loads
      → Passes name first_turn xs first_turn used 0
      → Renews name (next_turn name phase.Looking (told.Stored p)) left replacements ys result
      → Renews name first_turn loads replacements (xs ++ Load (Some p) ∷ ys) result
  seen_then {E} p loads left replacements used xs ys result sum first then =
      let shown = prepend first_turn (next_turn name phase.Looking (told.Stored p)) (Load (Some p) ∷ []) ys 1 0 left replacements (looked_first p) result then in
      let whole = prepend first_turn first_turn xs (Load (Some p) ∷ ys) used 0 (1 + left) (0 + replacements) first result shown in
      let r : 0 + (0 + replacements) ≡ replacements = omega arith in
      subst (λ (n : ℕ). Renews {E = E} name first_turn n replacements (xs ++ Load (Some p) ∷ ys) result) sum
      (subst (λ (n : ℕ). Renews {E = E} name first_turn (used + (1 + left)) n (xs ++ Load (Some p) ∷ ys) result) r whole)

  -- no load told anything
  pub unread : {E : Type 0} (loads replacements used : ℕ) (xs : List (Call T)) → used ≡ loads → Passes name first_turn xs first_turn used 0
      → Renews {E = E} name first_turn loads replacements xs Unread
  unread loads replacements used xs is first =
      let fl = first.loads_are in
      let fr = first.replacements_are in
      record { last = first_turn; asks = first.asks; end = (refl, fl ∙ is); few_loads = omega arith; few_replacements = omega arith }
