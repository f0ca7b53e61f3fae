use Rattle.std.proofs.Common.{subst, sym, ap, ◌∙◌}
use Rattle.std.proofs.lemmas.Result.{err_from_is_err_and}
use Rattle.oauth2_json.specs.Members.{others}
use Rattle.oauth2_json.specs.Reading.{ErrsAs}
use Rattle.oauth2_body_members.specs.Object.{object_members}
use Rattle.oauth2_member_rows.proofs.Names.{distinct_parts, left_agrees, others-append}
use Rattle.oauth2_member_rows.proofs.Pairs.{both_read, second_errs}
use Rattle.oauth2_member_rows.proofs.rows.Tuple2Rows.read.Goals as goal

pub read-first-requires : goal.read-first-requires
read-first-requires g c = (distinct_parts (g.A.Rows.names c.args.self.now.0) (g.B.Rows.names c.args.self.now.1) c.requires).0

pub read-second-requires : goal.read-second-requires
read-second-requires g c = (distinct_parts (g.A.Rows.names c.args.self.now.0) (g.B.Rows.names c.args.self.now.1) c.requires).1

pub returns-in_err-first-clause-rest : goal.returns-in_err-first-clause-rest
returns-in_err-first-clause-rest g c =
    let xs = g.A.Rows.names c.args.self.now.0 in
    let ys = g.B.Rows.names c.args.self.now.1 in
    c.read-second.ensures.rest ∙ ap (others ys) c.read-first.ensures.rest ∙ sym (others-append xs ys (object_members c.args.object.now))

pub returns-in_err-second-clause-read : goal.returns-in_err-second-clause-read
returns-in_err-second-clause-read g c =
    let s = c.args.self.now in
    let ms = object_members c.args.object.now in
    let apart = left_agrees (g.A.Rows.names s.0) (g.B.Rows.names s.1) ms c.requires in
    let same = ap (g.B.Rows.reading s.1) c.read-first.ensures.rest ∙ g.met.B.Rows.depends s.1 (others (g.A.Rows.names s.0) ms) ms apart in
    let e = c.in_err-second.field-0.0 in
    let r = c.from_residual-in_err-second in
    let p = err_from_is_err_and r.result r.ensures.1 in
    rw (p.1, p.2) (second_errs e (g.A.Rows.reading s.0 ms) (g.B.Rows.reading s.1 ms) _ c.in_ok-first.ensures.read (subst (ErrsAs e) same c.in_err-second.ensures.read))

pub returns-in_err-second-clause-rest : goal.returns-in_err-second-clause-rest
returns-in_err-second-clause-rest g c =
    let xs = g.A.Rows.names c.args.self.now.0 in
    let ys = g.B.Rows.names c.args.self.now.1 in
    c.read-second.ensures.rest ∙ ap (others ys) c.read-first.ensures.rest ∙ sym (others-append xs ys (object_members c.args.object.now))

pub returns-clause-read : goal.returns-clause-read
returns-clause-read g c =
    let s = c.args.self.now in
    let ms = object_members c.args.object.now in
    let apart = left_agrees (g.A.Rows.names s.0) (g.B.Rows.names s.1) ms c.requires in
    let same = ap (g.B.Rows.reading s.1) c.read-first.ensures.rest ∙ g.met.B.Rows.depends s.1 (others (g.A.Rows.names s.0) ms) ms apart in
    both_read _ _ _ _ c.in_ok-first.ensures.read (sym same ∙ c.in_ok-second.ensures.read)

pub returns-clause-rest : goal.returns-clause-rest
returns-clause-rest g c =
    let xs = g.A.Rows.names c.args.self.now.0 in
    let ys = g.B.Rows.names c.args.self.now.1 in
    c.read-second.ensures.rest ∙ ap (others ys) c.read-first.ensures.rest ∙ sym (others-append xs ys (object_members c.args.object.now))
