use Rattle.std.proofs.Common.{◌≡◌, Ok, refl}
use Rattle.serde_json.specs.Data.{no_members}
use Rattle.oauth2_json.specs.Puts.{put_all}
use Rattle.oauth2_json.specs.Writing.{WritesAs}
use Rattle.oauth2_json.proofs.Objects.{if_written, optional-number}
use Rattle.oauth2_body_members.specs.Table.{names_of, rows_of}
use Rattle.oauth2_member_rows.specs.Objects.{writing_with}
use Rattle.oauth2_member_rows.proofs.Tables.{after_read_back}
use Rattle.oauth2_redirect.specs.Login.{IsReadFromText, login_rows, login_table, login_view_of, login_writing}
use Rattle.oauth2_redirect.proofs.LoginBack.{login_back}
use Rattle.oauth2_openid_login.specs.Login.{OpenIdKept, openid_kept, openid_login_reading, openid_login_table}
use Rattle.oauth2_openid_login.proofs.login_json.OpenIdLoginToJson.to_json.Goals as goal

pub returns-clause-reads_back : goal.returns-clause-reads_back
returns-clause-reads_back c =
    let l = c.args.self.now in
    let written : WritesAs c.object_with.result (writing_with (names_of openid_login_table) (rows_of openid_login_table l) (login_writing l.login)) =
    rw (← c.self.view_is, ← c.secret.ensures) c.object_with.ensures in
    if_written c.object_with.result (writing_with (names_of openid_login_table) (rows_of openid_login_table l) (login_writing l.login))
    (λ d. IsReadFromText l.login.redirect_uri → openid_login_reading d ≡ Ok l) written
    (λ d h kept.
    after_read_back openid_login_table l (l.nonce, (l.max_age, tt)) refl (refl, (optional-number _ l.max_age, tt)) refl
    (login_writing l.login) (put_all (login_rows l.login) no_members) d refl h
    OpenIdKept login_table login_view_of openid_kept l.login refl (login_back l.login kept))
